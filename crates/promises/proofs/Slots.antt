-- A maintenance's actions, slot by slot: one GRAFT for who is in the mesh that is left and was not in the one at the start, one PRUNE for
-- who was and is not. The steps' sets at a slot are numbers, 0 or 1, and the sums are linear.
-- Assumes nothing.
use Rattle.index.proofs.Kit.{ℕ, ◌+◌, ◌-◌, ◌≤◌, ◌<◌, arith, ◌≡◌, refl, sym, ap, ◌∙◌, Bool, true, false, not, one, by_test}
use Prim.Native.Nat.{zero, suc}
use mathlib.Core.Logic.{◌⊎◌, ⊎_elim}
use mathlib.Core.Bool.{cond, ◌&&◌}
use mathlib.Core.List.{List, [], ◌∷◌, ◌++◌, map}
use lib.Dec.{eqb}
use lib.ListN.{length}
use borrow.Author.Tests.{eqb-true, eqb-false, eq-eqb, ne_eqb}
use Rattle.index.proofs.Flags.{cond_case}
use Rattle.sets.specs.Sets.{at, except, occurs, ascending, in_order}
use Rattle.sets.proofs.WalkLaws.{except_at, except_length, at_past}
use Rattle.sets.proofs.SetLaws.{both_left}
use Rattle.sets.proofs.PermutationLaws.{permutation_once}
use Rattle.mesh.specs.declared.Degrees.{Degrees}
use Rattle.mesh.specs.Maintenance.{View, Meshes, goods, mesh1, meshes, changes_of, Action, action, actions_on, actions_of, Rules, Whole}
use Rattle.mesh.proofs.Bound.{idle}
use Rattle.mesh.proofs.MaintenanceLaws.{Adds, Keeps, len1, adds2, keeps3, adds4, adds5}

-- how many actions of kind k go to slot s
unfoldable pub times_at : ℕ → ℕ → List Action → ℕ
times_at k s [] = 0
times_at k s (a ∷ l) = one (eqb a.kind k && eqb a.slot s) + times_at k s l

times_at_append : (k s : ℕ) (x y : List Action) → times_at k s (x ++ y) ≡ times_at k s x + times_at k s y
unfolding times_at
times_at_append k s [] y = omega arith
times_at_append k s (a ∷ x) y = omega (arith, times_at_append k s x y)

one_cond : (b : Bool) (n : ℕ) → one b + n ≡ cond b (suc n) n
one_cond true n = omega arith
one_cond false n = omega arith

-- of another kind none, of the same kind as often as the slot stands there
times_other : (k j s : ℕ) (l : List ℕ) → eqb j k ≡ false → times_at k s (map (action j) l) ≡ 0
unfolding times_at
times_other k j s [] e = refl
times_other k j s (x ∷ l) e =
    let z : one (eqb j k && eqb x s) ≡ 0 = rw e in
    omega (arith, z, times_other k j s l e)

times_same : (k s : ℕ) (l : List ℕ) → times_at k s (map (action k) l) ≡ occurs s l
unfolding times_at occurs
times_same k s [] = refl
times_same k s (x ∷ l) =
    let z : one (eqb k k && eqb x s) ≡ one (eqb x s) = rw (eq-eqb k k refl) in
    let y = one_cond (eqb x s) (occurs s l) in
    omega (arith, z, y, times_same k s l)

in_order_occurs : (s : ℕ) (p : List Bool) (d : List ℕ) → occurs s (in_order p d) ≡ cond (at p s) (occurs s d) 0
unfolding in_order occurs
in_order_occurs s p [] = cond_case (λ (n : ℕ). 0 ≡ n) (at p s) 0 0 (λ e. refl) (λ e. refl)
in_order_occurs s p (x ∷ d) =
    let ih = in_order_occurs s p d in
    by_test _ (eqb x s)
    (λ e.
    let q : at p x ≡ at p s = ap (at p) (eqb-true x s e) in
    by_test _ (at p s)
    (λ a. let ih' : occurs s (in_order p d) ≡ occurs s d = rw a at ih in rw (q, a, e) (ap suc ih'))
    (λ a. let ih' : occurs s (in_order p d) ≡ 0 = rw a at ih in rw (q, a) ih'))
    (λ e. by_test _ (at p x) (λ b. rw (b, e) ih) (λ b. rw (b, e) ih))

ascending_before : (s i k : ℕ) → s < i → occurs s (ascending i k) ≡ 0
unfolding ascending occurs
ascending_before s i zero h = refl
ascending_before s i (suc k) h = rw (ne_eqb i s (λ e. omega arith)) (ascending_before s (suc i) k (omega arith))

ascending_in : (s i k : ℕ) → i ≤ s → s < i + k → occurs s (ascending i k) ≡ 1
unfolding ascending occurs
ascending_in s i zero h l = absurd (omega arith)
ascending_in s i (suc k) h l =
    by_test _ (eqb i s)
    (λ e. let q = eqb-true i s e in rw e (ap suc (ascending_before s (suc i) k (omega arith))))
    (λ e. let q = eqb-false i s e in rw e (ascending_in s (suc i) k (omega (arith, q)) (omega arith)))

-- ---- a set's actions
on_same : (k : ℕ) (p : List Bool) (d : List ℕ) (s : ℕ) → occurs s d ≡ 1 → times_at k s (actions_on k p d) ≡ one (at p s)
unfolding actions_on
on_same k p d s e = times_same k s (in_order p d) ∙ in_order_occurs s p d ∙ ap (λ (n : ℕ). cond (at p s) n 0) e ∙ sym (one_is (at p s))
  where
    one_is : (b : Bool) → one b ≡ cond b 1 0
    one_is true = refl
    one_is false = refl

on_other : (k j : ℕ) (p : List Bool) (d : List ℕ) (s : ℕ) → eqb j k ≡ false → times_at k s (actions_on j p d) ≡ 0
unfolding actions_on
on_other k j p d s e = times_other k j s (in_order p d) e

-- of a slot that is not in the set none
on_absent : (k j : ℕ) (p : List Bool) (d : List ℕ) (s : ℕ) → at p s ≡ false → times_at k s (actions_on j p d) ≡ 0
unfolding actions_on
on_absent k j p d s e =
    by_test _ (eqb j k)
    (λ q. let w : j ≡ k = eqb-true j k q in rw w (times_same k s (in_order p d) ∙ in_order_occurs s p d ∙ rw e))
    (λ q. times_other k j s (in_order p d) q)

-- ---- numbers for tests
minus : (a b : Bool) → one (a && not b) ≡ one a - one b
minus true true = refl
minus true false = refl
minus false true = refl
minus false false = refl

less : (a b : Bool) → (a ≡ true → b ≡ true) → one a ≤ one b
less true b h = rw (h refl) (omega arith)
less false b h = omega arith

less_or : (a b c : Bool) → (a ≡ true → (b ≡ true) ⊎ (c ≡ true)) → one a ≤ one b + one c
less_or true b c h = ⊎_elim (λ e. rw e (omega arith)) (λ e. rw e (omega arith)) (h refl)
less_or false b c h = omega arith

not_both : (a b : Bool) → (a ≡ true → b ≡ true → ⊥) → one a + one b ≤ 1
not_both true true h = absurd (h refl refl)
not_both true false h = omega arith
not_both false true h = omega arith
not_both false false h = omega arith

turned : (a b : Bool) → one (not a && b) ≡ one b - one a
turned true true = refl
turned true false = refl
turned false true = refl
turned false false = refl

most : (a : Bool) → one a ≤ 1
most true = omega arith
most false = omega arith

gap : (a b : List Bool) (s : ℕ) → one (at (except a b) s) ≡ one (at a s) - one (at b s)
gap a b s = ap one (except_at a b s) ∙ minus (at a s) (at b s)

module _
    (n : ℕ) (t : Degrees) (v : View) (ru : Rules t) (w : Whole n v)
    (apart : (s : ℕ) → at v.members s ≡ true → at v.candidates s ≡ true → ⊥) where
  sub1 : (s : ℕ) → at (mesh1 v) s ≡ true → at v.members s ≡ true
  unfolding mesh1
  sub1 = both_left v.members (goods v)

  abbrev m : Meshes
  m = meshes n t v

  -- what each step makes of the mesh before it
  record Steps : Type 0 where
    two : Adds n v m.first m.second
    three : Keeps n t v m.second m.third
    four : Adds n v m.third m.fourth
    five : Adds n v m.fourth m.fifth

  steps : Steps
  unfolding meshes
  steps =
      let k₂ = adds2 n t v ru w m.first (len1 n t v ru w) in
      let k₃ = keeps3 n t v ru w m.second k₂.len in
      let k₄ = adds4 n t v ru w m.third k₃.len in
      record { two = k₂; three = k₃; four = k₄; five = adds5 n t v ru w m.fourth k₄.len }

  -- the steps' sets at one slot, as numbers
  record Numbers (a₀ a₁ a₂ a₃ a₄ a₅ : ℕ) : Type 0 where
    grafts : (a₂ - a₁) + (a₄ - a₃) + (a₅ - a₄) ≡ a₅ - a₀
    prunes : (a₀ - a₁) + (a₂ - a₃) ≡ a₀ - a₅

  numbers :
      (s : ℕ) →
      Numbers
      (one (at v.members s))
      (one (at (meshes n t v).first s))
      (one (at (meshes n t v).second s))
      (one (at (meshes n t v).third s))
      (one (at (meshes n t v).fourth s))
      (one (at (meshes n t v).fifth s))
  unfolding meshes
  numbers s =
      let m₁ = m.first in
      let m₂ = m.second in
      let m₃ = m.third in
      let m₄ = m.fourth in
      let m₅ = m.fifth in
      let c = at v.candidates s in
      let f₁ = less (at m₁ s) (at v.members s) (sub1 s) in
      let f₂ = less (at m₁ s) (at m₂ s) (steps.two.sub s) in
      let f₃ = less_or (at m₂ s) (at m₁ s) c (steps.two.only s) in
      let f₄ = less (at m₃ s) (at m₂ s) (steps.three.only s) in
      let f₅ = less (at m₃ s) (at m₄ s) (steps.four.sub s) in
      let f₆ = less_or (at m₄ s) (at m₃ s) c (steps.four.only s) in
      let f₇ = less (at m₄ s) (at m₅ s) (steps.five.sub s) in
      let f₈ = less_or (at m₅ s) (at m₄ s) c (steps.five.only s) in
      let f₉ = not_both (at v.members s) c (apart s) in
      let g = most (at m₅ s) in
      ⊎_elim
      (λ (e : m₂ ≡ m₁).
      let q : one (at m₂ s) ≡ one (at m₁ s) = ap (λ (m : List Bool). one (at m s)) e in
      record { grafts = omega arith; prunes = omega arith })
      (λ (e : m₃ ≡ m₂).
      let q : one (at m₃ s) ≡ one (at m₂ s) = ap (λ (m : List Bool). one (at m s)) e in
      record { grafts = omega arith; prunes = omega arith })
      (idle n t v ru w apart m₁)

  split : (s k : ℕ) →
      times_at k s (actions_of n v.permutation (changes_of v.members m))
      ≡ times_at k s (actions_on 2 (except v.members m.first) (ascending 0 n))
      + times_at k s (actions_on 1 (except m.second m.first) v.permutation)
      + times_at k s (actions_on 2 (except m.second m.third) (ascending 0 n))
      + times_at k s (actions_on 1 (except m.fourth m.third) v.permutation)
      + times_at k s (actions_on 1 (except m.fifth m.fourth) v.permutation)
  unfolding actions_of changes_of
  split s k = simp times_at_append (omega arith)

  -- past the slots there is nothing
  pub past_at : (s k : ℕ) → n ≤ s → times_at k s (actions_of n v.permutation (changes_of v.members m)) ≡ 0
  past_at s k h =
      let c₁ = on_absent k 2 (except v.members m.first) (ascending 0 n) s (outside v.members m.first w.members) in
      let c₂ = on_absent k 1 (except m.second m.first) v.permutation s (outside m.second m.first steps.two.len) in
      let c₃ = on_absent k 2 (except m.second m.third) (ascending 0 n) s (outside m.second m.third steps.two.len) in
      let c₄ = on_absent k 1 (except m.fourth m.third) v.permutation s (outside m.fourth m.third steps.four.len) in
      let c₅ = on_absent k 1 (except m.fifth m.fourth) v.permutation s (outside m.fifth m.fourth steps.five.len) in
      omega (arith, split s k, c₁, c₂, c₃, c₄, c₅)
    where
      outside : (a b : List Bool) → length a ≡ n → at (except a b) s ≡ false
      outside a b l = at_past (except a b) s (omega (arith, except_length a b, l, h))

  module _ (s : ℕ) (h : s < n) where
    once : occurs s v.permutation ≡ 1
    once = permutation_once n v.permutation w.permutation s h

    slot_once : occurs s (ascending 0 n) ≡ 1
    slot_once = ascending_in s 0 n (omega arith) (omega arith)

    pub grafts_at : times_at 1 s (actions_of n v.permutation (changes_of v.members m)) ≡ one (not (at v.members s) && at m.fifth s)
    grafts_at =
        let c₁ = on_other 1 2 (except v.members m.first) (ascending 0 n) s refl in
        let c₂ = on_same 1 (except m.second m.first) v.permutation s once in
        let c₃ = on_other 1 2 (except m.second m.third) (ascending 0 n) s refl in
        let c₄ = on_same 1 (except m.fourth m.third) v.permutation s once in
        let c₅ = on_same 1 (except m.fifth m.fourth) v.permutation s once in
        let g₂ = gap m.second m.first s in
        let g₄ = gap m.fourth m.third s in
        let g₅ = gap m.fifth m.fourth s in
        let z : one (not (at v.members s) && at m.fifth s) ≡ one (at m.fifth s) - one (at v.members s) =
        turned (at v.members s) (at m.fifth s) in
        omega (arith, split s 1, c₁, c₂, c₃, c₄, c₅, g₂, g₄, g₅, (numbers s).grafts, z)

    pub prunes_at : times_at 2 s (actions_of n v.permutation (changes_of v.members m)) ≡ one (at v.members s && not (at m.fifth s))
    prunes_at =
        let c₁ = on_same 2 (except v.members m.first) (ascending 0 n) s slot_once in
        let c₂ = on_other 2 1 (except m.second m.first) v.permutation s refl in
        let c₃ = on_same 2 (except m.second m.third) (ascending 0 n) s slot_once in
        let c₄ = on_other 2 1 (except m.fourth m.third) v.permutation s refl in
        let c₅ = on_other 2 1 (except m.fifth m.fourth) v.permutation s refl in
        let g₁ = gap v.members m.first s in
        let g₃ = gap m.second m.third s in
        let z = minus (at v.members s) (at m.fifth s) in
        omega (arith, split s 2, c₁, c₂, c₃, c₄, c₅, g₁, g₃, (numbers s).prunes, z)

    -- no other kind
    pub others_at : (k : ℕ) → eqb 1 k ≡ false → eqb 2 k ≡ false → times_at k s (actions_of n v.permutation (changes_of v.members m)) ≡ 0
    others_at k e f =
        let c₁ = on_other k 2 (except v.members m.first) (ascending 0 n) s f in
        let c₂ = on_other k 1 (except m.second m.first) v.permutation s e in
        let c₃ = on_other k 2 (except m.second m.third) (ascending 0 n) s f in
        let c₄ = on_other k 1 (except m.fourth m.third) v.permutation s e in
        let c₅ = on_other k 1 (except m.fifth m.fourth) v.permutation s e in
        omega (arith, split s k, c₁, c₂, c₃, c₄, c₅)
