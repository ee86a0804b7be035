-- A maintenance has at most one action for each slot.
-- Assumes nothing.
use Prim.Native.Nat.{ℕ, ◌+◌, ◌-◌, ◌≤◌, ◌<◌}
use native.Mathlib.Omega.{arith}
use mathlib.Core.Path.{◌≡◌, refl, sym, ap, ◌∙◌, subst}
use mathlib.Core.Bool.{Bool, true, false, not, cond, false≢true}
use mathlib.Core.Logic.{◌⊎◌, inl, inr, ⊎_elim}
use mathlib.Core.List.{List, [], ◌∷◌}
use lib.ListN.{length, set, length-append, length-map}
use lib.Seq.{get_or-set_other}
use lib.Dec.{ltb}
use borrow.Author.Tests.{ltb-true}
use Rattle.index.proofs.Index.{both as halves}
use Rattle.index.proofs.Flags.{by_test, cond_case}
use Rattle.sets.specs.Sets.{at, Sub, size, except, occurs, ascending, in_order, fill}
use Rattle.mesh.specs.Maintenance.{goods, mesh1, mesh2, mesh3, mesh4, mesh5, meshes, changes_of, action, actions_on, actions_of}
use Rattle.mesh.specs.Maintenance.{Rules, Whole}
use Rattle.mesh.specs.declared.Degrees.{Degrees}
use Rattle.mesh.specs.Maintenance.{View}
use Rattle.mesh.specs.Maintenance.{Meshes}
use Rattle.sets.proofs.WalkLaws.{at_below, except_at, except_length}
use Rattle.sets.proofs.CountLaws.{size_mono, size_set_le, set_drops, fill_upper}
use Rattle.sets.proofs.SetLaws.{both_left, size_diff, size_apart, size_unset}
use Rattle.sets.proofs.PermutationLaws.{occurs_self, occurs_tail, permutation_once, ascending_once}
use Rattle.mesh.proofs.MaintenanceLaws.{len1, adds2, keeps3, adds4, adds5}

-- ---- how many slots of a set an order gives
pub in_order_cons :
    (p : List Bool) (x : ℕ) (r : List ℕ) (t : Bool) →
    at p x ≡ t →
    in_order p (x ∷ r) ≡ cond t (x ∷ in_order p r) (in_order p r)
unfolding in_order
in_order_cons p x r t e = ap (λ (b : Bool). cond b (x ∷ in_order p r) (in_order p r)) e

-- a slot that does not occur can be left out of the set
in_order_without :
    (p : List Bool) (x : ℕ) (r : List ℕ) → occurs x r ≡ 0 → in_order p r ≡ in_order (set p x false) r
unfolding in_order
in_order_without p x [] e = refl
in_order_without p x (y ∷ r) e =
    let ne : y ≡ x → ⊥ = λ q.
    let a = occurs_self y r in
    let b = ap (λ (k : ℕ). occurs k (y ∷ r)) q in
    let z : ⊥ = omega arith in
    z in
    let t = occurs_tail x y r in
    let ih = in_order_without p x r (omega arith) in
    let same = get_or-set_other p x y false false ne in
    by_test _ (at p y)
    (λ a.
    in_order_cons p y r true a
    ∙ ap (λ (l : List ℕ). y ∷ l) ih
    ∙ sym (in_order_cons (set p x false) y r true (same ∙ a)))
    (λ a. in_order_cons p y r false a ∙ ih ∙ sym (in_order_cons (set p x false) y r false (same ∙ a)))

-- where no slot of p stands twice in the order, it gives at most as many as p has
pub in_order_length :
    (d : List ℕ) (p : List Bool) → ((s : ℕ) → at p s ≡ true → occurs s d ≤ 1) → length (in_order p d) ≤ size p
unfolding in_order
in_order_length [] p h = omega arith
in_order_length (x ∷ d) p h =
    by_test _ (at p x)
    (λ a.
    let one = h x a in
    let self = occurs_self x d in
    let none_left : occurs x d ≡ 0 = omega arith in
    let e = ap length (in_order_cons p x d true a ∙ ap (λ (l : List ℕ). x ∷ l) (in_order_without p x d none_left)) in
    let s = size_unset p x a in
    let ih = in_order_length d (set p x false)
    (λ k b. let t = occurs_tail k x d in let g = h k (set_drops p x k b) in omega arith) in
    omega arith)
    (λ a.
    let e = ap length (in_order_cons p x d false a) in
    let ih = in_order_length d p (λ k b. let t = occurs_tail k x d in let g = h k b in omega arith) in
    omega arith)

-- no more actions on a set than it has slots
on_length :
    (k : ℕ) (p : List Bool) (d : List ℕ) →
    ((s : ℕ) → at p s ≡ true → occurs s d ≤ 1) →
    length (actions_on k p d) ≤ size p
unfolding actions_on
on_length k p d h =
    let e = length-map (in_order p d) (action k) in
    let l = in_order_length d p h in
    omega arith

-- the steps change at most n slots
record Few (n : ℕ) (start : List Bool) (m : Meshes) : Type 0 where
  second : length m.second ≡ n
  fourth : length m.fourth ≡ n
  fifth : length m.fifth ≡ n
  all :
      size (except start m.first)
      + size (except m.second m.first)
      + size (except m.second m.third)
      + size (except m.fourth m.third)
      + size (except m.fifth m.fourth)
      ≤ n

-- step 2 leaves at most D_hi members or changes nothing, and step 3 changes nothing at D_hi members or fewer
pub two_small :
    (t : Degrees) (v : View) → Rules t → (m : List Bool) → (mesh2 t v m ≡ m) ⊎ (size (mesh2 t v m) ≤ t.hi)
unfolding mesh2
two_small t v ru m =
    cond_case (λ r. (r ≡ m) ⊎ (size r ≤ t.hi)) (ltb (size m) t.lo)
    (fill v.candidates (t.d - size m) v.permutation m)
    m
    (λ e.
    let l = ltb-true (size m) t.lo e in
    let u = fill_upper v.candidates size size_set_le v.permutation (t.d - size m) m in
    let a = ru.lo_d in
    let c = ru.d_hi in
    inr (omega arith))
    (λ e. inl refl)

pub three_idle : (n : ℕ) (t : Degrees) (v : View) (m : List Bool) → (mesh3 n t v m ≡ m) ⊎ (t.hi < size m)
unfolding mesh3
three_idle n t v m =
    cond_case (λ r. (r ≡ m) ⊎ (t.hi < size m)) (ltb t.hi (size m)) _ m
    (λ e. inr (ltb-true t.hi (size m) e))
    (λ e. inl refl)

module _
    (n : ℕ) (t : Degrees) (v : View) (ru : Rules t) (w : Whole n v)
    (apart : (s : ℕ) → at v.members s ≡ true → at v.candidates s ≡ true → ⊥) where
  -- step 2 or step 3 changes nothing
  pub idle : (m : List Bool) → (mesh2 t v m ≡ m) ⊎ (mesh3 n t v (mesh2 t v m) ≡ mesh2 t v m)
  idle m =
      ⊎_elim
      (λ e. inl e)
      (λ small. ⊎_elim (λ e. inr e) (λ over. absurd (omega arith)) (three_idle n t v (mesh2 t v m)))
      (two_small t v ru m)

  sub1 : Sub (mesh1 v) v.members
  unfolding mesh1
  sub1 = both_left v.members (goods v)

  -- what a later mesh has more than an earlier one is a candidate
  more :
      (a r : List Bool) →
      ((s : ℕ) → at r s ≡ true → (at a s ≡ true) ⊎ (at v.candidates s ≡ true)) →
      Sub (except r a) v.candidates
  more a r h s e =
      let q = halves (at r s) (not (at a s)) (sym (except_at r a s) ∙ e) in
      ⊎_elim (λ b. absurd (false≢true (ap not (sym b) ∙ q.1))) (λ b. b) (h s q.0)

  changes : Few n v.members (meshes n t v)
  unfolding meshes
  changes =
      let m₁ = mesh1 v in
      let l₁ = len1 n t v ru w in
      let a₂ = adds2 n t v ru w m₁ l₁ in
      let m₂ = mesh2 t v m₁ in
      let k₃ = keeps3 n t v ru w m₂ a₂.len in
      let m₃ = mesh3 n t v m₂ in
      let a₄ = adds4 n t v ru w m₃ k₃.len in
      let m₄ = mesh4 t v m₃ in
      let a₅ = adds5 n t v ru w m₄ a₄.len in
      let m₅ = mesh5 t v m₄ in
      let lm = w.members in
      let room = size_apart v.members v.candidates (w.members ∙ sym w.candidates) apart in
      let d₁ = size_diff m₁ v.members sub1 in
      let d₂ = size_diff m₁ m₂ a₂.sub in
      let d₃ = size_diff m₃ m₂ k₃.only in
      let d₄ = size_diff m₃ m₄ a₄.sub in
      let d₅ = size_diff m₄ m₅ a₅.sub in
      let up : Sub m₃ m₅ = λ s x. a₅.sub s (a₄.sub s x) in
      let d₆ = size_diff m₃ m₅ up in
      let late : (s : ℕ) → at m₅ s ≡ true → (at m₃ s ≡ true) ⊎ (at v.candidates s ≡ true) = λ s x.
      ⊎_elim (λ y. a₄.only s y) (λ y. inr y) (a₅.only s x) in
      let c₃ = size_mono (except m₅ m₃) v.candidates (more m₃ m₅ late) in
      record {
        second = a₂.len;
        fourth = a₄.len;
        fifth = a₅.len;
        all =
            ⊎_elim
            (λ e. let q = ap size e in omega arith)
            (λ e.
            let q = ap size e in
            let d₇ =
            size_diff m₁ m₅ (λ s x. up s (subst (λ (l : List Bool). at l s ≡ true) (sym e) (a₂.sub s x))) in
            let c₁ =
            size_mono (except m₅ m₁) v.candidates
            (more m₁ m₅ (λ s x. ⊎_elim (λ y. a₂.only s (k₃.only s y)) (λ y. inr y) (late s x))) in
            omega arith)
            (idle m₁);
      }

  -- by slot, and in the order of the permutation
  by_slot_lem : (p : List Bool) → length (actions_on 2 p (ascending 0 n)) ≤ size p
  by_slot_lem p = on_length 2 p (ascending 0 n) (λ s x. ascending_once s 0 n)

  by_order : (p : List Bool) → length p ≡ n → length (actions_on 1 p v.permutation) ≤ size p
  by_order p lp =
      on_length 1 p v.permutation
      (λ s x.
      let h = at_below p s x in
      let q = permutation_once n v.permutation w.permutation s (omega arith) in
      omega arith)

  -- at most one action a slot
  pub actions_length : length (actions_of n v.permutation (changes_of v.members (meshes n t v))) ≤ n
  unfolding actions_of changes_of
  actions_length =
      let m = meshes n t v in
      let f = changes in
      let sum = f.all in
      let p₁ = by_slot_lem (except v.members m.first) in
      let g₂ = by_order (except m.second m.first) (except_length m.second m.first ∙ f.second) in
      let p₃ = by_slot_lem (except m.second m.third) in
      let g₄ = by_order (except m.fourth m.third) (except_length m.fourth m.third ∙ f.fourth) in
      let g₅ = by_order (except m.fifth m.fourth) (except_length m.fifth m.fourth ∙ f.fifth) in
      simp length-append (omega arith)
