-- Laws of the actions as numbers in a list: one action written, a run of them, and the runs of the five steps one after the other.
-- Assumes nothing.
use Prim.Native.Nat.{ℕ, suc, ◌+◌, ◌*◌, ◌≤◌, ◌<◌}
use native.Mathlib.Omega.{arith}
use mathlib.Core.Path.{◌≡◌, refl, sym, ap, ap₂, ◌∙◌, subst}
use mathlib.Core.Bool.{Bool, true, false}
use mathlib.Core.List.{List, [], ◌∷◌, ◌++◌, map}
use lib.ListN.{length, get_or, drop, length-append}
use lib.Seq.{sets, length-sets}
use lib.Dec.{eqb}
use Rattle.index.proofs.Flags.{cond_case}
use Rattle.index.proofs.Lists.{sets_append}
use Rattle.sets.specs.Sets.{at, size, in_order, ascending}
use Rattle.mesh.specs.Maintenance.{Action, action, actions_on, actions_of, seconds_of, numbers_of, Narrow, Writable, Written}
use Rattle.mesh.specs.Maintenance.{Changes}
use Rattle.sets.proofs.SetLaws.{size_unset}
use Rattle.sets.proofs.WalkLaws.{in_order_step, in_order_end}

pub seconds_narrow : (k : ℕ) (seconds : List ℕ) (s : ℕ) → Narrow seconds → seconds_of k seconds s ≤ 4294967295
seconds_narrow k seconds s h =
    cond_case (λ x. x ≤ 4294967295) (eqb k 2) (get_or seconds s 0) 0 (λ e. h s) (λ e. omega arith)

module _ (ids seconds : List ℕ) where
  pub numbers_length : (l : List Action) → length (numbers_of ids seconds l) ≡ 3 * length l
  unfolding numbers_of
  numbers_length [] = refl
  numbers_length (a ∷ l) = let h = numbers_length l in omega arith

  pub numbers_append :
      (x y : List Action) →
      numbers_of ids seconds (x ++ y) ≡ numbers_of ids seconds x ++ numbers_of ids seconds y
  unfolding numbers_of
  numbers_append [] y = refl
  numbers_append (a ∷ x) y =
      ap (λ (l : List ℕ). a.kind ∷ get_or ids a.slot 0 ∷ seconds_of a.kind seconds a.slot ∷ l) (numbers_append x y)

  pub numbers_none : (l : List ℕ) (i : ℕ) → sets l i (numbers_of ids seconds []) ≡ l
  unfolding numbers_of
  numbers_none l i = refl

  -- one action, and then the others
  pub numbers_cons :
      (l : List ℕ) (n k s : ℕ) (r : List Action) →
      sets l (3 * n) (numbers_of ids seconds (action k s ∷ r))
      ≡ sets (sets l (3 * n) (k ∷ get_or ids s 0 ∷ seconds_of k seconds s ∷ [])) (3 * (n + 1)) (numbers_of ids seconds r)
  unfolding numbers_of
  numbers_cons l n k s r =
      let e : suc (suc (suc (3 * n))) ≡ 3 * (n + 1) = omega arith in
      ap
      (λ (j : ℕ).
      sets (sets l (3 * n) (k ∷ get_or ids s 0 ∷ seconds_of k seconds s ∷ [])) j (numbers_of ids seconds r))
      e

-- ---- a walk that acts on the slots of p
module _ (k : ℕ) (p : List Bool) (d : List ℕ) (i : ℕ) where
  pub acts_in :
      i < length d →
      at p (get_or d i 0) ≡ true →
      actions_on k p (drop i d) ≡ action k (get_or d i 0) ∷ actions_on k p (drop (i + 1) d)
  unfolding actions_on
  acts_in h e = ap (map (action k)) (in_order_step p d i h true e)

  pub acts_out :
      i < length d → at p (get_or d i 0) ≡ false → actions_on k p (drop i d) ≡ actions_on k p (drop (i + 1) d)
  unfolding actions_on
  acts_out h e = ap (map (action k)) (in_order_step p d i h false e)

  pub acts_end : length d ≤ i → actions_on k p (drop i d) ≡ []
  unfolding actions_on
  acts_end h = ap (map (action k)) (in_order_end p d i h)

-- of an empty set there is nothing to do
none_in : (p : List Bool) (d : List ℕ) → size p ≡ 0 → in_order p d ≡ []
unfolding in_order
none_in p [] e = refl
none_in p (s ∷ d) e =
    cond_case
    (λ (l : List ℕ). l ≡ [])
    (at p s)
    (s ∷ in_order p d)
    (in_order p d)
    (λ t. absurd (omega (arith, size_unset p s t, e)))
    (λ t. none_in p d e)

pub written_none :
    (k : ℕ) (p : List Bool) (d ids seconds l : List ℕ) (n : ℕ) →
    size p ≡ 0 →
    Written ids seconds (actions_on k p d) l n l n
unfolding actions_on
written_none k p d ids seconds l n e =
    rw (none_in p d e) (record { many = omega arith; list = sym (numbers_none ids seconds l (3 * n)) })

-- ---- one run of actions after another
pub written_more :
    (ids seconds l : List ℕ) (x y : List Action) {r s : List ℕ} {n m k : ℕ} →
    Written ids seconds x l n r m →
    Written ids seconds y r m s k →
    Written ids seconds (x ++ y) l n s k
written_more ids seconds l x y {n = n} {m = m} v w =
    record {
      many = let a = v.many in let b = w.many in let e = length-append x y in omega arith;
      list =
          let e : 3 * m ≡ 3 * n + length (numbers_of ids seconds x) =
          let a = v.many in
          let b = numbers_length ids seconds x in
          omega arith in
          w.list
          ∙ ap₂ (λ (t : List ℕ) (j : ℕ). sets t j (numbers_of ids seconds y)) v.list e
          ∙ sym (sets_append l (3 * n) (numbers_of ids seconds x) (numbers_of ids seconds y))
          ∙ ap (sets l (3 * n)) (sym (numbers_append ids seconds x y));
    }

-- what a run leaves has room for the next
pub writable_more :
    {l ids seconds r : List ℕ} {x : List Action} {n m k : ℕ} →
    Writable l ids seconds (n + k) →
    Written ids seconds x l n r m →
    (j : ℕ) →
    length x + j ≤ k →
    Writable r ids seconds (m + j)
writable_more {l} {ids} {seconds} {x = x} {n = n} w v j h =
    record {
      room =
          let a = w.room in
          let b = v.many in
          let e = ap length v.list in
          let s = length-sets l (3 * n) (numbers_of ids seconds x) in
          omega arith;
      narrow_ids = w.narrow_ids;
      narrow_seconds = w.narrow_seconds;
    }

-- ---- the five runs of a maintenance, by slot in an order o
module _ (n : ℕ) (d o : List ℕ) (c : Changes) (eo : o ≡ ascending 0 n) where
  abbrev p₁ : List Action
  p₁ = actions_on 2 c.first o

  abbrev g₂ : List Action
  g₂ = actions_on 1 c.second d

  abbrev p₃ : List Action
  p₃ = actions_on 2 c.third o

  abbrev g₄ : List Action
  g₄ = actions_on 1 c.fourth d

  abbrev g₅ : List Action
  g₅ = actions_on 1 c.fifth d

  all_five : p₁ ++ g₂ ++ p₃ ++ g₄ ++ g₅ ≡ actions_of n d c
  unfolding actions_of
  all_five = ap (λ (x : List ℕ). actions_on 2 c.first x ++ g₂ ++ actions_on 2 c.third x ++ g₄ ++ g₅) eo

  many : length p₁ + length g₂ + length p₃ + length g₄ + length g₅ ≡ length (actions_of n d c)
  many = let e = ap length all_five in let s = simp length-append at e in omega arith

  module _ {ids seconds l : List ℕ} (w : Writable l ids seconds (length (actions_of n d c))) where
    w₀ : Writable l ids seconds (0 + length (actions_of n d c))
    w₀ = record { room = let r = w.room in omega arith; narrow_ids = w.narrow_ids; narrow_seconds = w.narrow_seconds }

    pub room_first : Writable l ids seconds (0 + length p₁)
    room_first =
        record {
          room = let r = w.room in let e = many in omega arith;
          narrow_ids = w.narrow_ids;
          narrow_seconds = w.narrow_seconds;
        }

    module _ {l₁ : List ℕ} {n₁ : ℕ} (v₁ : Written ids seconds p₁ l 0 l₁ n₁) where
      pub room_second : Writable l₁ ids seconds (n₁ + length g₂)
      room_second = writable_more w₀ v₁ (length g₂) (let e = many in omega arith)

      module _ {l₂ : List ℕ} {n₂ : ℕ} (v₂ : Written ids seconds g₂ l₁ n₁ l₂ n₂) where
        u₂ : Written ids seconds (p₁ ++ g₂) l 0 l₂ n₂
        u₂ = written_more ids seconds l p₁ g₂ v₁ v₂

        pub room_third : Writable l₂ ids seconds (n₂ + length p₃)
        room_third = writable_more w₀ u₂ (length p₃) (let e = many in simp length-append (omega arith))

        module _ {l₃ : List ℕ} {n₃ : ℕ} (v₃ : Written ids seconds p₃ l₂ n₂ l₃ n₃) where
          u₃ : Written ids seconds ((p₁ ++ g₂) ++ p₃) l 0 l₃ n₃
          u₃ = written_more ids seconds l (p₁ ++ g₂) p₃ u₂ v₃

          pub room_fourth : Writable l₃ ids seconds (n₃ + length g₄)
          room_fourth = writable_more w₀ u₃ (length g₄) (let e = many in simp length-append (omega arith))

          module _ {l₄ : List ℕ} {n₄ : ℕ} (v₄ : Written ids seconds g₄ l₃ n₃ l₄ n₄) where
            u₄ : Written ids seconds (((p₁ ++ g₂) ++ p₃) ++ g₄) l 0 l₄ n₄
            u₄ = written_more ids seconds l ((p₁ ++ g₂) ++ p₃) g₄ u₃ v₄

            pub room_fifth : Writable l₄ ids seconds (n₄ + length g₅)
            room_fifth = writable_more w₀ u₄ (length g₅) (let e = many in simp length-append (omega arith))

            pub written_all :
                {l₅ : List ℕ} {n₅ : ℕ} →
                Written ids seconds g₅ l₄ n₄ l₅ n₅ →
                Written ids seconds (actions_of n d c) l 0 l₅ n₅
            written_all {l₅} {n₅} v₅ =
                subst (λ (x : List Action). Written ids seconds x l 0 l₅ n₅) all_five
                (written_more ids seconds l (((p₁ ++ g₂) ++ p₃) ++ g₄) g₅ u₄ v₅)
