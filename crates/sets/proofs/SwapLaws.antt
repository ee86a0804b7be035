-- The swaps of step 3: what they make of the keepers, and who is never taken out. A swap brings in an outbound member and takes out an
-- inbound keeper, so that the size stays and the outbound count rises by one; each law is an induction on the swaps that are left.
-- Assumes nothing.
use Prim.Native.Nat.{ℕ, zero, suc, ◌+◌, ◌≤◌, ◌<◌}
use native.Mathlib.Omega.{arith}
use mathlib.Core.Path.{◌≡◌, refl, sym, ap, ap₂, ◌∙◌, subst}
use mathlib.Core.Bool.{Bool, true, false, cond, ◌&&◌, false≢true}
use mathlib.Core.Logic.{◌⊎◌, inl, inr, ⊎_elim}
use mathlib.Core.List.{List, [], ◌∷◌}
use lib.ListN.{length, get_or, set, length-set}
use lib.Seq.{get_or-set_same, get_or-set_other}
use lib.Dec.{ltb, eqb}
use borrow.Author.Tests.{ltb-true, ltb-false, lt-ltb, eqb-true, eqb-false}
use Rattle.index.proofs.Index.{both as halves}
use Rattle.index.proofs.Flags.{by_test, cond_case}
use Rattle.sets.specs.Sets.{at, Sub, size, both, except, is_permutation, first_of, last_of, bottom, goer, comers, swap_once, swap_to}
use Rattle.sets.proofs.WalkLaws.{at_below, except_length, both_length}
use Rattle.sets.proofs.CountLaws.{In, size_mono, size_set_le, size_unset_ge, both_set, down_except, flat_except, at_set_same}
use Rattle.sets.proofs.CountLaws.{set_only, set_keeps, set_drops}
use Rattle.sets.proofs.SetLaws.{both_left, both_right, both_in, size_split, except_left, except_in, except_out, some, size_unset}
use Rattle.sets.proofs.SetLaws.{grow_outs, grow_size}
use Rattle.sets.proofs.PermutationLaws.{permutation_mem}
use Rattle.sets.proofs.PickLaws.{last_hit, bottom_hit, bottom_near}

-- ---- sets
first_hit : (p : List Bool) (r : List ℕ) (n x : ℕ) → In x r → at p x ≡ true → at p (first_of p r n) ≡ true
unfolding first_of
first_hit p [] n x i e = absurd i
first_hit p (s ∷ r) n x i e =
    cond_case (λ k. at p k ≡ true) (at p s) s (first_of p r n)
    (λ t. t)
    (λ t. ⊎_elim (λ q. absurd (false≢true (sym t ∙ sym (ap (at p) q) ∙ e))) (λ j. first_hit p r n x j e) i)

-- A keeper is one of the best, outbound, or one that can go.
pub keepers_count :
    (outs b k : List Bool) → size k ≤ size b + size (both k outs) + size (except (except k outs) b)
keepers_count outs b k =
    let o = size_split k outs in
    let i = size_split (except k outs) b in
    let s = size_mono (both (except k outs) b) b (both_right (except k outs) b) in
    omega arith

-- what the swaps make of k
pub record Swapped (n out : ℕ) (outs m k r : List Bool) : Type 0 where
  pub len : length r ≡ n
  pub only : Sub r m
  pub size_ge : size k ≤ size r
  pub inbound : size (except r outs) ≤ size (except k outs)
  pub outs_in : (out ≤ size (both r outs)) ⊎ Sub (both m outs) r

-- what is in and what is out are not one slot
differ : (p : List Bool) (s x : ℕ) → at p s ≡ true → at p x ≡ false → s ≡ x → ⊥
differ p s x a b e = false≢true (sym b ∙ ap (at p) (sym e) ∙ a)

module _ (n out : ℕ) (sc : List ℕ) (outs : List Bool) (order : List ℕ) (m b : List Bool) where
  abbrev gs : List Bool → List Bool
  gs k = except (except k outs) b

  abbrev cs : List Bool → List Bool
  cs k = comers n out sc outs order m b k

  abbrev once : List Bool → List Bool
  once k = swap_once n out sc outs order m b k

  abbrev runs : ℕ → List Bool → List Bool
  runs f k = swap_to n out sc outs order m b f k

  -- a further swap is made, or one of the three tests fails
  pub swap_case :
      (P : List Bool → Type 0) (f : ℕ) (k : List Bool) →
      ((out ≤ size (both k outs)) ⊎ ((size (cs k) ≤ 0) ⊎ (size (except k outs) ≤ 0)) → P k) →
      (size (both k outs) < out → 0 < size (cs k) → 0 < size (except k outs) → P (runs f (once k))) →
      P (runs (suc f) k)
  unfolding swap_to
  swap_case P f k stop go =
      cond_case P (a && c && d) (runs f (once k)) k
      (λ e.
      let h = halves (a && c) d e in
      let g = halves a c h.0 in
      go (ltb-true (size (both k outs)) out g.0) (ltb-true 0 (size (cs k)) g.1)
      (ltb-true 0 (size (except k outs)) h.1))
      (λ e.
      stop
      (by_test _ a
      (λ ea.
      by_test _ c
      (λ ec. inr (inr (ltb-false 0 (size (except k outs)) (sym (ap₂ (λ (y z : Bool). y && z && d) ea ec) ∙ e))))
      (λ ec. inr (inl (ltb-false 0 (size (cs k)) ec))))
      (λ ea. inl (ltb-false (size (both k outs)) out ea))))
    where
      a : Bool
      a = ltb (size (both k outs)) out

      c : Bool
      c = ltb 0 (size (cs k))

      d : Bool
      d = ltb 0 (size (except k outs))

  module _ (lo : length outs ≡ n) (lm : length m ≡ n) (dr : is_permutation n order ≡ true) where
    -- the outbound members are the outbound keepers and those left out
    outs_split : (k : List Bool) → Sub k m → size (both m outs) ≤ size (both k outs) + size (cs k)
    outs_split k sub =
        let s = size_split (both m outs) k in
        let h = size_mono (both (both m outs) k) (both k outs)
        (λ j e. both_in k outs j (both_right (both m outs) k j e) (both_right m outs j (both_left (both m outs) k j e))) in
        omega arith

    module _
        (k : List Bool) (lk : length k ≡ n) (sub : Sub k m) (come : 0 < size (cs k)) (leave : 0 < size (except k outs)) where
      abbrev x : ℕ
      x = goer n sc order b (except k outs)

      abbrev y : ℕ
      y = first_of (cs k) order n

      abbrev k₁ : List Bool
      k₁ = set k x false

      stands : (s : ℕ) → at m s ≡ true → In s order
      stands s a = let h = at_below m s a in permutation_mem n order dr s (omega arith)

      -- who goes is an inbound keeper, and a drawn one if there is one
      x_in : at (except k outs) x ≡ true
      unfolding goer
      x_in =
          cond_case (λ s. at (except k outs) s ≡ true) (ltb 0 (size (gs k))) (last_of (gs k) order n)
          (bottom n sc (except k outs) order n)
          (λ e.
          let s = some (gs k) (ltb-true 0 (size (gs k)) e) in
          except_left (except k outs) b (last_of (gs k) order n)
          (last_hit n (gs k) order s.0
          (stands s.0 (sub s.0 (except_left k outs s.0 (except_left (except k outs) b s.0 s.1))))
          s.1))
          (λ e.
          let s = some (except k outs) leave in
          bottom_hit n sc (except k outs) order s.0 (stands s.0 (sub s.0 (except_left k outs s.0 s.1))) s.1)

      x_drawn : 0 < size (gs k) → at (gs k) x ≡ true
      unfolding goer
      x_drawn h =
          let s = some (gs k) h in
          rw (lt-ltb 0 (size (gs k)) h)
          (last_hit n (gs k) order s.0
          (stands s.0 (sub s.0 (except_left k outs s.0 (except_left (except k outs) b s.0 s.1))))
          s.1)

      x_inbound : at outs x ≡ false
      x_inbound = except_out k outs x x_in

      -- who comes is an outbound member that was left out
      come_in : at (cs k) y ≡ true
      come_in =
          let s = some (cs k) come in
          first_hit (cs k) order n s.0 (stands s.0 (both_left m outs s.0 (except_left (both m outs) k s.0 s.1))) s.1

      y_in : at (both m outs) y ≡ true
      y_in = except_left (both m outs) k y come_in

      y_out : at outs y ≡ true
      y_out = both_right m outs y y_in

      y_free : at k₁ y ≡ false
      y_free =
          by_test _ (at k₁ y)
          (λ e. absurd (differ k y y (set_drops k x y e) (except_out (both m outs) k y come_in) refl))
          (λ e. e)

      l₁ : length k₁ ≡ n
      l₁ = length-set k x false ∙ lk

      lmo : length (both m outs) ≡ n
      lmo = both_length m outs (lm ∙ sym lo) ∙ lm

      x_gone : at k₁ x ≡ false
      x_gone = get_or-set_same k x false false (at_below k x (except_left k outs x x_in))

      -- every other keeper stays, and every inbound one that stays was a keeper
      stays : (s : ℕ) → (s ≡ x → ⊥) → at k s ≡ true → at (once k) s ≡ true
      unfolding swap_once
      stays s ne a = set_keeps k₁ y s (get_or-set_other k x s false false ne ∙ a)

      was : (s : ℕ) → at outs s ≡ false → at (once k) s ≡ true → at k₁ s ≡ true
      unfolding swap_once
      was s i e = ⊎_elim (λ h. h) (λ q. absurd (differ outs y s y_out i (sym q))) (set_only k₁ y s e)

      leaves : at (once k) x ≡ true → ⊥
      leaves e = false≢true (sym x_gone ∙ was x x_inbound e)

      keeps : Sub (both k outs) (both k₁ outs)
      keeps s e =
          both_in k₁ outs s
          (get_or-set_other k x s false false (differ outs s x (both_right k outs s e) x_inbound) ∙ both_left k outs s e)
          (both_right k outs s e)

      one_more : suc (size (both k outs)) ≤ size (both (once k) outs)
      unfolding swap_once
      one_more =
          let a = size_mono (both k outs) (both k₁ outs) keeps in
          let g = grow_outs n (both m outs) outs lmo (both_right m outs) k₁ y l₁ y_in y_free in
          omega arith

      one_only : size (both (once k) outs) ≤ suc (size (both k outs))
      unfolding swap_once
      one_only =
          let a = size_mono (both k₁ outs) (both k outs)
          (λ s e. both_in k outs s (set_drops k x s (both_left k₁ outs s e)) (both_right k₁ outs s e)) in
          let e = ap size (both_set k₁ outs y true ∙ ap (set (both k₁ outs) y) y_out) in
          let g = size_set_le (both k₁ outs) y in
          omega arith

      pub no_less : size k ≤ size (once k)
      unfolding swap_once
      no_less =
          let a = size_unset_ge k x in
          let g = grow_size n (both m outs) lmo k₁ y l₁ y_in y_free in
          omega arith

      inbound_less : size (except (once k) outs) ≤ size (except k outs)
      unfolding swap_once
      inbound_less =
          let a = flat_except outs k₁ y y_out in
          let c = down_except outs k x in
          omega arith

      pub once_len : length (once k) ≡ n
      unfolding swap_once
      once_len = length-set k₁ y true ∙ l₁

      pub once_only : Sub (once k) m
      unfolding swap_once
      once_only s e = ⊎_elim (λ h. sub s (set_drops k x s h)) (λ q. ap (at m) q ∙ both_left m outs y y_in) (set_only k₁ y s e)

      -- one drawn inbound keeper less at the most, and one less if there was one
      drawn_ge : size (gs k) ≤ suc (size (gs (once k)))
      drawn_ge =
          let a = size_unset_ge (gs k) x in
          let c = size_mono (set (gs k) x false) (gs (once k))
          (λ s e.
          let g = set_drops (gs k) x s e in
          let i = except_left (except k outs) b s g in
          let ne : s ≡ x → ⊥ = λ q.
          false≢true
          (sym (get_or-set_same (gs k) x false false (subst (λ (z : ℕ). z < length (gs k)) q (at_below (gs k) s g)))
          ∙ ap (at (set (gs k) x false)) (sym q)
          ∙ e) in
          except_in (except (once k) outs) b s
          (except_in (once k) outs s (stays s ne (except_left k outs s i)) (except_out k outs s i))
          (except_out (except k outs) b s g)) in
          omega arith

      drawn_less : 0 < size (gs k) → suc (size (gs (once k))) ≤ size (gs k)
      drawn_less h =
          let e = size_unset (gs k) x (x_drawn h) in
          let c = size_mono (gs (once k)) (set (gs k) x false)
          (λ s e.
          let i = except_left (except (once k) outs) b s e in
          let o = except_out (once k) outs s i in
          let a = was s o (except_left (once k) outs s i) in
          get_or-set_other (gs k) x s false false (differ k₁ s x a x_gone)
          ∙ except_in (except k outs) b s (except_in k outs s (set_drops k x s a) o) (except_out (except (once k) outs) b s e)) in
          omega arith

    -- ---- demand 3: with `out` keepers there is an inbound one to go while fewer than `out` are outbound
    pub swapped_keeps :
        (f : ℕ) (k : List Bool) →
        length k ≡ n →
        Sub k m →
        out ≤ size k →
        out ≤ size (both k outs) + f →
        Swapped n out outs m k (runs f k)
    unfolding swap_to
    swapped_keeps zero k lk sub room h =
        record { len = lk; only = sub; size_ge = omega arith; inbound = omega arith; outs_in = inl (omega arith) }
    swapped_keeps (suc f) k lk sub room h =
        swap_case (Swapped n out outs m k) f k
        (λ why.
        record {
          len = lk;
          only = sub;
          size_ge = omega arith;
          inbound = omega arith;
          outs_in =
              ⊎_elim
              (λ enough. inl enough)
              (λ none.
              ⊎_elim
              (λ c. inr (λ s i.
              by_test _ (at k s)
              (λ a. a)
              (λ a.
              let u = size_unset (cs k) s (except_in (both m outs) k s i a) in
              let z : ⊥ = omega arith in
              absurd z)))
              (λ g. let s = size_split k outs in inl (omega arith))
              none)
              why;
        })
        (λ few come leave.
        let r =
        swapped_keeps f (once k) (once_len k lk sub come leave) (once_only k lk sub come leave)
        (let z = no_less k lk sub come leave in omega arith)
        (let z = one_more k lk sub come leave in omega arith) in
        record {
          len = r.len;
          only = r.only;
          size_ge = let a = r.size_ge in let z = no_less k lk sub come leave in omega arith;
          inbound = let a = r.inbound in let z = inbound_less k lk sub come leave in omega arith;
          outs_in = r.outs_in;
        })

    -- ---- who is never taken out, and who is never brought in
    pub outbound_stays :
        (s : ℕ) → at outs s ≡ true → (f : ℕ) (k : List Bool) → length k ≡ n → Sub k m → at k s ≡ true → at (runs f k) s ≡ true
    unfolding swap_to
    outbound_stays s o zero k lk sub a = a
    outbound_stays s o (suc f) k lk sub a =
        swap_case (λ r. at r s ≡ true) f k (λ why. a)
        (λ few come leave.
        outbound_stays s o f (once k) (once_len k lk sub come leave) (once_only k lk sub come leave)
        (stays k lk sub come leave s (differ outs s (x k lk sub come leave) o (x_inbound k lk sub come leave)) a))

    pub inbound_was :
        (s : ℕ) →
        at outs s ≡ false →
        (f : ℕ) (k : List Bool) →
        length k ≡ n →
        Sub k m →
        at (runs f k) s ≡ true →
        at k s ≡ true
    unfolding swap_to
    inbound_was s o zero k lk sub a = a
    inbound_was s o (suc f) k lk sub a =
        swap_case (λ r. at r s ≡ true → at k s ≡ true) f k (λ why e. e)
        (λ few come leave e.
        set_drops k (x k lk sub come leave) s
        (was k lk sub come leave s o
        (inbound_was s o f (once k) (once_len k lk sub come leave) (once_only k lk sub come leave) e)))
        a

    -- None of the best goes where outbound and drawn inbound keepers together are enough.
    pub best_stays :
        (s : ℕ) →
        at b s ≡ true →
        (f : ℕ) (k : List Bool) →
        length k ≡ n →
        Sub k m →
        (out ≤ size (both k outs) + size (gs k)) ⊎ (size (both m outs) ≤ size (both k outs) + size (gs k)) →
        at k s ≡ true →
        at (runs f k) s ≡ true
    unfolding swap_to
    best_stays s i zero k lk sub h a = a
    best_stays s i (suc f) k lk sub h a =
        swap_case (λ r. at r s ≡ true) f k (λ why. a)
        (λ few come leave.
        let o = one_more k lk sub come leave in
        let d = drawn_ge k lk sub come leave in
        let one : 0 < size (gs k) =
        ⊎_elim
        (λ e. omega arith)
        (λ e.
        -- one comes that is not a keeper yet
        let c = size_split (both m outs) k in
        let g = size_mono (both k outs) (both (both m outs) k)
        (λ j p. both_in (both m outs) k j (both_in m outs j (sub j (both_left k outs j p)) (both_right k outs j p))
        (both_left k outs j p)) in
        omega arith)
        h in
        best_stays s i f (once k) (once_len k lk sub come leave) (once_only k lk sub come leave)
        (⊎_elim (λ e. inl (omega arith)) (λ e. inr (omega arith)) h)
        (stays k lk sub come leave s
        (differ b s (x k lk sub come leave) i (except_out (except k outs) b (x k lk sub come leave) (x_drawn k lk sub come leave one)))
        a))

    -- Where an inbound keeper that is not one of the best stays, they were more than enough.
    pub drawn_stayed :
        (s : ℕ) →
        at b s ≡ false →
        at outs s ≡ false →
        (f : ℕ) (k : List Bool) →
        length k ≡ n →
        Sub k m →
        out ≤ size (both k outs) + f →
        at (runs f k) s ≡ true →
        (out < size (both k outs) + size (gs k)) ⊎ (size (both m outs) < size (both k outs) + size (gs k))
    unfolding swap_to
    drawn_stayed s nb o zero k lk sub h a =
        let u = size_unset (gs k) s (except_in (except k outs) b s (except_in k outs s a o) nb) in
        inl (omega arith)
    drawn_stayed s nb o (suc f) k lk sub h a =
        let there : at k s ≡ true = inbound_was s o (suc f) k lk sub a in
        let inb : at (except k outs) s ≡ true = except_in k outs s there o in
        let u = size_unset (gs k) s (except_in (except k outs) b s inb nb) in
        let w = size_unset (except k outs) s inb in
        swap_case
        (λ r.
        at r s ≡ true → (out < size (both k outs) + size (gs k)) ⊎ (size (both m outs) < size (both k outs) + size (gs k)))
        f
        k
        (λ why e.
        ⊎_elim
        (λ enough. inl (omega arith))
        (λ none.
        ⊎_elim
        (λ c. let p = outs_split k sub in inr (omega arith))
        (λ g. let z : ⊥ = omega arith in absurd z)
        none)
        why)
        (λ few come leave e.
        let i = one_only k lk sub come leave in
        let j = one_more k lk sub come leave in
        let d = drawn_less k lk sub come leave (omega arith) in
        ⊎_elim
        (λ q. inl (omega arith))
        (λ q. inr (omega arith))
        (drawn_stayed s nb o f (once k) (once_len k lk sub come leave) (once_only k lk sub come leave) (omega arith) e))
        a

    -- ---- edition 1: where `out` keepers stand beside the best, a drawn one is always left to go
    pub drawn_left : (k : List Bool) → size b + out ≤ size k → size (both k outs) < out → 0 < size (gs k)
    drawn_left k room few = let c = keepers_count outs b k in omega arith

-- ---- the scores of the best, one of them higher: the same swaps, unless that one goes
module _
    (n out x : ℕ) (low : x < n) (sc sc' : List ℕ)
    (same : (s : ℕ) → (s ≡ x → ⊥) → get_or sc' s 0 ≡ get_or sc s 0)
    (no-less' : get_or sc x 0 ≤ get_or sc' x 0)
    (outs : List Bool) (order : List ℕ) (m b : List Bool)
    (lo : length outs ≡ n) (lm : length m ≡ n) (dr : is_permutation n order ≡ true) where
  same_goer :
      (k : List Bool) →
      (goer n sc' order b (except k outs) ≡ goer n sc order b (except k outs)) ⊎ (goer n sc order b (except k outs) ≡ x)
  unfolding goer
  same_goer k = go (ltb 0 (size (except (except k outs) b)))
    where
      go :
          (t : Bool) →
          (cond t (last_of (except (except k outs) b) order n) (bottom n sc' (except k outs) order n)
          ≡ cond t (last_of (except (except k outs) b) order n) (bottom n sc (except k outs) order n))
          ⊎ (cond t (last_of (except (except k outs) b) order n) (bottom n sc (except k outs) order n) ≡ x)
      go true = inl refl
      go false =
          ⊎_elim (λ e. inl (sym e)) (λ e. inr e)
          (bottom_near n x low sc sc' same no-less' (except k outs) order)

  -- x does not go: it is there at the end, or it is no member
  abbrev Safe : List Bool → Type 0
  Safe r = (at r x ≡ true) ⊎ (at m x ≡ false)

  same_next :
      (f : ℕ) (k : List Bool) →
      length k ≡ n →
      Sub k m →
      0 < size (comers n out sc outs order m b k) →
      0 < size (except k outs) →
      Safe (swap_to n out sc outs order m b f (swap_once n out sc outs order m b k)) →
      swap_once n out sc' outs order m b k ≡ swap_once n out sc outs order m b k
  unfolding swap_once
  same_next f k lk sub come leave safe =
      ⊎_elim
      (λ q. ap (λ (z : ℕ). set (set k z false) (first_of (comers n out sc outs order m b k) order n) true) q)
      (λ q.
      let i = x_in n out sc outs order m b lo lm dr k lk sub come leave in
      ⊎_elim
      (λ e.
      absurd
      (leaves n out sc outs order m b lo lm dr k lk sub come leave
      (subst (λ (z : ℕ). at (swap_once n out sc outs order m b k) z ≡ true) (sym q)
      (inbound_was n out sc outs order m b lo lm dr x
      (ap (at outs) (sym q) ∙ x_inbound n out sc outs order m b lo lm dr k lk sub come leave)
      f
      (swap_once n out sc outs order m b k)
      (once_len n out sc outs order m b lo lm dr k lk sub come leave)
      (once_only n out sc outs order m b lo lm dr k lk sub come leave)
      e))))
      (λ e.
      absurd
      (differ m (goer n sc order b (except k outs)) x
      (sub (goer n sc order b (except k outs)) (except_left k outs (goer n sc order b (except k outs)) i))
      e
      q))
      safe)
      (same_goer k)

  pub same_swaps :
      (f : ℕ) (k : List Bool) →
      length k ≡ n →
      Sub k m →
      Safe (swap_to n out sc outs order m b f k) →
      swap_to n out sc' outs order m b f k ≡ swap_to n out sc outs order m b f k
  unfolding swap_to
  same_swaps zero k lk sub safe = refl
  same_swaps (suc f) k lk sub safe =
      go
      (ltb (size (both k outs)) out
      && ltb 0 (size (comers n out sc outs order m b k))
      && ltb 0 (size (except k outs)))
      refl
      (λ come leave e.
      ap (swap_to n out sc' outs order m b f) (same_next f k lk sub come leave e)
      ∙ same_swaps f (swap_once n out sc outs order m b k) (once_len n out sc outs order m b lo lm dr k lk sub come leave)
      (once_only n out sc outs order m b lo lm dr k lk sub come leave)
      e)
      safe
    where
      k₂ : List Bool
      k₂ = swap_once n out sc outs order m b k

      go :
          (t : Bool) →
          (ltb (size (both k outs)) out
          && ltb 0 (size (comers n out sc outs order m b k))
          && ltb 0 (size (except k outs)))
          ≡ t →
          (0 < size (comers n out sc outs order m b k) →
          0 < size (except k outs) →
          Safe (swap_to n out sc outs order m b f k₂) →
          swap_to n out sc' outs order m b f (swap_once n out sc' outs order m b k) ≡ swap_to n out sc outs order m b f k₂) →
          Safe (cond t (swap_to n out sc outs order m b f k₂) k) →
          cond t (swap_to n out sc' outs order m b f (swap_once n out sc' outs order m b k)) k
          ≡ cond t (swap_to n out sc outs order m b f k₂) k
      go true t ih e =
          let h =
          halves
          (ltb (size (both k outs)) out && ltb 0 (size (comers n out sc outs order m b k)))
          (ltb 0 (size (except k outs)))
          t in
          let g = halves (ltb (size (both k outs)) out) (ltb 0 (size (comers n out sc outs order m b k))) h.0 in
          ih (ltb-true 0 (size (comers n out sc outs order m b k)) g.1) (ltb-true 0 (size (except k outs)) h.1) e
      go false t ih e = refl

-- ---- the outbound keepers, the drawn inbound ones and the inbound ones among the best are all keepers
pub keepers_split :
    (outs b k : List Bool) →
    Sub b k →
    size k ≡ size (both k outs) + size (except (except k outs) b) + size (except b outs)
keepers_split outs b k sub =
    let o = size_split k outs in
    let i = size_split (except k outs) b in
    let u = size_mono (both (except k outs) b) (except b outs)
    (λ s e.
    except_in b outs s (both_right (except k outs) b s e) (except_out k outs s (both_left (except k outs) b s e))) in
    let d = size_mono (except b outs) (both (except k outs) b)
    (λ s e.
    let a = except_left b outs s e in
    both_in (except k outs) b s (except_in k outs s (sub s a) (except_out b outs s e)) a) in
    omega arith

-- one slot more among the best is one inbound more at the most
pub inbound_pushed :
    (outs b b' : List Bool) (x : ℕ) →
    length b ≡ length b' →
    ((s : ℕ) → (s ≡ x → ⊥) → at b' s ≡ true → at b s ≡ true) →
    size (except b' outs) ≤ suc (size (except b outs))
inbound_pushed outs b b' x lb rest =
    let u = size_mono (except b' outs) (set (except b outs) x true)
    (λ s e.
    let a = except_left b' outs s e in
    by_test _ (eqb s x)
    (λ q.
    let sx = eqb-true s x q in
    ap (at (set (except b outs) x true)) sx
    ∙ at_set_same (except b outs) x
    (let h = at_below b' s a in let l = except_length b outs in omega arith))
    (λ q.
    set_keeps (except b outs) x s (except_in b outs s (rest s (eqb-false s x q) a) (except_out b' outs s e)))) in
    let g = size_set_le (except b outs) x in
    omega arith

-- ---- one swap as the code makes it
module _
    (n out : ℕ) (sc : List ℕ) (outs : List Bool) (order : List ℕ) (m b k : List Bool) {mo c : List Bool}
    (emo : mo ≡ both m outs) (ec : c ≡ except mo k) where
  pub comers_is : c ≡ comers n out sc outs order m b k
  comers_is = cc

  pub once_is :
      {g k₁ r : List Bool} {x y : ℕ} →
      g ≡ except k outs →
      x ≡ goer n sc order b g →
      k₁ ≡ set k x false →
      y ≡ first_of c order n →
      r ≡ set k₁ y true →
      r ≡ swap_once n out sc outs order m b k
  unfolding swap_once
  once_is eg ex ek ey er = cc
