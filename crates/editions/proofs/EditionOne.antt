-- Under 01's rules step 3 is as 01 has it: D_out keepers stand beside the best, so that none of the best ever goes.
-- Assumes nothing.
use Prim.Native.Nat.{ℕ, zero, suc, ◌+◌, ◌≤◌, ◌<◌}
use native.Mathlib.Omega.{arith}
use mathlib.Core.Path.{◌≡◌, refl, ap, ◌∙◌}
use mathlib.Core.Bool.{Bool, true, false, cond, ◌&&◌}
use mathlib.Core.List.{List}
use lib.ListN.{length}
use lib.Dec.{ltb}
use borrow.Author.Tests.{ltb-true, lt-ltb}
use Rattle.sets.specs.Sets.{Sub, size, both, except, is_permutation, comers, goer, swap_once, swap_to}
use Rattle.sets.proofs.SwapLaws.{drawn_left, once_len, once_only, no_less}
use Rattle.sets.proofs.SetLaws.{size_split}
use Rattle.mesh.specs.Maintenance.{the_best, keepers, swapped, mesh3}
use Rattle.mesh.proofs.MaintenanceLaws.{size_best, len_keepers, sub_keepers, lower_keepers}
use Rattle.editions.specs.Edition1.{swap_once as swapOnce₁, swap_to as swapTo₁, mesh3 as mesh3₁, AsIn01}

module _
    (n out : ℕ) (sc : List ℕ) (outs : List Bool) (order : List ℕ) (m b : List Bool)
    (lo : length outs ≡ n) (lm : length m ≡ n) (dr : is_permutation n order ≡ true) where
  same_once : (k : List Bool) → 0 < size (except (except k outs) b) → swapOnce₁ n out outs order m b k ≡ swap_once n out sc outs order m b k
  unfolding swapOnce₁ swap_once goer
  same_once k h = rw (lt-ltb 0 (size (except (except k outs) b)) h)

  pub swaps_one :
      (f : ℕ) (k : List Bool) →
      length k ≡ n →
      Sub k m →
      size b + out ≤ size k →
      swapTo₁ n out outs order m b f k ≡ swap_to n out sc outs order m b f k
  unfolding swap_to swapTo₁
  swaps_one zero k lk sub room = refl
  swaps_one (suc f) k lk sub room =
      go (ltb (size (both k outs)) out) refl (ltb 0 (size (comers n out sc outs order m b k))) refl
      (λ come leave.
      swaps_one f (swap_once n out sc outs order m b k) (once_len n out sc outs order m b lo lm dr k lk sub come leave)
      (once_only n out sc outs order m b lo lm dr k lk sub come leave)
      (let z = no_less n out sc outs order m b lo lm dr k lk sub come leave in omega arith))
    where
      k₁ : List Bool
      k₁ = swap_once n out sc outs order m b k

      go :
          (a : Bool) →
          ltb (size (both k outs)) out ≡ a →
          (c : Bool) →
          ltb 0 (size (comers n out sc outs order m b k)) ≡ c →
          (0 < size (comers n out sc outs order m b k) →
          0 < size (except k outs) →
          swapTo₁ n out outs order m b f k₁ ≡ swap_to n out sc outs order m b f k₁) →
          cond (a && c && ltb 0 (size (except (except k outs) b))) (swapTo₁ n out outs order m b f (swapOnce₁ n out outs order m b k)) k
          ≡ cond (a && c && ltb 0 (size (except k outs))) (swap_to n out sc outs order m b f k₁) k
      go false ea c ec ih = refl
      go true ea false ec ih = refl
      go true ea true ec ih =
          let few = ltb-true (size (both k outs)) out ea in
          let drawn = drawn_left n out sc outs order m b lo lm dr k room few in
          let i = size_split (except k outs) b in
          let leave : 0 < size (except k outs) = omega arith in
          rw (lt-ltb 0 (size (except (except k outs) b)) drawn, lt-ltb 0 (size (except k outs)) leave)
          (ap (swapTo₁ n out outs order m b f) (same_once k drawn) ∙ ih (ltb-true 0 (size (comers n out sc outs order m b k)) ec) leave)

-- D_score + D_out ≤ D: 01's rule
pub mesh3_one : AsIn01
unfolding mesh3 mesh3₁ swapped
mesh3_one n t v ru one w m lm = go (ltb t.hi (size m)) refl
  where
    b : List Bool
    b = the_best n t v m

    go :
        (c : Bool) →
        ltb t.hi (size m) ≡ c →
        cond c (swapTo₁ n t.out v.outbound v.permutation m b t.out (keepers t v m b)) m ≡ cond c (swapped n t v m b) m
    go false e = refl
    go true e =
        let over = ltb-true t.hi (size m) e in
        swaps_one n t.out v.scores v.outbound v.permutation m b w.outbound lm w.permutation t.out (keepers t v m b)
        (len_keepers n t v ru w m lm over)
        (sub_keepers n t v ru w m lm over)
        (let s = size_best n t v ru w m lm over in let l = lower_keepers n t v ru w m lm over in omega arith)
