-- Step 3 where one slot's score rises: if it kept the slot it still does. The best are the same, and then so are all swaps; or the slot is
-- new among them, and since it stayed before, fewer swaps are needed than there are drawn inbound keepers, so that none of the best goes.
-- Assumes nothing.
use Prim.Native.Nat.{ℕ, ◌-◌, ◌≤◌, ◌<◌}
use native.Mathlib.Omega.{arith}
use mathlib.Core.Path.{◌≡◌, refl, sym, ap, ◌∙◌}
use mathlib.Core.Bool.{Bool, true, false, cond, false≢true}
use mathlib.Core.Logic.{◌⊎◌, inl, inr, ⊎_elim}
use mathlib.Core.List.{List}
use lib.ListN.{length, get_or, replicate, length-replicate}
use lib.Dec.{ltb}
use borrow.Author.Tests.{ltb-true}
use Rattle.index.proofs.Flags.{by_test}
use Rattle.sets.specs.Sets.{at, Sub, size}
use Rattle.sets.proofs.CountLaws.{fill_sub}
use Rattle.sets.proofs.SetLaws.{at_none}
use Rattle.mesh.specs.Maintenance.{the_best, keepers, swapped, mesh3, Rules, Whole}
use Rattle.mesh.specs.declared.Degrees.{Degrees}
use Rattle.mesh.specs.Maintenance.{View}
use Rattle.sets.proofs.BestLaws.{Pushed, Chosen, chosen}
use Rattle.sets.proofs.SwapLaws.{outbound_stays, best_stays, drawn_stayed, same_swaps, keepers_split, inbound_pushed}
use Rattle.mesh.proofs.MaintenanceLaws.{len_best, sub_best, len_keepers, sub_keepers, upper_keepers, lower_keepers}

-- v with other scores and candidates
abbrev pub again : View → List ℕ → List Bool → View
again v sc c =
    record { members = v.members; candidates = c; outbound = v.outbound; scores = sc; permutation = v.permutation; ask = v.ask }

module _
    (n : ℕ) (t : Degrees) (v : View) (sc' : List ℕ) (c' : List Bool) (ru : Rules t) (w : Whole n v) (w' : Whole n (again v sc' c'))
    (x : ℕ) (low : x < n)
    (same : (s : ℕ) → (s ≡ x → ⊥) → get_or sc' s 0 ≡ get_or v.scores s 0)
    (no_less : get_or v.scores x 0 ≤ get_or sc' x 0)
    (m : List Bool) (lm : length m ≡ n) where
  abbrev v' : View
  v' = again v sc' c'

  best_chosen : Chosen x (the_best n t v m) (the_best n t v' m)
  unfolding the_best
  best_chosen =
      chosen n x low v.scores sc' same no_less m v.permutation t.score (replicate n false) (length-replicate n false) (at_none n x)

  module _ (over : t.hi < size m) where
    abbrev b : List Bool
    b = the_best n t v m

    abbrev b' : List Bool
    b' = the_best n t v' m

    abbrev k : List Bool
    k = keepers t v m b

    abbrev k' : List Bool
    k' = keepers t v' m b'

    keeps_best : (b : List Bool) → Sub b (keepers t v m b)
    unfolding keepers
    keeps_best b = fill_sub m v.permutation (t.d - size b) b

    lk : length k ≡ n
    lk = len_keepers n t v ru w m lm over

    lk' : length k' ≡ n
    lk' = len_keepers n t v' ru w' m lm over

    sk : Sub k m
    sk = sub_keepers n t v ru w m lm over

    sk' : Sub k' m
    sk' = sub_keepers n t v' ru w' m lm over

    -- the same best: the same swaps
    same_kept : b' ≡ b → (at (swapped n t v m b) x ≡ true) ⊎ (at m x ≡ false) → swapped n t v' m b' ≡ swapped n t v m b
    unfolding swapped keepers
    same_kept e safe =
        ap (swapped n t v' m) e
        ∙ same_swaps n t.out x low v.scores sc' same no_less v.outbound v.permutation m b w.outbound lm w.permutation
        t.out
        k
        lk
        sk
        safe

    -- x is new among the best: drawn inbound keepers are left to go before it
    new_kept : Pushed x b b' → at (swapped n t v m b) x ≡ true → at (swapped n t v' m b') x ≡ true
    unfolding swapped keepers
    new_kept pu a =
        by_test _ (at v.outbound x)
        (λ o.
        outbound_stays n t.out sc' v.outbound v.permutation m b' w.outbound lm w.permutation x o t.out k' lk' sk'
        (keeps_best b' x pu.new))
        (λ o.
        let s = keepers_split v.outbound b k (keeps_best b) in
        let s' = keepers_split v.outbound b' k' (keeps_best b') in
        let u = upper_keepers n t v ru w m lm over in
        let l = lower_keepers n t v' ru w' m lm over in
        let p =
        inbound_pushed v.outbound b b' x (len_best n t v ru w m lm over ∙ sym (len_best n t v' ru w' m lm over)) pu.rest in
        best_stays n t.out sc' v.outbound v.permutation m b' w.outbound lm w.permutation x pu.new t.out k' lk' sk'
        (⊎_elim (λ h. inl (omega arith)) (λ h. inr (omega arith))
        (drawn_stayed n t.out v.scores v.outbound v.permutation m b w.outbound lm w.permutation x pu.old o t.out k
        lk sk
        (omega arith)
        a))
        (keeps_best b' x pu.new))

  pub kept3 : at (mesh3 n t v m) x ≡ true → at (mesh3 n t v' m) x ≡ true
  unfolding mesh3
  kept3 = go (ltb t.hi (size m)) refl
    where
      go :
          (c : Bool) →
          ltb t.hi (size m) ≡ c →
          at (cond c (swapped n t v m (the_best n t v m)) m) x ≡ true →
          at (cond c (swapped n t v' m (the_best n t v' m)) m) x ≡ true
      go false e a = a
      go true e a =
          let over = ltb-true t.hi (size m) e in
          ⊎_elim
          (λ q. ap (λ (z : List Bool). at z x) (same_kept over q (inl a)) ∙ a)
          (λ pu. new_kept over pu a)
          best_chosen

  -- the score of a slot that is no member does not matter
  pub same3 : at m x ≡ false → mesh3 n t v' m ≡ mesh3 n t v m
  unfolding mesh3
  same3 out = go (ltb t.hi (size m)) refl
    where
      go :
          (c : Bool) →
          ltb t.hi (size m) ≡ c →
          cond c (swapped n t v' m (the_best n t v' m)) m ≡ cond c (swapped n t v m (the_best n t v m)) m
      go false e = refl
      go true e =
          let over = ltb-true t.hi (size m) e in
          ⊎_elim
          (λ q. same_kept over q (inr out))
          (λ pu. absurd (false≢true (sym out ∙ sub_best n t v' ru w' m lm over x pu.new)))
          best_chosen
