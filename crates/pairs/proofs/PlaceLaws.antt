-- Places: to stand before another is to have the lower place, so the rank by places is the rank.
-- Assumes nothing.
use Prim.Native.Nat.{ℕ, suc, ◌+◌, ◌-◌, ◌≤◌, ◌<◌}
use native.Mathlib.Omega.{arith}
use mathlib.Core.Path.{◌≡◌, refl, sym, ap, ap₂, ◌∙◌}
use mathlib.Core.Bool.{Bool, true, false, ◌&&◌, ◌||◌}
use mathlib.Core.List.{List, [], ◌∷◌}
use lib.ListN.{length, get_or, set, drop, drop_of_length-le, replicate, get_or-replicate}
use lib.Seq.{ext_get_or, get_or-set_same, get_or-set_other}
use lib.Dec.{ltb, eqb}
use borrow.Author.Tests.{lt-ltb, le-ltb, eqb-true, eqb-false}
use Rattle.index.proofs.Index.{count_same}
use Rattle.index.proofs.Flags.{by_test, by_order}
use Rattle.index.proofs.Lists.{Built, built_done}
use Rattle.sets.specs.Sets.{by_slot, at}
use Rattle.sets.proofs.Loops.{drop_step}
use Rattle.sets.proofs.SlotLaws.{slots_length, slots_at}
use Rattle.pairs.specs.Pairs.{earlier, rank, by_pairs, place, rank_by}

place_here : (x s : ℕ) (r : List ℕ) → eqb x s ≡ true → place (x ∷ r) s ≡ 0
unfolding place
place_here x s r e = rw e

place_later : (x s : ℕ) (r : List ℕ) → eqb x s ≡ false → place (x ∷ r) s ≡ suc (place r s)
unfolding place
place_later x s r e = rw e

earlier_place : (r : List ℕ) (a c : ℕ) → earlier r a c ≡ ltb (place r a) (place r c)
unfolding earlier place
earlier_place [] a c = refl
earlier_place (x ∷ r) a c =
    by_test _ (eqb x c)
    (λ e. rw e (sym (le-ltb (place (x ∷ r) a) 0 (omega arith))))
    (λ e.
    by_test _ (eqb x a)
    (λ f. rw (e, f) (sym (lt-ltb 0 (suc (place r c)) (omega arith))))
    (λ f. rw (e, f) (earlier_place r a c ∙ both_later (place r a) (place r c))))
  where
    both_later : (a b : ℕ) → ltb a b ≡ ltb (suc a) (suc b)
    both_later a b =
        by_order _ a b
        (λ h. lt-ltb a b h ∙ sym (lt-ltb (suc a) (suc b) (omega arith)))
        (λ h. le-ltb a b h ∙ sym (le-ltb (suc a) (suc b) (omega arith)))

-- ---- the rank
rank_places :
    (n : ℕ) (sc : List ℕ) (m : List Bool) (order places : List ℕ) (s : ℕ) →
    s < n →
    places ≡ by_slot n (place order) →
    rank_by n sc m places (get_or sc s 0) (get_or places s 0) ≡ rank n sc m order s
rank_places n sc m order places s h e =
    let stands : (a : ℕ) → a < n → get_or places a 0 ≡ place order a =
    λ a l. ap (λ (p : List ℕ). get_or p a 0) e ∙ slots_at 0 (place order) n a l in
    count_same _ _ n
    (λ a l.
    ap
    (λ (t : Bool). at m a && (ltb (get_or sc s 0) (get_or sc a 0) || (eqb (get_or sc a 0) (get_or sc s 0) && t)))
    (ap₂ ltb (stands a l) (stands s h) ∙ sym (earlier_place order a s)))

-- the loop that compares a slot with all: of a slot's score and place, whether fewer than k come before it
abbrev pub keeps : ℕ → List ℕ → List Bool → List ℕ → ℕ → ℕ → Bool
keeps n sc m places k s = at m s && ltb (rank_by n sc m places (get_or sc s 0) (get_or places s 0)) k

pub pairs_built :
    (n : ℕ) (sc : List ℕ) (m : List Bool) (order places : List ℕ) (k i : ℕ) (r : List Bool) →
    places ≡ by_slot n (place order) →
    n ≤ i →
    Built false (keeps n sc m places k) n i r →
    r ≡ by_pairs n sc m order k
unfolding by_pairs
pairs_built n sc m order places k i r e h b =
    let f : ℕ → Bool = λ s. at m s && ltb (rank n sc m order s) k in
    built_done false (keeps n sc m places k) n i r (by_slot n f) h b (slots_length n f)
    (λ s l. slots_at false f n s l ∙ ap (λ (j : ℕ). at m s && ltb j k) (sym (rank_places n sc m order places s l e)))

-- ---- filled from the back: each slot has its place in the order from i on
abbrev pub Placed : ℕ → List ℕ → ℕ → List ℕ → Type 0
Placed n order i r = (s : ℕ) → s < n → get_or r s 0 ≡ i + place (drop i order) s

pub placed_none : (n : ℕ) (order : List ℕ) → length order ≡ n → Placed n order n (replicate n n)
unfolding place
placed_none n order l s h = rw (drop_of_length-le order {i = n} (omega arith), get_or-replicate n s n 0 h) (omega arith)

pub placed_all : (n : ℕ) (order r : List ℕ) → length r ≡ n → Placed n order 0 r → r ≡ by_slot n (place order)
placed_all n order r l p =
    ext_get_or 0 r (by_slot n (place order)) (l ∙ sym (slots_length n (place order)))
    (λ s h. let e = p s (omega arith) in let q = slots_at 0 (place order) n s (omega arith) in omega arith)

pub placed_more :
    (n : ℕ) (order : List ℕ) (i : ℕ) (r : List ℕ) →
    0 < i →
    i ≤ length order →
    length r ≡ n →
    Placed n order i r →
    Placed n order (i - 1) (set r (get_or order (i - 1) 0) (i - 1))
placed_more n order i r z h l p s b =
    let j = i - 1 in
    let x = get_or order j 0 in
    let rest = drop (j + 1) order in
    let step = ap (λ (t : List ℕ). place t s) (drop_step 0 order j (omega arith)) in
    let same = ap (λ (k : ℕ). place (drop k order) s) (let q : i ≡ j + 1 = omega arith in q) in
    let o = p s b in
    by_test _ (eqb x s)
    (λ e.
    let y = place_here x s rest e in
    let g = ap (λ (k : ℕ). get_or (set r k j) s 0) (eqb-true x s e) ∙ get_or-set_same r s j 0 (omega arith) in
    omega arith)
    (λ e.
    let y = place_later x s rest e in
    let g = get_or-set_other r x s j 0 (λ f. eqb-false x s e (sym f)) in
    omega arith)
