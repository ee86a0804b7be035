-- Laws of the searches: where they end.
-- Assumes nothing.
use Rattle.std.proofs.Common.{Option, Some, None}
use Rattle.std.specs.Option.{MatchOption}
use Prim.Native.Nat.{zero, suc}
use native.Mathlib.Numerals.{add-one}
use Rattle.index.proofs.Kit.{ℕ, ◌<◌, ◌≤◌, ◌≡◌, refl, sym, ap, ◌∙◌, Bool, true, false, arith, first, by_test}
use borrow.Author.Tests.{eqb-true, eqb-false, eq-eqb}
use lib.Dec.{eqb}
use Rattle.index.proofs.Index.{both, first_none, first_more, first_out, first_is, first_passed}
use Rattle.records.specs.Records.{State, peer_in, is_empty, slot_count}
use Rattle.lookup.specs.Find.{holds, find_connected, find_retained, lowest_empty}
use Rattle.validity.proofs.ValidLaws.{Facts}
use Rattle.validity.proofs.Keeps.{ids_apart}

-- what `find` says of the numbers below n is the first of them
module _ (f : ℕ → Bool) where
  first_clear : (n : ℕ) → ((k : ℕ) → k < n → f k ≡ false) → first n f ≡ None
  first_clear zero h = first_none f
  first_clear (suc n) h = rw (← add-one n) (first_more f n (first_clear n (λ k l. h k (omega arith))) (h n (omega arith)))

  pub first_found :
      (n : ℕ) (r : Option ℕ) →
      MatchOption r ((k : ℕ) → 0 ≤ k → k < n → f k ≡ false)
      (λ i. (0 ≤ i) × (i < n) × (f i ≡ true) × ((k : ℕ) → 0 ≤ k → k < i → f k ≡ false)) →
      r ≡ first n f
  first_found n None h = sym (first_clear n (λ k l. h k (omega arith) l))
  first_found n (Some i) h = first_out f n i h.1 (first_clear i (λ k l. h.3 k (omega arith) l)) h.2

module _ (st : State) where
  -- what a found slot holds
  pub holds_parts : (status id s : ℕ) → holds st status id s ≡ true → ((peer_in st s).status ≡ status) × ((peer_in st s).id ≡ id)
  unfolding holds
  holds_parts status id s e =
      let q = both (eqb (peer_in st s).status status) (eqb (peer_in st s).id id) e in
      (eqb-true (peer_in st s).status status q.0, eqb-true (peer_in st s).id id q.1)

  found_at :
      (status id s : ℕ) → first slot_count (holds st status id) ≡ Some s →
      (s < slot_count) × ((peer_in st s).status ≡ status) × ((peer_in st s).id ≡ id)
  found_at status id s e =
      let q = first_is (holds st status id) slot_count s e in
      let r = holds_parts status id s q.1 in
      (q.0, r.0, r.1)

  pub connected_at : (id s : ℕ) → find_connected st id ≡ Some s → (s < slot_count) × ((peer_in st s).status ≡ 1) × ((peer_in st s).id ≡ id)
  unfolding find_connected
  connected_at id s e = found_at 1 id s e

  pub retained_at : (id s : ℕ) → find_retained st id ≡ Some s → (s < slot_count) × ((peer_in st s).status ≡ 2) × ((peer_in st s).id ≡ id)
  unfolding find_retained
  retained_at id s e = found_at 2 id s e

  pub empty_at : (s : ℕ) → lowest_empty st ≡ Some s → (s < slot_count) × ((peer_in st s).status ≡ 0)
  unfolding lowest_empty
  empty_at s e =
      let q = first_is (λ k. is_empty (peer_in st k)) slot_count s e in
      (q.0, eqb-true (peer_in st s).status 0 q.1)

  -- what holds of every slot where nothing was found
  none_holds :
      (status id : ℕ) → first slot_count (holds st status id) ≡ None → (s : ℕ) → s < slot_count → (peer_in st s).status ≡ status →
      (peer_in st s).id ≡ id → ⊥
  unfolding holds
  none_holds status id e s h p q =
      let f : holds st status id s ≡ false = first_passed (holds st status id) slot_count e s h in
      let t : holds st status id s ≡ true = rw (eq-eqb (peer_in st s).status status p, eq-eqb (peer_in st s).id id q) in
      let z : ◌≡◌ {A = ℕ} 0 1 = cc in
      omega arith

  pub none_connected :
      (id : ℕ) → find_connected st id ≡ None → (s : ℕ) → s < slot_count → (peer_in st s).status ≡ 1 → (peer_in st s).id ≡ id → ⊥
  unfolding find_connected
  none_connected id e = none_holds 1 id e

  pub none_retained : (id : ℕ) → find_retained st id ≡ None → (s : ℕ) → s < slot_count → (peer_in st s).status ≡ 2 → (peer_in st s).id ≡ id → ⊥
  unfolding find_retained
  none_retained id e = none_holds 2 id e

  pub none_empty : lowest_empty st ≡ None → (s : ℕ) → s < slot_count → (peer_in st s).status ≡ 0 → ⊥
  unfolding lowest_empty
  none_empty e s h = eqb-false (peer_in st s).status 0 (first_passed (λ k. is_empty (peer_in st k)) slot_count e s h)

-- in a router's tables the search for a connected record's id finds its slot
pub connected_is : (st : State) → Facts st → (s : ℕ) → s < slot_count → (peer_in st s).status ≡ 1 → find_connected st (peer_in st s).id ≡ Some s
connected_is st f s h c = go (find_connected st (peer_in st s).id) refl
  where
    used : 1 ≤ (peer_in st s).id
    used = (f.peer s h).used (λ z. omega arith)

    same : (k : ℕ) → find_connected st (peer_in st s).id ≡ Some k → k ≡ s
    same k e =
        let q = connected_at st (peer_in st s).id k e in
        by_test (k ≡ s) (eqb k s) (eqb-true k s) (λ n. absurd (omega (arith, used, ids_apart st f s k h q.0 (eqb-false k s n) q.2)))

    go : (g : Option ℕ) → find_connected st (peer_in st s).id ≡ g → find_connected st (peer_in st s).id ≡ Some s
    go (Some k) e = e ∙ ap Some (same k e)
    go None e = absurd (none_connected st (peer_in st s).id e s h c refl)
