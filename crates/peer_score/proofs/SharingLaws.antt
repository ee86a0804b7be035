-- How many connected peers hold the group of a record, as the code asks it.
-- Assumes nothing.
use Prim.Native.Nat.{ℕ, zero, suc, ◌+◌, ◌-◌, ◌≤◌, ◌<◌}
use mathlib.Core.Path.{◌≡◌, refl, ap, ◌∙◌, sym}
use mathlib.Core.Bool.{Bool, false, ◌&&◌}
use native.Mathlib.Nat.{add-zero}
use native.Mathlib.Omega.{arith}
use lib.Dec.{eqb}
use borrow.Author.Tests.{eq-eqb, ne_eqb}
use Rattle.index.specs.Index.{one, count}
use Rattle.records.specs.declared.Groups.{Groups}
use Rattle.records.specs.Records.{State, slot_count, no_peer, peer_in, holds_group}
use Rattle.layout.specs.View.{EmptyFrom}
use Rattle.score.specs.Score.{shares_group, sharing, sharing_at}
use Rattle.score.proofs.SlotLaws.{shares_is, sharing_done}

module _ (st : State) (group : ℕ) where
  -- 0 is none
  pub none_at : group ≡ 0 → 0 ≡ sharing_at st group
  unfolding sharing_at
  none_at e = rw (eq-eqb group 0 e) refl

  pub some_at : (n : ℕ) → (group ≡ 0 → ⊥) → n ≡ sharing st group → n ≡ sharing_at st group
  unfolding sharing_at
  some_at n e p = rw (ne_eqb group 0 e) p

  -- one slot, of which status and groups are loaded
  pub shares_at :
      (slot status : ℕ) (g : Groups) (h b : Bool) →
      status ≡ (peer_in st slot).status →
      g ≡ (peer_in st slot).groups →
      h ≡ holds_group g group →
      eqb status 1 && h ≡ b →
      one b ≡ one (shares_group st group slot)
  shares_at slot status g h b p q r e =
      shares_is st group slot status g b p q (ap (λ (x : Bool). eqb status 1 && x) (sym r) ∙ e)

-- a test that holds of no index from r on
count_rest : (f : ℕ → Bool) (r k : ℕ) → ((s : ℕ) → r ≤ s → s < r + k → f s ≡ false) → count (r + k) f ≡ count r f
unfolding count
count_rest f r zero h = ap (λ n. count n f) (let e : r + 0 ≡ r = omega arith in e)
count_rest f r (suc k) h =
    let e : r + suc k ≡ suc (r + k) = omega arith in
    ap (λ n. count n f) e
    ∙ rw (h (r + k) (omega arith) (omega arith)) (add-zero (count (r + k) f))
    ∙ count_rest f r k (λ s l b. h s l (omega arith))

-- nobody shares a group in an empty slot
none_shares : (st : State) (group s : ℕ) → peer_in st s ≡ no_peer → shares_group st group s ≡ false
unfolding shares_group
none_shares st group s e = rw e

pub sharing_rest :
    (st : State) (group r i n : ℕ) →
    r ≤ slot_count →
    EmptyFrom st r →
    i ≤ r →
    r ≤ i →
    n ≡ count i (shares_group st group) →
    n ≡ sharing st group
sharing_rest st group r i n l e a b p =
    let j : i ≡ r = omega arith in
    let k : r + (slot_count - r) ≡ slot_count = omega arith in
    let q : n ≡ count slot_count (shares_group st group) =
    p
    ∙ ap (λ m. count m (shares_group st group)) j
    ∙ sym (count_rest (shares_group st group) r (slot_count - r) (λ s h d. none_shares st group s (e.peer s h (omega arith))))
    ∙ ap (λ m. count m (shares_group st group)) k in
    sharing_done st group slot_count n (omega arith) (omega arith) q
