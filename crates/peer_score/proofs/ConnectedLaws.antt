-- A flag of all slots as words, and the walk over the connected ones: the slots between two of them count nothing.
-- Assumes nothing.
use Prim.Native.Nat.{ℕ, zero, suc, ◌+◌, ◌/◌, ◌%◌, ◌^◌, ◌≤◌, ◌<◌}
use native.Mathlib.Omega.{arith}
use mathlib.Core.Path.{◌≡◌, refl, sym, ap, ◌∙◌}
use mathlib.Core.Bool.{true, false, false≢true}
use mathlib.Core.List.{List}
use lib.ListN.{length, get_or}
use lib.Dec.{eqb}
use borrow.Author.Tests.{eqb-true, eq-eqb, ne_eqb}
use Rattle.index.proofs.Flags.{by_order}
use Rattle.records.specs.Records.{State, slot_count, topic_count, place, peer_in, topic_in}
use Rattle.records.specs.declared.TopicRecord.{TopicRecord}
use Rattle.layout.specs.View.{bit_at, Bare}
use Rattle.validity.specs.Valid.{valid}
use Rattle.validity.proofs.ValidLaws.{valid_facts}
use Rattle.words.specs.Words.{word_bits, bits_of, Next}
use Rattle.words.proofs.BitLaws.{bits_at}
use Rattle.words.proofs.WideLaws.{at_slot}
use Rattle.peer_score.specs.Buckets.{TellsOf, below, pairs}
use Rattle.peer_score.proofs.BucketLaws.{below_off, sum_nothing}
use Rattle.peer_score.proofs.IdleLaws.{Idle, idle_share}
use Rattle.score.specs.Sums.{no_balance, sum_of}
use Rattle.score.specs.Score.{topic_params_in, share_at}

-- the flag of a slot is its bit
pub flag_at : (r : List ℕ) (s : ℕ) → length r ≡ 4 → s < slot_count → get_or (bits_of r) s false ≡ eqb (bit_at r 0 s) 1
unfolding bit_at
flag_at r s z l =
    let e : 0 + s / word_bits ≡ s / word_bits = omega arith in
    sym (at_slot r s (omega arith))
    ∙ bits_at (s % word_bits) word_bits (get_or r (s / word_bits) 0) (omega arith)
    ∙ ap (λ (n : ℕ). eqb (get_or r n 0 / 2 ^ (s % word_bits) % 2) 1) (sym e)

-- the connected peers of a router
module _ (st : State) (ok : valid st ≡ true) (r : List ℕ) (z : length r ≡ 4)
    (bits : (s : ℕ) → s < slot_count → bit_at r 0 s ≡ (peer_in st s).status % 2) (s : ℕ) (h : s < slot_count) where
  pub connected_on : get_or (bits_of r) s false ≡ true → (peer_in st s).status ≡ 1
  connected_on e =
      let b = eqb-true (bit_at r 0 s) 1 (sym (flag_at r s z h) ∙ e) in
      let q = bits s h in
      let m = ((valid_facts st ok).peer s h).status in
      omega arith

  pub connected_off : get_or (bits_of r) s false ≡ false → (peer_in st s).status ≡ 1 → ⊥
  connected_off e o =
      let q = bits s h in
      let b : bit_at r 0 s ≡ 1 = omega arith in
      false≢true (sym e ∙ flag_at r s z h ∙ eq-eqb (bit_at r 0 s) 1 b)

-- ---- the walk
module _ (st : State) (heads same others : List ℕ) where
  below_skip :
      (i j : ℕ) →
      i ≤ j →
      ((s : ℕ) → i ≤ s → s < j → (peer_in st s).status ≡ 1 → ⊥) →
      TellsOf (below st i) (pairs i) heads same others →
      TellsOf (below st j) (pairs j) heads same others
  below_skip i zero l off t = let e : i ≡ 0 = omega arith in rw e at t
  below_skip i (suc j) l off t =
      by_order (TellsOf (below st (suc j)) (pairs (suc j)) heads same others) j i
      (λ (k : j < i). let e : i ≡ suc j = omega arith in rw e at t)
      (λ (k : i ≤ j).
      let u = below_skip i j k (λ s a b. off s a (omega arith)) t in
      let e : j + 1 ≡ suc j = omega arith in
      rw e at (below_off st j heads same others (peer_in st j).status refl (off j k (omega arith)) u))

  -- up to the next connected slot nothing is counted
  pub below_next :
      (ok : valid st ≡ true) (r : List ℕ) (z : length r ≡ 4) →
      ((s : ℕ) → s < slot_count → bit_at r 0 s ≡ (peer_in st s).status % 2) →
      (i j : ℕ) →
      Next (bits_of r) i j →
      TellsOf (below st i) (pairs i) heads same others →
      TellsOf (below st j) (pairs j) heads same others
  below_next ok r z bits i j n t =
      let m = n.most in
      below_skip i j n.later (λ s a b. connected_off st ok r z bits s (omega arith) (n.none s a b)) t

-- ---- a slot of which nothing is counted has no share of any topic
bare_idle : (r : TopicRecord) → Bare r → Idle r
bare_idle r b =
    record { p2 = b.p2; p3 = b.p3; p4 = b.p4; p3b = b.p3b; member = ne_eqb r.member 1 (λ e. let z = b.member in omega arith) }

pub bare_topics :
    (st : State) (s : ℕ) → ((t : ℕ) → t < topic_count → Bare (topic_in st (place s t))) → no_balance ≡ sum_of topic_count (share_at st s)
unfolding share_at
bare_topics st s h =
    sym
    (sum_nothing (share_at st s) topic_count
    (λ t l. sym (idle_share (topic_params_in st t) (topic_in st (place s t)) (bare_idle (topic_in st (place s t)) (h t l)))))
