-- What words by slot and a peer's score say of the rules' tests; and what the calls above make of these halves.
-- Assumes nothing.
use Rattle.std.proofs.Common.{Option, Some, None}
use Rattle.index.proofs.Kit.{ℕ, ◌*◌, ◌≤◌, ◌<◌, ◌≡◌, refl, sym, ap, ◌∙◌, Bool, true, false, not, arith, by_test}
use Prim.Native.Nat.{zero, suc, ◌/◌, ◌%◌}
use mathlib.Core.Path.{ap₂}
use mathlib.Core.Bool.{cond, ◌&&◌, ◌||◌, false≢true}
use mathlib.Core.List.{List}
use lib.Dec.{eqb, lit<}
use lib.IntN.{ℤ, pos, neg_ℤ, ◌*ℤ◌}
use lib.ListN.{length}
use lib.Signed.{lt_z}
use borrow.Author.Tests.{eq-eqb, ne_eqb}
use Rattle.varint.specs.Codes.{number_of, magnitude}
use Rattle.records.specs.declared.Peer.{Peer}
use Rattle.records.specs.Records.{State, slot_count, place, code_in, peer_in, topic_in, is_connected}
use Rattle.records.specs.Parameters.{gossip_threshold_at}
use Rattle.limits.specs.Limits.{limits, limit_at}
use Rattle.limits.proofs.FieldLaws.{loss_of}
use Rattle.params.proofs.ParamLaws.{general, within}
use Rattle.layout.specs.View.{bit_at}
use Rattle.validity.specs.Valid.{valid}
use Rattle.validity.proofs.ValidLaws.{valid_facts}
use Rattle.lookup.specs.Find.{find_connected}
use Rattle.score.specs.declared.Balance.{Balance}
use Rattle.score.specs.Sums.{below_of}
use Rattle.score.specs.Score.{Scores}
use Rattle.score.proofs.Differences.{neg_times, diff_neg}
use Rattle.score.proofs.SumLaws.{below_is}
use Rattle.words.specs.Words.{differs, bits_of}
use Rattle.sets.specs.Sets.{at, by_slot, size, both, except}
use Rattle.sets.proofs.SetLaws.{size_unset}
use Rattle.sets.proofs.SlotLaws.{slots_at}
use Rattle.sets.proofs.WalkLaws.{both_at, except_at}
use Rattle.effects.specs.Effects.{is_member, is_subscribed, reclaimable}
use Rattle.peer_score.proofs.ConnectedLaws.{flag_at}
use Rattle.rules.specs.declared.Sender.{Sender}
use Rattle.rules.specs.Step.{sender_in}
use Rattle.heartbeat.specs.Ready.{is_eligible}
use Rattle.gossip.specs.Notes.{Extended, note_in, holds}
use Rattle.gossip.specs.Step.{FullReply, refused_all, on_slot, of_sender, is_asked, is_heeded, is_relayed, under_gossip, is_target}
use Rattle.gossip_peers.specs.Peers.{is_found, is_known, is_noticed, is_listener, is_reached, is_low}
use Rattle.gossip_peers.proofs.SiftLaws.{flags_are, flags_same}

-- ---- senders
pub heeded_not : (st : State) (s : ℕ) (p : Peer) → p ≡ peer_in st s → (p.version ≡ 2 → ⊥) → false ≡ is_heeded st s
unfolding is_heeded
heeded_not st s p e n = sym (rw (← e, ne_eqb p.version 2 n))

pub heeded_is :
    (st : State) (s : ℕ) (p : Peer) (v : Sender) →
    p ≡ peer_in st s →
    p.version ≡ 2 →
    v ≡ sender_in st s →
    not v.graylisted ≡ is_heeded st s
unfolding is_heeded
heeded_is st s p v e n ev = rw (ev, ← e, eq-eqb p.version 2 n)

pub known_self : (st : State) (id : ℕ) → id ≡ 0 → true ≡ is_known st id
unfolding is_known
known_self st id e = sym (rw (eq-eqb id 0 e))

pub known_at : (st : State) (id s : ℕ) (f : Option ℕ) → (id ≡ 0 → ⊥) → f ≡ find_connected st id → f ≡ Some s → true ≡ is_known st id
unfolding is_known
known_at st id s f n e a = sym (rw (ne_eqb id 0 n, ← e, a))

pub known_none : (st : State) (id : ℕ) (f : Option ℕ) → (id ≡ 0 → ⊥) → f ≡ find_connected st id → f ≡ None → false ≡ is_known st id
unfolding is_known
known_none st id f n e a = sym (rw (ne_eqb id 0 n, ← e, a))

-- what a call does with a sender: 3 where it is not known
pub sender_is :
    (x : Extended) (id : ℕ) (r : FullReply) → of_sender x id r ≡ cond (is_known x.base id) r (refused_all 3 x)
unfolding is_known
sender_is x id r = go (eqb id 0) (find_connected x.base id)
  where
    go : (b : Bool) (f : Option ℕ) → cond b r (on_slot f (λ s. r) (refused_all 3 x)) ≡ cond (b || is_found f) r (refused_all 3 x)
    go true f = refl
    go false (Some s) = refl
    go false None = refl

-- ---- scores: the gossip threshold and its magnitude
abbrev gossip_size : State → ℕ
gossip_size st = magnitude (code_in st gossip_threshold_at)

pub gossip_most : (st : State) (n : ℕ) → valid st ≡ true → n ≡ gossip_size st → n ≤ 1000000000
unfolding code_in
gossip_most st n v e = omega (arith, e, (general st.codes (valid_facts st v).params).gossip_most)

gossip_is : (st : State) → valid st ≡ true → number_of (code_in st gossip_threshold_at) *ℤ pos 1000000 ≡ neg_ℤ (pos (gossip_size st * 1000000))
unfolding code_in limit_at limits
gossip_is st v =
    ap (λ (z : ℤ). z *ℤ pos 1000000)
    (sym (loss_of st.codes (within st.codes (valid_facts st v).params) 10 (lit< tt) 10 refl tt))
    ∙ neg_times (gossip_size st) 1000000
    ∙ sym (diff_neg (gossip_size st * 1000000))

module _ (st : State) (s : ℕ) (b : Balance) (scores : Scores st s b) (v : valid st ≡ true) (n : ℕ) (en : n ≡ gossip_size st) where
  pub low_of : (r : Bool) → r ≡ below_of b n → r ≡ is_low st s
  unfolding is_low
  low_of r er =
      er
      ∙ ap (λ (m : ℕ). below_of b m) en
      ∙ below_is b (gossip_size st)
      ∙ ap₂ (λ (x y : ℤ). lt_z x y) scores.score (sym (gossip_is st v))

  pub under_of : (p : Peer) (r : Bool) → p ≡ peer_in st s → r ≡ below_of b n → (eqb p.explicit 0 && r) ≡ under_gossip st s
  unfolding under_gossip is_low
  under_of p r ep er = ap₂ (λ (x : Peer) (y : Bool). eqb x.explicit 0 && y) ep (low_of r er)

-- ---- words by slot
pub either_is : (a b : Bool) → differs a (b && not a) ≡ (a || b)
either_is true true = refl
either_is true false = refl
either_is false true = refl
either_is false false = refl

-- the two bits of a version: 2 is the high one alone
version_two : (v : ℕ) → (eqb (v / 2) 1 && not (eqb (v % 2) 1)) ≡ eqb v 2
version_two zero = refl
version_two (suc zero) = refl
version_two (suc (suc zero)) = refl
version_two (suc (suc (suc zero))) = refl
version_two (suc (suc (suc (suc n)))) =
    rw (ne_eqb (suc (suc (suc (suc n))) / 2) 1 (λ z. omega arith), ne_eqb (suc (suc (suc (suc n)))) 2 (λ z. omega arith))

-- the low bit of a status
connected_bit : (n : ℕ) → n ≤ 2 → eqb (n % 2) 1 ≡ eqb n 1
connected_bit zero h = refl
connected_bit (suc zero) h = refl
connected_bit (suc (suc zero)) h = refl
connected_bit (suc (suc (suc n))) h = absurd (omega arith)

-- a flag by its word
flag_of : (w : List ℕ) (s n : ℕ) → length w ≡ 4 → s < slot_count → bit_at w 0 s ≡ n → at (bits_of w) s ≡ eqb n 1
flag_of w s n z h e = flag_at w s z h ∙ ap (λ (k : ℕ). eqb k 1) e

and_assoc : (a b c : Bool) → (a && b) && c ≡ a && (b && c)
and_assoc true b c = refl
and_assoc false b c = refl

module _ (st : State) (t s : ℕ) (h : s < slot_count) (m : List ℕ) (zm : length m ≡ 4)
    (bm : bit_at m 0 s ≡ (topic_in st (place s t)).member) where
  pub noticed_at :
      (w l : List ℕ) (mw r : List Bool) →
      length w ≡ 4 →
      length l ≡ 4 →
      bit_at w 0 s ≡ (peer_in st s).version / 2 →
      bit_at l 0 s ≡ (peer_in st s).version % 2 →
      mw ≡ both (bits_of m) (bits_of w) →
      r ≡ except mw (bits_of l) →
      at r s ≡ is_noticed st t s
  unfolding is_noticed is_member
  noticed_at w l mw r zw zl bw bl em er =
      ap (λ (y : List Bool). at y s) er
      ∙ except_at mw (bits_of l) s
      ∙ ap (λ (y : List Bool). at y s && not (at (bits_of l) s)) em
      ∙ ap (λ (b : Bool). b && not (at (bits_of l) s)) (both_at (bits_of m) (bits_of w) s)
      ∙ and_assoc (at (bits_of m) s) (at (bits_of w) s) (not (at (bits_of l) s))
      ∙ rw (flag_of m s _ zm h bm, flag_of w s _ zw h bw, flag_of l s _ zl h bl, version_two (peer_in st s).version)

  pub listener_at :
      (c u x : List ℕ) (ux cu r : List Bool) →
      (peer_in st s).status ≤ 2 →
      length c ≡ 4 →
      length u ≡ 4 →
      length x ≡ 4 →
      bit_at c 0 s ≡ (peer_in st s).status % 2 →
      bit_at u 0 s ≡ (topic_in st (place s t)).subscribed →
      bit_at x 0 s ≡ (peer_in st s).explicit →
      ux ≡ both (bits_of u) (bits_of x) →
      cu ≡ both (bits_of c) ux →
      ((k : ℕ) → at r k ≡ (at (bits_of m) k || at cu k)) →
      at r s ≡ is_listener st t s
  unfolding is_listener is_member
  listener_at c u x ux cu r ok zc zu zx bc bu bx eu ec er =
      er s
      ∙ ap (λ (y : List Bool). at (bits_of m) s || at y s) ec
      ∙ ap (λ (b : Bool). at (bits_of m) s || b) (both_at (bits_of c) ux s)
      ∙ ap (λ (y : List Bool). at (bits_of m) s || (at (bits_of c) s && at y s)) eu
      ∙ ap (λ (b : Bool). at (bits_of m) s || (at (bits_of c) s && b)) (both_at (bits_of u) (bits_of x) s)
      ∙ rw (
        flag_of m s _ zm h bm,
        flag_of c s _ zc h bc,
        flag_of u s _ zu h bu,
        flag_of x s _ zx h bx,
        connected_bit (peer_in st s).status ok,
      )

-- ---- the halves together
pub asked_are :
    (st : State) (t sender : ℕ) (all r : List Bool) →
    all ≡ by_slot slot_count (is_noticed st t) →
    r ≡ by_slot slot_count (λ s. at all s && not (eqb (peer_in st s).id sender)) →
    r ≡ by_slot slot_count (is_asked st t sender)
unfolding is_noticed is_asked
asked_are st t sender all r ea er =
    er
    ∙ flags_same _ (is_asked st t sender)
    (λ s h.
    ap (λ (y : List Bool). at y s && not (eqb (peer_in st s).id sender)) ea
    ∙ ap (λ (b : Bool). b && not (eqb (peer_in st s).id sender)) (slots_at false (is_noticed st t) slot_count s h)
    ∙ and_assoc (is_member st t s) (eqb (peer_in st s).version 2) (not (eqb (peer_in st s).id sender)))

pub reached_are :
    (st : State) (t sender : ℕ) (all r : List Bool) →
    all ≡ by_slot slot_count (is_listener st t) →
    r ≡ by_slot slot_count (λ s. at all s && not (eqb (peer_in st s).id sender)) →
    r ≡ by_slot slot_count (is_reached st t sender)
unfolding is_reached
reached_are st t sender all r ea er =
    er
    ∙ flags_same _ (is_reached st t sender)
    (λ s h.
    ap (λ (y : List Bool). at y s && not (eqb (peer_in st s).id sender)) ea
    ∙ ap (λ (b : Bool). b && not (eqb (peer_in st s).id sender)) (slots_at false (is_listener st t) slot_count s h))

-- who is sent a message: who is reached, and has not said that it holds the number
pub relayed_is :
    (x : Extended) (t sender n s : ℕ) →
    is_relayed x t sender n s ≡ is_reached x.base t sender s && not (holds (note_in x.gossip s) n)
unfolding is_relayed is_reached is_listener
relayed_is x t sender n s =
    sym (and_assoc (is_listener x.base t s) (not (eqb (peer_in x.base s).id sender)) (not (holds (note_in x.gossip s) n)))

-- a target: by words, then by its score
target_halves : (a b m e low : Bool) → a && (b && (not m && (e && not (e && low)))) ≡ (a && (b && (e && not m))) && not low
target_halves false b m e low = refl
target_halves true false m e low = refl
target_halves true true true true low = refl
target_halves true true true false low = refl
target_halves true true false true low = refl
target_halves true true false false low = refl

pub target_is : (st : State) (t s : ℕ) → is_target st t s ≡ is_eligible st t s && not (is_low st s)
unfolding is_target is_eligible under_gossip is_low
target_is st t s =
    target_halves (is_connected (peer_in st s)) (is_subscribed st t s) (is_member st t s) (eqb (peer_in st s).explicit 0) (is_low st s)

pub targets_are :
    (st : State) (t : ℕ) (all r : List Bool) →
    ((s : ℕ) → s < slot_count → at all s ≡ is_eligible st t s) →
    r ≡ by_slot slot_count (λ s. at all s && not (is_low st s)) →
    r ≡ by_slot slot_count (is_target st t)
targets_are st t all r ea er =
    er
    ∙ flags_same _ (is_target st t) (λ s h. ap (λ (b : Bool). b && not (is_low st s)) (ea s h) ∙ sym (target_is st t s))

-- nobody is left by the words
pub targets_none :
    (st : State) (t : ℕ) (all : List Bool) →
    length all ≡ slot_count →
    ((s : ℕ) → s < slot_count → at all s ≡ is_eligible st t s) →
    size all ≡ 0 →
    all ≡ by_slot slot_count (is_target st t)
targets_none st t all l ea z =
    flags_are all (is_target st t) l
    (λ s h.
    let e : at all s ≡ false = by_test _ (at all s) (λ o. absurd (omega (arith, size_unset all s o, z))) (λ o. o) in
    e ∙ sym (target_is st t s ∙ ap (λ (b : Bool). b && not (is_low st s)) (sym (ea s h) ∙ e)))

-- ---- who is reclaimable is retained
retained_bit : (n : ℕ) → (eqb (n / 2) 1 ≡ false) → eqb n 2 ≡ false
retained_bit zero e = refl
retained_bit (suc zero) e = refl
retained_bit (suc (suc zero)) e = absurd (false≢true (sym e))
retained_bit (suc (suc (suc n))) e = ne_eqb (suc (suc (suc n))) 2 (λ z. omega arith)

pub reclaimed_are :
    (st : State) (time : ℕ) (w : List ℕ) (r : List Bool) →
    length w ≡ 4 →
    ((s : ℕ) → s < slot_count → bit_at w 0 s ≡ (peer_in st s).status / 2) →
    r ≡ by_slot slot_count (λ s. at (bits_of w) s && reclaimable (peer_in st s) time) →
    r ≡ by_slot slot_count (λ s. reclaimable (peer_in st s) time)
unfolding reclaimable
reclaimed_are st time w r z bw er =
    er
    ∙ flags_same _ (λ s. reclaimable (peer_in st s) time)
    (λ s h.
    by_test _ (at (bits_of w) s)
    (λ o. ap (λ (b : Bool). b && reclaimable (peer_in st s) time) o)
    (λ o.
    let e = retained_bit (peer_in st s).status (sym (flag_of w s _ z h (bw s h)) ∙ o) in
    rw (o, e)))
