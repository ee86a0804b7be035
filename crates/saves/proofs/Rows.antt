-- A saved record's numbers: how many they are, and that they are within the ranges that a load asks with the same sheet.
-- Assumes nothing.
use Prim.{tt}
use Prim.Native.Nat.{ℕ, ◌+◌, ◌*◌, ◌-◌, ◌/◌, ◌<◌, ◌≤◌}
use native.Mathlib.Omega.{arith}
use mathlib.Core.Path.{◌≡◌, refl, sym, ap, ◌∙◌}
use mathlib.Core.Bool.{true, false}
use mathlib.Core.List.{List, [], ◌∷◌, map}
use borrow.Author.Tests.{eqb-true, eq-eqb, ne_eqb}
use lib.Dec.{eqb}
use Rattle.params.specs.declared.Params.{Params}
use lib.ListN.{length, get_or}
use Rattle.index.specs.Index.{gather}
use Rattle.index.proofs.Index.{both}
use Rattle.index.proofs.Flags.{cond_case}
use Rattle.varint.specs.Codes.{code_of}
use Rattle.params.proofs.ParamLaws.{general, topic}
use Rattle.records.specs.declared.Peer.{Peer}
use Rattle.records.specs.declared.TopicRecord.{TopicRecord}
use Rattle.records.specs.Records.{State, slot_count, topic_count, place, code_in, peer_in, topic_in, is_connected, is_retained}
use Rattle.validity.specs.Valid.{topic_param, cap2, cap3}
use Rattle.validity.proofs.ValidLaws.{Facts}
use Rattle.lookup.specs.Fresh.{fresh_state}
use Rattle.effects.specs.Effects.{retained_to, end_after, retain_seconds}
use Rattle.saves.specs.Save.{topic_row, row_of, as_left, is_saved, saved_row}
use Rattle.saves.specs.Load.{most_retain, most_backoff, most_of}
use Rattle.saves.proofs.Lists.{Each, each_gather, Below, below_gather}

pub length_row : (time : ℕ) (p : Peer) (topic : ℕ → TopicRecord) → length (row_of time p topic) ≡ 44
unfolding row_of topic_row gather
length_row time p topic = refl

pub length_saved : (st : State) (time s : ℕ) → length (saved_row st time s) ≡ 44
unfolding saved_row
length_saved st time s = length_row time (as_left st time (peer_in st s)) (λ t. topic_in st (place s t))

pub length_most : (st : State) → length (most_of st) ≡ 44
unfolding most_of gather
length_most st = refl

pub row_id : (st : State) (time s : ℕ) → get_or (saved_row st time s) 0 0 ≡ (peer_in st s).id
unfolding saved_row row_of as_left retained_to
row_id st time s =
    cond_case (λ (q : Peer). q.id ≡ (peer_in st s).id) (is_connected (peer_in st s)) _ (peer_in st s) (λ e. refl) (λ e. refl)

module _ (st : State) (f : Facts st) (t : ℕ) (h : t < topic_count) where
  cap2_most : cap2 st t ≤ 1000000
  unfolding topic_param code_in
  cap2_most = (topic st.codes f.params t h).p2_cap_most

  cap3_most : cap3 st t ≤ 1000000
  unfolding topic_param code_in
  cap3_most = (topic st.codes f.params t h).p3_cap_most

-- no range goes above 10^12
pub most_small : (st : State) → Facts st → Each (λ n. n ≤ 1000000000000) (most_of st)
unfolding most_of
most_small st f =
    let topics =
    each_gather (λ n. n ≤ 1000000000000) (λ t. cap2 st t ∷ cap3 st t ∷ 1000000000000 ∷ 1000000 ∷ most_backoff ∷ []) 8 (λ t k.
    let a = cap2_most st f t k in
    let b = cap3_most st f t k in
    (omega arith, (omega arith, (omega arith, (omega arith, (omega arith, tt)))))) in
    (omega arith, (omega arith, (omega arith, (omega arith, topics))))

-- a saved slot holds a record
pub saved_used : (st : State) (time s : ℕ) → is_saved st time s ≡ true → (peer_in st s).status ≡ 0 → ⊥
unfolding is_saved as_left
saved_used st time s e z =
    let q : is_retained (as_left st time (peer_in st s)) ≡ true = (both _ _ e).0 in
    let c : is_connected (peer_in st s) ≡ false = ap (λ (n : ℕ). eqb n 1) z in
    let r : eqb (peer_in st s).status 2 ≡ true = rw c at q in
    let y : (peer_in st s).status ≡ 2 = eqb-true _ _ r in
    omega arith

-- caps are those of the sheet
module _ (st : State) (params : Params) (same : st.codes ≡ map code_of params.numbers) (t : ℕ) where
  pub cap2_same : cap2 st t ≡ cap2 (fresh_state params) t
  unfolding topic_param code_in fresh_state
  cap2_same = ap (λ (l : List ℕ). (get_or l (19 + 16 * t + 6) 0 + 1) / 2) same

  pub cap3_same : cap3 st t ≡ cap3 (fresh_state params) t
  unfolding topic_param code_in fresh_state
  cap3_same = ap (λ (l : List ℕ). (get_or l (19 + 16 * t + 9) 0 + 1) / 2) same

module _
    (st : State)
    (f : Facts st)
    (params : Params)
    (same : st.codes ≡ map code_of params.numbers)
    (time : ℕ)
    (late : st.clock ≤ time)
    (s : ℕ)
    (h : s < slot_count)
  where
    abbrev left : Peer
    left = as_left st time (peer_in st s)

    left_same : (left.id ≡ (peer_in st s).id) × (left.p5 ≡ (peer_in st s).p5) × (left.p7 ≡ (peer_in st s).p7)
        × (left.backoff ≡ (peer_in st s).backoff)
    unfolding as_left retained_to
    left_same =
        cond_case
        (λ (q : Peer).
        (q.id ≡ (peer_in st s).id) × (q.p5 ≡ (peer_in st s).p5) × (q.p7 ≡ (peer_in st s).p7) × (q.backoff ≡ (peer_in st s).backoff))
        (is_connected (peer_in st s)) _ (peer_in st s) (λ e. (refl, refl, refl, refl)) (λ e. (refl, refl, refl, refl))

    left_retain : left.retain - time ≤ most_retain
    unfolding as_left retained_to code_in
    left_retain =
        cond_case (λ (q : Peer). q.retain - time ≤ most_retain) (is_connected (peer_in st s)) _ (peer_in st s)
        (λ e. let g = (general st.codes f.params).retain_most in omega arith)
        (λ e. let g = (f.peer s h).retain in omega arith)

    pub row_below : Below (saved_row st time s) (most_of (fresh_state params))
    unfolding saved_row row_of topic_row most_of
    row_below =
        let p = f.peer s h in
        let e = left_same in
        let topics =
        below_gather
        (λ t. topic_row (topic_in st (place s t)) (get_or left.backoff t 0 - time))
        (λ t. cap2 (fresh_state params) t ∷ cap3 (fresh_state params) t ∷ 1000000000000 ∷ 1000000 ∷ most_backoff ∷ [])
        5
        (λ t. refl)
        (λ t. refl)
        8
        (λ t k.
        let q = f.topic s t h k in
        let b = (f.peer s h).ends t k in
        let left : get_or left.backoff t 0 - time ≤ most_backoff = rw e.3 (omega arith) in
        (rw (← cap2_same st params same t) q.p2, (rw (← cap3_same st params same t) q.p3, (q.p3b, (q.p4, (left, tt)))))) in
        (rw e.0 p.id, (left_retain, (rw e.1 p.p5, (rw e.2 p.p7, topics))))

-- the two ends of `left_at`
module _ (st : State) (time : ℕ) (p : Peer) where
  pub left_connected : (q : Peer) (end : ℕ) → p.status ≡ 1 → q ≡ retained_to p end → end ≡ end_after time (retain_seconds st) →
      q ≡ as_left st time p
  unfolding as_left
  left_connected q end on e f = e ∙ ap (retained_to p) f ∙ sym (rw (eq-eqb p.status 1 on))

  pub left_other : (q : Peer) → (p.status ≡ 1 → ⊥) → q ≡ p → q ≡ as_left st time p
  unfolding as_left
  left_other q off e = e ∙ sym (rw (ne_eqb p.status 1 off))
