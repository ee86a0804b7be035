-- What a load of a save holds: slot k of the loaded router has the record of the k-th slot by id, since the numbers that are read there are
-- the row of that slot. Assumes nothing.
use Prim.Native.Nat.{ℕ, zero, suc, ◌+◌, ◌*◌, ◌-◌, ◌<◌}
use native.Mathlib.Omega.{arith}
use mathlib.Core.Path.{◌≡◌, refl, sym, ap, ◌∙◌}
use mathlib.Core.Logic.{◌⊎◌, inl, inr, ⊎_elim}
use mathlib.Core.Bool.{true}
use mathlib.Core.List.{List, [], ◌∷◌}
use borrow.Author.Tests.{lt-ltb, le-ltb}
use lib.ListN.{length, get_or}
use lib.Seq.{get_or-append-add}
use Rattle.index.specs.Index.{gather}
use Rattle.index.proofs.Flags.{by_order, cond_case}
use Rattle.params.specs.declared.Params.{Params}
use Rattle.records.specs.declared.Peer.{Peer}
use Rattle.records.specs.declared.TopicRecord.{TopicRecord}
use Rattle.records.specs.Records.{State, slot_count, place, no_peer, peer_in, topic_in, is_connected}
use Rattle.layout.specs.Rows.{tab}
use Rattle.rows.specs.Rows.{joins}
use Rattle.layout.proofs.RowLaws.{get_or_tab}
use Rattle.rows.proofs.RowLaws.{get_or_span}
use Rattle.effects.specs.Effects.{retained_to}
use Rattle.validity.specs.Valid.{valid}
use Rattle.validity.proofs.ValidLaws.{valid_facts}
use Rattle.saves.specs.Save.{topic_row, row_of, as_left, is_saved, saved_row, order, body_of}
use Rattle.saves.specs.Load.{end_from, loaded_peer, loaded_topic, row_at, loaded_state, loaded}
use Rattle.saves.specs.Promises.{Remembers, Remembered, SavesRemember}
use Rattle.saves.proofs.Lists.{each_at, get_or_gather, get_or_joins}
use Rattle.saves.proofs.Ordering.{In, Ordered, ordered, order_all}
use Rattle.saves.proofs.Rows.{length_saved, row_id, saved_used}
use Rattle.saves.proofs.LoadedState.{loaded_peer_lem, loaded_topic_lem}
use Rattle.saves.proofs.SaveLoads.{loads}
use Rattle.saves.proofs.Sheets.{sheet_passes}

-- what stands in a list stands at some place
in_at : (s : ℕ) (l : List ℕ) → In s l → (k : ℕ) × ((k < length l) × (get_or l k 0 ≡ s))
in_at s [] i = absurd i
in_at s (x ∷ l) i =
    ⊎_elim (λ e. (zero, (omega arith, sym e)))
    (λ m. let r = in_at s l m in (suc r.0, (let b = r.1.0 in omega arith, r.1.1)))
    i

-- ---- the columns of a saved row
module _ (st : State) (time s : ℕ) where
  abbrev left : Peer
  left = as_left st time (peer_in st s)

  column :
      (t i : ℕ) →
      t < 8 →
      i < 5 →
      get_or (saved_row st time s) (4 + (t * 5 + i)) 0 ≡ get_or (topic_row (topic_in st (place s t)) (get_or left.backoff t 0 - time)) i 0
  unfolding saved_row row_of topic_row
  column t i h b =
      get_or-append-add (left.id ∷ (left.retain - time) ∷ left.p5 ∷ left.p7 ∷ [])
      (gather 8 (λ k. topic_row (topic_in st (place s k)) (get_or left.backoff k 0 - time))) (t * 5 + i) 0
      ∙ get_or_gather (λ k. topic_row (topic_in st (place s k)) (get_or left.backoff k 0 - time)) 5 (λ k. refl) 8 t i h b

  front : (get_or (saved_row st time s) 1 0 ≡ left.retain - time) × (get_or (saved_row st time s) 2 0 ≡ (peer_in st s).p5)
      × (get_or (saved_row st time s) 3 0 ≡ (peer_in st s).p7) × (left.backoff ≡ (peer_in st s).backoff)
  unfolding saved_row row_of as_left retained_to
  front = (
    refl,
    cond_case (λ (q : Peer). q.p5 ≡ (peer_in st s).p5) (is_connected (peer_in st s)) _ (peer_in st s) (λ e. refl) (λ e. refl),
    cond_case (λ (q : Peer). q.p7 ≡ (peer_in st s).p7) (is_connected (peer_in st s)) _ (peer_in st s) (λ e. refl) (λ e. refl),
    cond_case (λ (q : Peer). q.backoff ≡ (peer_in st s).backoff) (is_connected (peer_in st s)) _ (peer_in st s) (λ e. refl) (λ e. refl),
  )

-- ---- a record that is loaded from such a row
module _
    (st : State)
    (time s clock : ℕ)
    (row : List ℕ)
    (same : (j : ℕ) → j < 44 → get_or row j 0 ≡ get_or (saved_row st time s) j 0)
    (u : State)
    (k : ℕ)
    (peer : peer_in u k ≡ loaded_peer clock row)
    (topic : (t : ℕ) → t < 8 → topic_in u (place k t) ≡ loaded_topic row t)
  where
    at_column :
        (t i j : ℕ) → t < 8 → i < 5 → j ≡ 4 + (t * 5 + i) →
        get_or row j 0 ≡ get_or (topic_row (topic_in st (place s t)) (get_or (as_left st time (peer_in st s)).backoff t 0 - time)) i 0
    at_column t i j h b e = same j (omega arith) ∙ ap (λ (n : ℕ). get_or (saved_row st time s) n 0) e ∙ column st time s t i h b

    retained : (clock + get_or row 1 0) - clock ≡ (as_left st time (peer_in st s)).retain - time
    retained = let e = same 1 (omega arith) ∙ (front st time s).0 in omega arith

    end_is : (t : ℕ) → t < 8 → get_or (tab 8 (λ i. end_from clock (get_or row (8 + i * 5) 0))) t 0
        ≡ end_from clock (get_or (peer_in st s).backoff t 0 - time)
    unfolding topic_row
    end_is t h =
        get_or_tab 8 (λ i. end_from clock (get_or row (8 + i * 5) 0)) t 0 h
        ∙ ap (end_from clock) (at_column t 4 (8 + t * 5) h (omega arith) (omega arith)
        ∙ ap (λ (b : List ℕ). get_or b t 0 - time) (front st time s).3)

    pub remembers : Remembers st time s u clock k
    unfolding loaded_peer loaded_topic topic_row
    remembers =
        record {
          status = ap (λ (p : Peer). p.status) peer;
          id = ap (λ (p : Peer). p.id) peer ∙ same 0 (omega arith) ∙ row_id st time s;
          p5 = ap (λ (p : Peer). p.p5) peer ∙ same 2 (omega arith) ∙ (front st time s).1;
          p7 = ap (λ (p : Peer). p.p7) peer ∙ same 3 (omega arith) ∙ (front st time s).2;
          retain = ap (λ (p : Peer). p.retain - clock) peer ∙ retained;
          ends = λ t h. ap (λ (p : Peer). get_or p.backoff t 0) peer ∙ end_is t h;
          p2 = λ t h.
              ap (λ (r : TopicRecord). r.p2) (topic t h) ∙ at_column t 0 (4 + t * 5) h (omega arith) (omega arith);
          p3 = λ t h.
              ap (λ (r : TopicRecord). r.p3) (topic t h) ∙ at_column t 1 (5 + t * 5) h (omega arith) (omega arith);
          p3b = λ t h.
              ap (λ (r : TopicRecord). r.p3b) (topic t h) ∙ at_column t 2 (6 + t * 5) h (omega arith) (omega arith);
          p4 = λ t h.
              ap (λ (r : TopicRecord). r.p4) (topic t h) ∙ at_column t 3 (7 + t * 5) h (omega arith) (omega arith);
        }

-- ---- the whole router
module _ (st : State) (v : valid st ≡ true) (p : Params) (time clock : ℕ) where
  abbrev slots : List ℕ
  slots = order st time

  abbrev count : ℕ
  count = length slots

  abbrev u : State
  u = loaded_state p clock count (body_of st time)

  in_order : Ordered st time slot_count slots
  in_order =
      let f = valid_facts st v in
      ordered st time (λ s h e. (f.peer s h).used (saved_used st time s e)) (λ s k h b. f.ids s k h b)

  slot_at : (k : ℕ) → k < count → (get_or slots k 0 < slot_count) × (is_saved st time (get_or slots k 0) ≡ true)
  slot_at k h = each_at _ slots in_order.slots k h

  row_same : (k : ℕ) → k < count → (j : ℕ) → j < 44 → get_or (row_at (body_of st time) k) j 0 ≡ get_or (saved_row st time (get_or slots k 0)) j 0
  unfolding body_of
  row_same k h j b =
      get_or_span (joins (saved_row st time) slots) (k * 44) 44 j b
      ∙ get_or_joins (saved_row st time) 44 (length_saved st time) slots 0 k j h b

  at_slot : (k : ℕ) → k < count → Remembers st time (get_or slots k 0) u clock k
  at_slot k h =
      let few = in_order.few in
      let b : k < slot_count = omega arith in
      remembers st time (get_or slots k 0) clock (row_at (body_of st time) k) (row_same k h) u k
      (loaded_peer_lem p clock count (body_of st time) k b ∙ rw (lt-ltb k count h))
      (λ t l. loaded_topic_lem p clock count (body_of st time) k t b l ∙ rw (lt-ltb k count h))

  pub held : Remembered st time u clock
  held =
      record {
        all = λ s h e.
            let r = in_at s slots (order_all st time s h e) in
            let few = in_order.few in
            let b = r.1.0 in
            (r.0, (omega arith, rw r.1.1 at (at_slot r.0 b)));
        only = λ k h.
            by_order
            ((peer_in u k ≡ no_peer) ⊎ ((s : ℕ) × ((s < slot_count) × ((is_saved st time s ≡ true) × Remembers st time s u clock k))))
            k
            count
            (λ b. inr (get_or slots k 0, ((slot_at k b).0, ((slot_at k b).1, at_slot k b))))
            (λ b. inl (loaded_peer_lem p clock count (body_of st time) k h ∙ rw (le-ltb k count b)));
      }

pub saves_remember : SavesRemember
saves_remember st p time clock u v sheet late early e =
    let q : loaded (loaded_state p clock (length (order st time)) (body_of st time)) ≡ loaded u =
    sym (loads st v p sheet.size (sheet_passes st p v sheet) sheet.codes time late clock early) ∙ e in
    let z : loaded_state p clock (length (order st time)) (body_of st time) ≡ u = cc in
    rw z at (held st v p time clock)
