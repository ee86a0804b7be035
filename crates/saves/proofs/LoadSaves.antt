-- "Saving what was loaded, at the load's time, gives the same bytes if no record was reclaimable then."
-- Assumes nothing.
use Rattle.std.proofs.Common.{Some, None}
use Prim.{tt}
use Prim.Native.Nat.{ℕ, zero, suc, ◌+◌, ◌*◌, ◌-◌, ◌<◌, ◌≤◌}
use native.Mathlib.Omega.{arith}
use mathlib.Core.Path.{◌≡◌, refl, sym, ap, ◌∙◌}
use mathlib.Core.Bool.{true, false}
use mathlib.Core.List.{List, [], ◌∷◌, ◌++◌}
use native.Mathlib.Nat.{zero-add}
use borrow.Author.Tests.{eqb-true}
use lib.Dec.{eqb}
use Rattle.params.specs.declared.Params.{Params}
use lib.ListN.{length, get_or}
use Rattle.index.specs.Index.{first, iter, gather}
use Rattle.index.proofs.Flags.{by_test, by_order}
use Rattle.varint.specs.Groups.{encode}
use Rattle.params.specs.Check.{first_broken}
use Rattle.records.specs.declared.Peer.{Peer}
use Rattle.records.specs.declared.TopicRecord.{TopicRecord}
use Rattle.records.specs.Records.{State, slot_count, param_count, place, peer_in, topic_in}
use Rattle.layout.specs.Rows.{tab}
use Rattle.rows.specs.Rows.{span, joins}
use Rattle.layout.proofs.RowLaws.{length_tab, get_or_tab}
use Rattle.rows.proofs.RowLaws.{span_all}
use Rattle.validity.specs.Valid.{max_time}
use Rattle.lookup.specs.Fresh.{fresh_state}
use Rattle.effects.specs.Effects.{reclaimable}
use Rattle.saves.specs.Save.{row_size, edition, topic_row, row_of, as_left, is_saved, saved_row, placed, order, body_of, numbers_of}
use Rattle.saves.specs.Save.{bytes_of, save_of}
use Rattle.saves.specs.Load.{most_of, outside, end_from, loaded_peer, loaded_topic, row_at, loaded_state}
use Rattle.saves.specs.Promises.{SavesBack}
use Rattle.saves.proofs.Lists.{Each, gather_upto, joins_spans}
use Rattle.saves.proofs.Ordering.{insert_last}
use Rattle.saves.proofs.LoadedState.{peer_there, peer_none, topic_there, id_less}
use Rattle.saves.proofs.Opened.{opened_is}

-- ---- one record
left_back : (clock b : ℕ) → end_from clock b - clock ≡ b
unfolding end_from
left_back clock b =
    by_test (end_from clock b - clock ≡ b) (eqb b 0)
    (λ t. let z : b ≡ 0 = eqb-true b 0 t in rw t (omega arith))
    (λ t. rw t (omega arith))

-- a loaded record's numbers are those that it was loaded from
module _ (c : List ℕ) (at clock : ℕ) where
  abbrev row : List ℕ
  row = span c at 44

  topics_back :
      gather 8 (λ t. topic_row (loaded_topic row t) (get_or (loaded_peer clock row).backoff t 0 - clock))
      ≡ gather 8 (λ t. topic_row (loaded_topic row t) (get_or row (8 + t * 5) 0))
  unfolding loaded_peer
  topics_back =
      gather_upto 8 _ _ (λ t h.
      ap (topic_row (loaded_topic row t))
      (ap (λ (n : ℕ). n - clock) (get_or_tab 8 (λ i. end_from clock (get_or row (8 + i * 5) 0)) t 0 h)
      ∙ left_back clock (get_or row (8 + t * 5) 0)))

  plain : get_or row 0 0 ∷ get_or row 1 0 ∷ get_or row 2 0 ∷ get_or row 3 0
      ∷ gather 8 (λ t. topic_row (loaded_topic row t) (get_or row (8 + t * 5) 0)) ≡ row
  unfolding gather topic_row loaded_topic span
  plain = refl

  pub row_back : row_of clock (loaded_peer clock row) (loaded_topic row) ≡ row
  unfolding row_of loaded_peer
  row_back =
      let r : (clock + get_or row 1 0) - clock ≡ get_or row 1 0 = omega arith in
      ap (λ (n : ℕ). get_or row 0 0 ∷ n ∷ get_or row 2 0 ∷ get_or row 3 0
      ∷ gather 8 (λ t. topic_row (loaded_topic row t) (get_or (loaded_peer clock row).backoff t 0 - clock))) r
      ∙ ap (λ (m : List ℕ). get_or row 0 0 ∷ get_or row 1 0 ∷ get_or row 2 0 ∷ get_or row 3 0 ∷ m) topics_back
      ∙ plain

row_same :
    (time : ℕ) (p : Peer) (f g : ℕ → TopicRecord) → ((t : ℕ) → t < 8 → f t ≡ g t) → row_of time p f ≡ row_of time p g
unfolding row_of
row_same time p f g h =
    ap (λ (m : List ℕ). p.id ∷ (p.retain - time) ∷ p.p5 ∷ p.p7 ∷ m)
    (gather_upto 8 _ _ (λ t b. ap (λ (r : TopicRecord). topic_row r (get_or p.backoff t 0 - time)) (h t b)))

-- ---- the order
tab_last : (n : ℕ) (f : ℕ → ℕ) → tab n f ++ (f n ∷ []) ≡ tab (suc n) f
tab_last zero f = refl
tab_last (suc n) f = ap (λ (m : List ℕ). f zero ∷ m) (tab_last n (λ k. f (suc k)))

each_tab : (P : ℕ → Type 0) (n : ℕ) (f : ℕ → ℕ) → ((k : ℕ) → k < n → P (f k)) → Each P (tab n f)
each_tab P zero f h = tt
each_tab P (suc n) f h = (h zero (omega arith), each_tab P n (λ k. f (suc k)) (λ k b. h (suc k) (omega arith)))

module _
    (params : Params)
    (size : length params.numbers ≡ param_count)
    (ok : first_broken params ≡ None)
    (clock : ℕ)
    (early : clock ≤ max_time)
    (n : ℕ)
    (few : n ≤ slot_count)
    (l : List ℕ)
    (count : length l ≡ n * row_size)
    (pass : first (n * row_size) (outside (most_of (fresh_state params)) l) ≡ None)
    (none : (s : ℕ) → s < slot_count → reclaimable (peer_in (loaded_state params clock n l) s) clock ≡ false)
  where
    abbrev st : State
    st = loaded_state params clock n l

    there : (s : ℕ) → s < n → peer_in st s ≡ loaded_peer clock (row_at l s)
    there = peer_there params size ok clock early n few l pass

    saved : (s : ℕ) → s < n → is_saved st clock s ≡ true
    unfolding is_saved as_left loaded_peer
    saved s h =
        let r : reclaimable (loaded_peer clock (row_at l s)) clock ≡ false = rw (there s h) at (none s (omega arith)) in
        rw (there s h, r)

    unsaved : (s : ℕ) → s < slot_count → n ≤ s → is_saved st clock s ≡ false
    unfolding is_saved as_left
    unsaved s h b = rw (peer_none params size ok clock early n few l pass s h b)

    id_of : (s : ℕ) → s < n → (peer_in st s).id ≡ get_or (row_at l s) 0 0
    unfolding loaded_peer
    id_of s h = ap (λ (p : Peer). p.id) (there s h)

    upto : (m : ℕ) → m ≤ n → iter m (placed st clock) [] ≡ tab m (λ k. k)
    unfolding iter placed
    upto zero h = refl
    upto (suc m) h =
        rw (saved m (omega arith), upto m (omega arith))
        (insert_last st m (tab m (λ k. k))
        (each_tab _ m (λ k. k) (λ k b.
        let x = id_less params size ok clock early n few l pass m k (omega arith) b in
        let y = id_of m (omega arith) in
        let z = id_of k (omega arith) in
        omega arith))
        ∙ tab_last m (λ k. k))

    beyond : (m : ℕ) → n ≤ m → m ≤ slot_count → iter m (placed st clock) [] ≡ tab n (λ k. k)
    unfolding iter placed
    beyond zero b h = let e : 0 ≡ n = omega arith in ap (λ (k : ℕ). tab k (λ (i : ℕ). i)) e
    beyond (suc m) b h =
        by_order (iter (suc m) (placed st clock) [] ≡ tab n (λ k. k)) m n
        (λ c. let e : suc m ≡ n = omega arith in upto (suc m) c ∙ ap (λ (k : ℕ). tab k (λ (i : ℕ). i)) e)
        (λ c. rw (unsaved m h c) (beyond m c (omega arith)))

    order_is : order st clock ≡ tab n (λ k. k)
    unfolding order
    order_is = beyond slot_count few (omega arith)

    left_is : (k : ℕ) → k < n → as_left st clock (peer_in st k) ≡ loaded_peer clock (row_at l k)
    unfolding as_left loaded_peer
    left_is k h = rw (there k h)

    row_is : (k : ℕ) → k < n → saved_row st clock k ≡ span l (0 + k * 44) 44
    unfolding saved_row
    row_is k h =
        ap (λ (p : Peer). row_of clock p (λ t. topic_in st (place k t))) (left_is k h)
        ∙ row_same clock (loaded_peer clock (row_at l k)) (λ t. topic_in st (place k t)) (loaded_topic (row_at l k)) (λ t b.
        topic_there params size ok clock early n few l pass k t h b)
        ∙ row_back l (k * 44) clock
        ∙ ap (λ (m : ℕ). span l m 44) (sym (zero-add (k * 44)))

    body_is : body_of st clock ≡ l
    unfolding body_of
    body_is =
        ap (joins (saved_row st clock)) order_is
        ∙ joins_spans (saved_row st clock) l 44 n 0 (λ k. k) row_is
        ∙ ap (λ (k : ℕ). span l 0 k) (sym count)
        ∙ span_all l

    pub same_bytes_lem : save_of st clock ≡ bytes_of (edition ∷ n ∷ l)
    unfolding save_of numbers_of
    same_bytes_lem =
        ap (λ (m : List ℕ). bytes_of (edition ∷ length m ∷ body_of st clock)) order_is
        ∙ ap (λ (k : ℕ). bytes_of (edition ∷ k ∷ body_of st clock)) (length_tab n (λ (k : ℕ). k))
        ∙ ap (λ (m : List ℕ). bytes_of (edition ∷ n ∷ m)) body_is

-- ---- the whole
pub saves_back : SavesBack
unfolding bytes_of
saves_back fine params clock s st next size byte read e none =
    let o = opened_is params clock s byte st fine e in
    let q : Some (o.edition, o.next) ≡ Some (edition, next) = sym o.read ∙ read in
    let p : (o.edition, o.next) ≡ (edition, next) = cc in
    let z : o.edition ≡ edition = ap (λ (w : ℕ × ℕ). w.0) p in
    ap (λ (u : State). save_of u clock) o.state
    ∙ same_bytes_lem params size o.ok clock o.early o.n o.few o.numbers o.count o.pass (λ k h.
    sym (ap (λ (u : State). reclaimable (peer_in u k) clock) o.state) ∙ none k h)
    ∙ ap (λ (v : ℕ). encode v ++ (encode o.n ++ bytes_of o.numbers)) (sym z)
    ∙ sym o.bytes
