-- Empty records are right, and have no id: so test 12 may stop where the records end.
-- Assumes nothing.
use Prim.Native.Nat.{ℕ, ◌<◌, ◌≤◌}
use mathlib.Core.Path.{◌≡◌, refl, ap, ◌∙◌}
use mathlib.Core.Bool.{Bool, true, false, not, ◌&&◌}
use lib.Dec.{eqb}
use Rattle.index.specs.Index.{every}
use Rattle.index.proofs.Index.{every_at, every_by}
use Rattle.index.proofs.Flags.{by_order}
use Rattle.records.specs.declared.Peer.{Peer}
use Rattle.records.specs.Records.{State, no_peer, no_topic, joined_in, peer_in, slot_count, topic_count}
use Rattle.layout.specs.View.{EmptyFrom}
use Rattle.validity.specs.Valid.{peer_ok, topic_ok, topic_ok_at, slot_ok, apart, new_id, cap2, cap3}
use Rattle.validity.proofs.ValidLaws.{no_peer_lem, no_topic_lem, peer_holds, topic_holds}

module _ (st : State) (n : ℕ) (low : n ≤ slot_count) (e : EmptyFrom st n) where
  peer_right : (s : ℕ) → n ≤ s → s < slot_count → peer_ok st.clock (peer_in st s) ≡ true
  peer_right s l h = ap (peer_ok st.clock) (e.peer s l h) ∙ peer_holds st.clock no_peer (no_peer_lem st.clock)

  topic_right : (s t : ℕ) (status explicit : ℕ) → n ≤ s → s < slot_count → t < topic_count → topic_ok_at st s status explicit t ≡ true
  unfolding topic_ok_at
  topic_right s t status explicit l h k =
      ap (topic_ok status explicit (joined_in st t) st.clock (cap2 st t) (cap3 st t)) (e.topic s t l h k)
      ∙ topic_holds status explicit (joined_in st t) st.clock (cap2 st t) (cap3 st t) no_topic (no_topic_lem _ _ _ _ _ _)

  slot_right : (s : ℕ) → n ≤ s → s < slot_count → slot_ok st s ≡ true
  unfolding slot_ok
  slot_right s l h =
      rw (
        peer_right s l h,
        every_by (topic_ok_at st s (peer_in st s).status (peer_in st s).explicit) topic_count (λ t k. topic_right s t _ _ l h k),
      )

  pub slots_rest : every n (slot_ok st) ≡ true → every slot_count (slot_ok st) ≡ true
  slots_rest f =
      every_by (slot_ok st) slot_count (λ s h.
      by_order (slot_ok st s ≡ true) s n (λ (l : s < n). every_at (slot_ok st) n s f l) (λ (l : n ≤ s). slot_right s l h))

  none_apart : (b : ℕ) → apart 0 b ≡ true
  unfolding apart
  none_apart b = go (eqb b 0)
    where
      go : (x : Bool) → not (x && not (eqb 0 0)) ≡ true
      go true = refl
      go false = refl

  id_right : (s : ℕ) → n ≤ s → s < slot_count → new_id st s ≡ true
  unfolding new_id
  id_right s l h =
      every_by (λ k. apart (peer_in st s).id (peer_in st k).id) s (λ k m.
      ap (λ (p : Peer). apart p.id (peer_in st k).id) (e.peer s l h) ∙ none_apart (peer_in st k).id)

  pub ids_rest : every n (new_id st) ≡ true → every slot_count (new_id st) ≡ true
  ids_rest f =
      every_by (new_id st) slot_count (λ s h.
      by_order (new_id st s ≡ true) s n (λ (l : s < n). every_at (new_id st) n s f l) (λ (l : n ≤ s). id_right s l h))
