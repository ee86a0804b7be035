-- What storing comes to at each of its ends, and what a heartbeat makes of the array.
-- Assumes nothing.
use Rattle.index.proofs.Kit.{ℕ, ◌+◌, ◌*◌, ◌≡◌, refl, ap, ◌∙◌, Bool, true, false, not, arith}
use mathlib.Core.Bool.{cond, ◌&&◌}
use mathlib.Core.List.{List, [], map}
use lib.Dec.{ltb}
use lib.ListN.{length, set}
use Rattle.index.proofs.Index.{every_by}
use Rattle.index.proofs.Flags.{failed, passed, yes, no}
use Rattle.records.specs.Records.{topic_count, set_clock}
use Rattle.layout.specs.View.{clock_at, state_of}
use Rattle.effects.specs.Effects.{is_joined}
use Rattle.stores.proofs.ApartLaws.{windows_right}
use Rattle.replies.specs.View.{replies_of}
use Rattle.gossip.specs.Notes.{Note, Gossip, Extended, store_in, stored_in, set_store, added, moved, window_most, forget}
use Rattle.gossip.specs.Valid.{store_ok}
use Rattle.gossip.proofs.Fine.{fine_of}
use Rattle.gossip.specs.Calls.{store}
use Rattle.gossip.specs.Step.{refused_all, ignored_all, done_all, running, store_reply, beaten, beat_of, new_effect}
use Rattle.gossip_table.specs.View.{gossip_cells, stores_part, replies_part, gossip_of, extended_of, set_notes, set_stores}
use Rattle.gossip_table.specs.Fine.{Fine, Kept, StoreFits}
use Rattle.gossip_table.proofs.FineLaws.{fine_rows}
use Rattle.gossip_table.proofs.StoreParts.{stores_size, store_part, replies_part_lem}
use Rattle.gossip_gate.specs.Promise.{LeavesAll, gate_all}
use Rattle.gossip_gate.specs.Admitted.{TopicAdmitted}
use Rattle.gossip_gate.proofs.AdmittedLaws.{admitted_fine}
use Rattle.gossip_gate.proofs.ReplyLaws.{store_outside, store_there, store_full, store_adds}
use Rattle.gossip_gate.proofs.EndLaws.{ends_refused, ends_ignored, ends_done}

-- ---- into a topic's store
module _
    (table table' gossip : List ℕ)
    (time t n r : ℕ)
    (joined : Bool)
    (ej : joined ≡ is_joined (state_of table) t)
  where
    abbrev x : Extended
    x = extended_of table gossip

    abbrev here : List (List ℕ)
    here = store_in (gossip_of gossip) t

    pub stored_outside :
        not joined ≡ true →
        (r ≡ 11) × (state_of table' ≡ set_clock (state_of table) time) × (table' ≡ set table clock_at time) →
        LeavesAll (store_reply x time t n) r table table' gossip gossip
    stored_outside e h = ends_ignored _ time r table table' gossip h (store_outside x time t n (failed ej e))

    module _ (e : not joined ≡ false) (there : Bool) (et : there ≡ stored_in here n) where
      pub stored_there :
          there ≡ true →
          (r ≡ 256 * 0 + 16777216 * 0) × (state_of table' ≡ set_clock (state_of table) time) →
          LeavesAll (store_reply x time t n) r table table' gossip gossip
      stored_there f h =
          ends_done _ time r table table' gossip gossip (gossip_of gossip) [] [] 0 0 h
          (store_there x time t n (passed ej e) (yes et f))
          refl
          refl
          refl

      module _ (f : there ≡ false) (room : Bool) (er : room ≡ ltb (running here) window_most) where
        pub stored_full : not room ≡ true → LeavesAll (store_reply x time t n) 13 table table gossip gossip
        stored_full g = ends_refused _ time 13 table table gossip (store_full x time t n (passed ej e) (no et f) (failed er g))

        pub stored_new :
            not room ≡ false →
            (gossip' : List ℕ) →
            gossip_of gossip' ≡ set_store (gossip_of gossip) t (added n here) →
            (r ≡ 256 * 0 + 16777216 * 0) × (state_of table' ≡ set_clock (state_of table) time) →
            LeavesAll (store_reply x time t n) r table table' gossip gossip'
        stored_new g gossip' eg h =
            ends_done _ time r table table' gossip gossip' (set_store (gossip_of gossip) t (added n here)) [] [] 0 0 h
            (store_adds x time t n (passed ej e) (no et f) (passed er g))
            refl
            refl
            eg

pub store_room :
    {table gossip : List ℕ} {time t : ℕ} →
    TopicAdmitted table gossip time t →
    (room : Bool) →
    room ≡ ltb (running (store_in (gossip_of gossip) t)) window_most →
    not room ≡ false →
    StoreFits gossip t
store_room a room er f = record { fine = admitted_fine a.admitted; topic = a.topic; room = passed er f }

store_silent : (x : Extended) (time t n : ℕ) → (store_reply x time t n).actions ≡ []
unfolding store_reply
store_silent x time t n =
    go (is_joined x.base t) (stored_in (store_in x.gossip t) n) (ltb (running (store_in x.gossip t)) window_most)
  where
    go : (a b d : Bool) → (cond a (cond b (done_all x time x.gossip [] [])
        (cond d (done_all x time (set_store x.gossip t (added n (store_in x.gossip t))) [] []) (refused_all 13 x)))
        (ignored_all x time)).actions ≡ []
    go true true d = refl
    go true false true = refl
    go true false false = refl
    go false b d = refl

pub quiet_store : (x : Extended) (time t n : ℕ) → (new_effect x (store time t n)).actions ≡ []
unfolding new_effect
quiet_store x time t n = store_silent x time t n

-- ---- a heartbeat: the notes, then the stores, then the replies
notes_apart : (g : Gossip) (notes : List Note) (t : ℕ) → store_in (set_notes g notes) t ≡ store_in g t
unfolding store_in
notes_apart g notes t = refl

-- a store to the notes keeps the sizes of the others
pub notes_keep :
    (g g' : List ℕ) (notes : List Note) →
    Fine g →
    length g' ≡ gossip_cells →
    gossip_of g' ≡ set_notes (gossip_of g) notes →
    Kept g'
notes_keep g g' notes f l e =
    let q = (fine_rows f.base (gossip_of g) f.ok).0 in
    let z : length (replies_of (replies_part g')) ≡ length (gossip_of g).replies =
    ap length (replies_part_lem g' ∙ ap (λ (y : Gossip). y.replies) e) in
    record {
      size = l;
      windows = windows_right (stores_part g') (is_joined f.base) (stores_size g' l)
          (every_by _ topic_count
          (λ t h.
          ap (store_ok (is_joined f.base t)) (store_part g' t ∙ same_store t)
          ∙ (fine_of f.base (gossip_of g) f.ok).store t h));
      rows = omega (arith, q, z);
    }
  where
    same_store : (t : ℕ) → store_in (gossip_of g') t ≡ store_in (gossip_of g) t
    same_store t = ap (λ (y : Gossip). store_in y t) e ∙ notes_apart (gossip_of g) notes t

pub beat_is :
    (a b d e : List ℕ) →
    gossip_of b ≡ set_notes (gossip_of a) (map beaten (gossip_of a).notes) →
    gossip_of d ≡ set_stores (gossip_of b) (map moved (gossip_of b).stores) →
    gossip_of e ≡ forget (gossip_of d) →
    gossip_of e ≡ beat_of (gossip_of a)
unfolding beat_of
beat_is a b d e p q r = r ∙ ap forget (q ∙ ap (λ (y : Gossip). set_stores y (map moved y.stores)) p)

pub beat_done :
    (table table' gossip gossip' : List ℕ) (time r : ℕ) →
    gossip_of gossip' ≡ beat_of (gossip_of gossip) →
    (r ≡ 256 * 0 + 16777216 * 0) × (state_of table' ≡ set_clock (state_of table) time) →
    LeavesAll (done_all (extended_of table gossip) time (beat_of (gossip_of gossip)) [] []) r table table' gossip gossip'
beat_done table table' gossip gossip' time r e h =
    ends_done _ time r table table' gossip gossip' (beat_of (gossip_of gossip)) [] [] 0 0 h refl refl refl e

-- its time is its only argument
pub time_alone :
    (table gossip : List ℕ) (a d : Bool) (time n : ℕ) →
    n ≡ gate_all (extended_of table gossip) a d time →
    n ≡ gate_all (extended_of table gossip) (a && true) d time
time_alone table gossip a d time n e = e ∙ ap (λ (f : Bool). gate_all (extended_of table gossip) f d time) (alone a)
  where
    alone : (b : Bool) → b ≡ (b && true)
    alone true = refl
    alone false = refl
