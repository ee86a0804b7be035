-- What the calls of notices come to at each of their ends. The two that tell peers are alike but for whom they tell: a known sender, a
-- joined topic, an action for each slot of a set.
-- Assumes nothing.
use Rattle.index.proofs.Kit.{ℕ, ◌+◌, ◌*◌, ◌≤◌, ◌≡◌, refl, sym, ap, ◌∙◌, Bool, true, false, not, arith}
use mathlib.Core.Path.{ap₂}
use mathlib.Core.Bool.{cond, ◌&&◌}
use mathlib.Core.List.{List, [], ◌∷◌}
use lib.Dec.{leb}
use lib.ListN.{length, set}
use Rattle.index.proofs.Index.{gather_short}
use Rattle.index.proofs.Flags.{cond_case, failed, passed, yes, no}
use Rattle.records.specs.Records.{State, slot_count, set_clock}
use Rattle.layout.specs.View.{clock_at, cell_count, state_of}
use Rattle.words.specs.Words.{word_count, bits_of}
use Rattle.words.proofs.WideLaws.{bits_of_length}
use Rattle.sets.specs.Sets.{at, by_slot}
use Rattle.sets.proofs.SlotLaws.{slots_at}
use Rattle.effects.specs.Actions.{Action}
use Rattle.effects.specs.Effects.{is_joined}
use Rattle.rules.specs.Calls.{time_ok, topic_ok}
use Rattle.rules.specs.Step.{action_room}
use Rattle.gossip.specs.Notes.{Note, Extended, note_in, holds, set_note}
use Rattle.gossip.specs.Calls.{sender_ok}
use Rattle.gossip.specs.Step.{FullReply, refused_all, ignored_all, done_all, of_sender, if_joined, tell_one, tell_by_slot, is_relayed}
use Rattle.gossip.specs.Step.{is_heeded, has_room, with_put, idontwant_reply}
use Rattle.gossip_table.specs.View.{gossip_cells, gossip_of, extended_of}
use Rattle.gossip_table.specs.Fine.{HasRoom}
use Rattle.gossip_gate.specs.Promise.{LeavesAll, GivesAll, gate_all}
use Rattle.gossip_gate.specs.Admitted.{SlotAdmitted, TopicLent}
use Rattle.gossip_gate.proofs.AdmittedLaws.{admitted_fine}
use Rattle.gossip_gate.proofs.ReplyLaws.{heeds_not, holds_it, no_room, puts_in}
use Rattle.gossip_gate.proofs.GateLaws.{gate_admitted}
use Rattle.gossip_gate.proofs.CallLaws.{call_topic, call_room}
use Rattle.gossip_gate.proofs.EndLaws.{ends_ignored, ends_done, gives_refusal, gives_nothing, gives_actions}
use Rattle.gossip_peers.specs.Peers.{is_known, is_reached, Tells}
use Rattle.gossip_peers.proofs.PeerLaws.{sender_is, relayed_is}
use Rattle.gossip_peers.proofs.SiftLaws.{flags_are, flags_same}

-- the words of a set
pub flags_length : (w : List ℕ) → length w ≡ word_count → length (bits_of w) ≡ slot_count
flags_length w z = let e = bits_of_length w in omega arith

-- ---- to the slots of a set: `done` is the reply where the sender is known and the topic joined
abbrev sent : Extended → (time t sender : ℕ) → FullReply → FullReply
sent x time t sender done = of_sender x sender (if_joined x time t done)

module _ (x : Extended) (time t sender : ℕ) (done : FullReply) where
  known_as : (b : Bool) → is_known x.base sender ≡ b →
      sent x time t sender done ≡ cond b (if_joined x time t done) (refused_all 3 x)
  known_as b e = sender_is x sender (if_joined x time t done) ∙ ap (λ (k : Bool). cond k (if_joined x time t done) (refused_all 3 x)) e

  joined_as : (b : Bool) → is_known x.base sender ≡ true → is_joined x.base t ≡ b →
      sent x time t sender done ≡ cond b done (ignored_all x time)
  joined_as b e j = known_as true e ∙ ap (λ (k : Bool). cond k done (ignored_all x time)) j

module _
    (table gossip list : List ℕ)
    (time t sender : ℕ)
    (acts : List Action)
    (known : Bool)
    (ek : known ≡ is_known (state_of table) sender)
  where
    abbrev told : FullReply
    told = done_all (extended_of table gossip) time (gossip_of gossip) acts []

    abbrev reply : FullReply
    reply = sent (extended_of table gossip) time t sender told

    pub sent_refused : not known ≡ true → GivesAll reply 3 table table gossip gossip list list
    sent_refused e =
        gives_refusal reply time 3 table table gossip list (known_as (extended_of table gossip) time t sender told false (failed ek e))

    module _
        (joined : Bool)
        (ej : joined ≡ is_joined (state_of table) t)
        (e : not known ≡ false)
        (r : ℕ)
        (table' : List ℕ)
      where
        pub sent_ignored :
            not joined ≡ true →
            (r ≡ 11) × (state_of table' ≡ set_clock (state_of table) time) × (table' ≡ set table clock_at time) →
            GivesAll reply r table table' gossip gossip list list
        sent_ignored j h =
            gives_nothing reply time r table table' gossip h list
            (joined_as (extended_of table gossip) time t sender told false (passed ek e) (failed ej j))

        pub sent_told :
            not joined ≡ false →
            (n : ℕ) (list' : List ℕ) →
            Tells acts list list' n →
            (r ≡ 256 * n + 16777216 * 0) × (state_of table' ≡ set_clock (state_of table) time) →
            GivesAll reply r table table' gossip gossip list list'
        sent_told j n list' w h =
            gives_actions reply time r table table' gossip gossip (gossip_of gossip) acts [] n 0 h
            (joined_as (extended_of table gossip) time t sender told true (passed ek e) (passed ej j))
            w.many
            refl
            refl
            list
            list'
            w.list

-- as many actions as a set has slots fit one number
pub told_most :
    (st : State) (kind n : ℕ) (w l l' : List ℕ) →
    ((f : ℕ → Bool) → bits_of w ≡ by_slot slot_count f → Tells (tell_by_slot st kind f) l l' n) →
    length w ≡ word_count →
    n ≤ slot_count
unfolding tell_by_slot
told_most st kind n w l l' t z =
    let f : ℕ → Bool = at (bits_of w) in
    let h : length (tell_by_slot st kind f) ≤ slot_count =
    gather_short _ slot_count
    (λ s. cond_case (λ (x : List Action). length x ≤ 1) (f s) (tell_one st kind s ∷ []) [] (λ e. omega arith) (λ e. omega arith)) in
    omega (arith, (t f (flags_are (bits_of w) f (flags_length w z) (λ s l. refl))).many, h)

-- ---- into a peer's set
module _
    (table table' gossip : List ℕ)
    (time n s r : ℕ)
    (heeded : Bool)
    (eh : heeded ≡ is_heeded (state_of table) s)
  where
    abbrev x : Extended
    x = extended_of table gossip

    abbrev note : Note
    note = note_in (gossip_of gossip) s

    pub put_unheeded :
        not heeded ≡ true →
        (r ≡ 11) × (state_of table' ≡ set_clock (state_of table) time) × (table' ≡ set table clock_at time) →
        LeavesAll (idontwant_reply x time n s) r table table' gossip gossip
    put_unheeded e h = ends_ignored _ time r table table' gossip h (heeds_not x time n s (failed eh e))

    module _ (e : not heeded ≡ false) (there : Bool) (et : there ≡ holds note n) where
      pub put_there :
          there ≡ true →
          (r ≡ 256 * 0 + 16777216 * 0) × (state_of table' ≡ set_clock (state_of table) time) →
          LeavesAll (idontwant_reply x time n s) r table table' gossip gossip
      put_there t h =
          ends_done _ time r table table' gossip gossip (gossip_of gossip) [] [] 0 0 h
          (holds_it x time n s (passed eh e) (yes et t))
          refl
          refl
          refl

      module _ (t : there ≡ false) (room : Bool) (er : room ≡ has_room (gossip_of gossip).setup note) where
        pub put_full :
            not room ≡ true →
            (r ≡ 11) × (state_of table' ≡ set_clock (state_of table) time) × (table' ≡ set table clock_at time) →
            LeavesAll (idontwant_reply x time n s) r table table' gossip gossip
        put_full f h =
            ends_ignored _ time r table table' gossip h (no_room x time n s (passed eh e) (no et t) (failed er f))

        pub put_new :
            not room ≡ false →
            (gossip' : List ℕ) →
            gossip_of gossip' ≡ set_note (gossip_of gossip) s (with_put n note) →
            (r ≡ 256 * 0 + 16777216 * 0) × (state_of table' ≡ set_clock (state_of table) time) →
            LeavesAll (idontwant_reply x time n s) r table table' gossip gossip'
        put_new f gossip' eg h =
            ends_done _ time r table table' gossip gossip' (set_note (gossip_of gossip) s (with_put n note)) [] [] 0 0 h
            (puts_in x time n s (passed eh e) (no et t) (passed er f))
            refl
            refl
            eg

pub room_there :
    {table gossip : List ℕ} {time s : ℕ} →
    SlotAdmitted table gossip time s →
    (room : Bool) →
    room ≡ has_room (gossip_of gossip).setup (note_in (gossip_of gossip) s) →
    not room ≡ false →
    HasRoom gossip s
room_there a room er f = record { fine = admitted_fine a.admitted; slot = a.slot; room = passed er f }

-- ---- whom a message is passed on to: who is reached, without those whose set holds its number
pub relayed_are :
    (x : Extended) (t sender n : ℕ) (all r : List Bool) →
    all ≡ by_slot slot_count (is_reached x.base t sender) →
    r ≡ by_slot slot_count (λ s. at all s && not (holds (note_in x.gossip s) n)) →
    r ≡ by_slot slot_count (is_relayed x t sender n)
relayed_are x t sender n all r ea er =
    er
    ∙ flags_same _ (is_relayed x t sender n)
    (λ s h.
    ap (λ (y : List Bool). at y s && not (holds (note_in x.gossip s) n)) ea
    ∙ ap (λ (b : Bool). b && not (holds (note_in x.gossip s) n)) (slots_at false (is_reached x.base t sender) slot_count s h)
    ∙ sym (relayed_is x t sender n s))

-- ---- what the tests of the public functions come to
pub topics_senders : (t sender : ℕ) (a b : Bool) → a ≡ topic_ok t → b ≡ sender_ok sender → a && b ≡ topic_ok t && sender_ok sender
topics_senders t sender a b ea eb = ap₂ ◌&&◌ ea eb

pub topic_lent :
    (table gossip list : List ℕ) (a b d : Bool) (time n t : ℕ) →
    n ≡ gate_all (extended_of table gossip) (a && (b && d)) (leb action_room (length list)) time →
    n ≡ 0 →
    a ≡ time_ok time →
    b ≡ topic_ok t →
    length table ≡ cell_count →
    length gossip ≡ gossip_cells →
    TopicLent table gossip time t list
topic_lent table gossip list a b d time n t en e ea eb l m =
    record {
      admitted = gate_admitted table gossip a (b && d) (leb action_room (length list)) time n en e ea l m;
      topic = call_topic table gossip a b d (leb action_room (length list)) time n t en e eb;
      room = call_room table gossip list a (b && d) time n en e;
    }

-- an IDONTWANT that came in gives no action
pub put_silent : (x : Extended) (time n s : ℕ) → (idontwant_reply x time n s).actions ≡ []
unfolding idontwant_reply
put_silent x time n s =
    go (is_heeded x.base s) (holds (note_in x.gossip s) n) (has_room x.gossip.setup (note_in x.gossip s))
  where
    go : (a b d : Bool) → (cond a (cond b (done_all x time x.gossip [] [])
        (cond d (done_all x time (set_note x.gossip s (with_put n (note_in x.gossip s))) [] []) (ignored_all x time)))
        (ignored_all x time)).actions ≡ []
    go true true d = refl
    go true false true = refl
    go true false false = refl
    go false b d = refl
