-- What every call but connect leaves: a record stays its peer's, and none of its backoffs ends earlier.
-- Assumes nothing.
use Prim.Native.Nat.{ℕ, zero, suc, ◌≤◌, ◌<◌}
use native.Mathlib.Omega.{arith}
use native.Mathlib.Nat.{not-suc-le-zero}
use mathlib.Core.Path.{◌≡◌, refl, ap, ◌∙◌}
use mathlib.Core.Logic.{◌≢◌}
use mathlib.Core.Bool.{Bool, cond}
use mathlib.Core.List.{List}
use lib.Dec.{eqb}
use lib.IntN.{ℤ}
use lib.ListN.{get_or}
use borrow.Author.Tests.{eqb-true, eqb-false}
use Rattle.index.specs.Index.{iter}
use Rattle.index.proofs.Index.{iter_keeps}
use Rattle.index.proofs.Flags.{by_test, cond_case}
use Rattle.varint.specs.Codes.{code_of, magnitude}
use Rattle.records.specs.declared.Peer.{Peer}
use Rattle.records.specs.declared.TopicRecord.{TopicRecord}
use Rattle.records.specs.Records.{State, place, code_in, peer_in, topic_in, set_clock, set_joined, set_peer, set_topic, is_connected, slot_count}
use Rattle.layout.specs.View.{Sized}
use Rattle.layout.proofs.StateLaws.{peer_case, peer_after_topic, peer_after_clock, peer_after_joined}
use Rattle.score.specs.Counters.{grown_of, faded_of}
use Rattle.score.specs.Score.{topic_params_in}
use Rattle.effects.specs.Effects.{prune_backoff, with_end, with_p5, with_p7, retained_to, out_of_mesh, into_mesh, on_peer, on_topic}
use Rattle.effects.specs.Effects.{is_member, pruned, end_after, left_topic, departed}
use Rattle.effects.proofs.EffectLaws.{end_later, end_same, pruned_same}
use Rattle.sets.specs.Sets.{at}
use Rattle.rules.specs.Step.{is_negative, punished, leave_slot, graft_refused, decay_floor, decay_topic, decay_p7, decay_slot, settle_slot}
use Rattle.rules.specs.Step.{raised_p7}
use Rattle.promises.specs.Ends.{end_in}

pub record LaterAt (p q : Peer) : Type 0 where
  pub used : p.status ≢ 0 → q.status ≢ 0
  pub id : p.status ≢ 0 → q.id ≡ p.id
  pub ends : (t : ℕ) → get_or p.backoff t 0 ≤ get_or q.backoff t 0

abbrev pub Later : State → State → Type 0
Later st u = (s : ℕ) → LaterAt (peer_in st s) (peer_in u s)

at_self : (p : Peer) → LaterAt p p
at_self p = record { used = λ n. n; id = λ n. refl; ends = λ t. omega arith }

at_is : (p q : Peer) → q ≡ p → LaterAt p q
at_is p q e = rw e (at_self p)

pub later_self : (st : State) → Later st st
later_self st s = at_self (peer_in st s)

pub later_then : (a b c : State) → Later a b → Later b c → Later a c
later_then a b c f g s =
    record {
      used = λ n. (g s).used ((f s).used n);
      id = λ n. (g s).id ((f s).used n) ∙ (f s).id n;
      ends = λ t. omega (arith, (f s).ends t, (g s).ends t);
    }

pub later_clock : (st : State) (n : ℕ) → Later st (set_clock st n)
later_clock st n s = at_is _ _ (peer_after_clock st n s)

pub later_joined : (st : State) (t b : ℕ) → Later st (set_joined st t b)
later_joined st t b s = at_is _ _ (peer_after_joined st t b s)

pub later_topic : (st : State) (k : ℕ) (r : TopicRecord) → Later st (set_topic st k r)
later_topic st k r s = at_is _ _ (peer_after_topic st k r s)

pub later_peer : (st : State) (i : ℕ) (p : Peer) → LaterAt (peer_in st i) p → Later st (set_peer st i p)
later_peer st i p h s = peer_case st (λ (q : Peer). LaterAt (peer_in st s) q) i p s (λ (e : s ≡ i). rw e h) (at_self (peer_in st s))

pub later_iter : (f : ℕ → State → State) (n : ℕ) (st : State) → ((i : ℕ) (u : State) → Later u (f i u)) → Later st (iter n f st)
later_iter f n st h = iter_keeps (λ (u : State). Later st u) f n st (later_self st) (λ i u l w. later_then st u (f i u) w (h i u))

pub later_either : (st : State) (b : Bool) (u v : State) → Later st u → Later st v → Later st (cond b u v)
later_either st b u v f g = cond_case (λ (w : State). Later st w) b u v (λ e. f) (λ e. g)

-- ---- records
module _ (p : Peer) where
  at_end : (t end : ℕ) → LaterAt p (with_end p t end)
  unfolding with_end
  at_end t end = record { used = λ n. n; id = λ n. refl; ends = end_later p t end }

  at_p5 : (code : ℕ) → LaterAt p (with_p5 p code)
  unfolding with_p5
  at_p5 code = record { used = λ n. n; id = λ n. refl; ends = λ t. omega arith }

  at_p7 : (n : ℕ) → LaterAt p (with_p7 p n)
  unfolding with_p7
  at_p7 n = record { used = λ n. n; id = λ n. refl; ends = λ t. omega arith }

  at_retained : (end : ℕ) → LaterAt p (retained_to p end)
  unfolding retained_to
  at_retained end = record { used = λ n z. omega (arith, z); id = λ n. refl; ends = λ t. omega arith }

-- ---- walks' turns
pub later_pruned : (st : State) (s t end : ℕ) → Later st (pruned st s t end)
unfolding pruned
later_pruned st s t end =
    let u = on_topic st s t out_of_mesh in
    later_then st u (pruned st s t end)
    (later_topic st (place s t) (out_of_mesh (topic_in st (place s t))))
    (later_peer u s (with_end (peer_in u s) t end) (at_end (peer_in u s) t end))

later_punished : (st : State) (t s : ℕ) (u : State) → Later u (punished st t s u)
unfolding punished
later_punished st t s u =
    later_either u (is_negative st s) _ u
    (later_topic u (place s t) (grown_of (topic_params_in st t) (topic_in u (place s t)))) (later_self u)

pub later_out : (st : State) (t s : ℕ) (u : State) (end : ℕ) → Later u (pruned (punished st t s u) s t end)
later_out st t s u end =
    let w = punished st t s u in
    later_then u w (pruned w s t end) (later_punished st t s u) (later_pruned w s t end)

pub later_left : (st : State) (t end s : ℕ) (u : State) → Later u (leave_slot st t end s u)
unfolding leave_slot
later_left st t end s u = later_either u (is_member st t s) _ u (later_out st t s u end) (later_self u)

pub later_settled : (st : State) (time t : ℕ) (mesh : List Bool) (s : ℕ) (u : State) → Later u (settle_slot st time t mesh s u)
unfolding settle_slot
later_settled st time t mesh s u =
    later_either u (is_member st t s) _ _
    (later_either u (at mesh s) u _ (later_self u) (later_out st t s u (end_after time (prune_backoff st))))
    (later_either u (at mesh s) _ u (later_topic u (place s t) (into_mesh (topic_in u (place s t)) time)) (later_self u))

later_departed : (st : State) (s time : ℕ) → Later st (departed st s time)
unfolding departed left_topic
later_departed st s time =
    let w = iter 8 (λ t u. left_topic u s t) st in
    later_then st w (departed st s time)
    (later_iter (λ t u. left_topic u s t) 8 st (λ t u. later_topic u (place s t) _))
    (later_peer w s _ (at_retained (peer_in w s) _))

later_decayed : (time s : ℕ) (st : State) → Later st (decay_slot time s st)
unfolding decay_slot decay_topic decay_p7
later_decayed time s st =
    let w = iter 8 (decay_topic time s) st in
    later_either st (is_connected (peer_in st s)) (decay_p7 s w) st
    (later_then st w (decay_p7 s w)
    (later_iter (decay_topic time s) 8 st (λ t u. later_topic u (place s t) _))
    (later_peer w s _ (at_p7 (peer_in w s) (faded_of (decay_floor w) (magnitude (code_in w 17)) (peer_in w s).p7))))
    (later_self st)

-- ---- the calls
module _ (st : State) (time : ℕ) where
  pub later_moved : (u : State) → Later st u → Later st (set_clock u time)
  later_moved u f = later_then st u (set_clock u time) f (later_clock u time)

  pub later_still : Later st (set_clock st time)
  later_still = later_clock st time

  pub later_disconnect : (s : ℕ) → Later st (set_clock (departed st s time) time)
  later_disconnect s = later_moved (departed st s time) (later_departed st s time)

  pub later_leave : (t end : ℕ) → Later st (set_clock (set_joined (iter slot_count (leave_slot st t end) st) t 0) time)
  later_leave t end =
      let w = iter slot_count (leave_slot st t end) st in
      later_moved (set_joined w t 0)
      (later_then st w (set_joined w t 0) (later_iter (leave_slot st t end) slot_count st (later_left st t end)) (later_joined w t 0))

  pub later_rate : (p5 : ℤ) (s : ℕ) → Later st (set_clock (on_peer st s (λ p. with_p5 p (code_of p5))) time)
  later_rate p5 s =
      later_moved (on_peer st s (λ p. with_p5 p (code_of p5)))
      (later_peer st s (with_p5 (peer_in st s) (code_of p5)) (at_p5 (peer_in st s) (code_of p5)))

  pub later_decay : Later st (set_clock (iter slot_count (decay_slot time) st) time)
  later_decay = later_moved (iter slot_count (decay_slot time) st) (later_iter (decay_slot time) slot_count st (later_decayed time))

  pub later_on : (k : ℕ) (r : TopicRecord) → Later st (set_clock (set_topic st k r) time)
  later_on k r = later_moved (set_topic st k r) (later_topic st k r)

  pub later_refused : (t s : ℕ) → Later st (graft_refused st time t s (peer_in st s)).state
  unfolding graft_refused
  later_refused t s =
      let end = end_after time (prune_backoff st) in
      later_moved (on_peer st s (λ p. with_end p t end))
      (later_peer st s (with_end (peer_in st s) t end) (at_end (peer_in st s) t end))

  pub later_raised : (t s : ℕ) → Later st (graft_refused st time t s (raised_p7 (peer_in st s))).state
  unfolding graft_refused raised_p7 with_p7 with_end
  later_raised t s =
      later_moved (set_peer st s _)
      (later_peer st s _ (record { used = λ n. n; id = λ n. refl; ends = end_later (peer_in st s) t (end_after time (prune_backoff st)) }))

-- ---- a backoff that is set
pub end_pruned : (st : State) (s t end : ℕ) → Sized st → s < slot_count → t < 8 → end ≤ end_in (pruned st s t end) s t
end_pruned st s t end size h k =
    let a = ap (λ (p : Peer). get_or p.backoff t 0) (pruned_same st s t end size h) in
    let b = end_same (peer_in st s) t end (omega (arith, size.ends s, k)) in
    omega (arith, a, b)

-- a walk whose turn s sets it
pub end_walked :
    (f : ℕ → State → State) (s t end : ℕ) → ((i : ℕ) (u : State) → Sized u → Sized (f i u)) → ((i : ℕ) (u : State) → Later u (f i u)) →
    ((u : State) → Sized u → end ≤ end_in (f s u) s t) → (n : ℕ) (st : State) → Sized st → s < n → end ≤ end_in (iter n f st) s t
unfolding iter
end_walked f s t end z l e zero st size h = absurd (not-suc-le-zero h)
end_walked f s t end z l e (suc n) st size h =
    let w = iter n f st in
    let zw : Sized w = iter_keeps (λ (u : State). Sized u) f n st size (λ i u b. z i u) in
    by_test _ (eqb n s)
    (λ q. rw (eqb-true n s q) (e (iter s f st) (rw (eqb-true n s q) at zw)))
    (λ q.
    let ih = end_walked f s t end z l e n st size (let d = eqb-false n s q in omega (arith, d, h)) in
    omega (arith, ih, (l n w s).ends t))
