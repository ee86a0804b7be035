-- Demand 3 over lists of all calls: its invariant stands after every list, and a heartbeat of a topic answered 0 leaves what it must.
-- Assumes nothing.
use Prim.Native.Nat.{ℕ, ◌<◌}
use native.Mathlib.Omega.{arith}
use mathlib.Core.Path.{◌≡◌, sym, ap}
use mathlib.Core.Bool.{Bool, true, false, not, ◌&&◌, ◌||◌}
use mathlib.Core.List.{List, [], ◌∷◌}
use lib.Dec.{eqb}
use lib.ListN.{get_or-eq_default}
use borrow.Author.Tests.{eqb-true}
use Rattle.index.proofs.Index.{count_same}
use Rattle.index.proofs.Flags.{by_test, by_order, cond_case}
use Rattle.params.specs.declared.Params.{Params}
use Rattle.records.specs.Records.{joined_in, slot_count}
use Rattle.effects.specs.Effects.{is_joined, is_member}
use Rattle.rules.specs.Calls.{Call, heartbeat}
use Rattle.rules.specs.Step.{step}
use Rattle.call_lists.specs.Lists.{heard}
use Rattle.call_lists.proofs.Standing.{Standing, is_inbound, inbounds, member_connected, stands_start, stands_fewer}
use Rattle.call_lists.proofs.Fewer.{fewer_self}
use Rattle.call_lists.proofs.Replies.{unheard}
use Rattle.call_lists.proofs.Heartbeat.{MaintainedIn}
use Rattle.call_lists.proofs.Demand3.{stands_step, maintained_step}
use Rattle.gossip.specs.Notes.{Extended}
use Rattle.gossip.specs.Valid.{gossip_ok}
use Rattle.gossip.specs.Calls.{Any, old, new}
use Rattle.gossip.specs.Step.{FullReply, refused_all, extended, handed, old_step, step_all}
use Rattle.gossip_lists.specs.Lists.{Start, AcceptedAll, Did, after_all, answered_all}
use Rattle.gossip_lists.specs.Directions.{heard_any, outbound_all}
use Rattle.gossip_lists.specs.Demand3.{base_after, sheet, outbound_at, member, members, outbound_members, inbound_members}
use Rattle.gossip_lists.specs.Demand3.{MaintainedAll, Demand3All}
use Rattle.gossip_lists.proofs.Frame.{stands_new}

-- ---- one call
module _ (params : Params) (dir : ℕ → Bool) (x : Extended) (h : Standing params dir x.base) where
  abbrev After : Call → FullReply → Type 0
  After c r = Standing params (λ peer. heard c (eqb r.answer 0) peer (dir peer)) r.state.base

  stands_old : (c : Call) (room : ℕ) → After c (old_step x c room)
  unfolding old_step
  stands_old c room =
      cond_case (After c) (not (handed c) || gossip_ok x.base x.gossip) (extended x c (step x.base c room)) (refused_all 12 x)
      (λ ok. stands_step params dir x.base h c room)
      (λ bad.
      stands_fewer params dir (λ peer. heard c false peer (dir peer)) x.base x.base h (fewer_self x.base)
      (λ peer. unheard c peer (dir peer))
      h.size
      h.router)

  stands_any :
      (c : Any) (room : ℕ) →
      Standing params (λ peer. heard_any c (eqb (step_all x c room).answer 0) peer (dir peer)) (step_all x c room).state.base
  unfolding step_all
  stands_any (old c) room = stands_old c room
  stands_any (new c) room = stands_new params dir x h c room

  maintained_any :
      (time t ask room : ℕ) (order : List ℕ) →
      (step_all x (old (heartbeat time t ask order)) room).answer ≡ 0 →
      MaintainedIn params dir x.base (step_all x (old (heartbeat time t ask order)) room).state.base time t
  unfolding step_all old_step
  maintained_any time t ask room order zero = maintained_step params dir x.base h time t ask room order zero

-- ---- every list of calls
module _ (start : Start) (ok : AcceptedAll start) where
  pub standing_all : (calls : List Did) → Standing (sheet start) (outbound_all start calls) (base_after start calls)
  unfolding after_all answered_all outbound_all
  standing_all [] = stands_start start.router ok.router (outbound_all start [])
  standing_all (c ∷ before) =
      stands_any (sheet start) (outbound_all start before) (after_all start before) (standing_all before) c.call c.room

  -- ---- the inbound members of a joined topic
  joined_below : (calls : List Did) (t : ℕ) → is_joined (base_after start calls) t ≡ true → t < 8
  unfolding joined_in
  joined_below calls t e =
      by_order (t < 8) t 8 (λ l. l) (λ l.
      let z = (standing_all calls).size.joined in
      let n = get_or-eq_default (base_after start calls).joined 0 {n = t} (omega arith) in
      absurd (omega (arith, eqb-true (joined_in (base_after start calls) t) 1 e)))

  inbound_same :
      (calls : List Did) (t s : ℕ) →
      t < 8 →
      s < slot_count →
      member start calls t s && not (outbound_at start calls s) ≡ is_inbound (base_after start calls) t s
  inbound_same calls t s k l =
      let w = standing_all calls in
      by_test _ (is_member (base_after start calls) t s)
      (λ m. rw m (sym (ap not (w.tied s l (member_connected (base_after start calls) w.router t s k l m)))))
      (λ m. rw m)

  inbound_count : (calls : List Did) (t : ℕ) → t < 8 → inbound_members start calls t ≡ inbounds (base_after start calls) t
  unfolding inbound_members inbounds
  inbound_count calls t k =
      count_same
      (λ s. member start calls t s && not (outbound_at start calls s))
      (is_inbound (base_after start calls) t)
      slot_count
      (λ s l. inbound_same calls t s k l)

  -- ---- after a heartbeat
  maintained_all :
      (time t ask room : ℕ) (order : List ℕ) (before : List Did) →
      answered_all start (record { call = old (heartbeat time t ask order); room = room }) before ≡ 0 →
      MaintainedAll start (record { call = old (heartbeat time t ask order); room = room } ∷ before) before time t
  unfolding after_all answered_all outbound_all members outbound_members
  maintained_all time t ask room order before zero =
      let w =
      maintained_any (sheet start) (outbound_all start before) (after_all start before) (standing_all before) time t ask room order zero in
      record { good = w.good; outs = w.outs; enough = w.enough }

pub demand3_all : Demand3All
demand3_all start calls ok =
    record {
      inbound = λ t j.
          let k = joined_below start ok calls t j in
          omega (arith, inbound_count start ok calls t k, (standing_all start ok calls).few t k);
      maintained = λ time t ask room order before e zero. rw e (maintained_all start ok time t ask room order before zero);
    }
