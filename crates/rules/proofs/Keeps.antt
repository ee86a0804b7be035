-- "Each call keeps this so": every call, from the laws of each (KeepsTopic, KeepsPeer, KeepsDecay, KeepsHeartbeat).
-- Assumes nothing.
use Prim.Native.Nat.{ℕ}
use mathlib.Core.Path.{◌≡◌}
use mathlib.Core.Bool.{true, ◌&&◌}
use lib.Dec.{leb}
use lib.IntN.{nat_abs}
use borrow.Author.Tests.{leb-true}
use Rattle.index.proofs.Index.{both}
use Rattle.records.specs.Records.{State}
use Rattle.layout.specs.View.{Sized}
use Rattle.validity.specs.Valid.{max_time, valid}
use Rattle.rules.specs.Calls.{Call, connect, disconnect, join, leave, subscribe, unsubscribe, graft, prune, deliver, rate, heartbeat}
use Rattle.rules.specs.Calls.{groups_ok, groups_of, decay, score, time_of, id_ok, topic_ok, time_ok, arguments_ok, in_range}
use Rattle.rules.specs.Reply.{Reply}
use Rattle.rules.specs.Step.{effect}
use Rattle.rules.specs.Kept.{KeepsRouter, KeepsSizes}
use Rattle.rules.proofs.GateLaws.{Passed}
use Rattle.rules.proofs.CaseLaws.{topic_in_lem, topic_of_both, by_gate}
use Rattle.rules.proofs.KeepsState.{Router, RouterAt, router_start, router_end, of_peer_lem}
use Rattle.rules.proofs.GroupLaws.{groups_held}
use Rattle.rules.proofs.KeepsTopic.{keeps_join, keeps_leave, keeps_subscribe, keeps_unsubscribe, keeps_graft, keeps_prune}
use Rattle.rules.proofs.KeepsPeer.{keeps_connect, keeps_disconnect, keeps_rate}
use Rattle.rules.proofs.KeepsDecay.{keeps_deliver, keeps_decay}
use Rattle.rules.proofs.KeepsHeartbeat.{keeps_heartbeat}

-- ---- behind the gate
module _ (st : State) (router : Router st) where
  pub keeps_effect : (c : Call) → RouterAt (time_of c) st → arguments_ok c ≡ true → Router (effect st c).state
  unfolding effect
  keeps_effect (connect time id groups flags name) g a =
      let q = both (id_ok id) (groups_ok groups && leb flags 3) a in
      let i = both (leb 1 id) (leb id 4294967295) q.0 in
      let f = both (groups_ok groups) (leb flags 3) q.1 in
      let held = groups_held groups f.0 in
      keeps_connect time st router g id (groups_of groups) flags name
      (leb-true 1 id i.0)
      (leb-true id 4294967295 i.1)
      held.0
      held.1
      (leb-true flags 3 f.1)
  keeps_effect (disconnect time id) g a = of_peer_lem st id _ router (keeps_disconnect time st g)
  keeps_effect (join time t) g a = keeps_join time st g t (topic_in_lem t a)
  keeps_effect (leave time t) g a = keeps_leave time st g t (topic_in_lem t a)
  keeps_effect (subscribe time id t) g a = of_peer_lem st id _ router (keeps_subscribe time st g t (topic_of_both id t a))
  keeps_effect (unsubscribe time id t) g a = of_peer_lem st id _ router (keeps_unsubscribe time st g t (topic_of_both id t a))
  keeps_effect (graft time id t) g a = of_peer_lem st id _ router (keeps_graft time st g t (topic_of_both id t a))
  keeps_effect (prune time id t seconds) g a =
      of_peer_lem st id _ router (λ s h on. keeps_prune time st g t (topic_of_both id t a) s h on seconds)
  keeps_effect (deliver time id t kind) g a =
      let k = topic_of_both id t (both (id_ok id && topic_ok t) (leb 1 kind && leb kind 3) a).0 in
      of_peer_lem st id _ router (λ s h on. keeps_deliver time st g s h on t k kind)
  keeps_effect (rate time id p5) g a =
      let b = leb-true (nat_abs p5) 1000000000 (both (id_ok id) (leb (nat_abs p5) 1000000000) a).1 in
      of_peer_lem st id _ router (λ s h on. keeps_rate time st g s h on p5 b)
  keeps_effect (heartbeat time t ask order) g a =
      keeps_heartbeat time st router.router g t ask order (topic_in_lem t (both (topic_ok t) (leb ask 1) a).0)
  keeps_effect (decay time) g a = keeps_decay time st g
  keeps_effect (score time id) g a = of_peer_lem st id _ router (λ s h on. router_end time st g)

-- ---- every call
passed_router :
    (st : State) (c : Call) (room : ℕ) →
    Sized st →
    Passed st (in_range c) room (time_of c) →
    Router (effect st c).state
unfolding in_range
passed_router st c room size p =
    let q = both (time_ok (time_of c)) (arguments_ok c) p.ranges in
    keeps_effect st (record { size = size; router = p.router }) c
    (router_start (time_of c) st size p.router p.clock (leb-true (time_of c) max_time q.0))
    q.1

pub keeps : KeepsRouter
keeps st c room size v =
    by_gate (λ (r : Reply). valid r.state ≡ true) st c room (λ a e. v) (λ p. (passed_router st c room size p).router)

pub keeps_sizes : KeepsSizes
keeps_sizes st c room size =
    by_gate (λ (r : Reply). Sized r.state) st c room (λ a e. size) (λ p. (passed_router st c room size p).size)
