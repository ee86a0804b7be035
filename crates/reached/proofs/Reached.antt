-- The reached examples, by computation of the effects of their calls (Behind).
-- Assumes nothing.
use Prim.Native.Nat.{ℕ}
use mathlib.Core.Path.{◌≡◌, refl, ap}
use mathlib.Core.Bool.{true}
use mathlib.Core.List.{List, [], ◌∷◌, ◌++◌, map}
use Rattle.index.specs.Index.{every, first, count, iter, gather}
use Rattle.params.specs.Ordinary.{ordinary_numbers}
use Rattle.records.specs.Records.{State, holds_group, code_in, joined_in, peer_in, topic_in, set_peer, set_topic, set_clock, set_joined}
use Rattle.lookup.specs.Find.{holds, find_connected, find_retained, lowest_empty}
use Rattle.lookup.specs.Name.{meshsub, same_bytes, version_of}
use Rattle.lookup.specs.Fresh.{fresh_state}
use Rattle.effects.specs.Effects.{
  with_end,
  with_p5,
  with_p7,
  connected_as,
  with_subscribed,
  out_of_mesh,
  into_mesh,
  pruned,
  is_member,
  mesh_size,
  backoff_runs,
  reclaimable,
  emptied,
  reclaim_slot,
  reclaimed,
}
use Rattle.score.specs.Parts.{part1_of, part3_of, crowd_of}
use Rattle.score.specs.Formula.{topic_sum, all_topics, bounded, why_of}
use Rattle.score.specs.Counters.{raised3_of, first_of as firstDelivery}
use Rattle.score.specs.Score.{why_in, score_in, topic_score, topic_params_in, shares_group, sharing, sharing_at, sharers_of}
use Rattle.sets.specs.Sets.{
  by_slot,
  size,
  both,
  except,
  from,
  above,
  occurs,
  is_permutation,
  ascending,
  in_order,
  fill,
  top,
  bests,
  swap_to,
  insert,
  sort,
  scores_of,
}
use Rattle.mesh.specs.Maintenance.{
  mesh1,
  mesh2,
  the_best,
  keepers,
  swapped,
  mesh3,
  mesh4,
  median,
  mesh5,
  meshes,
  changes_of,
  actions_on,
  actions_of,
}
use Rattle.rules.specs.Reply.{Reply}
use Rattle.rules.specs.Calls.{graft, heartbeat, in_range, groups_ok, groups_of}
use Rattle.rules.specs.Step.{
  connect_at,
  connect_in,
  connect_reply,
  join_reply,
  subscribe_reply,
  is_negative,
  is_graylisted,
  is_heard,
  seconds_of,
  prune_reply,
  delivered_of,
  deliver_reply,
  graft_refused,
  raised_p7,
  is_crowded,
  graft_case,
  graft_reply,
  is_candidate,
  height_in,
  degrees_in,
  view_in,
  meshes_in,
  punished,
  settle_slot,
  heartbeat_actions,
  maintained_reply,
  heartbeat_reply,
  effect,
}
use Rattle.reached.specs.Reached.{
  refusals,
  answer_of,
  told_in,
  entered_by,
  members_in,
  mixed,
  worked,
  come,
  enter,
  bring,
  eleven,
  twelve,
  thirteen,
  grafted,
  maintained,
  pruned_for60,
  WorkedExample,
  ThirteenMembers,
  PrunedFor60,
  EntersAt,
  FromThirteen,
  FromTwelve,
  Reached,
}
use Rattle.reached.proofs.Behind.{passes, left, given, passes_last, start, reached_left, replies_start, asked_effect}

abbrev mesh_after : Reply → ℕ
mesh_after r = mesh_size r.state 0

abbrev members_after : Reply → List (ℕ × ℕ)
members_after r = members_in r.state

-- each part by computation: the calls of a list pass the first tests, and what their effects leave and give is the paper's line
worked_example : WorkedExample
unfolding passes left given refusals members_in mixed worked come enter bring eleven twelve thirteen grafted maintained pruned_for60 every
    first count iter gather ordinary_numbers code_in joined_in peer_in topic_in set_peer set_topic set_clock set_joined holds find_connected
    find_retained lowest_empty meshsub same_bytes version_of fresh_state with_end with_p5 with_p7 connected_as with_subscribed out_of_mesh into_mesh
    pruned is_member mesh_size reclaimable emptied reclaim_slot reclaimed part1_of part3_of topic_sum all_topics bounded why_of why_in score_in
    topic_score topic_params_in holds_group groups_ok groups_of shares_group sharing sharing_at sharers_of crowd_of raised3_of firstDelivery insert
    sort scores_of above median delivered_of deliver_reply by_slot
    size both except from occurs is_permutation ascending in_order fill top bests swap_to mesh1 mesh2 the_best keepers swapped mesh3 mesh4
    mesh5 meshes changes_of actions_on actions_of in_range connect_at connect_in connect_reply join_reply subscribe_reply is_negative is_graylisted
    is_heard seconds_of prune_reply graft_refused raised_p7 is_crowded graft_case graft_reply is_candidate height_in degrees_in view_in meshes_in
    punished settle_slot heartbeat_actions maintained_reply heartbeat_reply effect
worked_example =
    let all = replies_start worked refl in
    record { worked_answers = ap (map answer_of) all; worked_actions = ap (map told_in) all }

thirteen_members : ThirteenMembers
unfolding passes left given refusals members_in mixed worked come enter bring eleven twelve thirteen grafted maintained pruned_for60 every
    first count iter gather ordinary_numbers code_in joined_in peer_in topic_in set_peer set_topic set_clock set_joined holds find_connected
    find_retained lowest_empty meshsub same_bytes version_of fresh_state with_end with_p5 with_p7 connected_as with_subscribed out_of_mesh into_mesh
    pruned is_member mesh_size reclaimable emptied reclaim_slot reclaimed part1_of part3_of topic_sum all_topics bounded why_of why_in score_in
    topic_score topic_params_in holds_group groups_ok groups_of shares_group sharing sharing_at sharers_of crowd_of raised3_of firstDelivery insert
    sort scores_of above median delivered_of deliver_reply by_slot
    size both except from occurs is_permutation ascending in_order fill top bests swap_to mesh1 mesh2 the_best keepers swapped mesh3 mesh4
    mesh5 meshes changes_of actions_on actions_of in_range connect_at connect_in connect_reply join_reply subscribe_reply is_negative is_graylisted
    is_heard seconds_of prune_reply graft_refused raised_p7 is_crowded graft_case graft_reply is_candidate height_in degrees_in view_in meshes_in
    punished settle_slot heartbeat_actions maintained_reply heartbeat_reply effect
thirteen_members =
    let pass : passes start thirteen ≡ true = refl in
    let there = reached_left thirteen pass in
    record {
      heard = ap refusals (replies_start thirteen pass);
      members = ap members_in there;
      scores = ap (λ (st : State). by_slot 13 (score_in st)) there;
    }

pruned_for_60 : PrunedFor60
unfolding passes left given refusals members_in mixed worked come enter bring eleven twelve thirteen grafted maintained pruned_for60 every
    first count iter gather ordinary_numbers code_in joined_in peer_in topic_in set_peer set_topic set_clock set_joined holds find_connected
    find_retained lowest_empty meshsub same_bytes version_of fresh_state with_end with_p5 with_p7 connected_as with_subscribed out_of_mesh into_mesh
    pruned is_member mesh_size reclaimable emptied reclaim_slot reclaimed part1_of part3_of topic_sum all_topics bounded why_of why_in score_in
    topic_score topic_params_in holds_group groups_ok groups_of shares_group sharing sharing_at sharers_of crowd_of raised3_of firstDelivery insert
    sort scores_of above median delivered_of deliver_reply by_slot
    size both except from occurs is_permutation ascending in_order fill top bests swap_to mesh1 mesh2 the_best keepers swapped mesh3 mesh4
    mesh5 meshes changes_of actions_on actions_of in_range connect_at connect_in connect_reply join_reply subscribe_reply is_negative is_graylisted
    is_heard seconds_of prune_reply graft_refused raised_p7 is_crowded graft_case graft_reply is_candidate height_in degrees_in view_in meshes_in
    punished settle_slot heartbeat_actions maintained_reply heartbeat_reply effect
pruned_for_60 =
    let pass : passes start (pruned_for60 ++ graft 69999 45 0 ∷ []) ≡ true = refl in
    let there = reached_left pruned_for60 (passes_last start pruned_for60 (graft 69999 45 0) pass).0 in
    let early = asked_effect pruned_for60 (graft 69999 45 0) pass in
    let late = asked_effect pruned_for60 (graft 70000 45 0) refl in
    record {
      running = ap (λ (st : State). backoff_runs (peer_in st 2) 0 69999) there;
      over = ap (λ (st : State). backoff_runs (peer_in st 2) 0 70000) there;
      graft_at69999 = ap told_in early;
      graft_at70000 = ap entered_by late;
    }

enters_at : EntersAt
unfolding passes left given refusals members_in mixed worked come enter bring eleven twelve thirteen grafted maintained pruned_for60 every
    first count iter gather ordinary_numbers code_in joined_in peer_in topic_in set_peer set_topic set_clock set_joined holds find_connected
    find_retained lowest_empty meshsub same_bytes version_of fresh_state with_end with_p5 with_p7 connected_as with_subscribed out_of_mesh into_mesh
    pruned is_member mesh_size reclaimable emptied reclaim_slot reclaimed part1_of part3_of topic_sum all_topics bounded why_of why_in score_in
    topic_score topic_params_in holds_group groups_ok groups_of shares_group sharing sharing_at sharers_of crowd_of raised3_of firstDelivery insert
    sort scores_of above median delivered_of deliver_reply by_slot
    size both except from occurs is_permutation ascending in_order fill top bests swap_to mesh1 mesh2 the_best keepers swapped mesh3 mesh4
    mesh5 meshes changes_of actions_on actions_of in_range connect_at connect_in connect_reply join_reply subscribe_reply is_negative is_graylisted
    is_heard seconds_of prune_reply graft_refused raised_p7 is_crowded graft_case graft_reply is_candidate height_in degrees_in view_in meshes_in
    punished settle_slot heartbeat_actions maintained_reply heartbeat_reply effect
enters_at =
    let in11 = asked_effect (eleven ++ come 0 (101 ∷ [])) (graft 10000 101 0) refl in
    let in12 = asked_effect (twelve ++ come 0 (101 ∷ [])) (graft 10000 101 0) refl in
    let out12 = asked_effect (twelve ++ come 1 (101 ∷ [])) (graft 10000 101 0) refl in
    record {
      inbound_at11 = ap entered_by in11;
      inbound_at12 = ap entered_by in12;
      outbound_at12 = ap entered_by out12;
    }

from_thirteen_lem : FromThirteen
unfolding passes left given refusals members_in mixed worked come enter bring eleven twelve thirteen grafted maintained pruned_for60 every
    first count iter gather ordinary_numbers code_in joined_in peer_in topic_in set_peer set_topic set_clock set_joined holds find_connected
    find_retained lowest_empty meshsub same_bytes version_of fresh_state with_end with_p5 with_p7 connected_as with_subscribed out_of_mesh into_mesh
    pruned is_member mesh_size reclaimable emptied reclaim_slot reclaimed part1_of part3_of topic_sum all_topics bounded why_of why_in score_in
    topic_score topic_params_in holds_group groups_ok groups_of shares_group sharing sharing_at sharers_of crowd_of raised3_of firstDelivery insert
    sort scores_of above median delivered_of deliver_reply by_slot
    size both except from occurs is_permutation ascending in_order fill top bests swap_to mesh1 mesh2 the_best keepers swapped mesh3 mesh4
    mesh5 meshes changes_of actions_on actions_of in_range connect_at connect_in connect_reply join_reply subscribe_reply is_negative is_graylisted
    is_heard seconds_of prune_reply graft_refused raised_p7 is_crowded graft_case graft_reply is_candidate height_in degrees_in view_in meshes_in
    punished settle_slot heartbeat_actions maintained_reply heartbeat_reply effect
from_thirteen_lem =
    let kept = asked_effect (thirteen ++ come 1 (101 ∷ [])) (heartbeat 10000 0 0 mixed) refl in
    record { thirteen_told = ap told_in kept; thirteen_mesh = ap members_after kept }

from_twelve_lem : FromTwelve
unfolding passes left given refusals members_in mixed worked come enter bring eleven twelve thirteen grafted maintained pruned_for60 every
    first count iter gather ordinary_numbers code_in joined_in peer_in topic_in set_peer set_topic set_clock set_joined holds find_connected
    find_retained lowest_empty meshsub same_bytes version_of fresh_state with_end with_p5 with_p7 connected_as with_subscribed out_of_mesh into_mesh
    pruned is_member mesh_size reclaimable emptied reclaim_slot reclaimed part1_of part3_of topic_sum all_topics bounded why_of why_in score_in
    topic_score topic_params_in holds_group groups_ok groups_of shares_group sharing sharing_at sharers_of crowd_of raised3_of firstDelivery insert
    sort scores_of above median delivered_of deliver_reply by_slot
    size both except from occurs is_permutation ascending in_order fill top bests swap_to mesh1 mesh2 the_best keepers swapped mesh3 mesh4
    mesh5 meshes changes_of actions_on actions_of in_range connect_at connect_in connect_reply join_reply subscribe_reply is_negative is_graylisted
    is_heard seconds_of prune_reply graft_refused raised_p7 is_crowded graft_case graft_reply is_candidate height_in degrees_in view_in meshes_in
    punished settle_slot heartbeat_actions maintained_reply heartbeat_reply effect
from_twelve_lem =
    let kept = asked_effect (twelve ++ come 1 (101 ∷ 102 ∷ [])) (heartbeat 10000 0 0 mixed) refl in
    record { twelve_told = ap told_in kept; twelve_mesh = ap mesh_after kept }

pub table : Reached
table =
    record {
      worked = worked_example;
      thirteen = thirteen_members;
      pruned = pruned_for_60;
      enters = enters_at;
      from_thirteen = from_thirteen_lem;
      from_twelve = from_twelve_lem;
    }
