-- The worked examples, by computation.
-- Assumes nothing.
use mathlib.Core.Path.{refl}
use Rattle.index.specs.Index.{every, first, count, iter, gather}
use Rattle.records.specs.Records.{holds_group, code_in, joined_in, peer_in, topic_in, set_peer, set_topic, set_clock}
use Rattle.lookup.specs.Find.{holds, find_connected}
use Rattle.effects.specs.Effects.{with_end, with_p5, with_p7, out_of_mesh, into_mesh, pruned, is_member, mesh_size, retained_to, reclaimable}
use Rattle.score.specs.Parts.{part1_of, part3_of, crowd_of}
use Rattle.score.specs.Formula.{topic_sum, all_topics, bounded, why_of}
use Rattle.score.specs.Score.{why_in, score_in, topic_score, topic_params_in, shares_group, sharing, sharing_at, sharers_of}
use Rattle.score.specs.Counters.{faded_of}
use Rattle.sets.specs.Sets.{
  by_slot,
  size,
  both,
  except,
  from,
  occurs,
  is_permutation,
  ascending,
  in_order,
  fill,
  top,
  bests,
  first_of,
  last_of,
  swap_once,
  swap_to,
  bottom,
  goer,
}
use Rattle.mesh.specs.Maintenance.{mesh1, mesh2, the_best, keepers, swapped, mesh3, mesh4, mesh5, meshes, changes_of, actions_on, actions_of}
use Rattle.rules.specs.Step.{is_negative, is_graylisted, is_heard, seconds_of, prune_reply, graft_refused, raised_p7, is_crowded, graft_case}
use Rattle.rules.specs.Step.{graft_reply, is_candidate, height_in, degrees_in, view_in, meshes_in, punished, settle_slot}
use Rattle.rules.specs.Step.{heartbeat_actions, maintained_reply, heartbeat_reply, effect}
use Rattle.examples.specs.Table.{lonely, short, short_sum, peer, in_topic, peers, topics, crowd, pruned_for60, grafted, maintained}
use Rattle.examples.specs.Table.{Examples}
use Rattle.examples.specs.Slack.{grafted_at}
use Rattle.examples.specs.Better.{rated, stays}
use Rattle.examples.specs.Worked.{Worked}

pub worked : Worked
unfolding grafted_at rated stays with_p5 with_p7 retained_to reclaimable faded_of topic_sum part1_of part3_of lonely short short_sum peer in_topic
    peers topics crowd pruned_for60 grafted maintained
    prune_reply seconds_of pruned with_end out_of_mesh into_mesh is_heard is_graylisted is_negative score_in topic_score topic_params_in shares_group
    sharing sharing_at sharers_of crowd_of holds_group
    all_topics bounded why_of why_in graft_refused raised_p7 is_crowded graft_case graft_reply mesh_size is_member
    holds find_connected count every first iter gather code_in joined_in peer_in topic_in set_peer set_topic set_clock
    is_candidate height_in degrees_in view_in meshes_in punished settle_slot heartbeat_actions maintained_reply heartbeat_reply effect
    by_slot size both except from occurs is_permutation ascending in_order fill top bests bottom goer first_of last_of swap_once swap_to
    mesh1 mesh2 the_best keepers swapped mesh3 mesh4 mesh5 meshes changes_of actions_on actions_of
worked =
    record {
      bench =
          record {
            decays = refl;
            decays_too = refl;
            deficit = refl;
            at_activation = refl;
            running = refl;
            over = refl;
            inbound_at11 = (refl, refl);
            inbound_at12 = (refl, refl);
            outbound_at12 = (refl, refl);
            thirteen = refl;
            thirteen_mesh = refl;
            twelve_mesh = refl;
          };
      slack =
          record {
            waits = refl;
            over = refl;
            refused = refl;
            taken = (refl, refl);
            kept = refl;
            emptied = refl;
            never = refl;
            end_of1 = (refl, refl);
          };
      better = record { without = refl; with = refl; more = refl; less = refl };
    }

pub examples : Examples
examples = worked.bench
