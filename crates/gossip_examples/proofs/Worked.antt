-- The worked examples, by computation of the effects of their calls (Behind).
-- Assumes nothing.
use mathlib.Core.Path.{refl}
use Rattle.index.specs.Index.{count, every, first, gather, iter}
use Rattle.records.specs.Records.{code_in, holds_group, joined_in, peer_in, set_clock, set_joined, set_peer, set_topic, topic_in}
use Rattle.params.specs.Ordinary.{ordinary_numbers}
use Rattle.lookup.specs.Find.{find_connected, find_retained, holds as holdsId, lowest_empty}
use Rattle.lookup.specs.Fresh.{fresh_state}
use Rattle.lookup.specs.Name.{meshsub, same_bytes, version_of}
use Rattle.score.specs.Formula.{all_topics, bounded, topic_sum, why_of}
use Rattle.score.specs.Parts.{crowd_of, part1_of, part3_of}
use Rattle.score.specs.Score.{score_in, sharers_of, shares_group, sharing, sharing_at, topic_params_in, topic_score, why_in}
use Rattle.effects.specs.Effects.{connected_as, departed, emptied, into_mesh, is_member, left_topic, mesh_size, out_of_mesh, reclaim_slot}
use Rattle.effects.specs.Effects.{reclaimable, reclaimed, retained_to, with_subscribed}
use Rattle.sets.specs.Sets.{ascending, by_slot, in_order, is_permutation, occurs}
use Rattle.rules.specs.Calls.{groups_of, groups_ok, in_range}
use Rattle.rules.specs.Step.{connect_at, connect_in, connect_reply, effect, graft_case, graft_reply, is_crowded, is_graylisted, is_negative}
use Rattle.rules.specs.Step.{join_reply, leave_actions, leave_reply, leave_slot, subscribe_reply}
use Rattle.gossip.specs.Calls.{new_in_range}
use Rattle.gossip.specs.Notes.{added, aged, count_in, ended, forget, fresh_gossip, has, holds, keep, moved, note_in, put_in, replied, set_note}
use Rattle.gossip.specs.Notes.{set_replies, set_store, some, store_in, stored, stored_in}
use Rattle.gossip.specs.Step.{announce_reply, ask_reply, beat_of, besides, idontwant_reply, ihave_reply, is_answered, is_asked, is_heeded}
use Rattle.gossip.specs.Step.{is_relayed, is_served, is_target, iwant_reply, kept, new_effect, oldest_first, relay_reply, store_reply, tell_by_slot}
use Rattle.gossip.specs.Step.{under_gossip, wanted}
use Rattle.gossip.specs.Valid.{setup_ok}
use Rattle.gossip_examples.specs.Worked.{once, twice, full, news, third, limits, crowded, setup, begin, Worked}
use Rattle.gossip_examples.proofs.Behind.{checked, begun}

pub worked : Worked
unfolding count every first gather iter code_in holds_group joined_in peer_in set_clock set_joined set_peer set_topic topic_in ordinary_numbers
    find_connected find_retained holdsId lowest_empty fresh_state meshsub same_bytes version_of all_topics bounded topic_sum why_of crowd_of part1_of
    part3_of score_in sharers_of shares_group sharing sharing_at topic_params_in topic_score why_in connected_as departed emptied into_mesh is_member
    left_topic mesh_size out_of_mesh reclaim_slot reclaimable reclaimed retained_to with_subscribed ascending by_slot in_order is_permutation occurs
    groups_of groups_ok in_range connect_at connect_in connect_reply effect graft_case graft_reply is_crowded is_graylisted is_negative join_reply
    leave_actions leave_reply leave_slot subscribe_reply new_in_range added aged count_in ended forget fresh_gossip has holds keep moved note_in
    put_in replied set_note set_replies set_store some store_in stored stored_in announce_reply ask_reply beat_of besides idontwant_reply ihave_reply
    is_answered is_asked is_heeded is_relayed is_served is_target iwant_reply kept new_effect oldest_first relay_reply store_reply tell_by_slot
    under_gossip wanted begin checked setup_ok
worked =
    record {
      once_answers = begun (setup 2 1) refl once _ refl;
      twice_answers = begun (setup 2 2) refl twice _ refl;
      full_answers = begun (setup 2 1) refl full _ refl;
      news_answers = begun (setup 2 1) refl news _ refl;
      third_answers = begun (setup 2 1) refl third _ refl;
      limits_answers = begun (setup 2 1) refl limits _ refl;
      crowded_answers = begun (setup 32 1) refl crowded _ refl;
    }
