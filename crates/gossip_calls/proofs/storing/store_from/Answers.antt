-- `gossip_calls::storing::store_from`: 11 in a topic not joined, 0 for a number that is there, 13 without room, or 0.
use Rattle.index.proofs.Flags.{not_no}
use borrow.Author.Rules.{rules}
use Rattle.gossip_gate.proofs.AdmittedLaws.{admitted_topic}
use Rattle.gossip_calls.proofs.StoreLaws.{stored_outside, stored_there, stored_full, stored_new, store_room}
use Rattle.gossip_calls.proofs.storing.store_from.Goals as goal

pub returns-then-not-is_joined : goal.returns-then-not-is_joined
returns-then-not-is_joined c = search stored_outside

pub is_stored_in-requires : goal.is_stored_in-requires
is_stored_in-requires c = search (admitted_topic, rules)

pub returns-then-is_stored_in : goal.returns-then-is_stored_in
returns-then-is_stored_in c = search stored_there

pub has_room-requires : goal.has_room-requires
has_room-requires c = search (admitted_topic, rules)

pub returns-then-not-has_room : goal.returns-then-not-has_room
returns-then-not-has_room c = search stored_full

pub add-requires : goal.add-requires
add-requires c =
    store_room c.requires _ c.has_room.ensures (not_no c.if-not-has_room.false)

pub returns : goal.returns
returns c = search stored_new
