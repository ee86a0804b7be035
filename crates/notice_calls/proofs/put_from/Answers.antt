-- `notice_calls::put_from`: 11 for a peer that is not heeded and for a full set, 0 for a number that is there, or is put in.
use Rattle.index.proofs.Flags.{not_no}
use borrow.Author.Rules.{rules}
use Rattle.gossip_gate.proofs.AdmittedLaws.{admitted_valid, admitted_slot}
use Rattle.notice_calls.proofs.NoticeLaws.{put_unheeded, put_there, put_full, room_there, put_new}
use Rattle.notice_calls.proofs.put_from.Goals as goal

pub is_heeded-requires : goal.is_heeded-requires
is_heeded-requires c = search (admitted_valid, rules)

pub returns-then-not-is_heeded : goal.returns-then-not-is_heeded
returns-then-not-is_heeded c = search put_unheeded

pub holds-requires : goal.holds-requires
holds-requires c = search (admitted_slot, rules)

pub returns-then-holds : goal.returns-then-holds
returns-then-holds c = search put_there

pub has_room-requires : goal.has_room-requires
has_room-requires c = search (admitted_slot, rules)

pub returns-then-not-has_room : goal.returns-then-not-has_room
returns-then-not-has_room c = search put_full

pub put-requires : goal.put-requires
put-requires c =
    room_there c.requires _ c.has_room.ensures (not_no c.if-not-has_room.false)

pub returns : goal.returns
returns c = search put_new
