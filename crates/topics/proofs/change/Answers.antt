-- `topics::change`: the gate's refusals, or what `change_reply` leaves.
use borrow.Author.Rules.{rules}
use Rattle.gate.proofs.PeerGateLaws.{peer_ends}
use Rattle.topics.proofs.ReplyLaws.{change_refusal, change_follows}
use Rattle.topics.proofs.change.Goals as goal

pub change_reply-requires : goal.change_reply-requires
change_reply-requires c = record { ready = search (peer_ends, rules); topic = search peer_ends; slot = search peer_ends }

pub returns-in-Err : goal.returns-in-Err
returns-in-Err c = search change_refusal

pub returns-in-Ok : goal.returns-in-Ok
returns-in-Ok c = search change_follows
