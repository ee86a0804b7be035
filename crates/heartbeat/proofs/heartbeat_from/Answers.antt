-- `heartbeat::heartbeat_from`: 7, then 11, then the maintained mesh.
use borrow.Author.Rules.{rules}
use Rattle.index.proofs.Flags.{failed, passed}
use Rattle.rules.specs.Step.{heartbeat_reply}
use Rattle.rules.proofs.PromiseLaws.{gives_refused}
use Rattle.rules.proofs.StepLaws.{gives_then, gives_else}
use Rattle.rules.proofs.EndLaws.{gives_ignored}
use Rattle.heartbeat.proofs.heartbeat_from.Goals as goal

pub returns-then-not-is_permutation : goal.returns-then-not-is_permutation
unfolding heartbeat_reply
returns-then-not-is_permutation c = search (gives_else, gives_refused, failed)

pub returns-then-not-is_joined : goal.returns-then-not-is_joined
unfolding heartbeat_reply
returns-then-not-is_joined c = search (gives_then, gives_else, gives_ignored, failed, passed)

pub maintain_topic-requires : goal.maintain_topic-requires
maintain_topic-requires c = record { ready = search rules; topic = search rules; room = search rules; permutation = search passed }

pub returns : goal.returns
unfolding heartbeat_reply
returns c = search (gives_then, passed)
