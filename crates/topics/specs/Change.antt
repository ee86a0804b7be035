-- A subscribe and an unsubscribe as one call with a flag: they differ only in what they leave of the peer's topic record.
use Rattle.std.specs.Prelude.{ℕ, Bool, true, false, cond, []}
use Rattle.records.specs.Records.{State}
use Rattle.records.specs.declared.TopicRecord.{TopicRecord}
use Rattle.effects.specs.Effects.{on_topic, with_subscribed, out_of_mesh}
use Rattle.rules.specs.Calls.{Call, subscribe, unsubscribe}
use Rattle.rules.specs.Reply.{Reply, ignored, done}
use Rattle.rules.specs.Step.{is_graylisted}

abbrev pub change : Bool → ℕ → ℕ → ℕ → Call
change true time id t = subscribe time id t
change false time id t = unsubscribe time id t

abbrev pub changed : Bool → TopicRecord → TopicRecord
changed true r = with_subscribed r 1
changed false r = with_subscribed (out_of_mesh r) 0

unfoldable pub change_reply : Bool → State → ℕ → ℕ → ℕ → Reply
change_reply on st time t s = cond (is_graylisted st s) (ignored st time) (done (on_topic st s t (changed on)) time [])
