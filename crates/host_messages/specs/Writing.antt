-- What a host gets of the writer of messages: its promise, with the answer as one number.
use Rattle.std.specs.Prelude.{ℕ, ◌≡◌, List}
use Rattle.answers.specs.Answers.{packed}
use Rattle.rpc.specs.Reading.{known}
use Rattle.rpc_write.specs.Writing.{Writing, wrote_number, wrote_value, Lent, Shown}
use Rattle.rpc_actions.specs.Actions.{write_actions_of}

-- what the writer's definition says, as one number and a buffer; buf' is what stands in the lent buffer after the call
pub record HostsWritten (w : Writing) (r : ℕ) (buf' : List ℕ) : Type 0 where
  pub answer : r ≡ packed (wrote_number w.answer) (wrote_value w.answer)
  pub bytes : buf' ≡ w.bytes

abbrev pub HostsWriteMessage : Shown → Shown → Shown → Shown → Shown → Shown → Shown → ℕ → Lent → Type 0
HostsWriteMessage names ids numbers order actions topics changes r buf =
    HostsWritten
    (write_actions_of (known names.entry.now ids.entry.now numbers.entry.now) order.entry.now actions.entry.now
    topics.entry.now changes.entry.now buf.entry.now)
    r
    buf.exit.now
