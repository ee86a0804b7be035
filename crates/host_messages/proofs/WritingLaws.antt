-- From what the writer of messages promises to what a host gets: the answer as one number.
-- Assumes nothing.
use Rattle.std.proofs.Common.{Result}
use Rattle.rpc_write.specs.declared.WriteError.{WriteError}
use Rattle.index.proofs.Kit.{ℕ, ◌≤◌, ◌≡◌, sym, ap, ◌∙◌, arith}
use mathlib.Core.List.{List}
use Rattle.answers.specs.Answers.{packed}
use Rattle.rpc.specs.Reading.{Known}
use Rattle.rpc_write.specs.Writing.{wrote_number, wrote_value}
use Rattle.rpc_actions.specs.Actions.{write_actions_of}
use Rattle.rpc_actions.proofs.LongestLaws.{write_most}
use Rattle.host_messages.specs.Writing.{HostsWritten}

module _
    (k : Known) (order actions topics changes buf out : List ℕ) (a v : Result ℕ WriteError)
    (e : (a ≡ (write_actions_of k order actions topics changes buf).answer)
    × (out ≡ (write_actions_of k order actions topics changes buf).bytes))
    (t : a ≡ v)
  where
    answer_is : v ≡ (write_actions_of k order actions topics changes buf).answer
    answer_is = sym t ∙ e.0

    pub write_fits : wrote_value v ≤ 4294967295
    write_fits = omega (arith, ap wrote_value answer_is, write_most k order actions topics changes buf)

    pub hosts_written :
        (r : ℕ) → r ≡ packed (wrote_number v) (wrote_value v) → HostsWritten (write_actions_of k order actions topics changes buf) r out
    hosts_written r p = record { answer = p ∙ ap (λ (x : Result ℕ WriteError). packed (wrote_number x) (wrote_value x)) answer_is; bytes = e.1 }
