-- From what the reader of messages promises to what a host gets: the answer as one number.
-- Assumes nothing.
use Rattle.std.proofs.Common.{Result}
use Rattle.rpc.specs.declared.ReadError.{ReadError}
use Rattle.index.proofs.Kit.{ℕ, ◌≤◌, Bool, ◌≡◌, sym, ap, ◌∙◌, arith}
use mathlib.Core.List.{List}
use Rattle.answers.specs.Answers.{packed}
use Rattle.rpc.specs.Reading.{Known, read_of, answer_number, answer_value}
use Rattle.rpc.proofs.PlaceLaws.{read_most}
use Rattle.host_messages.specs.Messages.{names_number, HostsMessage}

-- ---- names
pub names_told :
    (r : ℕ) (flag accepted b : Bool) → flag ≡ accepted → flag ≡ b → r ≡ packed (names_number b) 0 → r ≡ packed (names_number accepted) 0
names_told r flag accepted b e t p = p ∙ ap (λ (x : Bool). packed (names_number x) 0) (sym t ∙ e)

-- ---- a message
module _
    (k : Known) (order s list out : List ℕ) (a v : Result ℕ ReadError)
    (e : (a ≡ (read_of k order s list).answer) × (out ≡ (read_of k order s list).list)) (t : a ≡ v)
  where
    answer_is : v ≡ (read_of k order s list).answer
    answer_is = sym t ∙ e.0

    pub message_fits : answer_value v ≤ 4294967295
    message_fits = omega (arith, ap answer_value answer_is, read_most k order s list)

    pub hosts_message : (r : ℕ) → r ≡ packed (answer_number v) (answer_value v) → HostsMessage (read_of k order s list) r out
    hosts_message r p = record { answer = p ∙ ap (λ (x : Result ℕ ReadError). packed (answer_number x) (answer_value x)) answer_is; entries = e.1 }
