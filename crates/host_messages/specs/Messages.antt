-- What a host gets of the functions over messages: the promise of the reader, with the answer as one number.
use Rattle.std.specs.Prelude.{ℕ, ◌≡◌, Bool, cond, List}
use Rattle.answers.specs.Answers.{packed}
use Rattle.rpc.specs.Reading.{Reading, known, read_of, answer_number, answer_value}
use Rattle.rpc_write.specs.Writing.{Lent, Shown}

-- "Topic names .. or 2"
abbrev pub names_number : Bool → ℕ
names_number accepted = cond accepted 0 2

-- what the reader's definition says, as one number and a list; list' is what stands in the lent list after the call
pub record HostsMessage (w : Reading) (r : ℕ) (list' : List ℕ) : Type 0 where
  pub answer : r ≡ packed (answer_number w.answer) (answer_value w.answer)
  pub entries : list' ≡ w.list

abbrev pub HostsReadMessage : Shown → Shown → Shown → Shown → Shown → ℕ → Lent → Type 0
HostsReadMessage names ids numbers order message r entries =
    HostsMessage
    (read_of (known names.entry.now ids.entry.now numbers.entry.now) order.entry.now message.entry.now
    entries.entry.now)
    r
    entries.exit.now
