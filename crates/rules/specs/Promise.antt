-- What a public call promises: it answers and leaves what the rules give, for every table, every argument and every lent list.
use Rattle.std.specs.Prelude.{ℕ, ◌≡◌, true, List, length, set}
use Rattle.std.proofs.lemmas.List.Edits.{sets}
use Rattle.layout.specs.View.{clock_at, state_of}
use Rattle.effects.specs.Actions.{numbers_of}
use Rattle.rules.specs.declared.Answer.{Answer}
use Rattle.rules.specs.declared.Answer.TheVariants.{Ignored}
use Rattle.rules.specs.Reply.{Reply, refuses}
use Rattle.rules.specs.Calls.{Call}
use Rattle.rules.specs.Step.{step}

-- r is the answer, table is what stood there at the call, and table' what stands there after it
pub record Leaves (o : Reply) (r : Answer) (table table' : List ℕ) : Type 0 where
  -- the answer is the rules'
  pub answer : r ≡ o.answer
  -- the table holds the rules' state; a refusal changes no cell, and an ignored call the clock's alone
  pub state : state_of table' ≡ o.state
  pub kept : refuses r ≡ true → table' ≡ table
  pub clock : r ≡ Ignored → table' ≡ set table clock_at o.state.clock

-- the same with the lent list: it begins with the rules' actions, which fit it (specs/Kept.antt), and the numbers past them are unchanged
pub record Gives (o : Reply) (r : Answer) (table table' list list' : List ℕ) : Type 0 where
  pub leaves : Leaves o r table table'
  pub actions : list' ≡ sets list 0 (numbers_of o.actions)

abbrev pub Follows : Call → Answer → List ℕ → List ℕ → List ℕ → List ℕ → Type 0
Follows c r table table' list list' = Gives (step (state_of table) c (length list)) r table table' list list'
