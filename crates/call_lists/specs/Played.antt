-- The program's calls, one after the other on one table: what they answer and leave is what the rules give (01: "the program's calls give
-- the same answers, and the tables they leave hold the same joined topics and meshes"). Of the program only its promises are taken.
use Rattle.std.specs.Prelude.{Ok}
use Rattle.std.specs.Prelude.{ℕ, ◌≡◌, List, [], ◌∷◌, map, length}
use Rattle.std.proofs.lemmas.List.Edits.{sets}
use Rattle.layout.specs.View.{state_of}
use Rattle.lookup.specs.Fresh.{fresh_state, Makes}
use Rattle.effects.specs.Actions.{numbers_of}
use Rattle.rules.specs.declared.Answer.{Answer}
use Rattle.rules.specs.Reply.{Reply}
use Rattle.rules.specs.Calls.{Call}
use Rattle.rules.specs.Step.{step}
use Rattle.rules.specs.Promise.{Follows}
use Rattle.saves.specs.Load.{load_of, Loads}
use Rattle.call_lists.specs.Lists.{Start, Loaded, Made, after}
use Rattle.call_lists.specs.Demand3.{Accepted, Holds}

-- a call of the program, its answer, and the action list that it was lent: what stood there, and what stands there after it
pub record Called : Type 0 where
  pub call : Call
  pub answer : Answer
  pub list : List ℕ
  pub list' : List ℕ

-- the same call in a list of the rules
abbrev pub made : Called → Made
made c = record { call = c.call; room = length c.list }

-- what `load` promises where it answers 0
abbrev pub Reads : {start : Start} → Loaded start → (was table : List ℕ) → Type 0
Reads {start} l was table = Loads (load_of l.fine start.params l.clock l.bytes) (Ok tt) was table

-- the table is a fresh router's as `fresh` promises it, or a loaded one's as `load` does
pub data Opened (start : Start) (table : List ℕ) : Type 0 where
  made_fresh : (was : List ℕ) → start.state ≡ fresh_state start.params → Makes start.params (Ok tt) was table → Opened start table
  read_back : (l : Loaded start) (was : List ℕ) → Reads l was table → Opened start table

-- the table is one that a list of the program's calls leaves, the last call first: "Each call gets the tables and the clock that the last
-- one left, and nobody else writes them."
unfoldable pub Played : Start → List Called → List ℕ → Type 0
Played start [] table = Opened start table
Played start (c ∷ before) table =
    (given : List ℕ) × Played start before given × Follows c.call c.answer given table c.list c.list'

-- the rules' reply to a call, after the calls before it
abbrev pub reply_to : Start → List Called → Called → Reply
reply_to start before c = step (after start (map made before)) c.call (length c.list)

-- each call of the list was answered as the rules answer it, and its action list begins with the rules' actions
unfoldable pub SameReplies : Start → List Called → Type 0
SameReplies start [] = Unit
SameReplies start (c ∷ before) =
    (c.answer ≡ (reply_to start before c).answer)
    × (c.list' ≡ sets c.list 0 (numbers_of (reply_to start before c).actions))
    × SameReplies start before

pub record Agrees (start : Start) (calls : List Called) (table : List ℕ) : Type 0 where
  -- "the program's calls give the same answers": the numbers of these are `answered`
  pub replies : SameReplies start calls
  -- "the tables they leave hold the same joined topics and meshes": the same state
  pub state : state_of table ≡ after start (map made calls)
  -- and demand 3 holds of it
  pub demand3 : Holds start (map made calls)

abbrev pub ProgramAgrees : Type 0
ProgramAgrees =
    (start : Start) (calls : List Called) (table : List ℕ) →
    Accepted start →
    Played start calls table →
    Agrees start calls table
