-- What the rules come to once a test is known, in the form in which the returns of the calls ask it.
-- Assumes nothing.
use Rattle.std.proofs.Common.{Option, Some}
use Prim.Native.Nat.{ℕ, ◌<◌}
use mathlib.Core.Path.{◌≡◌, sym, ◌∙◌}
use mathlib.Core.Bool.{Bool, true, false, cond}
use mathlib.Core.List.{List}
use Rattle.index.proofs.Index.{first_is}
use Rattle.records.specs.Records.{State, slot_count}
use Rattle.layout.specs.View.{state_of}
use Rattle.lookup.specs.Find.{holds, find_connected}
use Rattle.rules.specs.declared.Answer.{Answer}
use Rattle.rules.specs.Reply.{Reply}
use Rattle.rules.specs.Step.{of_peer}
use Rattle.rules.specs.Promise.{Leaves, Gives}

-- a found slot is one of the table's
pub found_below : (st : State) (id s : ℕ) (r : Option ℕ) → r ≡ find_connected st id → r ≡ Some s → s < slot_count
unfolding find_connected
found_below st id s r e g = (first_is (holds st 1 id) slot_count s (sym e ∙ g)).0

-- the slot's own reply
module _ (table : List ℕ) (id : ℕ) (f : ℕ → Reply) (r : Option ℕ) (e : r ≡ find_connected (state_of table) id) where
  pub peer_at :
      (s : ℕ) (a : Answer) (table' : List ℕ) →
      r ≡ Some s →
      Leaves (f s) a table table' →
      Leaves (of_peer (state_of table) id f) a table table'
  peer_at s a table' g l = rw (← e, g) l

-- a reply that goes by a test
pub leaves_then :
    (t : Bool) (o q : Reply) (a : Answer) (table table' : List ℕ) →
    t ≡ true → Leaves o a table table' → Leaves (cond t o q) a table table'
leaves_then t o q a table table' e l = rw e l

pub leaves_else :
    (t : Bool) (o q : Reply) (a : Answer) (table table' : List ℕ) →
    t ≡ false → Leaves q a table table' → Leaves (cond t o q) a table table'
leaves_else t o q a table table' e l = rw e l

pub gives_then :
    (t : Bool) (o q : Reply) (a : Answer) (table table' list list' : List ℕ) →
    t ≡ true → Gives o a table table' list list' → Gives (cond t o q) a table table' list list'
gives_then t o q a table table' list list' e l = rw e l

pub gives_else :
    (t : Bool) (o q : Reply) (a : Answer) (table table' list list' : List ℕ) →
    t ≡ false → Gives q a table table' list list' → Gives (cond t o q) a table table' list list'
gives_else t o q a table table' list list' e l = rw e l
