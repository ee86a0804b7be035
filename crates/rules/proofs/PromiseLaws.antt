-- From what an inner function leaves to what a public call promises.
-- Assumes nothing.
use Rattle.std.proofs.Common.{Ok, Err}
use Prim.Native.Nat.{ℕ}
use mathlib.Core.Path.{◌≡◌, refl, sym, ap, ◌∙◌}
use mathlib.Core.Bool.{true, false≢true}
use mathlib.Core.List.{List, []}
use lib.ListN.{length}
use Rattle.layout.specs.View.{state_of}
use Rattle.layout.proofs.ViewLaws.{clock_again}
use Rattle.effects.specs.Actions.{numbers_of}
use Rattle.rules.specs.declared.Answer.{Answer}
use Rattle.rules.specs.declared.Answer.TheVariants.{Done, Scored, Early, OutOfRange, NotConnected, AlreadyConnected, NoSlot}
use Rattle.rules.specs.declared.Answer.TheVariants.{UnknownProtocol, NotPermutation, ListShort, Ignored, NotRouter}
use Rattle.rules.specs.Reply.{Reply, refuses, changes, refused}
use Rattle.rules.specs.Calls.{Call, time_of, in_range}
use Rattle.rules.specs.Step.{gate_of, effect, step}
use Rattle.rules.specs.Promise.{Leaves, Gives, Follows}

no_refusal : (r : Answer) → changes r ≡ true → refuses r ≡ true → ⊥
no_refusal (Done n) e f = false≢true f
no_refusal (Scored w) e f = false≢true f
no_refusal Early e f = false≢true e
no_refusal OutOfRange e f = false≢true e
no_refusal NotConnected e f = false≢true e
no_refusal AlreadyConnected e f = false≢true e
no_refusal NoSlot e f = false≢true e
no_refusal UnknownProtocol e f = false≢true e
no_refusal NotPermutation e f = false≢true e
no_refusal ListShort e f = false≢true e
no_refusal Ignored e f = false≢true e
no_refusal NotRouter e f = false≢true e

-- 0: the state is the rules'
pub leaves_moved :
    (o : Reply) (r : Answer) (table table' : List ℕ) →
    r ≡ o.answer →
    changes o.answer ≡ true →
    state_of table' ≡ o.state →
    Leaves o r table table'
leaves_moved o r table table' a n s =
    record {
      answer = a;
      state = s;
      kept = λ e. absurd (no_refusal r (ap changes a ∙ n) e);
      clock = λ e. absurd (false≢true (sym (ap changes e) ∙ ap changes a ∙ n));
    }

-- a refusal
pub leaves_refused : (a : Answer) (table : List ℕ) → Leaves (refused a (state_of table)) a table table
leaves_refused a table = record { answer = refl; state = refl; kept = λ e. refl; clock = λ e. sym (clock_again table) }

-- no action: the lent list is as it was
pub gives_quiet :
    (o : Reply) (r : Answer) (table table' list : List ℕ) →
    o.actions ≡ [] →
    Leaves o r table table' →
    Gives o r table table' list list
unfolding numbers_of
gives_quiet o r table table' list e l = record { leaves = l; actions = rw e }

pub gives_refused : (a : Answer) (table list : List ℕ) → Gives (refused a (state_of table)) a table table list list
gives_refused a table list = gives_quiet (refused a (state_of table)) a table table list refl (leaves_refused a table)

module _ (c : Call) (table list : List ℕ) where
  pub follows_refused :
      (a : Answer) →
      gate_of (state_of table) (in_range c) (length list) (time_of c) ≡ Err a →
      Follows c a table table list list
  unfolding step
  follows_refused a g = rw g (gives_refused a table list)

  pub follows_passed :
      (r : Answer) (table' list' : List ℕ) →
      gate_of (state_of table) (in_range c) (length list) (time_of c) ≡ Ok tt →
      Gives (effect (state_of table) c) r table table' list list' →
      Follows c r table table' list list'
  unfolding step
  follows_passed r table' list' g h = rw g h
