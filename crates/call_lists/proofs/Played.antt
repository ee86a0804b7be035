-- The program's calls on one table: by induction on their list, each from its own promise.
-- Assumes nothing.
use Prim.{tt}
use Rattle.index.proofs.Kit.{ℕ, ◌≡◌, sym, ap, ◌∙◌}
use mathlib.Core.List.{List, [], ◌∷◌, map}
use lib.ListN.{length}
use lib.Seq.{sets}
use Rattle.records.specs.Records.{State}
use Rattle.layout.specs.View.{state_of}
use Rattle.effects.specs.Actions.{numbers_of}
use Rattle.rules.specs.Step.{step}
use Rattle.call_lists.specs.Lists.{Start, after}
use Rattle.call_lists.specs.Demand3.{Accepted}
use Rattle.call_lists.specs.Played.{Opened, made_fresh, read_back, Called, made, Played, SameReplies, ProgramAgrees}
use Rattle.call_lists.proofs.Demand3.{demand3}

module _ (start : Start) (ok : Accepted start) where
  opened_state : (table : List ℕ) → Opened start table → state_of table ≡ start.state
  opened_state table (made_fresh was e m) = let s = m.state in rw ok.passes at s ∙ sym e
  opened_state table (read_back l was m) = let s = m.state in rw l.load at s

  same_state : (calls : List Called) (table : List ℕ) → Played start calls table → state_of table ≡ after start (map made calls)
  unfolding Played after
  same_state [] table p = opened_state table p
  same_state (c ∷ before) table p =
      p.2.leaves.state ∙ ap (λ (st : State). (step st c.call (length c.list)).state) (same_state before p.0 p.1)

  same_replies : (calls : List Called) (table : List ℕ) → Played start calls table → SameReplies start calls
  unfolding Played SameReplies
  same_replies [] table p = tt
  same_replies (c ∷ before) table p =
      let e = same_state before p.0 p.1 in (
        p.2.leaves.answer ∙ ap (λ (st : State). (step st c.call (length c.list)).answer) e,
        p.2.actions ∙ ap (λ (st : State). sets c.list 0 (numbers_of (step st c.call (length c.list)).actions)) e,
        same_replies before p.0 p.1,
      )

pub agrees : ProgramAgrees
agrees start calls table ok p =
    record {
      replies = same_replies start ok calls table p;
      state = same_state start ok calls table p;
      demand3 = demand3 start (map made calls) ok;
    }
