-- `trace_run::run`: refused parameters, or the calls made so far, their answers and their actions, turn by turn, up to the first event that
-- is not whole. Assumes nothing.
use mathlib.Core.Path.{◌≡◌}
use lib.ListN.{length}
use Rattle.params.specs.declared.Params.{Params}
use Rattle.layout.specs.View.{state_of}
use Rattle.lookup.specs.Fresh.{fresh_state}
use Rattle.trace_run.proofs.RecordedLaws.{Going}
use Rattle.trace_run.proofs.run.Given as goal

-- the table that the loop starts from is a fresh router's
abbrev pub invariant-loop-calls : goal.invariant-loop-calls
invariant-loop-calls l =
    (length l.actions ≡ length l.initial.actions)
    × ((length l.told ≡ length l.initial.told)
    × ((params : Params) → state_of l.initial.table ≡ fresh_state params →
    Going l.edition params l.s l.initial.actions l.initial.told l.at l.calls l.table l.actions l.told))
