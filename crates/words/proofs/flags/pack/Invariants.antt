-- `words::flags::pack` meets its contract. The words made so far have the flags of their slots.
-- Assumes nothing.
use mathlib.Core.Path.{◌≡◌}
use lib.ListN.{length}
use Rattle.records.specs.Records.{slot_count}
use Rattle.words.specs.Words.{word_count}
use Rattle.words.proofs.WideLaws.{PackedBelow}
use Rattle.words.proofs.flags.pack.Given as goal

abbrev pub invariant-loop-i : goal.invariant-loop-i
invariant-loop-i l = (length l.flags ≡ slot_count) × PackedBelow l.flags word_count l.i l.r
