-- `words::without_lowest` meets its contract. The words passed are 0, and nothing is changed yet.
-- Assumes nothing.
use Prim.Native.Nat.{◌≤◌}
use mathlib.Core.Path.{◌≡◌}
use lib.ListN.{length}
use Rattle.words.specs.Words.{word_count}
use Rattle.words.proofs.WideLaws.{Passed}
use Rattle.words.proofs.without_lowest.Given as goal

abbrev pub invariant-loop-i : goal.invariant-loop-i
invariant-loop-i l = (l.i ≤ word_count) × (length l.m ≡ word_count) × Passed l.m l.i
