-- `words::flags::unpack` meets its contract. The loop builds the flags from the front.
-- Assumes nothing.
use mathlib.Core.Path.{◌≡◌}
use mathlib.Core.Bool.{false}
use lib.ListN.{length, get_or}
use Rattle.records.specs.Records.{slot_count}
use Rattle.index.proofs.Lists.{Built}
use Rattle.words.specs.Words.{word_count, bits_of}
use Rattle.words.proofs.flags.unpack.Given as goal

abbrev pub invariant-loop-s : goal.invariant-loop-s
invariant-loop-s l = (length l.m ≡ word_count) × Built false (λ k. get_or (bits_of l.m) k false) slot_count l.s l.r
