-- `deliveries::next_busy`: the zeros below the lowest bit of the word moved down.
-- Assumes nothing.
use Prim.Native.Nat.{◌/◌, ◌^◌}
use native.Mathlib.Omega.{arith}
use mathlib.Core.Path.{refl}
use lib.Count.{trailing_le}
use Rattle.words.specs.Words.{word_bits}
use Rattle.deliveries.proofs.DecayLaws.{next_topic}
use Rattle.deliveries.proofs.next_busy.Goals as goal

pub overflow_cast-n : goal.overflow_cast-n
overflow_cast-n c = omega (arith, trailing_le word_bits (c.args.w / 2 ^ c.args.t))

pub overflow_add-n : goal.overflow_add-n
overflow_add-n c = omega (arith, c.requires, trailing_le word_bits (c.args.w / 2 ^ c.args.t))

pub returns-then-n-lt-TOPICS : goal.returns-then-n-lt-TOPICS
returns-then-n-lt-TOPICS c = next_topic c.args.w c.args.t _ _ c.requires refl (omega arith) (omega arith) (omega (arith, c.if-n-lt-TOPICS.true))

pub returns-else-n-lt-TOPICS : goal.returns-else-n-lt-TOPICS
returns-else-n-lt-TOPICS c = next_topic c.args.w c.args.t _ _ c.requires refl (omega (arith, c.if-n-lt-TOPICS.false)) c.requires (omega arith)
