use native.Mathlib.Omega.{arith}
use Rattle.slot_words.proofs.WordLaws.{outside_bit}
use Rattle.slot_words.proofs.word.outside_word.Goals as goal

pub returns : goal.returns
returns c = outside_bit c.args.a c.args.b (omega arith)
