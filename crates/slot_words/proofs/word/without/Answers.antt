use native.Mathlib.Omega.{arith}
use Rattle.layout.proofs.DigitLaws.{not_digit}
use Rattle.slot_words.proofs.word.without.Goals as goal

pub returns : goal.returns
returns c j l = not_digit j 64 c.args.w (omega arith) l
