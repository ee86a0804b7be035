use Rattle.slot_words.proofs.WordLaws.{common_bit}
use Rattle.slot_words.proofs.word.common_word.Goals as goal

pub returns : goal.returns
returns c = common_bit c.args.a c.args.b
