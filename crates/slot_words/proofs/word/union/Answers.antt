-- `slot_words::word::union`: a slot has its bit where one of the two words has it.
use Rattle.slot_words.proofs.WordLaws.{union_slot}
use mathlib.Core.Path.{refl}
use Rattle.slot_words.proofs.word.union.Goals as goal

pub returns : goal.returns
returns c =
    (refl, union_slot c.args.a.now c.args.b.now)
