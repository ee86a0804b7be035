-- `words::none` meets its contract.
-- Assumes nothing.
use Rattle.words.specs.Words.{word_count}
use Rattle.words.proofs.WideLaws.{none_bits}
use Rattle.words.proofs.none.Goals as goal

pub returns : goal.returns
returns c = none_bits word_count
