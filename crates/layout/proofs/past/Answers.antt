-- `layout::past`: four words.
use Rattle.layout.proofs.EndLaws.{past_four}
use Rattle.layout.proofs.past.Goals as goal

pub returns : goal.returns
returns c =
    let a = c.args in
    past_four a.cells.now a.o a.used _ _ _ _
    c.past_word.ensures
    c.past_word-2.ensures
    c.past_word-3.ensures
    c.past_word-4.ensures
