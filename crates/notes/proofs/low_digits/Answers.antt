use Rattle.notes.proofs.DigitLaws.{one_there, masked, low_bounds}
use Rattle.notes.proofs.low_digits.Goals as goal

pub overflow_sub-result : goal.overflow_sub-result
overflow_sub-result c = one_there c.args.k c.requires

pub returns : goal.returns
returns c =
    let e = masked c.args.ages c.args.k c.requires in
    (e, low_bounds c.args.ages c.args.k _ c.requires e)
