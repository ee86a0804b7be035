use Rattle.index.proofs.Kit.{◌≡◌, ◌∙◌, arith, rules}
use mathlib.Core.List.{map}
use lib.ListN.{length, get_or, length-map, get_or-map}
use lib.IntN.{pos}
use Rattle.index.proofs.Lists.{built_none, built_more, built_done}
use Rattle.varint.specs.Codes.{code_of}
use Rattle.records.specs.Records.{param_count}
use Rattle.limits.proofs.LimitLaws.{code_of_given}
use Rattle.limits.proofs.write_codes.Goals as goal

pub loop-i-init : goal.loop-i-init
loop-i-init c = built_none _ _ _ _ c.requires.codes_len

pub loop-i-preserved : goal.loop-i-preserved
loop-i-preserved c =
    let l = c.loop-i in
    built_more _ _ _ l.i l.codes _ (omega arith) l.invariant
    (code_of_given (get_or c.args.numbers.now l.i (pos 0)) c.code_of.result
    (search rules) c.code_of.ensures)

pub returns : goal.returns
returns c =
    let numbers = c.args.numbers.now in
    let n : length numbers ≡ param_count = c.requires.numbers_len in
    built_done _ _ _ c.loop-i.i c.loop-i.codes (map code_of numbers) (omega arith) c.loop-i.invariant
    (length-map numbers code_of ∙ n)
    (λ k h. get_or-map code_of numbers k (pos 0))
