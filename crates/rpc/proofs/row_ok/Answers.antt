use Rattle.index.proofs.Kit.{◌*◌, sym, ap, ◌∙◌, not, arith, every_none, every_more}
use Rattle.rpc.proofs.TopicLaws.{row_long, row_none, row_taken, row_free}
use Rattle.rpc.specs.Reading.{row_bytes}
use Rattle.rpc.proofs.row_ok.Goals as goal

pub overflow_cast-size : goal.overflow_cast-size
overflow_cast-size c = omega (arith, c.type_inv.names (row_bytes * c.args.k))

pub returns-then-size-gt-NAME_BYTES : goal.returns-then-size-gt-NAME_BYTES
returns-then-size-gt-NAME_BYTES c = search row_long

pub returns-then-size-eq0 : goal.returns-then-size-eq0
returns-then-size-eq0 c = search row_none

pub loop-j-init : goal.loop-j-init
loop-j-init c = (omega arith, every_none _)

pub is_named-requires : goal.is_named-requires
is_named-requires c = (c.requires.0, (omega arith, omega arith))

pub returns-then-is_named : goal.returns-then-is_named
returns-then-is_named c =
    let i = c.if-size-gt-NAME_BYTES.false in
    let j = c.if-size-eq0.false in
    let t = c.loop-j-test.true in
    let s = c.is_named.ensures in
    row_taken _ _ i j _ t (ap not (sym s ∙ c.if-is_named.true))

pub loop-j-preserved : goal.loop-j-preserved
loop-j-preserved c =
    let w = c.loop-j.invariant.1 in
    let s = c.is_named.ensures in
    (omega arith, every_more _ _ w (ap not (sym s ∙ c.if-is_named.false)))

pub returns : goal.returns
returns c = search row_free
