use mathlib.Core.Path.{refl, ◌∙◌}
use native.Mathlib.Omega.{arith}
use Rattle.save_write.proofs.WriteLaws.{row_none, row_full, row_more, row_all}
use Rattle.save_write.proofs.bytes.put_row.Goals as goal

pub loop-n-init : goal.loop-n-init
loop-n-init c = (omega arith, (refl, row_none c.args.row.now c.args.at c.args.buf.now))

pub shape_of-buf-in_default : goal.shape_of-buf-in_default
shape_of-buf-in_default c = c.write_u64.auto.buf
    ∙ c.loop-n.invariant.1.0

pub returns-in_default : goal.returns-in_default
returns-in_default c =
    let l = c.loop-n in
    let w = c.write_u64 in
    row_full c.args.row.now c.args.at c.args.buf.now l.n-index l.place l.buf l.invariant.1.1
    c.loop-n-test.true
    c.requires
    w.result
    w.new.buf
    w.ensures
    c.in_default.is

pub loop-n-preserved : goal.loop-n-preserved
loop-n-preserved c =
    let l = c.loop-n in
    let w = c.write_u64 in
    let t = c.loop-n-test.true in (
      omega arith,
      (
        w.auto.buf ∙ l.invariant.1.0,
        row_more c.args.row.now c.args.at c.args.buf.now l.n-index l.place l.buf l.invariant.1.1 t c.requires w.result
            w.new.buf
            w.ensures
            _
            c.in-Some.is,
      ),
    )

pub shape_of-buf : goal.shape_of-buf
shape_of-buf c = c.loop-n.invariant.1.0

pub returns : goal.returns
returns c =
    let l = c.loop-n in
    row_all c.args.row.now c.args.at c.args.buf.now l.n-index l.place l.buf c.loop-n-test.false l.invariant.1.1
