use Rattle.index.proofs.Kit.{ℕ, ◌+◌, ◌≡◌, refl, sym, ap, ◌∙◌, arith}
use lib.ListN.{length-set}
use lib.Seq.{sets}
use Rattle.supplier_entry.specs.Bytes.{low_bytes}
use Rattle.supplier_entry.proofs.ByteLaws.{low_put, low_done}
use Rattle.supplier_entry.proofs.put_low.Goals as goal

pub loop-k-init : goal.loop-k-init
loop-k-init c =
    let e : c.args.at + 0 ≡ c.args.at = omega arith in
    (omega arith, refl, ap (λ (k : ℕ). sets c.args.buf.now k (low_bytes 8 c.args.u)) e)

pub loop-k-preserved : goal.loop-k-preserved
loop-k-preserved c =
    let l = c.loop-k in
    let a = c.args in
    (omega arith, length-set l.buf _ _ ∙ l.invariant.1, low_put l.buf a.at l.k l.rest (omega arith) ∙ l.invariant.2)

pub shape_of-buf : goal.shape_of-buf
shape_of-buf c = c.loop-k.invariant.1

pub returns : goal.returns
returns c = let l = c.loop-k in sym (low_done l.buf c.args.at l.k l.rest (omega arith)) ∙ l.invariant.2
