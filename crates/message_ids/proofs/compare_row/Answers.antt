-- `message_ids::compare_row` meets its contract. Assumes nothing.
use Rattle.index.proofs.Kit.{◌+◌, ◌-◌, ◌*◌, arith}
use Rattle.message_ids.specs.Ids.{row_bytes}
use Rattle.message_ids.proofs.CodeLaws.{compared_slices}
use Rattle.message_ids.proofs.compare_row.Goals as goal

pub returns : goal.returns
returns c =
    let q = c.requires in
    let n = c.from-n.ensures in
    let at = row_bytes * c.args.k + 1 in
    let from = c.args.start in
    compared_slices _ _ _ _ _ _ (omega arith) q.1.1.1 (λ k. let y = c.type_inv.ids k in omega arith) (λ k. let y = c.type_inv.s k in omega arith)
    (at + c.from-n.result - at) (from + c.args.size - from) _ c.compare.ensures (omega arith) (omega arith)
