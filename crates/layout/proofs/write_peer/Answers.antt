-- `layout::write_peer`: six bits, seven cells and a row of one slot are written: no other slot sees it, and the slot reads the record.
use mathlib.Core.Path.{◌≡◌, ◌∙◌}
use lib.ListN.{length}
use Rattle.layout.specs.View.{set_columns}
use Rattle.layout.proofs.SlotLaws.{peer_written}
use native.Mathlib.Omega.{arith}
use borrow.Author.Rules.{rules}
use Rattle.layout.proofs.write_peer.Goals as goal

pub overflow_mul-slot : goal.overflow_mul-slot
overflow_mul-slot c = let h =
    c.requires.1.0 in omega (arith, h)

pub overflow_add-slot : goal.overflow_add-slot
overflow_add-slot c = let h =
    c.requires.1.0 in omega (arith, h)

-- the row is an array of eight
pub write_row-requires : goal.write_row-requires
write_row-requires c =
    let n : length c.args.p.backoff ≡ 8 = search rules in
    let l = c.set_flags.ensures.size in
    let m = c.set_columns.ensures.1 in
    let z = c.requires.0 in
    let h = c.requires.1.0 in
    omega (arith, n, l, m, z, h)

pub returns : goal.returns
returns c =
    let g = c.args.p.groups in
    let f = c.set_flags in
    peer_written c.args.cells.now c.args.slot c.args.p c.requires.0 c.requires.1.0 c.requires.1.1.0 c.requires.1.1.1
    (search rules) _ _ _ f.ensures.written
    (c.set_columns.ensures.0
    ∙ λ i. set_columns f.new.cells c.args.slot c.args.p.id g.first g.second g.third g.fourth
    (c.halves-p57.ensures i) c.args.p.retain)
    c.write_row.ensures
