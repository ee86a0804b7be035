-- `varint::read_up_to` meets its contract. The measure is what is left of the slice from `at` on. Assumes nothing.
use Rattle.index.proofs.Kit.{sym, arith}
use Rattle.varint.proofs.GroupLaws.{read_at_end, last_is, more_is, small_is}
use Rattle.varint.proofs.+read_up_to.Goals as goal

pub returns-then-s-at : goal.returns-then-s-at
returns-then-s-at t c = sym (read_at_end _ _ _ c.if-s-at.true)

pub returns-then-low-lt128 : goal.returns-then-low-lt128
returns-then-low-lt128 t c = last_is _ _ _ _ _ c.last_group.ensures c.wide-low.ensures (omega arith) (omega arith)

pub returns-then-top-lt128 : goal.returns-then-top-lt128
returns-then-top-lt128 t c = small_is _ _ _ _ c.wide-low.ensures (omega arith) (omega arith) (omega arith)

pub read_up_to-requires : goal.read_up_to-requires
read_up_to-requires t c = (omega arith, tt)

pub after_more-requires : goal.after_more-requires
after_more-requires t c = (
  omega arith,
  omega (
    arith,
    c.wide-low.ensures,
    c.type_inv.s
        c.args.at,
  ),
)

pub returns : goal.returns
returns t c = more_is _ _ _ _ _ _ c.after_more.ensures c.read_up_to.ensures c.wide-low.ensures
    (omega arith) (omega arith)
