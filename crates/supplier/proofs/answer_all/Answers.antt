-- `supplier::answer_all` meets its contract. Assumes nothing.
use Rattle.index.proofs.Kit.{sym, arith}
use Rattle.text.proofs.TextLaws.{stored_same}
use Rattle.supplier.proofs.OutputLaws.{all_long, all_same}
use Rattle.supplier.proofs.answer_all.Goals as goal

pub overflow_add-bytes : goal.overflow_add-bytes
overflow_add-bytes c = record { fits = c.requires.all }

pub put_head-requires : goal.put_head-requires
put_head-requires c = omega (arith, c.requires.out)

pub returns-then-mode-rest : goal.returns-then-mode-rest
returns-then-mode-rest c = (
  λ more l. stored_same _ _ _ _ _ _
      (sym (all_long c.args.mode c.args.bytes.now more c.args.rest c.if-mode-rest.true
      c.requires.front l)) c.put_head.ensures.0,
  omega arith,
)

pub answer-requires : goal.answer-requires
answer-requires c = (c.requires.out, c.requires.lent)

pub returns : goal.returns
returns c = (
  λ more l. stored_same _ _ _ _ _ _
      (all_same c.args.mode c.args.bytes.now more c.args.rest
      c.if-mode-rest.false c.requires.front l)
      c.answer.ensures.0,
  c.answer.ensures.1,
)
