-- `supplier::reply` meets its contract. Assumes nothing.
use Rattle.index.proofs.Kit.{◌∙◌, arith}
use Rattle.supplier.proofs.OutputLaws.{room_after}
use Rattle.supplier.proofs.reply.Goals as goal

pub answer_all-requires : goal.answer_all-requires
answer_all-requires g c = room_after _ _ c.args.input.now 0 c.requires.0 c.requires.1 c.requires.2 (λ h. absurd (omega arith)) (omega arith)

pub returns-then-n-lt65536 : goal.returns-then-n-lt65536
returns-then-n-lt65536 g c = c.answer_all.ensures.1

pub answer_all-requires-2 : goal.answer_all-requires-2
answer_all-requires-2 g c =
    room_after _ _ c.args.input.now _ c.requires.0
    (omega (arith, c.count_rest-rest.auto.page, c.requires.1)) c.requires.2
    (λ h. c.if-n-lt65536.false)
    c.count_rest-rest.ensures

pub shape_of-buf : goal.shape_of-buf
shape_of-buf g c = c.answer_all-2.auto.buf

pub shape_of-page : goal.shape_of-page
shape_of-page g c = c.answer_all-2.auto.page
    ∙ c.count_rest-rest.auto.page

pub returns : goal.returns
returns g c = c.answer_all-2.ensures.1
