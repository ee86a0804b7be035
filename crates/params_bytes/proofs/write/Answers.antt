-- `params_bytes::write` meets its contract. Assumes nothing.
use mathlib.Core.Path.{sym, ◌∙◌}
use native.Mathlib.Omega.{arith}
use borrow.Author.Rules.{rules}
use Rattle.params_bytes.proofs.WriteLaws.{write_short, write_outside, write_room, write_done, accepted_few}
use Rattle.params_bytes.proofs.write.Goals as goal

pub returns-then-buf-room_for : goal.returns-then-buf-room_for
returns-then-buf-room_for c = write_short _ _ _ c.room_for.ensures c.if-buf-room_for.true

pub put_front-from-requires : goal.put_front-from-requires
put_front-from-requires c =
    omega (arith, c.if-buf-room_for.false, c.room_for.ensures)

pub put-requires : goal.put-requires
put-requires c = (
  search rules,
  write_room _ c.args.buf.now _ c.room_for.ensures _ c.if-buf-room_for.false
      c.first_broken.ensures _ c.put_front-from.new.buf c.put_front-from.ensures.0 c.put_front-from.auto.buf,
  accepted_few _ (sym c.first_broken.ensures ∙ c.in-None.is),
)

pub returns-in-Some : goal.returns-in-Some
returns-in-Some c =
    write_outside _ _ _ c.room_for.ensures _ c.if-buf-room_for.false c.first_broken.ensures _
    c.in-Some.is

pub returns-in-None : goal.returns-in-None
returns-in-None c =
    write_done _ _ _ c.room_for.ensures _ c.if-buf-room_for.false c.first_broken.ensures _ _ _ _
    c.in-None.is c.put_front-from.ensures c.put.ensures
