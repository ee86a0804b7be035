-- `params_bytes::read` meets its contract. Assumes nothing.
use Rattle.std.proofs.lemmas.Result.{err_from_is_err_and}
use Rattle.params_bytes.proofs.ReadLaws.{read_bad, read_left, read_good}
use Rattle.params_bytes.proofs.read.Goals as goal

pub returns-in_err-place : goal.returns-in_err-place
returns-in_err-place c =
    let d = c.edition_at-edition in
    let p = err_from_is_err_and c.from_residual.result c.from_residual.ensures.1 in
    rw (p.1, p.2) (read_bad _ d.result d.ensures _ c.front_length.ensures c.parse.new.numbers _ c.in_err-place.ensures)

pub returns-then-place-s : goal.returns-then-place-s
returns-then-place-s c =
    let d = c.edition_at-edition in
    read_left _ d.result d.ensures _ c.front_length.ensures _ _ c.in_ok-place.ensures c.if-place-s.true

pub returns : goal.returns
returns c =
    let d = c.edition_at-edition in
    read_good _ d.result d.ensures _ c.front_length.ensures _ _ c.in_ok-place.ensures _ c.if-place-s.false c.judged.ensures
