-- `params_bytes::read_front` meets its contract. Assumes nothing.
use Prim.Native.Nat.{◌+◌}
use mathlib.Core.Path.{ap}
use native.Mathlib.Omega.{arith}
use Rattle.std.proofs.lemmas.Result.{err_from_is_err_and}
use Rattle.params_bytes.proofs.WriteLaws.{front_short}
use Rattle.params_bytes.proofs.ReadLaws.{front_bad, front_good}
use Rattle.params_bytes.proofs.read_front.Goals as goal

pub edition_at-edition-requires : goal.edition_at-edition-requires
edition_at-edition-requires c = c.requires

pub overflow_add-at : goal.overflow_add-at
overflow_add-at c =
    let n = c.front_length.ensures in
    let g = c.well_formed.0.1 in
    record { fits = omega (arith, front_short c.edition_at-edition.result, c.requires) }

pub returns-in_err-place : goal.returns-in_err-place
returns-in_err-place c =
    let d = c.edition_at-edition in
    let p = err_from_is_err_and c.from_residual.result c.from_residual.ensures.1 in
    rw (p.1, p.2) (front_bad _ _ d.result d.ensures _ (ap (◌+◌ _) c.front_length.ensures) c.parse.new.numbers _ c.in_err-place.ensures)

pub returns : goal.returns
returns c =
    let d = c.edition_at-edition in
    front_good _ _ d.result d.ensures _ (ap (◌+◌ _) c.front_length.ensures) _ _ c.in_ok-place.ensures _ c.judged.ensures
