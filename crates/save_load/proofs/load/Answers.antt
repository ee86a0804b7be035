-- `save_load::load`: refused, or made. Assumes nothing.
use Rattle.std.proofs.Common.{Ok, Err}
use mathlib.Core.Path.{refl}
use borrow.Author.Rules.{rules}
use Rattle.save_load.proofs.CheckLaws.{fine_parts, load_refused, load_made}
use Rattle.std.proofs.lemmas.Result.{err_from_is_err_and}
use Rattle.save_load.proofs.load.Goals as goal

pub returns-in_err-n : goal.returns-in_err-n
returns-in_err-n c =
    let e = err_from_is_err_and c.from_residual.result c.from_residual.ensures.1 in
    rw (e.1, e.2) (load_refused _ _ _ _ (Err _) _ c.in_err-n.ensures refl)

pub make-requires : goal.make-requires
make-requires c = (
  search rules,
  fine_parts _ _ _ (Ok _) _ _
      c.in_ok-n.ensures refl,
)

pub returns : goal.returns
returns c = load_made _ _ _ _ _ (Ok _) _ _ _
    c.in_ok-n.ensures refl c.make.ensures.made c.make.ensures.state
