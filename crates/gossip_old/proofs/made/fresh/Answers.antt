-- `gossip_old::made::fresh`: 2 of the set-up numbers, or what making the table answers.
use Rattle.std.proofs.Common.{Ok, Err}
use Rattle.std.proofs.lemmas.Result.{err_from_is_err_and}
use Rattle.index.proofs.Flags.{yes, no}
use Rattle.index.proofs.Kit.{refl}
use Rattle.gossip_old.proofs.MadeLaws.{fresh_range, fresh_fails, fresh_done}
use Rattle.gossip_old.proofs.made.fresh.Goals as goal

pub returns-then-not-setup_ok : goal.returns-then-not-setup_ok
returns-then-not-setup_ok c = fresh_range _ _ _ _ (no c.setup_ok.ensures c.if-not-setup_ok.true)

pub returns-in_err-fresh : goal.returns-in_err-fresh
returns-in_err-fresh c =
    let e = err_from_is_err_and c.from_residual.result c.from_residual.ensures.1 in
    rw (e.1, e.2)
    (fresh_fails _ _ _ _ _ (Err _) (yes c.setup_ok.ensures c.if-not-setup_ok.false) c.in_err-fresh.ensures _ refl)

pub returns : goal.returns
returns c =
    fresh_done _ _ _ _ _ (Ok _) (yes c.setup_ok.ensures c.if-not-setup_ok.false) c.in_ok-fresh.ensures _ refl c.make.ensures
