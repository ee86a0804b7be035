-- `rpc_actions::put_triple` meets its contract. Assumes nothing.
use Rattle.index.proofs.Kit.{◌*◌, refl}
use Rattle.rpc_actions.proofs.ActionLaws.{three}
use Rattle.rpc_actions.proofs.put_triple.Goals as goal

pub returns : goal.returns
returns c = let a = c.args in three a.list.now _ _ _ (3 * a.k) a.a a.b a.c refl refl refl
