-- `save_load::row::loaded_peer` meets its contract. Assumes nothing.
use native.Mathlib.Omega.{arith}
use Rattle.save_load.proofs.StoreLaws.{retain_fits, peer_is}
use Rattle.save_load.proofs.row.loaded_peer.Goals as goal

pub ends_from-ends-requires : goal.ends_from-ends-requires
ends_from-ends-requires c = c.requires

pub bounds-row-0 : goal.bounds-row-0
bounds-row-0 c = let n = c.requires.1.long in omega arith

pub bounds-row-2 : goal.bounds-row-2
bounds-row-2 c = let n = c.requires.1.long in omega arith

pub bounds-row-3 : goal.bounds-row-3
bounds-row-3 c = let n = c.requires.1.long in omega arith

pub bounds-row-1 : goal.bounds-row-1
bounds-row-1 c = let n = c.requires.1.long in omega arith

pub overflow_add-result : goal.overflow_add-result
overflow_add-result c = let r = retain_fits c.args.row.now c.requires.1 in omega arith

pub returns : goal.returns
returns c = peer_is _ _ _ c.ends_from-ends.ensures
