-- `rpc::one_more` meets its contract. Assumes nothing.
use Rattle.rpc.proofs.one_more.Goals as goal

pub returns : goal.returns
returns c = rw (c.plus.ensures, c.plus-2.ensures, c.plus-3.ensures, c.plus-4.ensures)
