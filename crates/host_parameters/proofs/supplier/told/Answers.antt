-- `host_parameters::told` meets its contract. Assumes nothing.
use native.Mathlib.Omega.{arith}
use Rattle.host_parameters.proofs.supplier.told.Goals as goal

pub returns-then-n-lt4294967295 : goal.returns-then-n-lt4294967295
returns-then-n-lt4294967295 c = (omega arith, omega arith)

pub returns-else-n-lt4294967295 : goal.returns-else-n-lt4294967295
returns-else-n-lt4294967295 c = (omega arith, omega arith)
