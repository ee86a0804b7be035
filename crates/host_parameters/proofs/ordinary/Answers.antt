-- `host_parameters::ordinary` meets its contract. Assumes nothing.
use Rattle.index.proofs.Kit.{ap}
use Rattle.params.specs.declared.Params.{Params}
use Rattle.host_parameters.proofs.ordinary.Goals as goal

pub returns : goal.returns
returns c = ap (λ (p : Params). p.numbers) c.ordinary-ordinary.ensures
