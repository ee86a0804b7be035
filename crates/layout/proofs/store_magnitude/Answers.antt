use Prim.Native.Nat.{◌+◌}
use mathlib.Core.Path.{ap, ◌∙◌}
use lib.ListN.{set}
use Rattle.layout.specs.View.{params_at, state_of}
use Rattle.layout.proofs.ParamLaws.{code_store}
use Rattle.layout.proofs.store_magnitude.Goals as goal

pub returns : goal.returns
returns c =
    ap (λ n. state_of (set c.args.cells.now (params_at + n) c.args.m)) c.param_place-p.ensures.0
    ∙ code_store c.args.cells.now c.args.i c.args.m c.requires.0 c.requires.1
