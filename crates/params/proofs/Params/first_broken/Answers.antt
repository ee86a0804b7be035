-- `params::Params::first_broken`: the parameters of the codes are the parameters. Assumes nothing.
use Rattle.index.proofs.Kit.{◌∙◌, ap}
use Rattle.params.specs.Editions.{coded}
use Rattle.params.specs.Check.{first_broken}
use Rattle.params.proofs.CheckLaws.{coded_back}
use Rattle.params.proofs.Params.first_broken.Goals as goal

pub returns : goal.returns
returns c =
    let p = c.args.self in
    c.first_broken_code.ensures ∙ ap first_broken (ap (coded p.edition) c.write_codes.ensures ∙ coded_back p)
