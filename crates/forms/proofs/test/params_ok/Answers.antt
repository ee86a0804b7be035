use Prim.Native.Nat.{ℕ}
use mathlib.Core.Path.{◌∙◌, ap₂}
use mathlib.Core.List.{List}
use Rattle.records.specs.declared.Setup.{Setup}
use Rattle.params.specs.Check.{accepted_codes}
use Rattle.forms.proofs.test.params_ok.Goals as goal

pub returns : goal.returns
returns c =
    c.accepts_codes.ensures
    ∙ ap₂ (λ (u : Setup) (l : List ℕ). accepted_codes u.edition l) c.load_setup-setup.ensures c.codes.ensures
