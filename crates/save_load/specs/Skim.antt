-- What the first pass of a load keeps of the numbers: where they end, or the place at which they cannot go on.
use Rattle.std.specs.Prelude.{ℕ, Result, Ok, Err}
use Rattle.saves.specs.Load.{Parse, numbers, malformed}
use Rattle.saves.specs.declared.LoadError.{LoadError}
use Rattle.saves.specs.declared.LoadError.TheVariants.{Malformed}

abbrev pub skim_of : Parse → Result ℕ LoadError
skim_of (numbers l next) = Ok next
skim_of (malformed p) = Err (Malformed p)
