-- The editions of the parameters: 1 is 01's sheet, 2 comes with 02, order 14. A router's tables and a host say an edition by its number.
use Rattle.std.specs.Prelude.{◌≡◌, Option, Some, None, Result, Ok, Err}
use Rattle.std.specs.Prelude.{ℕ, cond, List, map, eqb, ℤ}
use Rattle.varint.specs.Codes.{number_of}
use Rattle.params.specs.declared.Edition.{Edition}
use Rattle.params.specs.declared.Edition.TheVariants.{First, Second}
use Rattle.params.specs.declared.Params.{Params}
use Rattle.params.specs.declared.UnknownEdition.{UnknownEdition}

abbrev pub edition_number : Edition → ℕ
edition_number First = 1
edition_number Second = 2

-- the edition of a number, if it is one's
unfoldable pub edition_of : ℕ → Option Edition
edition_of n = cond (eqb n 1) (Some First) (cond (eqb n 2) (Some Second) None)

-- what the two conversions answer
abbrev pub IsNumberOf : Edition → ℕ → Type 0
IsNumberOf e n = n ≡ edition_number e

abbrev pub known : Result Edition UnknownEdition → Option Edition
known (Ok e) = Some e
known (Err u) = None

abbrev pub IsEditionOf : ℕ → Result Edition UnknownEdition → Type 0
IsEditionOf n r = known r ≡ edition_of n

-- the parameters of an edition by their numbers, and by the codes of these
abbrev pub sheet : Edition → List ℤ → Params
sheet e xs = record { numbers = xs; edition = e }

abbrev pub coded : Edition → List ℕ → Params
coded e codes = sheet e (map number_of codes)
