-- The check of the parameters (01, number 9): "first index; if none, 200 + first rule (0 to 7)".
use Rattle.std.specs.Prelude.{Option, Some, None}
use Rattle.std.specs.Prelude.{ℕ, ◌+◌, Bool, true, false, not, ◌&&◌, List, eqb, length, ℤ}
use Rattle.index.specs.Index.{first, or_else}
use Rattle.records.specs.Records.{param_count}
use Rattle.limits.specs.Limits.{outside}
use Rattle.params.specs.declared.Edition.{Edition}
use Rattle.params.specs.declared.Params.{Params}
use Rattle.params.specs.Editions.{edition_of, coded}
use Rattle.params.specs.Joint.{rule_count, rule}

-- the number of the first joint rule among the places of 9
abbrev pub first_rule : ℕ
first_rule = 200

unfoldable pub broken : List ℤ → Edition → ℕ → Bool
broken xs e k = not (rule xs e k)

abbrev pub as_rule : Option ℕ → Option ℕ
as_rule (Some k) = Some (first_rule + k)
as_rule None = None

unfoldable pub first_broken : Params → Option ℕ
first_broken p = or_else (first param_count (outside p.numbers)) (as_rule (first rule_count (broken p.numbers p.edition)))

abbrev pub is_nothing : Option ℕ → Bool
is_nothing (Some i) = false
is_nothing None = true

-- the check of 147 codes by the rules of an edition
unfoldable pub accepted_by : Edition → List ℕ → Bool
accepted_by e codes = eqb (length codes) param_count && is_nothing (first_broken (coded e codes))

abbrev pub accepted_in : Option Edition → List ℕ → Bool
accepted_in (Some e) codes = accepted_by e codes
accepted_in None codes = false

-- the check of an edition's number and of codes, as they stand in a router's tables
unfoldable pub accepted_codes : ℕ → List ℕ → Bool
accepted_codes n codes = accepted_in (edition_of n) codes
