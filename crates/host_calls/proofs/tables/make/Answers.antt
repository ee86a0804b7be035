-- `host_calls::make` meets its contract: the error has one form, and its place is the number that goes with the answer.
-- Assumes nothing.
use Rattle.std.proofs.Common.{Err}
use mathlib.Core.Path.{ap₂}
use borrow.Enum.Total.{values_d}
use Rattle.index.proofs.Kit.{◌≡◌, refl, sym, ◌∙◌, arith}
use Rattle.lookup.specs.declared.FreshError.{FreshError}
use Rattle.lookup.specs.declared.FreshError.TheVariants.{Broken}
use Rattle.lookup.specs.contracts.FreshError.{enum as fresh_error}
use Rattle.lookup.specs.Fresh.{made_number, made_value}
use Rattle.answers.specs.Answers.{packed}
use Rattle.host_calls.proofs.HostLaws.{fresh_fits, hosts_fresh}
use Rattle.host_calls.proofs.tables.make.Goals as goal

number_is : (e : FreshError) → made_number (Err e) ≡ 9
number_is (Broken i) = refl

value_is : (e : FreshError) → made_value (Err e) ≡ (values_d fresh_error 0 (0, tt {0}) e).0
value_is (Broken i) = refl

pub packed-requires : goal.packed-requires
packed-requires c = (omega arith, omega arith)

pub packed-requires-in-Err-Broken : goal.packed-requires-in-Err-Broken
packed-requires-in-Err-Broken c =
    (omega arith, omega (arith, value_is c.in-Err-Broken.field-0, fresh_fits _ _ _ _ _ c.fresh.ensures c.in-Err-Broken.is))

pub returns-in-Ok : goal.returns-in-Ok
returns-in-Ok c = hosts_fresh _ _ _ _ _ c.fresh.ensures c.in-Ok.is _ c.packed.ensures

pub returns-in-Err-Broken : goal.returns-in-Err-Broken
returns-in-Err-Broken c =
    let e = c.in-Err-Broken.field-0 in
    hosts_fresh _ _ _ _ _ c.fresh.ensures c.in-Err-Broken.is _
    (c.packed-in-Err-Broken.ensures ∙ ap₂ packed (sym (number_is e)) (sym (value_is e)))
