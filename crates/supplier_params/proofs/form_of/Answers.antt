-- `supplier_params::form_of` meets its contract. Assumes nothing.
use Rattle.index.proofs.Kit.{sym, ap}
use borrow.Author.Tests.{le-ltb}
use Rattle.limits.proofs.LimitLaws.{general_field}
use Rattle.supplier_params.specs.Forms.{forms, form_at}
use Rattle.supplier_params.proofs.form_of.Goals as goal

pub returns-then-i-lt-GENERAL : goal.returns-then-i-lt-GENERAL
unfolding form_at forms
returns-then-i-lt-GENERAL c = ap form_at (sym (general_field c.args.i c.if-i-lt-GENERAL.true))

pub returns-else-i-lt-GENERAL : goal.returns-else-i-lt-GENERAL
unfolding form_at forms
returns-else-i-lt-GENERAL c = simp (le-ltb _ _ c.if-i-lt-GENERAL.false)
