-- `supplier_entry::read_entry` meets its contract. Assumes nothing.
use mathlib.Core.Path.{◌∙◌}
use borrow.Author.Rules.{sfits_of}
use mir.Syntax.{w64}
use mir.Facts.{to_z-of_z}
use Rattle.supplier_entry.proofs.EntryLaws.{entry_nan, entry_factor, entry_whole, entry_span, entry_none, not_nan}
use Rattle.supplier_entry.proofs.read_entry.Goals as goal

pub returns-then-is_nan : goal.returns-then-is_nan
returns-then-is_nan c = entry_nan _ _ _ c.if-kind-eq0.true c.is_nan.ensures c.if-is_nan.true

pub float_from_bits-result : goal.float_from_bits-result
float_from_bits-result c = not_nan _ _ c.is_nan.ensures c.if-is_nan.false

pub returns-then-kind-eq0 : goal.returns-then-kind-eq0
returns-then-kind-eq0 c = entry_factor _ _ _ c.if-kind-eq0.true c.is_nan.ensures c.if-is_nan.false

pub returns-then-kind-eq1 : goal.returns-then-kind-eq1
returns-then-kind-eq1 c = entry_whole _ _ _ c.if-kind-eq1.true (to_z-of_z {w = w64} (sfits_of c.signed_of.type_inv) ∙ c.signed_of.ensures)

pub returns-then-kind-eq2 : goal.returns-then-kind-eq2
returns-then-kind-eq2 c = entry_span _ _ c.if-kind-eq2.true

pub returns : goal.returns
returns c = entry_none _ _ c.if-kind-eq0.false c.if-kind-eq1.false c.if-kind-eq2.false
