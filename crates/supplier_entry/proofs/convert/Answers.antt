-- `supplier_entry::convert` meets its contract. Assumes nothing.
use borrow.Author.Rules.{rules}
use mir.Syntax.{w64}
use mir.Val.{SFits}
use mir.Facts.{to_z-of_z}
use Rattle.supplier_entry.proofs.EntryLaws.{sound_factor, sound_span, small_factor, convert_factor, convert_whole, convert_span}
use Rattle.supplier_entry.proofs.convert.Goals as goal

pub thousandths-requires : goal.thousandths-requires
thousandths-requires c = sound_factor _ _ _ _ c.in-Factor.is c.requires

pub number_of-requires : goal.number_of-requires
number_of-requires c =
    small_factor c.args.limit _ _ (sound_factor _ _ _ _ c.in-Factor.is c.requires).0 c.thousandths.ensures

pub units-requires : goal.units-requires
units-requires c = sound_span _ _ _ _ c.in-Span.is c.requires

pub returns-in-Factor : goal.returns-in-Factor
returns-in-Factor c = convert_factor _ _ _ _ _ _ c.in-Factor.is c.thousandths.ensures c.number_of.ensures

pub returns-in-Whole : goal.returns-in-Whole
returns-in-Whole c =
    let f : SFits w64 c.in-Whole.z = search rules in
    convert_whole _ _ _ _ _ c.in-Whole.is (rw (to_z-of_z f) at c.whole.ensures)

pub returns-in-Span : goal.returns-in-Span
returns-in-Span c = convert_span _ _ _ _ _ c.in-Span.is c.units.ensures
