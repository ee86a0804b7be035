-- `supplier::answer` meets its contract. Assumes nothing.
use Rattle.index.proofs.Kit.{ℕ, ◌≤◌, ◌≡◌, sym, arith, rules}
use mathlib.Core.List.{List}
use Rattle.text.specs.Text.{Stored}
use Rattle.text.proofs.TextLaws.{stored_same}
use Rattle.supplier.proofs.OutputLaws.{mode_import, mode_export, mode_import_bytes, mode_export_bytes, mode_none}
use Rattle.supplier.proofs.answer.Goals as goal

-- the same by another name of the text
told :
    (buf out : List ℕ) (r : ℕ) (all bytes : List ℕ) → all ≡ bytes → Stored buf 0 bytes r out × (r ≤ 4096) →
    Stored buf 0 all r out × (r ≤ 4096)
told buf out r all bytes e s = (stored_same buf 0 r all bytes out e s.0, s.1)

pub returns-in-105 : goal.returns-in-105
returns-in-105 c = told _ _ _ _ _ (sym (mode_import c.args.mode c.args.bytes.now c.in-105.is)) (search rules)

pub returns-in-101 : goal.returns-in-101
returns-in-101 c = let e = c.put_export.ensures in (
  stored_same _ _ _ _ _ _ (sym (mode_export _ _ c.in-101.is)) e.0,
  e.1,
)

pub returns-in-73 : goal.returns-in-73
returns-in-73 c = let e = c.write_import.ensures in
    (stored_same _ _ _ _ _ _ (sym (mode_import_bytes _ _ c.in-73.is)) e.0, e.1)

pub returns-in-69 : goal.returns-in-69
returns-in-69 c = let e = c.write_export.ensures in
    (stored_same _ _ _ _ _ _ (sym (mode_export_bytes _ _ c.in-69.is)) e.0, e.1)

pub returns-in_default : goal.returns-in_default
returns-in_default c =
    let e = c.put_head.ensures in
    (stored_same _ _ _ _ _ _ (sym (mode_none _ _ (search rules) (search rules) (search rules) (search rules))) e.0, omega arith)
