-- What import and export of an entry are to each other, and what is said of factors. Proved in proofs/RoundTrip.antt.
use Rattle.std.specs.Prelude.{Some}
use Rattle.std.specs.Prelude.{ℕ, ◌^◌, ◌<◌, ◌≤◌, ◌≡◌, true, ℤ}
use Rattle.limits.specs.declared.Limit.{Limit}
use Rattle.limits.specs.Limits.{lies}
use Rattle.supplier_entry.specs.declared.Form.{Form}
use Rattle.supplier_entry.specs.Factor.{factor_bits, thousandths_of}
use Rattle.supplier_entry.specs.Entries.{factor_kind, as_number, import_of, content_of}
use Rattle.supplier_entry.specs.Asked.{Among, Field}

-- "accepted exactly if [..] bit for bit", said of the eight bytes as they stand in the file, those of a NaN too
abbrev pub AcceptedExactly : Type 0
AcceptedExactly =
    (form : Form) (l : Limit) (u : ℕ) →
    form.kind ≡ factor_kind →
    Among l →
    u < 2 ^ 64 →
    import_of form l factor_kind u ≡ as_number (thousandths_of l u)

-- there is never a second such n
abbrev pub OnlyOne : Type 0
OnlyOne = (m n : ℕ) → m ≤ 1000 → n ≤ 1000 → factor_bits m ≡ factor_bits n → m ≡ n

-- "importing that gives n"
abbrev pub ImportsBack : Type 0
ImportsBack =
    (form : Form) (l : Limit) (z : ℤ) →
    Field form l →
    lies z l ≡ true →
    import_of form l form.kind (content_of form z) ≡ Some z

-- what is imported was given with the field's kind, and is written as the same eight bytes
abbrev pub ExportsBack : Type 0
ExportsBack =
    (form : Form) (l : Limit) (kind u : ℕ) (z : ℤ) →
    u < 2 ^ 64 →
    import_of form l kind u ≡ Some z →
    (kind ≡ form.kind) × (content_of form z ≡ u)
