-- What import and export are to each other. Proved in proofs/RoundTrip.antt.
use Rattle.std.specs.Prelude.{Ok}
use Rattle.std.specs.Prelude.{ℕ, ◌<◌, ◌≤◌, ◌≡◌, List, ◌++◌, ℤ, length, take, drop, get_or}
use Rattle.records.specs.Records.{param_count}
use Rattle.params.specs.Editions.{sheet}
use Rattle.params.specs.declared.Edition.TheVariants.{First}
use Rattle.supplier_params.specs.Forms.{supplier_bytes}
use Rattle.supplier_params.specs.Import.{import_of}
use Rattle.supplier_params.specs.Export.{export_of}

-- "importing that gives n": importing what was exported gives the same parameters
abbrev pub ImportsBack : Type 0
ImportsBack =
    (xs : List ℤ) (buf : List ℕ) (n : ℕ) →
    length xs ≡ param_count →
    (export_of xs buf).answer ≡ Ok n →
    import_of (take n (export_of xs buf).bytes) ≡ record { verdict = Ok n; params = sheet First xs }

-- and exporting what was imported gives the same bytes, and past them the buffer as it was
abbrev pub ExportsBack : Type 0
ExportsBack =
    (s buf : List ℕ) (n : ℕ) →
    ((k : ℕ) → get_or s k 0 < 256) →
    supplier_bytes ≤ length buf →
    (import_of s).verdict ≡ Ok n →
    (n ≡ length s) × (export_of (import_of s).params.numbers buf ≡ record { answer = Ok n; bytes = s ++ drop n buf })
