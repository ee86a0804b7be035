-- What reading and writing are to each other, in both editions. Proved in proofs/RoundTrip.antt.
use Rattle.std.specs.Prelude.{Ok}
use Rattle.std.specs.Prelude.{ℕ, ◌<◌, ◌≤◌, ◌≡◌, List, ◌++◌, length, take, drop, get_or}
use Rattle.records.specs.Records.{param_count}
use Rattle.params_bytes.specs.Read.{read_of}
use Rattle.params_bytes.specs.Write.{room_for, write_of}
use Rattle.params.specs.declared.Params.{Params}

-- reading what was written gives the same parameters, and the length
abbrev pub ReadsBack : Type 0
ReadsBack =
    (p : Params) (buf : List ℕ) (n : ℕ) →
    length p.numbers ≡ param_count →
    (write_of p buf).answer ≡ Ok n →
    read_of (take n (write_of p buf).bytes) ≡ record { verdict = Ok n; params = p }

-- writing what was read gives the same bytes, and past them the buffer as it was
abbrev pub WritesBack : Type 0
WritesBack =
    (s buf : List ℕ) (n : ℕ) →
    ((k : ℕ) → get_or s k 0 < 256) →
    room_for (read_of s).params.edition ≤ length buf →
    (read_of s).verdict ≡ Ok n →
    (n ≡ length s) × (write_of (read_of s).params buf ≡ record { answer = Ok n; bytes = s ++ drop n buf })
