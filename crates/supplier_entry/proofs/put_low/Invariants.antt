-- `supplier_entry::put_low` meets its contract. Assumes nothing.
use Rattle.index.proofs.Kit.{◌+◌, ◌-◌, ◌≤◌, ◌≡◌}
use lib.ListN.{length}
use lib.Seq.{sets}
use Rattle.supplier_entry.specs.Bytes.{low_bytes}
use Rattle.supplier_entry.proofs.put_low.Given as goal

abbrev pub invariant-loop-k : goal.invariant-loop-k
invariant-loop-k l =
    (l.k ≤ 8) × (length l.buf ≡ length l.initial.buf) × (sets l.buf (l.at + l.k) (low_bytes (8 - l.k) l.rest) ≡ sets l.initial.buf l.at (low_bytes 8 l.u))
