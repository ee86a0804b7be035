-- `limits::write_codes`: the loop builds the codes from the front.
use lib.ListN.{get_or}
use lib.IntN.{pos}
use Rattle.index.proofs.Lists.{Built}
use Rattle.varint.specs.Codes.{code_of}
use Rattle.records.specs.Records.{param_count}
use Rattle.limits.proofs.write_codes.Given as goal

abbrev pub invariant-loop-i : goal.invariant-loop-i
invariant-loop-i l = Built 0 (λ k. code_of (get_or l.numbers k (pos 0))) param_count l.i l.codes
