-- `notes::ages_ok`: after k turns the first k ages are looked at.
use Prim.Native.Nat.{◌≤◌}
use mathlib.Core.Path.{◌≡◌}
use lib.Dec.{leb}
use Rattle.index.specs.Index.{every}
use Rattle.notes.specs.View.{digit}
use Rattle.notes.proofs.ages_ok.Given as goal

abbrev pub invariant-loop-k : goal.invariant-loop-k
invariant-loop-k l = (l.k ≤ l.n) × (l.ok ≡ every l.k (λ j. leb (digit l.ages j) 2))
