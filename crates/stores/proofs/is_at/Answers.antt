use Prim.Native.Nat.{ℕ}
use native.Mathlib.Omega.{arith}
use mathlib.Core.Path.{◌≡◌}
use Rattle.stores.proofs.ChangeLaws.{window_of}
use Rattle.stores.proofs.ListLaws.{stored_here}
use Rattle.stores.proofs.is_at.Goals as goal

pub returns-then-place : goal.returns-then-place
returns-then-place c = λ e. let z : ◌≡◌ {A = ℕ} 0 1 = cc in absurd (omega arith)

pub size-count-requires : goal.size-count-requires
size-count-requires c = window_of _ _ c.requires (omega arith)

pub returns : goal.returns
returns c = stored_here _ _ _ _ (omega arith) c.size-count.ensures.0
