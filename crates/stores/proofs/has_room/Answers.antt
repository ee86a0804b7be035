use Prim.Native.Nat.{ℕ}
use mathlib.Core.Path.{sym, ap}
use lib.Dec.{ltb}
use Rattle.gossip.specs.Notes.{window_most}
use Rattle.stores.proofs.ChangeLaws.{running_is}
use Rattle.stores.proofs.has_room.Goals as goal

pub returns : goal.returns
returns c = ap (λ (n : ℕ). ltb n window_most) (sym (running_is _ _ c.requires.1))
