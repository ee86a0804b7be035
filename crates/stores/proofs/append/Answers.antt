use Prim.Native.Nat.{◌+◌}
use native.Mathlib.Omega.{arith}
use mathlib.Core.Path.{sym, ap, ◌∙◌}
use lib.Seq.{sets}
use Rattle.stores.proofs.ViewLaws.{window_part, length_window}
use Rattle.stores.proofs.append.Goals as goal

pub returns : goal.returns
returns c =
    let e = window_part c.requires.0 c.start-from.ensures c.size-n.ensures.0 in (
      c.copy_to.ensures ∙ ap (sets _ _) e,
      (ap (◌+◌ _) (c.size-n.ensures.0 ∙ sym (length_window _ _)), omega arith),
    )
