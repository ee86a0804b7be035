-- `stores::valid::next_new`: an unmarked bucket tells that the number is new, and the number's own is marked then.
use mathlib.Core.Bool.{not}
use mathlib.Core.Path.{ap}
use Rattle.stores.proofs.ApartLaws.{next_told, told_out, told_in}
use Rattle.stores.proofs.ChangeLaws.{window_in}
use Rattle.stores.proofs.valid.next_new.Goals as goal

pub number-n-requires : goal.number-n-requires
number-n-requires c =
    (window_in _ _ _ c.requires.store c.requires.window, c.requires.number)

pub returns-then-not-known : goal.returns-then-not-known
returns-then-not-known c =
    rw c.mark.ensures
    (next_told _ _ _ _ _ _ _ _ _ c.requires c.number-n.ensures c.bucket-b.ensures.0 c.is_marked-known.ensures
    (told_out _ _ c.if-not-known.true))

pub returns-else-not-known : goal.returns-else-not-known
returns-else-not-known c =
    rw c.mark.ensures
    (next_told _ _ _ _ _ _ _ _ _ c.requires c.number-n.ensures c.bucket-b.ensures.0 c.is_marked-known.ensures
    (told_in _ _ _ c.if-not-known.false (ap not c.is_earlier.ensures)))
