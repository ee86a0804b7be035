-- `stores::is_in`: whether the numbers so far have it. Assumes nothing.
use mathlib.Core.Path.{◌≡◌}
use lib.ListN.{take}
use Rattle.gossip.specs.Notes.{has}
use Rattle.stores.proofs.is_in.Given as goal

abbrev pub invariant-loop-m : goal.invariant-loop-m
invariant-loop-m l = l.found ≡ has l.n (take l.m-index l.list)
