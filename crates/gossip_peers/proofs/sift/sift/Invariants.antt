-- `gossip_peers::sift::sift`: before the turn of a slot of the set those below it are tested.
use Rattle.index.proofs.Kit.{◌≡◌, ℕ, Bool}
use Rattle.words.specs.Words.{bits_of}
use Rattle.gossip_peers.specs.Peers.{Tests}
use Rattle.gossip_peers.proofs.SiftLaws.{Sifted}
use Rattle.gossip_peers.proofs.sift.sift.Given as goal

abbrev pub invariant-loop-slot : goal.invariant-loop-slot
invariant-loop-slot g l =
    (l.slot-iterator.set ≡ l.fn.all)
    × ((f : ℕ → Bool) → Tests (λ s b. goal.F-post g l.passes s b) f → Sifted (bits_of l.fn.all) f l.slot-iterator.from (bits_of l.r))
