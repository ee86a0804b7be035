-- `gossip_peers::relays::either`: what is in the second set alone is added.
use Rattle.index.proofs.Kit.{Bool, ap, ◌∙◌}
use mathlib.Core.List.{List}
use Rattle.words.specs.Words.{differs, bits_of}
use Rattle.sets.specs.Sets.{at}
use Rattle.sets.proofs.WalkLaws.{except_at}
use Rattle.gossip_peers.proofs.PeerLaws.{either_is}
use Rattle.gossip_peers.proofs.relays.either.Goals as goal

pub returns : goal.returns
returns c s =
    let a = bits_of c.args.a in
    let b = bits_of c.args.b in
    c.differ.ensures s
    ∙ ap (λ (l : List Bool). differs (at a s) (at l s)) c.except.ensures
    ∙ ap (differs (at a s)) (except_at b a s)
    ∙ either_is (at a s) (at b s)
