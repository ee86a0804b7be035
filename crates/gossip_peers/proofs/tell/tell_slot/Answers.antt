-- `gossip_peers::tell::tell_slot`: the id of a router's peer fits, and the three numbers are the action's.
use Rattle.index.proofs.Kit.{ℕ, ◌*◌, ◌∙◌, arith}
use mathlib.Core.Path.{ap}
use mathlib.Core.List.{[], ◌∷◌}
use lib.Seq.{sets}
use Rattle.effects.specs.Actions.{numbers_of}
use Rattle.validity.proofs.ValidLaws.{valid_facts}
use Rattle.gossip_peers.proofs.tell.tell_slot.Goals as goal

pub put-requires : goal.put-requires
put-requires c =
    let p = c.requires in
    let f = ((valid_facts _ p.slot_standing.standing.router).peer _ p.slot_standing.slot).id in
    record { n_in_bounds = p.n_in_bounds; id_bound = rw c.load_id.ensures f; seconds_bound = omega arith }

pub returns : goal.returns
unfolding numbers_of
returns c =
    let a = c.args in
    c.put.ensures
    ∙ ap (λ (x : ℕ). sets a.actions.now (3 * a.n) (a.kind ∷ x ∷ 0 ∷ [])) c.load_id.ensures
