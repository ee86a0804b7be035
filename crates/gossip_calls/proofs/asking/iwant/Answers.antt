-- `gossip_calls::asking::iwant`: the refusals of the first tests, or what `serve` leaves.
use borrow.Author.Rules.{rules}
use Rattle.index.proofs.Kit.{refl}
use Rattle.gossip.specs.Calls.{iwant}
use Rattle.gossip.specs.Step.{iwant_reply, new_effect}
use Rattle.gossip_table.specs.View.{extended_of}
use Rattle.gossip_peers.proofs.CallerLaws.{no_list, peer_refused, peer_admitted, peer_answers}
use Rattle.gossip_calls.proofs.AskLaws.{serve_silent}
use Rattle.gossip_calls.proofs.asking.iwant.Goals as goal

pub serve-requires : goal.serve-requires
unfolding new_effect
serve-requires c =
    let a = c.args in
    let x = extended_of a.table.now a.gossip.now in
    peer_admitted (iwant a.time a.id a.number) _ _ a.actions.now _ _ _ a.id (iwant_reply x a.time a.number) c.time_ok.ensures
    c.id_ok.ensures (no_list _) refl _ c.admit_peer.ensures _ c.in-Ok.is (search rules) (search rules)

pub returns-in-Ok : goal.returns-in-Ok
unfolding new_effect
returns-in-Ok c =
    let a = c.args in
    let x = extended_of a.table.now a.gossip.now in
    peer_answers (iwant a.time a.id a.number) _ _ a.actions.now _ _ _ a.id (iwant_reply x a.time a.number) c.time_ok.ensures
    c.id_ok.ensures (no_list _) refl _ c.admit_peer.ensures _ c.in-Ok.is _ _ _ (serve_silent x a.time a.number _) c.serve.ensures

pub returns-in-Err : goal.returns-in-Err
unfolding new_effect
returns-in-Err c =
    let a = c.args in
    let x = extended_of a.table.now a.gossip.now in
    peer_refused (iwant a.time a.id a.number) _ _ a.actions.now _ _ _ a.id (iwant_reply x a.time a.number) c.time_ok.ensures
    c.id_ok.ensures (no_list _) refl _ c.admit_peer.ensures _ c.in-Err.is
