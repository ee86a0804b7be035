-- `notice_calls::idontwant`: the refusals of the first tests, or what `put_from` leaves.
use borrow.Author.Rules.{rules}
use Rattle.index.proofs.Kit.{refl}
use Rattle.gossip.specs.Calls.{idontwant}
use Rattle.gossip.specs.Step.{idontwant_reply, new_effect}
use Rattle.gossip_table.specs.View.{extended_of}
use Rattle.gossip_peers.proofs.CallerLaws.{no_list, peer_refused, peer_admitted, peer_answers}
use Rattle.notice_calls.proofs.NoticeLaws.{put_silent}
use Rattle.notice_calls.proofs.idontwant.Goals as goal

pub put_from-requires : goal.put_from-requires
unfolding new_effect
put_from-requires c =
    let a = c.args in
    let x = extended_of a.table.now a.gossip.now in
    peer_admitted (idontwant a.time a.id a.number) _ _ a.actions.now _ _ _ a.id (idontwant_reply x a.time a.number) c.time_ok.ensures
    c.id_ok.ensures (no_list _) refl _ c.admit_peer.ensures _ c.in-Ok.is (search rules) (search rules)

pub returns-in-Ok : goal.returns-in-Ok
unfolding new_effect
returns-in-Ok c =
    let a = c.args in
    let x = extended_of a.table.now a.gossip.now in
    peer_answers (idontwant a.time a.id a.number) _ _ a.actions.now _ _ _ a.id (idontwant_reply x a.time a.number) c.time_ok.ensures
    c.id_ok.ensures (no_list _) refl _ c.admit_peer.ensures _ c.in-Ok.is _ _ _ (put_silent x a.time a.number _) c.put_from.ensures

pub returns-in-Err : goal.returns-in-Err
unfolding new_effect
returns-in-Err c =
    let a = c.args in
    let x = extended_of a.table.now a.gossip.now in
    peer_refused (idontwant a.time a.id a.number) _ _ a.actions.now _ _ _ a.id (idontwant_reply x a.time a.number) c.time_ok.ensures
    c.id_ok.ensures (no_list _) refl _ c.admit_peer.ensures _ c.in-Err.is
