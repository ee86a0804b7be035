-- `gossip_calls::asking::ihave`: the refusals of the first tests, or what `answer` leaves.
use borrow.Author.Rules.{rules}
use Rattle.index.proofs.Kit.{refl, sym, ap, ◌∙◌}
use lib.ListN.{length}
use lib.Seq.{sets}
use Rattle.gossip.specs.Calls.{ihave}
use Rattle.gossip.specs.Step.{ihave_reply, new_effect}
use Rattle.gossip_table.specs.View.{extended_of}
use Rattle.gossip_peers.proofs.CallerLaws.{peer_refused, peer_silent, peer_admitted, peer_fine, peer_lists, peer_answers, peer_numbers}
use Rattle.gossip_calls.proofs.NumberLaws.{having, arguments_are}
use Rattle.gossip_calls.proofs.AskLaws.{answer_silent}
use Rattle.gossip_calls.proofs.asking.ihave.Goals as goal

pub answer-requires : goal.answer-requires
unfolding new_effect
answer-requires c =
    let a = c.args in
    let x = extended_of a.table.now a.gossip.now in
    let call = ihave a.time a.id a.topic a.given.now (length a.numbers.now) in
    let f = ihave_reply x a.time a.topic a.given.now in
    let eb = arguments_are a.id a.topic (length a.given.now) _ _ c.id_ok.ensures c.topic_ok.ensures in
    let s = peer_admitted call _ _ a.actions.now _ _ _ a.id f c.time_ok.ensures eb refl refl _ c.admit_peer.ensures _ c.in-Ok.is (search rules)
    (search rules) in
    let b = peer_fine call _ _ a.actions.now _ _ _ a.id f c.time_ok.ensures eb refl refl _ c.admit_peer.ensures _ c.in-Ok.is in
    let d = peer_lists call _ _ a.actions.now _ _ _ a.id f c.time_ok.ensures eb refl refl _ c.admit_peer.ensures _ c.in-Ok.is in
    having a.actions.now a.numbers.now a.given.now a.topic _ _ s b c.topic_ok.ensures d

pub returns-in-Ok : goal.returns-in-Ok
unfolding new_effect
returns-in-Ok c =
    let a = c.args in
    let x = extended_of a.table.now a.gossip.now in
    let call = ihave a.time a.id a.topic a.given.now (length a.numbers.now) in
    let f = ihave_reply x a.time a.topic a.given.now in
    let eb = arguments_are a.id a.topic (length a.given.now) _ _ c.id_ok.ensures c.topic_ok.ensures in
    let h = c.answer.ensures in (
      peer_answers call _ _ a.actions.now _ _ _ a.id f c.time_ok.ensures eb refl refl _ c.admit_peer.ensures _ c.in-Ok.is _ _ _
          (answer_silent x a.time a.topic a.given.now _)
          h.0,
      h.1
          ∙ sym
          (ap (sets a.numbers.now 0)
          (peer_numbers call _ _ a.actions.now _ _ _ a.id f c.time_ok.ensures eb refl refl _ c.admit_peer.ensures _ c.in-Ok.is)),
    )

pub returns-in-Err : goal.returns-in-Err
unfolding new_effect
returns-in-Err c =
    let a = c.args in
    let x = extended_of a.table.now a.gossip.now in
    let call = ihave a.time a.id a.topic a.given.now (length a.numbers.now) in
    let f = ihave_reply x a.time a.topic a.given.now in
    let eb = arguments_are a.id a.topic (length a.given.now) _ _ c.id_ok.ensures c.topic_ok.ensures in (
      peer_refused call _ _ a.actions.now _ _ _ a.id f c.time_ok.ensures eb refl refl _ c.admit_peer.ensures _ c.in-Err.is,
      sym
          (ap (sets a.numbers.now 0)
          (peer_silent call _ _ a.actions.now _ _ _ a.id f c.time_ok.ensures eb refl refl _ c.admit_peer.ensures _ c.in-Err.is)),
    )
