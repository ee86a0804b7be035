use mathlib.Core.Path.{sym, ◌∙◌}
use native.Mathlib.Omega.{arith}
use Rattle.records.specs.Records.{slot_count}
use Rattle.forms.proofs.CopyLaws.{peers_start, peers_more, peers_end}
use Rattle.forms.proofs.copy.peers_to.Goals as goal

pub loop-s-init : goal.loop-s-init
loop-s-init c = (omega arith, c.requires.to, peers_start _ _)

pub loop-s-preserved : goal.loop-s-preserved
loop-s-preserved c =
    let l = c.loop-s in (
      omega arith,
      c.store_peer.auto.cells ∙ l.invariant.1,
      peers_more _ _ _ _ l.s _ l.invariant.2 c.store_peer.ensures c.load_peer.ensures.0,
    )

pub shape_of-rows : goal.shape_of-rows
shape_of-rows c = c.loop-s.invariant.1 ∙ sym c.requires.to

pub returns : goal.returns
returns c =
    let l = c.loop-s in
    peers_end _ _ _ l.s slot_count l.invariant.0 (omega arith) l.invariant.2
