use Prim.Native.Nat.{◌<◌}
use mathlib.Core.Path.{sym, ◌∙◌}
use native.Mathlib.Omega.{arith}
use Rattle.records.specs.Records.{slot_count}
use Rattle.forms.proofs.CopyLaws.{peers_start, peers_more, peers_end, peer_fit}
use Rattle.forms.proofs.copy.peers_from.Goals as goal

pub loop-s-init : goal.loop-s-init
loop-s-init c = (omega arith, c.requires.0.to, peers_start _ _)

pub store_peer-requires : goal.store_peer-requires
store_peer-requires c =
    let l = c.loop-s in
    let h : l.s < slot_count = omega arith in
    (l.invariant.1, (h, peer_fit _ c.requires.0.router l.s _ h c.load_peer.ensures))

pub loop-s-preserved : goal.loop-s-preserved
loop-s-preserved c =
    let l = c.loop-s in (
      omega arith,
      c.store_peer.auto.cells ∙ l.invariant.1,
      peers_more _ _ _ _ l.s _ l.invariant.2 c.store_peer.ensures c.load_peer.ensures,
    )

pub shape_of-table : goal.shape_of-table
shape_of-table c = c.loop-s.invariant.1 ∙ sym c.requires.0.to

pub returns : goal.returns
returns c =
    let l = c.loop-s in
    peers_end _ _ _ l.s _ l.invariant.0 (omega arith) l.invariant.2
