-- `layout::load_peer`: each part is what the view reads, and a lane of a cell below 2^64 fits.
use Rattle.layout.proofs.FitLaws.{peer_fits_too}
use Rattle.layout.proofs.SlotLaws.{peer_read}
use native.Mathlib.Omega.{arith}
use Rattle.layout.proofs.load_peer.Goals as goal

pub returns : goal.returns
returns c =
    let b0 = c.bit.ensures in
    let b1 = c.bit-2.ensures in
    let b3 = c.bit-3.ensures in
    let b2 = c.bit-4.ensures in
    let b4 = c.bit-5.ensures in
    let b5 = c.bit-6.ensures in
    let x = c.two.ensures in
    let y = c.two-2.ensures in
    peer_fits_too _ _ _ _ _ _ _ _ _ _ _ _ _ _ x y b0.1 b1.1 b2.1 b3.1 b4.1 b5.1 (omega arith)
    (peer_read c.args.cells.now c.args.slot _ _ _ _ _ _ _ _ _ _ _ _ _ c.requires.1 x y b0.0 b1.0 b2.0 b3.0 b4.0
    b5.0 c.live.ensures
    c.load_groups-g.ensures
    c.live-p57.ensures
    c.live-2.ensures
    c.ends-e.ensures)
