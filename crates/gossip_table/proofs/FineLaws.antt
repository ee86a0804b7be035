-- What test 12 says of the array, part by part.
-- Assumes nothing.
use Rattle.index.proofs.Kit.{ℕ, ◌≤◌, ◌<◌, ◌≡◌, true, arith}
use mathlib.Core.Bool.{◌&&◌}
use mathlib.Core.List.{map}
use lib.Dec.{leb}
use lib.ListN.{length}
use borrow.Author.Tests.{leb-true}
use Rattle.index.proofs.Index.{both}
use Rattle.records.specs.Records.{State, slot_count, peer_in, is_connected, is_empty}
use Rattle.gossip.specs.Notes.{Note, Gossip, set_most, rows_most, note_in, stored, number_of}
use Rattle.gossip.specs.Valid.{all, rises, setup_ok, entry_ok, set_ok, counts_ok, note_ok, row_ok, row_number}
use Rattle.gossip.specs.Valid.{replies_ok, gossip_ok}
use Rattle.gossip.proofs.Fine.{Fine, fine_of}

module _ (st : State) (g : Gossip) (ok : gossip_ok st g ≡ true) where
  abbrev fine : Fine st g
  fine = fine_of st g ok

  -- the set-up numbers
  pub fine_limit : (1 ≤ g.setup.limit) × (g.setup.limit ≤ 32)
  unfolding setup_ok
  fine_limit =
      let p = g.setup in
      let a = both
      (leb 1 p.limit && leb p.limit 32 && leb p.lazy 48 && leb p.factor 1000 && (leb 1 p.ihaves && leb p.ihaves 32)) _
      fine.setup in
      let b = both (leb 1 p.limit && leb p.limit 32 && leb p.lazy 48 && leb p.factor 1000) _ a.0 in
      let d = both (leb 1 p.limit && leb p.limit 32 && leb p.lazy 48) _ b.0 in
      let e = both (leb 1 p.limit && leb p.limit 32) _ d.0 in
      let f = both (leb 1 p.limit) _ e.0 in
      (leb-true 1 p.limit f.0, leb-true p.limit 32 f.1)

  pub fine_lazy : (g.setup.lazy ≤ 48) × (g.setup.factor ≤ 1000)
  unfolding setup_ok
  fine_lazy =
      let p = g.setup in
      let a = both
      (leb 1 p.limit && leb p.limit 32 && leb p.lazy 48 && leb p.factor 1000 && (leb 1 p.ihaves && leb p.ihaves 32)) _
      fine.setup in
      let b = both (leb 1 p.limit && leb p.limit 32 && leb p.lazy 48 && leb p.factor 1000) _ a.0 in
      let d = both (leb 1 p.limit && leb p.limit 32 && leb p.lazy 48) _ b.0 in
      let e = both (leb 1 p.limit && leb p.limit 32) _ d.0 in
      (leb-true p.lazy 48 e.1, leb-true p.factor 1000 d.1)

  pub fine_bounds : (g.setup.ihaves ≤ 32) × (g.setup.replies ≤ 32)
  unfolding setup_ok
  fine_bounds =
      let p = g.setup in
      let a = both
      (leb 1 p.limit && leb p.limit 32 && leb p.lazy 48 && leb p.factor 1000 && (leb 1 p.ihaves && leb p.ihaves 32)) _
      fine.setup in
      let b = both (leb 1 p.limit && leb p.limit 32 && leb p.lazy 48 && leb p.factor 1000) _ a.0 in
      let d = both (leb 1 p.ihaves) (leb p.ihaves 32) b.1 in
      let e = both (leb 1 p.replies) (leb p.replies 32) a.1 in
      (leb-true p.ihaves 32 d.1, leb-true p.replies 32 e.1)

  module _ (s : ℕ) (l : s < slot_count) where
    abbrev here : Note
    here = note_in g s

    note_two : (set_ok (is_connected (peer_in st s)) here.held ≡ true) × (counts_ok g.setup (is_empty (peer_in st s)) here ≡ true)
    unfolding note_ok
    note_two = both (set_ok (is_connected (peer_in st s)) here.held) (counts_ok g.setup (is_empty (peer_in st s)) here) (fine.note s l)

    set_three :
        (leb (length here.held) set_most ≡ true) × (rises (map number_of here.held) ≡ true) × (all entry_ok here.held ≡ true)
    unfolding set_ok
    set_three =
        let held = here.held in
        let a = both (leb (length held) set_most && rises (map number_of held) && all entry_ok held) _ note_two.0 in
        let b = both (leb (length held) set_most && rises (map number_of held)) _ a.0 in
        let d = both (leb (length held) set_most) _ b.0 in
        (d.0, d.1, b.1)

    pub fine_held : length here.held ≤ set_most
    fine_held = leb-true (length here.held) set_most set_three.0

    pub fine_counts : (here.puts ≤ 32) × (here.ihaves ≤ 32)
    fine_counts =
        let a = both (leb here.puts g.setup.limit && leb here.ihaves g.setup.ihaves) _ note_two.1 in
        let b = both (leb here.puts g.setup.limit) (leb here.ihaves g.setup.ihaves) a.0 in
        let p = leb-true here.puts g.setup.limit b.0 in
        let q = leb-true here.ihaves g.setup.ihaves b.1 in
        (omega (arith, p, fine_limit.1), omega (arith, q, fine_bounds.0))

  pub fine_rows : (length g.replies ≤ rows_most) × (rises (map row_number g.replies) ≡ true)
      × (all (stored g) (map row_number g.replies) ≡ true) × (all (row_ok st g.setup.replies) g.replies ≡ true)
  unfolding replies_ok
  fine_rows =
      let r = g.replies in
      let a = both (leb (length r) rows_most && rises (map row_number r) && all (stored g) (map row_number r)) _ fine.replies in
      let b = both (leb (length r) rows_most && rises (map row_number r)) _ a.0 in
      let d = both (leb (length r) rows_most) _ b.0 in
      (leb-true (length r) rows_most d.0, d.1, b.1, a.1)
