-- What the array holds after one of its parts was put back: that part's state is the new one, all else stands.
-- Assumes nothing.
use Rattle.index.proofs.Kit.{ℕ, ◌≤◌, ◌<◌, ◌+◌, ◌≡◌, ap, arith}
use mathlib.Core.List.{List}
use lib.ListN.{length, get_or}
use borrow.Rule.Slice.PartMut.{put_mid}
use Rattle.notes.specs.View.{notes_cells, notes_of}
use Rattle.stores.specs.View.{stores_cells, stores_of}
use Rattle.replies.specs.View.{replies_cells, replies_of}
use Rattle.gossip.specs.Notes.{Setup, Note, Row, Gossip, set_replies}
use Rattle.gossip_table.specs.View.{notes_at, stores_at, replies_at, gossip_cells, setup_of, gossip_of}
use Rattle.gossip_table.specs.View.{set_notes, set_stores}
use Rattle.gossip_table.proofs.PartLaws.{part_same, part_before, part_behind, cell_before}

-- equal parts make an equal whole
abbrev built : Setup → List Note → List (List (List ℕ)) → List Row → Gossip
built p n s r = record { setup = p; notes = n; stores = s; replies = r }

pub whole :
    {p p' : Setup} {n n' : List Note} {s s' : List (List (List ℕ))} {r r' : List Row} →
    p ≡ p' → n ≡ n' → s ≡ s' → r ≡ r' → built p n s r ≡ built p' n' s' r'
whole a b d e = cc

-- the head before any part
head_same :
    (c d : List ℕ) → ((k : ℕ) → k < notes_at → get_or d k 0 ≡ get_or c k 0) → setup_of d ≡ setup_of c
unfolding setup_of
head_same c d h =
    let e0 = h 0 (omega arith) in
    let e1 = h 1 (omega arith) in
    let e2 = h 2 (omega arith) in
    let e3 = h 3 (omega arith) in
    let e4 = h 4 (omega arith) in
    cc

module _ (c l : List ℕ) (size : length c ≡ gossip_cells) where
  pub notes_put : length l ≡ notes_cells → gossip_of (put_mid notes_at notes_cells c l) ≡ set_notes (gossip_of c) (notes_of l)
  unfolding gossip_of
  notes_put e =
      let fits : notes_at + notes_cells ≤ length c = omega arith in
      whole
      (head_same c (put_mid notes_at notes_cells c l) (λ k h. cell_before notes_at notes_cells c l fits e k h))
      (ap notes_of (part_same notes_at notes_cells c l fits e))
      (ap stores_of (part_behind notes_at notes_cells c l fits e stores_at stores_cells (omega arith)))
      (ap replies_of (part_behind notes_at notes_cells c l fits e replies_at replies_cells (omega arith)))

  pub stores_put : length l ≡ stores_cells → gossip_of (put_mid stores_at stores_cells c l) ≡ set_stores (gossip_of c) (stores_of l)
  unfolding gossip_of
  stores_put e =
      let fits : stores_at + stores_cells ≤ length c = omega arith in
      whole
      (head_same c (put_mid stores_at stores_cells c l) (λ k h. cell_before stores_at stores_cells c l fits e k (omega arith)))
      (ap notes_of (part_before stores_at stores_cells c l fits e notes_at notes_cells (omega arith)))
      (ap stores_of (part_same stores_at stores_cells c l fits e))
      (ap replies_of (part_behind stores_at stores_cells c l fits e replies_at replies_cells (omega arith)))

  pub replies_put : length l ≡ replies_cells → gossip_of (put_mid replies_at replies_cells c l) ≡ set_replies (gossip_of c) (replies_of l)
  unfolding gossip_of set_replies
  replies_put e =
      let fits : replies_at + replies_cells ≤ length c = omega arith in
      whole
      (head_same c (put_mid replies_at replies_cells c l) (λ k h. cell_before replies_at replies_cells c l fits e k (omega arith)))
      (ap notes_of (part_before replies_at replies_cells c l fits e notes_at notes_cells (omega arith)))
      (ap stores_of (part_before replies_at replies_cells c l fits e stores_at stores_cells (omega arith)))
      (ap replies_of (part_same replies_at replies_cells c l fits e))
