-- An array in which nothing is held, part by part.
-- Assumes nothing.
use Rattle.index.proofs.Kit.{ℕ, ◌≤◌, ◌<◌, ◌≡◌, refl, sym, ap, ◌∙◌, arith}
use mathlib.Core.List.{List, [], ◌∷◌, ◌++◌}
use lib.ListN.{length, get_or, set, take, drop, replicate}
use lib.Seq.{drop-set-lt, sets}
use Rattle.gossip.proofs.CellLaws.{put_sets}
use borrow.Rule.Slice.PartMut.{put_mid}
use Rattle.records.specs.Records.{slot_count, topic_count}
use Rattle.notes.specs.View.{notes_cells, notes_of}
use Rattle.stores.specs.View.{stores_cells, stores_of}
use Rattle.replies.specs.View.{replies_cells, replies_of}
use Rattle.gossip.specs.Notes.{Setup, Gossip, no_note, no_store, set_replies, fresh_gossip}
use Rattle.gossip_table.specs.Parts.{part}
use Rattle.gossip_table.specs.View.{notes_at, stores_at, replies_at, gossip_cells, setup_by, setup_of, gossip_of}
use Rattle.gossip_table.specs.View.{set_setup, set_notes, set_stores}
use Rattle.gossip_table.proofs.ViewLaws.{whole, notes_put, stores_put, replies_put}

module _ (c l : List ℕ) (size : length c ≡ gossip_cells) where
  pub notes_made :
      length l ≡ notes_cells →
      notes_of l ≡ replicate slot_count no_note →
      gossip_of (put_mid notes_at notes_cells c l) ≡ set_notes (gossip_of c) (replicate slot_count no_note)
  notes_made long e = notes_put c l size long ∙ ap (set_notes (gossip_of c)) e

  pub stores_made :
      length l ≡ stores_cells →
      stores_of l ≡ replicate topic_count no_store →
      gossip_of (put_mid stores_at stores_cells c l) ≡ set_stores (gossip_of c) (replicate topic_count no_store)
  stores_made long e = stores_put c l size long ∙ ap (set_stores (gossip_of c)) e

  pub replies_made :
      length l ≡ replies_cells →
      replies_of l ≡ [] →
      gossip_of (put_mid replies_at replies_cells c l) ≡ set_replies (gossip_of c) []
  replies_made long e = replies_put c l size long ∙ ap (set_replies (gossip_of c)) e

-- a store in front of a part does not change it
part_set : (a n k v : ℕ) (l : List ℕ) → k < a → part a n (set l k v) ≡ part a n l
part_set a n k v l h = ap (take n) (drop-set-lt a l k v h)

abbrev put5 : List ℕ → (a b d e f : ℕ) → List ℕ
put5 c a b d e f = set (set (set (set (set c 0 a) 1 b) 2 d) 3 e) 4 f

part_five : (p n : ℕ) (c : List ℕ) (a b d e f : ℕ) → 5 ≤ p → part p n (put5 c a b d e f) ≡ part p n c
part_five p n c a b d e f h =
    part_set p n 4 f _ (omega arith)
    ∙ part_set p n 3 e _ (omega arith)
    ∙ part_set p n 2 d _ (omega arith)
    ∙ part_set p n 1 b _ (omega arith)
    ∙ part_set p n 0 a c (omega arith)

head_five : (c : List ℕ) (a b d e f : ℕ) → 5 ≤ length c → setup_of (put5 c a b d e f) ≡ setup_by a b d e f
unfolding setup_of
head_five [] a b d e f h = absurd (omega arith)
head_five (x ∷ []) a b d e f h = absurd (omega arith)
head_five (x ∷ y ∷ []) a b d e f h = absurd (omega arith)
head_five (x ∷ y ∷ z ∷ []) a b d e f h = absurd (omega arith)
head_five (x ∷ y ∷ z ∷ w ∷ []) a b d e f h = absurd (omega arith)
head_five (x ∷ y ∷ z ∷ w ∷ v ∷ c) a b d e f h = refl

pub head_made :
    (c : List ℕ) (a b d e f : ℕ) → length c ≡ gossip_cells → gossip_of (put5 c a b d e f) ≡ set_setup (gossip_of c) (setup_by a b d e f)
unfolding gossip_of
head_made c a b d e f size =
    whole
    (head_five c a b d e f (omega arith))
    (ap notes_of (part_five notes_at notes_cells c a b d e f (omega arith)))
    (ap stores_of (part_five stores_at stores_cells c a b d e f (omega arith)))
    (ap replies_of (part_five replies_at replies_cells c a b d e f (omega arith)))

-- five numbers are those that stand there
five_of : (v : List ℕ) → length v ≡ 5 → v ≡ get_or v 0 0 ∷ get_or v 1 0 ∷ get_or v 2 0 ∷ get_or v 3 0 ∷ get_or v 4 0 ∷ []
five_of [] e = absurd (omega arith)
five_of (a ∷ []) e = absurd (omega arith)
five_of (a ∷ b ∷ []) e = absurd (omega arith)
five_of (a ∷ b ∷ d ∷ []) e = absurd (omega arith)
five_of (a ∷ b ∷ d ∷ f ∷ []) e = absurd (omega arith)
five_of (a ∷ b ∷ d ∷ f ∷ g ∷ []) e = refl
five_of (a ∷ b ∷ d ∷ f ∷ g ∷ h ∷ l) e = absurd (omega arith)

-- the head, copied
pub head_copied :
    (c ys v : List ℕ) → length c ≡ gossip_cells → length v ≡ 5 → ys ≡ v → gossip_of (ys ++ drop 5 c) ≡ set_setup (gossip_of c) (setup_of v)
unfolding setup_of
head_copied c ys v size five e =
    ap gossip_of (put_sets c ys v 0 5 e (sym five) (omega arith) ∙ ap (sets c 0) (five_of v five))
    ∙ head_made c (get_or v 0 0) (get_or v 1 0) (get_or v 2 0) (get_or v 3 0) (get_or v 4 0) size

-- all four, one after the other
pub all_made :
    (g0 g1 g2 g3 g4 : Gossip) (p : Setup) →
    g1 ≡ set_notes g0 (replicate slot_count no_note) →
    g2 ≡ set_stores g1 (replicate topic_count no_store) →
    g3 ≡ set_replies g2 [] →
    g4 ≡ set_setup g3 p →
    g4 ≡ fresh_gossip p
unfolding fresh_gossip set_replies
all_made g0 g1 g2 g3 g4 p a b d e =
    e ∙ ap (λ (g : Gossip). set_setup g p)
    (d ∙ ap (λ (g : Gossip). set_replies' g) (b ∙ ap (λ (g : Gossip). set_stores g (replicate topic_count no_store)) a))
  where
    set_replies' : Gossip → Gossip
    set_replies' g = set_replies g []
