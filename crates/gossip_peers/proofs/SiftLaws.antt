-- A walk over the slots of a set that asks each of them one thing more: below the turn's slot the set has who passed, from it on all.
-- Assumes nothing.
use Prim.Native.Nat.{ℕ, ◌+◌, ◌≤◌, ◌<◌}
use native.Mathlib.Omega.{arith}
use mathlib.Core.Path.{◌≡◌, refl, sym, ap, ◌∙◌}
use mathlib.Core.Bool.{Bool, true, false, ◌&&◌}
use mathlib.Core.List.{List}
use lib.ListN.{length, set, length-set}
use lib.Seq.{get_or-set_same, get_or-set_other}
use Rattle.index.proofs.Flags.{by_order}
use Rattle.records.specs.Records.{slot_count}
use Rattle.words.specs.Words.{Next}
use Rattle.sets.specs.Sets.{at, by_slot}
use Rattle.sets.proofs.SlotLaws.{slots_length, slots_at, slots_built}

-- flags that are f's at every slot
pub flags_are :
    (r : List Bool) (f : ℕ → Bool) → length r ≡ slot_count → ((s : ℕ) → s < slot_count → at r s ≡ f s) → r ≡ by_slot slot_count f
flags_are r f l h = slots_built false f slot_count slot_count r (omega arith) (record { low = omega arith; len = l; below = h })

pub flags_same :
    (f g : ℕ → Bool) → ((s : ℕ) → s < slot_count → f s ≡ g s) → by_slot slot_count f ≡ by_slot slot_count g
flags_same f g h =
    flags_are (by_slot slot_count f) g (slots_length slot_count f) (λ s l. slots_at false f slot_count s l ∙ h s l)

-- ---- the walk
pub record Sifted (all : List Bool) (f : ℕ → Bool) (i : ℕ) (r : List Bool) : Type 0 where
  pub len : length r ≡ slot_count
  pub done : (s : ℕ) → s < i → s < slot_count → at r s ≡ (at all s && f s)
  pub left : (s : ℕ) → i ≤ s → s < slot_count → at r s ≡ at all s

module _ (all : List Bool) (f : ℕ → Bool) where
  pub sifted_none : length all ≡ slot_count → Sifted all f 0 all
  sifted_none l = record { len = l; done = λ s a b. absurd (omega arith); left = λ s a b. refl }

  -- a slot that is not in the set does not pass
  pub sifted_next : (i j : ℕ) (r : List Bool) → Next all i j → Sifted all f i r → Sifted all f j r
  sifted_next i j r n w =
      let l = n.later in
      record {
        len = w.len;
        done = λ s a b.
            by_order (at r s ≡ (at all s && f s)) s i
            (λ k. w.done s k b)
            (λ k.
            let e = n.none s k a in
            w.left s k b ∙ e ∙ sym (ap (λ (x : Bool). x && f s) e));
        left = λ s a b. w.left s (omega arith) b;
      }

  pub sifted_more :
      (i : ℕ) (r r' : List Bool) (b : Bool) →
      i < slot_count →
      at all i ≡ true →
      b ≡ f i →
      r' ≡ set r i b →
      Sifted all f i r →
      Sifted all f (i + 1) r'
  sifted_more i r r' x h e ef er w =
      let l = w.len in
      let at_set : (s : ℕ) → at r' s ≡ at (set r i x) s = λ s. ap (λ (y : List Bool). at y s) er in
      record {
        len = ap length er ∙ length-set r i x ∙ w.len;
        done = λ s a b.
            at_set s
            ∙ by_order (at (set r i x) s ≡ (at all s && f s)) s i
            (λ (k : s < i). get_or-set_other r i s x false (λ z. omega arith) ∙ w.done s k b)
            (λ (k : i ≤ s).
            let z : s ≡ i = omega arith in
            rw z (get_or-set_same r i x false (omega arith) ∙ ef ∙ sym (ap (λ (y : Bool). y && f i) e)));
        left = λ s a b. at_set s ∙ get_or-set_other r i s x false (λ z. omega arith) ∙ w.left s (omega arith) b;
      }

  pub sifted_done : (i : ℕ) (r : List Bool) → slot_count ≤ i → Sifted all f i r → r ≡ by_slot slot_count (λ s. at all s && f s)
  sifted_done i r h w = flags_are r (λ s. at all s && f s) w.len (λ s l. w.done s (omega arith) l)
