-- Walks over the slots of a set: the lowest, then the others; and a walk over all slots, most of whose turns change nothing.
-- Assumes nothing.
use Prim.Native.Nat.{ℕ, zero, suc, ◌+◌, ◌≤◌, ◌<◌}
use native.Mathlib.Omega.{arith}
use native.Mathlib.Nat.{not-suc-le-zero, le_of_suc-le-suc}
use mathlib.Core.Path.{◌≡◌, refl, sym, subst, ap, ◌∙◌}
use mathlib.Core.Bool.{Bool, true, false}
use mathlib.Core.List.{List, [], ◌∷◌}
use lib.ListN.{length, get_or, set, drop}
use lib.Seq.{drop-cons}
use Rattle.std.specs.Prelude.{Option, Some, None}
use Rattle.index.specs.Index.{iter}
use Rattle.index.proofs.Flags.{by_order}
use Rattle.records.specs.Records.{slot_count}
use Rattle.words.specs.declared.slots.Slots.{Slots}
use Rattle.words.specs.Walk.{GivesSlot, Gives, Ends}
use Rattle.words.specs.Words.{bits_of, lowest, slots, Next}

pub lowest_below : (m : List Bool) (s : ℕ) → s < lowest m → get_or m s false ≡ false
unfolding lowest
lowest_below [] s h = refl
lowest_below (true ∷ m) s h = absurd (not-suc-le-zero h)
lowest_below (false ∷ m) zero h = refl
lowest_below (false ∷ m) (suc s) h = lowest_below m s (le_of_suc-le-suc h)

pub lowest_most : (m : List Bool) → lowest m ≤ length m
unfolding lowest
lowest_most [] = omega arith
lowest_most (true ∷ m) = omega arith
lowest_most (false ∷ m) = let h = lowest_most m in omega arith

-- a turn that changes nothing is no turn
pub iter_sparse :
    {S : Type 0} (f : ℕ → S → S) (u : S) (i j : ℕ) →
    i ≤ j →
    ((s : ℕ) (v : S) → i ≤ s → s < j → f s v ≡ v) →
    iter i f u ≡ iter j f u
unfolding iter
iter_sparse f u i zero h k = let e : i ≡ 0 = omega arith in ap (λ (n : ℕ). iter n f u) e
iter_sparse f u i (suc j) h k =
    by_order (iter i f u ≡ iter (suc j) f u) j i
    (λ l. let e : i ≡ suc j = omega arith in ap (λ (n : ℕ). iter n f u) e)
    (λ l.
    iter_sparse f u i j l (λ s v a b. k s v a (omega arith)) ∙ sym (k j (iter j f u) l (omega arith)))

-- ---- the iterator over a set's slots
-- before the first
pub begun : (set : List ℕ) (w s : Slots) → s ≡ w → w.set ≡ set → w.from ≡ 0 → (s.set ≡ set) × (s.from ≡ 0)
begun set w s e es ef = (ap (λ (x : Slots). x.set) e ∙ es, ap (λ (x : Slots). x.from) e ∙ ef)

-- the walk over a set, from i on, gave slot x and is at t
pub record Took (set : List ℕ) (i x : ℕ) (t : Slots) : Type 0 where
  pub slot_lt : x < slot_count
  pub next : Next (bits_of set) i x
  pub set_is : t.set ≡ set
  pub from_is : t.from ≡ x + 1

pub took : (set : List ℕ) (s t : Slots) (r : Option ℕ) (x : ℕ) → s.set ≡ set → r ≡ Some x → GivesSlot s r t → Took set s.from x t
took set s t r x es er g =
    let o : Gives s x t = subst (λ (q : Option ℕ). GivesSlot s q t) er g in
    record {
      slot_lt = o.slot_lt;
      next = subst (λ (l : List ℕ). Next (bits_of l) s.from x) es o.lowest;
      set_is = o.set_is ∙ es;
      from_is = o.from_is;
    }

pub ended : (set : List ℕ) (s t : Slots) (r : Option ℕ) → s.set ≡ set → r ≡ None → GivesSlot s r t → Next (bits_of set) s.from slot_count
ended set s t r es er g =
    let o : Ends s t = subst (λ (q : Option ℕ). GivesSlot s q t) er g in
    subst (λ (l : List ℕ). Next (bits_of l) s.from slot_count) es o.none

-- the slots of a set from slot i on, as a list
drop_all : (k : ℕ) (m : List Bool) → slots k (drop (length m) m) ≡ []
unfolding slots
drop_all k [] = refl
drop_all k (x ∷ m) = drop_all k m

module _ (m : List Bool) where
  abbrev pub slots_from : ℕ → List ℕ
  slots_from i = slots i (drop i m)

  from_here : (i : ℕ) → i < length m → get_or m i false ≡ true → slots_from i ≡ i ∷ slots_from (suc i)
  unfolding slots
  from_here i h e = ap (slots i) (drop-cons m i false h) ∙ ap (λ (b : Bool). slots i (b ∷ drop (suc i) m)) e

  from_past : (i : ℕ) → i < length m → get_or m i false ≡ false → slots_from i ≡ slots_from (suc i)
  unfolding slots
  from_past i h e = ap (slots i) (drop-cons m i false h) ∙ ap (λ (b : Bool). slots i (b ∷ drop (suc i) m)) e

  from_skip :
      (i j : ℕ) → i ≤ j → j ≤ length m → ((k : ℕ) → i ≤ k → k < j → get_or m k false ≡ false) → slots_from i ≡ slots_from j
  from_skip i zero h l n = let e : i ≡ 0 = omega arith in ap slots_from e
  from_skip i (suc j) h l n =
      by_order (slots_from i ≡ slots_from (suc j)) j i
      (λ k. let e : i ≡ suc j = omega arith in ap slots_from e)
      (λ k. from_skip i j k (omega arith) (λ x a b. n x a (omega arith)) ∙ from_past j (omega arith) (n j k (omega arith)))

  pub slots_next : (i j : ℕ) → length m ≡ slot_count → Next m i j → j < slot_count → slots_from i ≡ j ∷ slots_from (j + 1)
  slots_next i j l n h =
      let e : suc j ≡ j + 1 = omega arith in
      from_skip i j n.later (omega arith) n.none
      ∙ from_here j (omega arith) (n.here h)
      ∙ ap (λ (k : ℕ). j ∷ slots_from k) e

  pub slots_last : (i : ℕ) → length m ≡ slot_count → Next m i slot_count → slots_from i ≡ []
  slots_last i l n =
      from_skip i slot_count n.later (omega arith) n.none
      ∙ ap slots_from (sym l)
      ∙ drop_all (length m) m
