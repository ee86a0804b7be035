-- The slots of the saved records: which they are, that their ids ascend, and how many there are.
-- Assumes nothing.
use Prim.{tt}
use Prim.Native.Nat.{ℕ, zero, suc, ◌<◌, ◌≤◌, suc-le-suc}
use mathlib.Core.Path.{◌≡◌, refl, sym, ap, ◌∙◌}
use mathlib.Core.Logic.{◌≢◌, ◌⊎◌, inl, inr, ⊎_elim}
use mathlib.Core.Bool.{true}
use mathlib.Core.List.{List, [], ◌∷◌, ◌++◌}
use native.Mathlib.Nat.{le_of_suc-le-suc, not-suc-le-zero}
use native.Mathlib.Omega.{arith}
use borrow.Author.Tests.{ltb-true, ltb-false, lt-ltb, le-ltb}
use lib.Dec.{ltb}
use lib.ListN.{length, get_or, take, drop}
use Rattle.index.specs.Index.{iter}
use Rattle.index.proofs.Flags.{by_order, cond_case}
use Rattle.records.specs.Records.{State, slot_count, peer_in}
use Rattle.saves.specs.Rising.{id_at, Rises}
use Rattle.saves.specs.Save.{is_saved, insert, placed, order}
use Rattle.saves.proofs.Lists.{Each, each_map}

module _ (st : State) where
  pub rises_at : (a : ℕ) (l : List ℕ) → Rises st a l → 0 < length l → a < id_at st (get_or l 0 0)
  rises_at a [] r h = absurd (not-suc-le-zero h)
  rises_at a (k ∷ l) r h = r.0

  pub rises_next : (a : ℕ) (l : List ℕ) → Rises st a l → (i : ℕ) → suc i < length l → id_at st (get_or l i 0) < id_at st (get_or l (suc i) 0)
  rises_next a [] r i h = absurd (not-suc-le-zero h)
  rises_next a (k ∷ l) r zero h = rises_at (id_at st k) l r.1 (le_of_suc-le-suc h)
  rises_next a (k ∷ l) r (suc i) h = rises_next (id_at st k) l r.1 i (le_of_suc-le-suc h)

  pub each_insert : (P : ℕ → Type 0) (s : ℕ) (l : List ℕ) → P s → Each P l → Each P (insert st s l)
  unfolding insert
  each_insert P s [] p e = (p, tt)
  each_insert P s (k ∷ l) p e =
      cond_case (Each P) (ltb (id_at st k) (id_at st s)) (k ∷ insert st s l) (s ∷ k ∷ l)
      (λ t. (e.0, each_insert P s l p e.1))
      (λ t. (p, e))

  pub length_insert : (s : ℕ) (l : List ℕ) → length (insert st s l) ≡ suc (length l)
  unfolding insert
  length_insert s [] = refl
  length_insert s (k ∷ l) =
      cond_case (λ (m : List ℕ). length m ≡ suc (suc (length l))) (ltb (id_at st k) (id_at st s)) (k ∷ insert st s l) (s ∷ k ∷ l)
      (λ t. ap suc (length_insert s l))
      (λ t. refl)

  pub rises_insert :
      (s : ℕ) (l : List ℕ) (a : ℕ) → Rises st a l → a < id_at st s → Each (λ k. id_at st k ≢ id_at st s) l → Rises st a (insert st s l)
  unfolding insert
  rises_insert s [] a r h e = (h, tt)
  rises_insert s (k ∷ l) a r h e =
      cond_case (Rises st a) (ltb (id_at st k) (id_at st s)) (k ∷ insert st s l) (s ∷ k ∷ l)
      (λ t. (r.0, rises_insert s l (id_at st k) r.1 (ltb-true (id_at st k) (id_at st s) t) e.1))
      (λ t.
      let b = ltb-false (id_at st k) (id_at st s) t in
      let n : id_at st k ≡ id_at st s → ⊥ = e.0 in
      (h, (omega (arith, n), r.1)))

  -- one that is above all others goes last
  pub insert_last : (s : ℕ) (l : List ℕ) → Each (λ k. id_at st k < id_at st s) l → insert st s l ≡ l ++ (s ∷ [])
  unfolding insert
  insert_last s [] e = refl
  insert_last s (k ∷ l) e =
      rw (lt-ltb (id_at st k) (id_at st s) e.0) (ap (λ (m : List ℕ). k ∷ m) (insert_last s l e.1))

-- ---- the walk over the slots
pub record Ordered (st : State) (time n : ℕ) (l : List ℕ) : Type 0 where
  pub slots : Each (λ k. (k < n) × (is_saved st time k ≡ true)) l
  pub rises : Rises st 0 l
  pub few : length l ≤ n

module _
    (st : State)
    (time : ℕ)
    (used : (s : ℕ) → s < slot_count → is_saved st time s ≡ true → 1 ≤ (peer_in st s).id)
    (ids : (s k : ℕ) → s < slot_count → k < s → (peer_in st k).id ≡ (peer_in st s).id → (peer_in st s).id ≡ 0)
  where
    ordered_more : (n : ℕ) (l : List ℕ) → n < slot_count → Ordered st time n l → Ordered st time (suc n) (placed st time n l)
    unfolding placed
    ordered_more n l h o =
        cond_case (Ordered st time (suc n)) (is_saved st time n) (insert st n l) l
        (λ t.
        record {
          slots = each_insert st (λ k. (k < suc n) × (is_saved st time k ≡ true)) n l (omega arith, t) wider;
          rises =
              rises_insert st n l 0 o.rises (used n h t)
              (each_map _ (λ k. id_at st k ≢ id_at st n)
              (λ k q e. let z = ids n k h q.0 e in let y = used n h t in omega arith)
              l
              o.slots);
          few = let m = length_insert st n l in let f = o.few in omega arith;
        })
        (λ t. record { slots = wider; rises = o.rises; few = let f = o.few in omega arith })
      where
        wider : Each (λ k. (k < suc n) × (is_saved st time k ≡ true)) l
        wider = each_map (λ k. (k < n) × (is_saved st time k ≡ true)) _ (λ k q. let b = q.0 in (omega arith, q.1)) l o.slots

    pub ordered_upto : (n : ℕ) → n ≤ slot_count → Ordered st time n (iter n (placed st time) [])
    unfolding iter
    ordered_upto zero h = record { slots = tt; rises = tt; few = omega arith }
    ordered_upto (suc n) h = ordered_more n (iter n (placed st time) []) h (ordered_upto n (omega arith))

    pub ordered : Ordered st time slot_count (order st time)
    unfolding order
    ordered = ordered_upto slot_count (omega arith)

-- ---- and they are all
abbrev pub In : ℕ → List ℕ → Type 0
In s [] = ⊥
In s (k ∷ l) = (s ≡ k) ⊎ In s l

module _ (st : State) where
  in_insert : (s : ℕ) (l : List ℕ) → In s (insert st s l)
  unfolding insert
  in_insert s [] = inl refl
  in_insert s (k ∷ l) =
      cond_case (In s) (ltb (id_at st k) (id_at st s)) (k ∷ insert st s l) (s ∷ k ∷ l)
      (λ t. inr (in_insert s l))
      (λ t. inl refl)

  in_more : (j s : ℕ) (l : List ℕ) → In j l → In j (insert st s l)
  unfolding insert
  in_more j s [] i = absurd i
  in_more j s (k ∷ l) i =
      cond_case (In j) (ltb (id_at st k) (id_at st s)) (k ∷ insert st s l) (s ∷ k ∷ l)
      (λ t. ⊎_elim (λ e. inl e) (λ m. inr (in_more j s l m)) i)
      (λ t. inr i)

  all_upto : (time n s : ℕ) → s < n → is_saved st time s ≡ true → In s (iter n (placed st time) [])
  unfolding iter placed
  all_upto time zero s h e = absurd (not-suc-le-zero h)
  all_upto time (suc n) s h e =
      by_order (In s (placed st time n (iter n (placed st time) []))) s n
      (λ b.
      cond_case (In s) (is_saved st time n) (insert st n (iter n (placed st time) [])) (iter n (placed st time) [])
      (λ t. in_more s n (iter n (placed st time) []) (all_upto time n s b e))
      (λ t. all_upto time n s b e))
      (λ b.
      let q : s ≡ n = omega arith in
      let f : is_saved st time n ≡ true = rw q at e in
      rw (f, q) (in_insert n (iter n (placed st time) [])))

  -- every saved record is written
  pub order_all : (time s : ℕ) → s < slot_count → is_saved st time s ≡ true → In s (order st time)
  unfolding order
  order_all time s h e = all_upto time slot_count s h e

  -- a list of slots with ascending ids is fixed by its slots, so any way of sorting will do
  above : (a : ℕ) (l : List ℕ) (j : ℕ) → Rises st a l → In j l → a < id_at st j
  above a [] j r i = absurd i
  above a (k ∷ l) j r i =
      ⊎_elim
      (λ e. rw e r.0)
      (λ m. let x = r.0 in let y = above (id_at st k) l j r.1 m in omega arith)
      i

  pub rises_unique :
      (a b : ℕ) (l m : List ℕ) →
      Rises st a l →
      Rises st b m →
      ((j : ℕ) → In j l → In j m) →
      ((j : ℕ) → In j m → In j l) →
      l ≡ m
  rises_unique a b [] [] r q f g = refl
  rises_unique a b [] (k ∷ m) r q f g = absurd (g k (inl refl))
  rises_unique a b (k ∷ l) [] r q f g = absurd (f k (inl refl))
  rises_unique a b (k ∷ l) (j ∷ m) r q f g =
      let e : k ≡ j = same in
      λ i. e i ∷ rises_unique (id_at st k) (id_at st j) l m r.1 q.1 (inner e) (outer e) i
    where
      same : k ≡ j
      same =
          ⊎_elim (λ e. e)
          (λ x. ⊎_elim (λ e. sym e)
          (λ y.
          let u = above (id_at st j) m k q.1 x in
          let v = above (id_at st k) l j r.1 y in
          absurd (omega arith))
          (g j (inl refl)))
          (f k (inl refl))

      inner : k ≡ j → (i : ℕ) → In i l → In i m
      inner e i x =
          ⊎_elim
          (λ z. let u = above (id_at st k) l i r.1 x in let w : id_at st i ≡ id_at st k = ap (id_at st) (z ∙ sym e) in absurd (omega arith))
          (λ y. y)
          (f i (inr x))

      outer : k ≡ j → (i : ℕ) → In i m → In i l
      outer e i x =
          ⊎_elim
          (λ z. let u = above (id_at st j) m i q.1 x in let w : id_at st i ≡ id_at st j = ap (id_at st) (z ∙ e) in absurd (omega arith))
          (λ y. y)
          (g i (inr x))

-- what code asks that keeps the slots in an array: where s goes, and what stands there then
module _ (st : State) (s : ℕ) where
  pub insert_at :
      (l : List ℕ) (j : ℕ) →
      j ≤ length l →
      ((k : ℕ) → k < j → id_at st (get_or l k 0) < id_at st s) →
      (j < length l → id_at st s ≤ id_at st (get_or l j 0)) →
      insert st s l ≡ take j l ++ s ∷ drop j l
  unfolding insert
  insert_at [] zero h f g = refl
  insert_at [] (suc j) h f g = absurd (not-suc-le-zero h)
  insert_at (k ∷ l) zero h f g = rw (le-ltb (id_at st k) (id_at st s) (g (omega arith)))
  insert_at (k ∷ l) (suc j) h f g =
      rw (lt-ltb (id_at st k) (id_at st s) (f zero (omega arith)))
      (ap (λ (m : List ℕ). k ∷ m)
      (insert_at l j (le_of_suc-le-suc h) (λ i b. f (suc i) (suc-le-suc b)) (λ b. g (suc-le-suc b))))
