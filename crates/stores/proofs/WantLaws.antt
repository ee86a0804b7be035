-- Flags of given numbers, each at its place among them in ascending order: up for those that some topic stores. The list of those wanted:
-- one number more, unless its flag is up; then it is, so that none is listed twice.
-- Assumes nothing.
use Prim.Native.Nat.{ℕ, ◌+◌, ◌≤◌, ◌<◌, ◌%◌}
use native.Mathlib.Numerals.{add-one}
use native.Mathlib.Omega.{arith}
use mathlib.Core.Bool.{Bool, true, false, cond, ◌||◌}
use mathlib.Core.List.{List, [], ◌∷◌, ◌++◌}
use mathlib.Core.Path.{◌≡◌, refl, sym, ap, ◌∙◌}
use lib.Dec.{eqb, ltb}
use lib.ListN.{length, get_or, set, take, replicate, length-append, length-set, length-replicate, get_or-replicate, get_or-eq_default}
use lib.Seq.{sets, length-sets, take-suc, take_all, get_or-set_same, get_or-set_other}
use borrow.Author.Tests.{eqb-true, eqb-false, eq-eqb, ne_eqb}
use Rattle.index.proofs.Flags.{by_test, by_order, cond_case}
use Rattle.index.proofs.Lists.{sets_append}
use Rattle.marks.specs.Marks.{bucket_count, is_marked, marked}
use Rattle.sorting.specs.Sorting.{insert_key, sorted, place_in, Ordered}
use Rattle.sorting.proofs.SortLaws.{length_sorted}
use Rattle.sorting.proofs.PlaceLaws.{AtPlace, at_place, ordered_sorted}
use Rattle.gossip.specs.Notes.{numbers_most, has, some}
use Rattle.gossip.specs.Step.{wanted}
use Rattle.stores.specs.Marks.{Seen, Given, flag_of, Flags, Next, Listed}
use Rattle.stores.specs.View.{all_windows, window_at, stored_at}
use Rattle.stores.proofs.ApartLaws.{clash}
use Rattle.stores.proofs.HasLaws.{or_assoc, or_false, or_true, has_none, has_snoc, has_more, has_at, has_index}
use Rattle.stores.proofs.MarkLaws.{seen_more, unmarked}
use Rattle.stores.proofs.ViewLaws.{stored_all}

-- ---- marks of a list

pub seen_next :
    (l seen : List ℕ) (k b : ℕ) → k < length l → Seen (take k l) seen → b ≡ get_or l k 0 % bucket_count → Seen (take (k + 1) l) (marked seen b)
seen_next l seen k b h s e = rw (add-one k, take-suc l k 0 h) (seen_more (take k l) seen (get_or l k 0) b s e)

pub seen_done : (l seen : List ℕ) (k : ℕ) → length l ≤ k → Seen (take k l) seen → Seen l seen
seen_done l seen k h s = rw (take_all k l h) at s

-- ---- a list and the same list sorted have the same numbers

has_insert : (n x : ℕ) (l : List ℕ) → has n (insert_key x l) ≡ eqb x n || has n l
unfolding has insert_key
has_insert n x [] = refl
has_insert n x (y ∷ l) =
    cond_case (λ (m : List ℕ). has n m ≡ eqb x n || (eqb y n || has n l)) (ltb y x) (y ∷ insert_key x l) (x ∷ y ∷ l)
    (λ t. ap (λ (b : Bool). eqb y n || b) (has_insert n x l) ∙ swap (eqb y n) (eqb x n) (has n l))
    (λ t. refl)
  where
    swap : (a b c : Bool) → a || (b || c) ≡ b || (a || c)
    swap true b c = sym (or_true b)
    swap false b c = refl

has_sorted : (n : ℕ) (l : List ℕ) → has n (sorted l) ≡ has n l
unfolding has sorted
has_sorted n [] = refl
has_sorted n (x ∷ l) = has_insert n x (sorted l) ∙ ap (λ (b : Bool). eqb x n || b) (has_sorted n l)

-- ---- flags

module _ (f : ℕ → Bool) (rising : List ℕ) where
  -- no number of which f holds
  flags_nothing : (a : List Bool) → ((n : ℕ) → has n rising ≡ true → f n ≡ false) → Flags f rising a a
  flags_nothing a h =
      record {
        size = refl;
        flags = λ n b. sym (ap (λ (x : Bool). flag_of rising a n || x) (h n b) ∙ or_false (flag_of rising a n));
      }

  flags_same : (g : ℕ → Bool) (a b : List Bool) → ((n : ℕ) → f n ≡ g n) → Flags f rising a b → Flags g rising a b
  flags_same g a b e h =
      record { size = h.size; flags = λ n l. h.flags n l ∙ ap (λ (x : Bool). flag_of rising a n || x) (e n) }

  -- one after the other
  flags_join :
      (g : ℕ → Bool) (a b d : List Bool) → Flags f rising a b → Flags g rising b d → Flags (λ n. f n || g n) rising a d
  flags_join g a b d h k =
      record {
        size = k.size ∙ h.size;
        flags = λ n l.
            k.flags n l ∙ ap (λ (x : Bool). x || g n) (h.flags n l) ∙ or_assoc (flag_of rising a n) (f n) (g n);
      }

  -- flags that were all down
  flags_told :
      (b : List Bool) (n : ℕ) → Flags f rising (replicate numbers_most false) b → has n rising ≡ true → flag_of rising b n ≡ f n
  flags_told b n h l = h.flags n l ∙ ap (λ (x : Bool). x || f n) (down (place_in n rising))
    where
      down : (i : ℕ) → get_or (replicate numbers_most false) i false ≡ false
      down i =
          by_order (get_or (replicate numbers_most false) i false ≡ false) i numbers_most
          (get_or-replicate numbers_most i false false)
          (λ z. get_or-eq_default (replicate numbers_most false) false z)

-- a given number stands at its place, so that no other has its flag
module _ (rising : List ℕ) (o : Ordered rising) where
  placed : (n : ℕ) → has n rising ≡ true → AtPlace n rising
  placed n h = let k = has_index n rising h in at_place n rising o k.0 k.1.0 k.1.1

  pub place_low : (n at : ℕ) → has n rising ≡ true → at ≡ place_in n rising → at < length rising
  place_low n at h e = rw e (placed n h).0

  pub flag_none : (m at : ℕ) (a : List Bool) → at ≡ place_in m rising → at ≡ length rising → Flags (eqb m) rising a a
  flag_none m at a e l =
      flags_nothing (eqb m) rising a
      (λ n h.
      ne_eqb m n
      (λ q.
      let p : at < length rising = place_low n at h (e ∙ ap (λ (x : ℕ). place_in x rising) q) in
      omega arith))

  module _ (m at : ℕ) (a : List Bool) (e : at ≡ place_in m rising) (l : at < length a) where
    abbrev up_at : Bool
    up_at = get_or a at false || eqb m (get_or rising at 0)

    abbrev Up : ℕ → Type 0
    Up n = flag_of rising (set a at up_at) n ≡ flag_of rising a n || eqb m n

    up_here : (n : ℕ) → has n rising ≡ true → eqb at (place_in n rising) ≡ true → Up n
    up_here n h t =
        let q : at ≡ place_in n rising = eqb-true at (place_in n rising) t in
        let z : get_or rising at 0 ≡ n = ap (λ (k : ℕ). get_or rising k 0) q ∙ (placed n h).1 in
        rw (← q) (get_or-set_same a at up_at false l ∙ ap (λ (x : ℕ). get_or a at false || eqb m x) z)

    up_there : (n : ℕ) → eqb at (place_in n rising) ≡ false → Up n
    up_there n t =
        let d : eqb m n ≡ false = ne_eqb m n (λ q. eqb-false at (place_in n rising) t (e ∙ ap (λ (x : ℕ). place_in x rising) q)) in
        get_or-set_other a at (place_in n rising) up_at false (λ q. eqb-false at (place_in n rising) t (sym q))
        ∙ sym (ap (λ (x : Bool). flag_of rising a n || x) d ∙ or_false (flag_of rising a n))

    pub flag_one : Flags (eqb m) rising a (set a at up_at)
    flag_one =
        record {
          size = length-set a at up_at;
          flags = λ n h. by_test (Up n) (eqb at (place_in n rising)) (up_here n h) (up_there n);
        }

-- m is none of the numbers
pub flags_miss :
    (rising given : List ℕ) (m b : ℕ) (a : List Bool) →
    Seen rising given →
    b ≡ m % bucket_count →
    is_marked given b ≡ false →
    Flags (eqb m) rising a a
flags_miss rising given m b a s e u =
    flags_nothing (eqb m) rising a
    (λ n h.
    ne_eqb m n
    (λ q.
    clash (sym (unmarked rising given m s (ap (is_marked given) (sym e) ∙ u)) ∙ ap (λ (x : ℕ). has x rising) q ∙ h)))

pub window_none : (rising : List ℕ) (a : List Bool) → Flags (λ n. has n []) rising a a
window_none rising a = flags_nothing (λ n. has n []) rising a (λ n h. sym (has_none n))

pub window_more :
    (w rising : List ℕ) (k m : ℕ) (a b d : List Bool) →
    k < length w →
    m ≡ get_or w k 0 →
    Flags (λ n. has n (take k w)) rising a b →
    Flags (eqb m) rising b d →
    Flags (λ n. has n (take (k + 1) w)) rising a d
window_more w rising k m a b d l e h g =
    flags_same (λ n. has n (take k w) || eqb m n) rising (λ n. has n (take (k + 1) w)) a d
    (λ n. ap (λ (x : ℕ). has n (take k w) || eqb x n) e ∙ has_more n w k (has n (take k w)) l refl)
    (flags_join (λ n. has n (take k w)) rising (eqb m) a b d h g)

pub window_done :
    (w rising : List ℕ) (k : ℕ) (a b : List Bool) →
    length w ≤ k →
    Flags (λ n. has n (take k w)) rising a b →
    Flags (λ n. has n w) rising a b
window_done w rising k a b l h =
    flags_same (λ n. has n (take k w)) rising (λ n. has n w) a b (λ n. ap (has n) (take_all k w l)) h

module _ (c rising : List ℕ) where
  pub stores_none : (a : List Bool) → Flags (λ n. some 0 (λ q. has n (window_at c q))) rising a a
  unfolding some
  stores_none a = flags_nothing (λ n. false) rising a (λ n h. refl)

  pub stores_more :
      (p : ℕ) (a b d : List Bool) →
      Flags (λ n. some p (λ q. has n (window_at c q))) rising a b →
      Flags (λ n. has n (window_at c p)) rising b d →
      Flags (λ n. some (p + 1) (λ q. has n (window_at c q))) rising a d
  unfolding some
  stores_more p a b d h g =
      rw (add-one p)
      (flags_join (λ n. some p (λ q. has n (window_at c q))) rising (λ n. has n (window_at c p)) a b d h g)

  pub stores_done :
      (p : ℕ) (a b : List Bool) →
      p ≤ all_windows →
      all_windows ≤ p →
      Flags (λ n. some p (λ q. has n (window_at c q))) rising a b →
      Flags (stored_at c) rising a b
  stores_done p a b l m h =
      let e : p ≡ all_windows = omega arith in
      flags_same (λ n. some p (λ q. has n (window_at c q))) rising (stored_at c) a b
      (λ n. ap (λ (k : ℕ). some k (λ q. has n (window_at c q))) e ∙ sym (stored_all c n))
      h

-- flags stay as many
pub given_kept : (f : ℕ → Bool) (rising : List ℕ) (a b : List Bool) → Given rising a → Flags f rising a b → Given rising b
given_kept f rising a b g h = record { few = g.few; order = g.order; size = h.size ∙ g.size }

-- ---- the list of those wanted

module _ (rising : List ℕ) (n at size : ℕ) (known : List Bool) (a : List ℕ) (g : Given rising known) (e : at ≡ place_in n rising) where
  pub next_known : get_or known at false ≡ true → Next rising n size known known a a size
  next_known t =
      let p : flag_of rising known n ≡ true = ap (λ (k : ℕ). get_or known k false) (sym e) ∙ t in
      record {
        list = rw p;
        count = rw p;
        flags =
            record {
              size = refl;
              flags = λ m h.
                  by_test (flag_of rising known m ≡ flag_of rising known m || eqb n m) (eqb n m)
                  (λ q. let z : flag_of rising known m ≡ true = ap (flag_of rising known) (sym (eqb-true n m q)) ∙ p in rw z)
                  (λ q. rw q (sym (or_false (flag_of rising known m))));
            };
      }

  pub next_new :
      has n rising ≡ true → get_or known at false ≡ false → Next rising n size known (set known at true) a (set a size n) (size + 1)
  next_new h t =
      let p : flag_of rising known n ≡ false = ap (λ (k : ℕ). get_or known k false) (sym e) ∙ t in
      let l : at < length known = omega (arith, place_low rising g.order n at h e, g.few, g.size) in
      let z : get_or rising at 0 ≡ n = ap (λ (k : ℕ). get_or rising k 0) e ∙ (placed rising g.order n h).1 in
      let up : get_or known at false || eqb n (get_or rising at 0) ≡ true =
      ap (λ (x : Bool). get_or known at false || x) (eq-eqb n (get_or rising at 0) (sym z)) ∙ or_true (get_or known at false) in
      record {
        list = rw p;
        count = rw p;
        flags = rw (← up) (flag_one rising g.order n at known e l);
      }

wanted_snoc :
    (f : ℕ → Bool) (l r : List ℕ) (n : ℕ) →
    wanted f l (r ++ (n ∷ [])) ≡ cond (f n || has n (wanted f l r)) (wanted f l r) (wanted f l r ++ (n ∷ []))
unfolding wanted
wanted_snoc f l [] n = refl
wanted_snoc f l (m ∷ r) n = wanted_snoc f (cond (f m || has m l) l (l ++ (m ∷ []))) r n

pub wanted_more :
    (f : ℕ → Bool) (numbers : List ℕ) (i : ℕ) →
    i < length numbers →
    wanted f [] (take (i + 1) numbers)
    ≡ cond (f (get_or numbers i 0) || has (get_or numbers i 0) (wanted f [] (take i numbers)))
    (wanted f [] (take i numbers))
    (wanted f [] (take i numbers) ++ (get_or numbers i 0 ∷ []))
wanted_more f numbers i l = rw (add-one i, take-suc numbers i 0 l) (wanted_snoc f [] (take i numbers) (get_or numbers i 0))

module _ (f : ℕ → Bool) (rising l : List ℕ) (known : List Bool) (a b : List ℕ) (size : ℕ) (h : Listed f rising l known a b size) where
  -- a number that is stored or listed changes nothing; another goes behind those listed, and is flagged
  listed_next :
      (n : ℕ) (left : List Bool) (d : List ℕ) (r : ℕ) →
      has n rising ≡ true →
      Next rising n size known left b d r →
      Listed f rising (cond (f n || has n l) l (l ++ (n ∷ []))) left a d r
  listed_next n left d r g k =
      let p : flag_of rising known n ≡ f n || has n l = flags_told (λ m. f m || has m l) rising known n h.flags g in
      go (f n || has n l) refl (k.list ∙ rw p) (k.count ∙ rw p)
    where
      go :
          (x : Bool) →
          f n || has n l ≡ x →
          d ≡ cond x b (set b size n) →
          r ≡ cond x size (size + 1) →
          Listed f rising (cond x l (l ++ (n ∷ []))) left a d r
      go true z e c =
          record {
            list = e ∙ h.list;
            count = c ∙ h.count;
            flags =
                flags_same (λ m. (f m || has m l) || eqb n m) rising (λ m. f m || has m l) _ left
                (λ m.
                by_test ((f m || has m l) || eqb n m ≡ f m || has m l) (eqb n m)
                (λ t. let q : f m || has m l ≡ true = ap (λ (x : ℕ). f x || has x l) (sym (eqb-true n m t)) ∙ z in rw q)
                (λ t. rw t (or_false (f m || has m l))))
                (flags_join (λ m. f m || has m l) rising (eqb n) _ known left h.flags k.flags);
          }
      go false z e c =
          let y : 0 + length l ≡ size = omega (arith, h.count) in
          record {
            list = e ∙ ap (λ (x : List ℕ). set x size n) h.list ∙ sym (sets_append a 0 l (n ∷ []) ∙ rw y);
            count = c ∙ rw (length-append l (n ∷ [])) (omega (arith, h.count));
            flags =
                flags_same (λ m. (f m || has m l) || eqb n m) rising (λ m. f m || has m (l ++ (n ∷ []))) _ left
                (λ m.
                or_assoc (f m) (has m l) (eqb n m) ∙ ap (λ (x : Bool). f m || x) (sym (has_snoc m n l)))
                (flags_join (λ m. f m || has m l) rising (eqb n) _ known left h.flags k.flags);
          }

pub listed_none :
    (f : ℕ → Bool) (rising : List ℕ) (known : List Bool) (a : List ℕ) →
    Flags f rising (replicate numbers_most false) known →
    Listed f rising (wanted f [] []) known a a 0
unfolding wanted
listed_none f rising known a h =
    record {
      list = refl;
      count = refl;
      flags =
          flags_same f rising (λ n. f n || has n []) _ known
          (λ n. sym (ap (λ (x : Bool). f n || x) (sym (has_none n)) ∙ or_false (f n)))
          h;
    }

pub next_most :
    (rising : List ℕ) (n size : ℕ) (known left : List Bool) (a b : List ℕ) (r : ℕ) → Next rising n size known left a b r → r ≤ size + 1
next_most rising n size known left a b r k = go (flag_of rising known n) k.count
  where
    go : (x : Bool) → r ≡ cond x size (size + 1) → r ≤ size + 1
    go true e = omega arith
    go false e = omega arith

pub listed_length :
    (f : ℕ → Bool) (rising l : List ℕ) (known : List Bool) (a b : List ℕ) (size : ℕ) →
    Listed f rising l known a b size → length b ≡ length a
listed_length f rising l known a b size h = ap length h.list ∙ length-sets a 0 l

-- one given number after the other
module _ (numbers rising : List ℕ) (s : rising ≡ sorted numbers) where
  pub given_first : length numbers ≤ numbers_most → Given rising (replicate numbers_most false)
  given_first h =
      record {
        few = rw (s, length_sorted numbers) h;
        order = rw s (ordered_sorted numbers);
        size = length-replicate numbers_most false;
      }

  pub given_has : (i : ℕ) → i < length numbers → has (get_or numbers i 0) rising ≡ true
  given_has i l = rw (s, has_sorted (get_or numbers i 0) numbers) (has_at (get_or numbers i 0) numbers i l refl)

  module _ (f : ℕ → Bool) where
    pub want_next :
        (known left : List Bool) (a b d : List ℕ) (size r i : ℕ) →
        i < length numbers →
        Listed f rising (wanted f [] (take i numbers)) known a b size →
        Next rising (get_or numbers i 0) size known left b d r →
        Listed f rising (wanted f [] (take (i + 1) numbers)) left a d r
    want_next known left a b d size r i l h k =
        rw (wanted_more f numbers i l)
        (listed_next f rising (wanted f [] (take i numbers)) known a b size h (get_or numbers i 0) left d r (given_has i l) k)

    pub want_done :
        (known : List Bool) (a b : List ℕ) (size i : ℕ) →
        length numbers ≤ i →
        Listed f rising (wanted f [] (take i numbers)) known a b size →
        (b ≡ sets a 0 (wanted f [] numbers)) × (size ≡ length (wanted f [] numbers))
    want_done known a b size i l h =
        let e : take i numbers ≡ numbers = take_all i numbers l in
        (h.list ∙ rw e, h.count ∙ rw e)
