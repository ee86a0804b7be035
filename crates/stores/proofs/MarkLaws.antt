-- Buckets: a number that a list has has marked its bucket, so one whose bucket is unmarked is not in the list.
-- Assumes nothing.
use Prim.Native.Nat.{ℕ, ◌%◌}
use native.Mathlib.Nat.{mod-lt, zero-lt-suc}
use native.Mathlib.Omega.{arith}
use mathlib.Core.Bool.{Bool, true, false, not, ◌||◌}
use mathlib.Core.List.{List, [], ◌∷◌, ◌++◌}
use mathlib.Core.Path.{◌≡◌, refl, sym, ap, ◌∙◌}
use lib.Dec.{eqb}
use lib.ListN.{length}
use borrow.Author.Tests.{eqb-true}
use Rattle.index.proofs.Flags.{by_test}
use Rattle.marks.specs.Marks.{bucket_count, word_count, is_marked, marked}
use Rattle.marks.proofs.Marks.{mark_size, mark_stays, mark_here}
use Rattle.gossip.specs.Notes.{has}
use Rattle.stores.specs.Marks.{Seen}
use Rattle.stores.proofs.HasLaws.{has_snoc, has_none}

-- ---- what a list has

clash : {A : Type 0} → false ≡ true → A
clash e = let z : ◌≡◌ {A = ℕ} 0 1 = cc in absurd (omega arith)

pub seen_none : (seen : List ℕ) → length seen ≡ word_count → Seen [] seen
seen_none seen l = record { size = l; marks = λ n h. clash (has_none n ∙ h) }

-- one number more, which marks its bucket
pub seen_more : (l seen : List ℕ) (m b : ℕ) → Seen l seen → b ≡ m % bucket_count → Seen (l ++ (m ∷ [])) (marked seen b)
seen_more l seen m b h e =
    record {
      size = mark_size seen b ∙ h.size;
      marks = λ n a.
          by_test (is_marked (marked seen b) (n % bucket_count) ≡ true) (eqb m n)
          (λ t.
          let z : n % bucket_count ≡ b = ap (λ (k : ℕ). k % bucket_count) (sym (eqb-true m n t)) ∙ sym e in
          rw z (mark_here seen b h.size (rw e (mod-lt m (zero-lt-suc _)))))
          (λ t.
          let o : has n l ≡ true = sym (or_no (has n l) (eqb m n) t) ∙ sym (has_snoc n m l) ∙ a in
          mark_stays seen b (n % bucket_count) (h.marks n o));
    }
  where
    or_no : (x y : Bool) → y ≡ false → x || y ≡ x
    or_no true y e = refl
    or_no false y e = e

-- a number whose bucket is not marked is not in the list
pub unmarked : (l seen : List ℕ) (n : ℕ) → Seen l seen → is_marked seen (n % bucket_count) ≡ false → has n l ≡ false
unmarked l seen n h u =
    by_test (has n l ≡ false) (has n l) (λ t. clash (sym u ∙ h.marks n t)) (λ t. t)

-- what is asked of the bucket first, and of the list only if it is marked
pub new_told :
    (l seen : List ℕ) (n : ℕ) (known : Bool) →
    Seen l seen →
    known ≡ is_marked seen (n % bucket_count) →
    not known || not (has n l) ≡ not (has n l)
new_told l seen n true h e = refl
new_told l seen n false h e = ap not (sym (unmarked l seen n h (sym e)))
