-- Buckets of ids: an id that stands in a lower slot has marked its bucket, so an id whose bucket is unmarked is new.
-- Assumes nothing.
use Prim.Native.Nat.{ℕ, ◌+◌, ◌%◌}
use native.Mathlib.Nat.{mod-lt, not-suc-le-zero, zero-lt-suc}
use native.Mathlib.Omega.{arith}
use mathlib.Core.Path.{◌≡◌, refl, sym, ap, ◌∙◌}
use mathlib.Core.Bool.{Bool, true, false, not, ◌&&◌, ◌||◌}
use mathlib.Core.List.{List}
use lib.Dec.{eqb}
use lib.ListN.{length}
use borrow.Author.Tests.{eqb-true, eqb-false}
use Rattle.index.proofs.Flags.{by_test, by_order}
use Rattle.index.proofs.Index.{every_by}
use Rattle.marks.specs.Marks.{bucket_count, word_count, is_marked, marked}
use Rattle.marks.proofs.Marks.{mark_size, mark_stays, mark_here}
use Rattle.records.specs.Records.{State, peer_in}
use Rattle.validity.specs.Valid.{apart, new_id}
use Rattle.validity.specs.Order.{Seen}

pub seen_none : (st : State) (seen : List ℕ) → length seen ≡ word_count → Seen st seen 0
seen_none st seen l = record { size = l; marks = λ k h n. absurd (not-suc-le-zero h) }

module _ (st : State) (seen : List ℕ) (s : ℕ) (h : Seen st seen s) where
  -- a slot without an id
  pub seen_past : (peer_in st s).id ≡ 0 → Seen st seen (s + 1)
  seen_past z =
      record {
        size = h.size;
        marks = λ k m n.
            by_order _ k s (h.marks k)
            (λ o. let e : k ≡ s = omega arith in absurd (n (ap (λ (j : ℕ). (peer_in st j).id) e ∙ z))) n;
      }

  -- a slot whose id marks its bucket
  pub seen_more : (b : ℕ) → b ≡ (peer_in st s).id % bucket_count → Seen st (marked seen b) (s + 1)
  seen_more b e =
      record {
        size = mark_size seen b ∙ h.size;
        marks = λ k m n.
            by_order (is_marked (marked seen b) ((peer_in st k).id % bucket_count) ≡ true) k s
            (λ o. mark_stays seen b ((peer_in st k).id % bucket_count) (h.marks k o n))
            (λ o.
            let z : k ≡ s = omega arith in
            let q : (peer_in st k).id % bucket_count ≡ b = ap (λ (j : ℕ). (peer_in st j).id % bucket_count) z ∙ sym e in
            rw q (mark_here seen b h.size (rw e (mod-lt (peer_in st s).id (zero-lt-suc _)))));
      }

  -- an id whose bucket is not marked stands in no lower slot
  unmarked : is_marked seen ((peer_in st s).id % bucket_count) ≡ false → new_id st s ≡ true
  unfolding new_id apart
  unmarked u =
      every_by (λ k. apart (peer_in st s).id (peer_in st k).id) s (λ k l.
      let P : Type 0 = apart (peer_in st s).id (peer_in st k).id ≡ true in
      by_test P (eqb (peer_in st s).id 0)
      (λ z. go (eqb (peer_in st k).id (peer_in st s).id) (eqb (peer_in st s).id 0) z)
      (λ z.
      by_test P (eqb (peer_in st k).id (peer_in st s).id)
      (λ e.
      let i : (peer_in st k).id ≡ (peer_in st s).id = eqb-true (peer_in st k).id (peer_in st s).id e in
      let n : (peer_in st k).id ≡ 0 → ⊥ = λ o. eqb-false (peer_in st s).id 0 z (sym i ∙ o) in
      let m : is_marked seen ((peer_in st s).id % bucket_count) ≡ true =
      ap (λ (j : ℕ). is_marked seen (j % bucket_count)) (sym i) ∙ h.marks k l n in
      let q : false ≡ true = sym u ∙ m in
      let w : ◌≡◌ {A = ℕ} 0 1 = cc in
      absurd (omega arith))
      (λ e. rw e refl)))
    where
      go : (a b : Bool) → b ≡ true → not (a && not b) ≡ true
      go true true e = refl
      go false b e = refl
      go true false e = e

  -- what is asked of the bucket first, and of the ids only if it is marked
  pub new_told : (known : Bool) → known ≡ is_marked seen ((peer_in st s).id % bucket_count) → not known || new_id st s ≡ new_id st s
  new_told true e = refl
  new_told false e = sym (unmarked (sym e))

-- 0 is no id
pub new_none : (st : State) (s : ℕ) → (peer_in st s).id ≡ 0 → new_id st s ≡ true
unfolding new_id apart
new_none st s z =
    every_by (λ k. apart (peer_in st s).id (peer_in st k).id) s
    (λ k l. rw z (go (eqb (peer_in st k).id 0)))
  where
    go : (a : Bool) → not (a && not true) ≡ true
    go true = refl
    go false = refl
