-- Laws of protocol names: that the comparison is one of lists, and the three names.
-- Assumes nothing.
use Rattle.std.proofs.Common.{Some, None}
use Rattle.std.specs.Bool.{Decides}
use Rattle.index.proofs.Kit.{ℕ, ◌≤◌, ◌≡◌, refl, sym, ◌∙◌, arith, Bool, true, false, every, by_test}
use mathlib.Core.Bool.{cond}
use mathlib.Core.Path.{subst}
use mathlib.Core.List.{List}
use lib.ListN.{length, get_or}
use lib.Seq.{ext_get_or}
use lib.Dec.{eqb}
use borrow.Author.Tests.{eq-eqb, eqb-true}
use Rattle.index.proofs.Index.{both, every_at, every_by}
use Rattle.lookup.specs.Name.{meshsub, same_at, same_bytes, version_of}

module _ (a b : List ℕ) where
  -- the comparison is one of lists
  pub same_bytes_lem : same_bytes a b ≡ true → a ≡ b
  unfolding same_bytes
  same_bytes_lem e =
      let q = both (eqb (length a) (length b)) (every (length a) (same_at a b)) e in
      ext_get_or 0 a b (eqb-true (length a) (length b) q.0)
      (λ k h. eqb-true (get_or a k 0) (get_or b k 0) (every_at (same_at a b) (length a) k q.1 h))

pub same_self : (a : List ℕ) → same_bytes a a ≡ true
unfolding same_bytes
same_self a = rw (eq-eqb (length a) (length a) refl, every_by (same_at a a) (length a) (λ k h. eq-eqb (get_or a k 0) (get_or a k 0) refl))

-- what `==` says is that
pub compared : (a b : List ℕ) (r : Bool) → Decides r (a ≡ b) → r ≡ same_bytes a b
compared a b true d = subst (λ (l : List ℕ). true ≡ same_bytes a l) (d.0 refl) (sym (same_self a))
compared a b false d =
    by_test (false ≡ same_bytes a b) (same_bytes a b) (λ e. d.1 (same_bytes_lem a b e) ∙ sym e) (λ e. sym e)

-- the ends of the choice
module _ (name : List ℕ) where
  pub first_name : same_bytes name (meshsub 48) ≡ true → Some 0 ≡ version_of name
  unfolding version_of
  first_name e = rw e

  pub second_name : same_bytes name (meshsub 48) ≡ false → same_bytes name (meshsub 49) ≡ true → Some 1 ≡ version_of name
  unfolding version_of
  second_name e f = rw (e, f)

  pub third_name :
      same_bytes name (meshsub 48) ≡ false → same_bytes name (meshsub 49) ≡ false → same_bytes name (meshsub 50) ≡ true →
      Some 2 ≡ version_of name
  unfolding version_of
  third_name e f g = rw (e, f, g)

  pub no_name :
      same_bytes name (meshsub 48) ≡ false → same_bytes name (meshsub 49) ≡ false → same_bytes name (meshsub 50) ≡ false →
      None ≡ version_of name
  unfolding version_of
  no_name e f g = rw (e, f, g)

  -- a version is 0, 1 or 2
  pub version_small : (v : ℕ) → version_of name ≡ Some v → v ≤ 2
  unfolding version_of
  version_small v e = go (same_bytes name (meshsub 48)) (same_bytes name (meshsub 49)) (same_bytes name (meshsub 50)) e
    where
      go : (p q r : Bool) → cond p (Some 0) (cond q (Some 1) (cond r (Some 2) None)) ≡ Some v → v ≤ 2
      go true q r e = let z : 0 ≡ v = cc in omega arith
      go false true r e = let z : 1 ≡ v = cc in omega arith
      go false false true e = let z : 2 ≡ v = cc in omega arith
      go false false false e = let z : ◌≡◌ {A = ℕ} 0 1 = cc in absurd (omega arith)
