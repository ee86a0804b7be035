-- The library's order of two lists of numbers, as a walk along both decides it: the lengths, and then the first pair that differs.
-- Assumes nothing.
use Rattle.index.proofs.Kit.{ℕ, ◌+◌, ◌<◌, ◌≡◌, refl, sym, ◌∙◌, arith}
use native.Mathlib.Numerals.{add-one}
use mathlib.Core.List.{List}
use borrow.Author.Tests.{eq-eqb, ne_eqb, lt-ltb, le-ltb}
use lib.ListN.{get_or, length, drop}
use lib.Seq.{drop-cons}
use Rattle.std.specs.Ordering.{nat_cmp, ordering_then}
use Rattle.std.specs.Cmp.Lexicographic.{slice_cmp}
use Rattle.std.specs.declared.cmp.Ordering.{Ordering}
use Rattle.std.specs.declared.cmp.Ordering.TheVariants.{Less, Greater}

pub shorter : (x y : ℕ) (o : Ordering) → x < y → Less ≡ ordering_then (nat_cmp x y) o
shorter x y o h = rw (lt-ltb x y h) refl

pub longer : (x y : ℕ) (o : Ordering) → y < x → Greater ≡ ordering_then (nat_cmp x y) o
longer x y o h = rw (le-ltb x y (omega arith), ne_eqb x y (λ e. omega arith)) refl

pub alike : (x y : ℕ) (o : Ordering) → x ≡ y → ordering_then (nat_cmp x y) o ≡ o
alike x y o e = rw (le-ltb x y (omega arith), eq-eqb x y e) refl

abbrev order : List ℕ → List ℕ → Ordering
order = slice_cmp nat_cmp

module _ (a b : List ℕ) (k : ℕ) (h : k < length a) (l : k < length b) where
  here : order (drop k a) (drop k b)
      ≡ ordering_then (nat_cmp (get_or a k 0) (get_or b k 0)) (order (drop (k + 1) a) (drop (k + 1) b))
  here = rw (drop-cons a k 0 h, drop-cons b k 0 l, add-one k) refl

module _ (a b : List ℕ) (k : ℕ) (h : k < length a) (l : k < length b) where
  pub goes_on : order a b ≡ order (drop k a) (drop k b) → get_or a k 0 ≡ get_or b k 0 → order a b ≡ order (drop (k + 1) a) (drop (k + 1) b)
  goes_on e s = e ∙ here a b k h l ∙ alike (get_or a k 0) (get_or b k 0) _ s

  module _ (z : length a ≡ length b) (e : order a b ≡ order (drop k a) (drop k b)) where
    pub less_here : get_or a k 0 < get_or b k 0 → Less ≡ ordering_then (nat_cmp (length a) (length b)) (order a b)
    less_here t =
        shorter (get_or a k 0) (get_or b k 0) _ t ∙ sym (e ∙ here a b k h l) ∙ sym (alike (length a) (length b) (order a b) z)

    pub more_here : get_or b k 0 < get_or a k 0 → Greater ≡ ordering_then (nat_cmp (length a) (length b)) (order a b)
    more_here t =
        longer (get_or a k 0) (get_or b k 0) _ t ∙ sym (e ∙ here a b k h l) ∙ sym (alike (length a) (length b) (order a b) z)
