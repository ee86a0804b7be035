-- The k best of a set where one slot's score rises: the same, or that slot is among them, was not, and no other slot is new.
-- Assumes nothing.
use Prim.Native.Nat.{ℕ, zero, suc, ◌≤◌, ◌<◌}
use native.Mathlib.Omega.{arith}
use mathlib.Core.Path.{◌≡◌, refl, sym, ap, ◌∙◌, subst}
use mathlib.Core.Bool.{Bool, true, false, not, ◌&&◌, false≢true}
use mathlib.Core.Logic.{◌⊎◌, inl, inr, ⊎_elim}
use mathlib.Core.List.{List}
use lib.ListN.{length, get_or, set, length-set}
use lib.Seq.{get_or-set_other, set_comm}
use lib.Dec.{eqb}
use borrow.Author.Tests.{eqb-true, eqb-false}
use Rattle.index.proofs.Index.{both as halves}
use Rattle.index.proofs.Flags.{by_test}
use Rattle.sets.specs.Sets.{at, except, top, bests}
use Rattle.sets.proofs.WalkLaws.{except_at}
use Rattle.sets.proofs.CountLaws.{at_set_same, set_keeps, top_in}
use Rattle.sets.proofs.PickLaws.{top_near}

-- x is new in b', and nothing else is
pub record Pushed (x : ℕ) (b b' : List Bool) : Type 0 where
  pub new : at b' x ≡ true
  pub old : at b x ≡ false
  pub rest : (s : ℕ) → (s ≡ x → ⊥) → at b' s ≡ true → at b s ≡ true

-- the best b, and the best b' where x's score is no less
abbrev pub Chosen : ℕ → List Bool → List Bool → Type 0
Chosen x b b' = (b' ≡ b) ⊎ Pushed x b b'

module _
    (n x : ℕ) (low : x < n) (sc sc' : List ℕ)
    (same : (s : ℕ) → (s ≡ x → ⊥) → get_or sc' s 0 ≡ get_or sc s 0)
    (no_less : get_or sc x 0 ≤ get_or sc' x 0) (m : List Bool) (order : List ℕ) where
  -- where x is out of the set, its score does not matter
  same_top : (b : List Bool) → at b x ≡ true → top n sc' (except m b) order n ≡ top n sc (except m b) order n
  same_top b h =
      let p = except m b in
      ⊎_elim
      (λ e. e)
      (λ e.
      ⊎_elim
      (λ None-found. let z : ⊥ = omega arith in absurd z)
      (λ found.
      absurd
      (false≢true
      (ap not (sym h) ∙ (halves (at m x) (not (at b x)) (sym (except_at m b x) ∙ ap (at p) (sym e) ∙ found)).1)))
      (top_in n sc' p order n))
      (top_near n x low sc sc' same no_less p p (λ s ns. refl) (λ a. a) order)

  pub same_bests : (k : ℕ) (b : List Bool) → at b x ≡ true → bests n sc' m order k b ≡ bests n sc m order k b
  unfolding bests
  same_bests zero b h = refl
  same_bests (suc k) b h =
      ap (λ (t : ℕ). bests n sc' m order k (set b t true)) (same_top b h)
      ∙ same_bests k (set b (top n sc (except m b) order n) true) (set_keeps b (top n sc (except m b) order n) x h)

  module _ (b : List Bool) (lb : length b ≡ n) where
    x_in : at (set b x true) x ≡ true
    x_in = at_set_same b x (omega arith)

    -- the best is the same with x taken out, where it is not x
    top_without :
        (top n sc (except m b) order n ≡ x → ⊥) →
        top n sc (except m b) order n ≡ top n sc (except m (set b x true)) order n
    top_without nt =
        ⊎_elim
        (λ e. e)
        (λ e. absurd (nt e))
        (top_near n x low sc sc (λ s ns. refl) (omega arith) (except m (set b x true)) (except m b)
        (λ s ns.
        except_at m b s
        ∙ ap (λ (z : Bool). at m s && not z) (sym (get_or-set_other b x s true false ns))
        ∙ sym (except_at m (set b x true) s))
        (λ a.
        absurd
        (false≢true
        (ap not (sym x_in) ∙ (halves (at m x) (not (at (set b x true) x)) (sym (except_at m (set b x true) x) ∙ a)).1)))
        order)

    x_out : (t : ℕ) → (t ≡ x → ⊥) → at b x ≡ false → at (set b t true) x ≡ false
    x_out t nt h = get_or-set_other b t x true false (λ e. nt (sym e)) ∙ h

  -- x was put in one pick sooner
  module _ (b : List Bool) (lb : length b ≡ n) (h : at b x ≡ false) where
    abbrev t : ℕ
    t = top n sc (except m b) order n

    -- and is put in now
    hit : (k : ℕ) → t ≡ x → Chosen x (bests n sc m order k (set b t true)) (bests n sc' m order k (set b x true))
    hit k e =
        inl
        (same_bests k (set b x true) (x_in b lb)
        ∙ ap (λ (z : ℕ). bests n sc m order k (set b z true)) (sym e))

    -- or never
    never : (t ≡ x → ⊥) → Pushed x (set b t true) (set b x true)
    never nt =
        record {
          new = x_in b lb;
          old = x_out b lb t nt h;
          rest = λ s ns a. set_keeps b t s (sym (get_or-set_other b x s true false ns) ∙ a);
        }

    -- or later
    next :
        (t ≡ x → ⊥) →
        set (set b t true) x true ≡ set (set b x true) (top n sc' (except m (set b x true)) order n) true
    next nt =
        set_comm b t x true true nt
        ∙ ap (λ (z : ℕ). set (set b x true) z true)
        (top_without b lb nt ∙ sym (same_top (set b x true) (x_in b lb)))

  later :
      (k : ℕ) (b : List Bool) →
      length b ≡ n →
      at b x ≡ false →
      Chosen x (bests n sc m order (suc k) b) (bests n sc' m order k (set b x true))
  unfolding bests
  later zero b lb h =
      by_test _ (eqb (t b lb h) x)
      (λ e. hit b lb h zero (eqb-true (t b lb h) x e))
      (λ e. inr (never b lb h (eqb-false (t b lb h) x e)))
  later (suc k) b lb h =
      by_test _ (eqb (t b lb h) x)
      (λ e. hit b lb h (suc k) (eqb-true (t b lb h) x e))
      (λ e.
      let nt = eqb-false (t b lb h) x e in
      subst
      (λ (z : List Bool). Chosen x (bests n sc m order (suc k) (set b (t b lb h) true)) (bests n sc' m order k z))
      (next b lb h nt)
      (later k (set b (t b lb h) true) (length-set b (t b lb h) true ∙ lb) (x_out b lb (t b lb h) nt h)))

  pub chosen :
      (k : ℕ) (b : List Bool) →
      length b ≡ n →
      at b x ≡ false →
      Chosen x (bests n sc m order k b) (bests n sc' m order k b)
  unfolding bests
  chosen zero b lb h = inl refl
  chosen (suc k) b lb h =
      let t = top n sc (except m b) order n in
      ⊎_elim
      (λ e.
      by_test _ (eqb t x)
      (λ a.
      let tx = eqb-true t x a in
      inl
      (ap (λ (z : ℕ). bests n sc' m order k (set b z true)) (e ∙ tx)
      ∙ same_bests k (set b x true) (x_in b lb)
      ∙ ap (λ (z : ℕ). bests n sc m order k (set b z true)) (sym tx)))
      (λ a.
      subst
      (λ (z : ℕ). Chosen x (bests n sc m order k (set b t true)) (bests n sc' m order k (set b z true)))
      (sym e)
      (chosen k (set b t true) (length-set b t true ∙ lb) (x_out b lb t (eqb-false t x a) h))))
      (λ e.
      subst
      (λ (z : ℕ). Chosen x (bests n sc m order (suc k) b) (bests n sc' m order k (set b z true)))
      (sym e)
      (later k b lb h))
      (top_near n x low sc sc' same no_less (except m b) (except m b) (λ s ns. refl) (λ a. a) order)
