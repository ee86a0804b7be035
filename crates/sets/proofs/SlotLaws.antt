-- Lists by slot: the length of `by_slot`, its elements, a loop that builds it, and the size of a set as a count.
-- Assumes nothing.
use Prim.Native.Nat.{ℕ, zero, suc, ◌+◌, ◌≤◌, ◌<◌}
use native.Mathlib.Nat.{not-suc-le-zero, eq-or-lt_of_le, le_of_suc-le-suc, add-zero, add-suc, suc-add}
use native.Mathlib.Omega.{arith}
use mathlib.Core.Path.{◌≡◌, refl, sym, ap, ◌∙◌}
use mathlib.Core.Logic.{⊎_elim}
use mathlib.Core.Bool.{Bool, true, false, not, ◌&&◌, false≢true}
use mathlib.Core.List.{List, [], ◌∷◌, ◌++◌}
use lib.ListN.{length, get_or, length-append, get_or-append, get_or-eq_default}
use Rattle.index.specs.Index.{count, gather}
use Rattle.index.proofs.Index.{count_same}
use Rattle.index.proofs.Flags.{by_order}
use Rattle.words.specs.Words.{slots}
use Rattle.words.proofs.BitLaws.{count_first}
use Rattle.sets.specs.Sets.{by_slot, at, size, both, except, ascending, in_order}
use Rattle.index.proofs.Lists.{Built, built_done}
use Rattle.sets.proofs.WalkLaws.{both_at, both_length, except_at, except_length}

pub slots_length : {A : Type 0} (n : ℕ) (f : ℕ → A) → length (by_slot n f) ≡ n
unfolding by_slot gather
slots_length zero f = refl
slots_length (suc n) f =
    let l = length-append (by_slot n f) (f n ∷ []) in
    let h = slots_length n f in
    omega arith

-- the element after a list
after : {A : Type 0} (d : A) (l : List A) (x : A) → get_or (l ++ (x ∷ [])) (length l) d ≡ x
after d [] x = refl
after d (y ∷ l) x = after d l x

pub slots_at : {A : Type 0} (d : A) (f : ℕ → A) (n s : ℕ) → s < n → get_or (by_slot n f) s d ≡ f s
unfolding by_slot gather
slots_at d f zero s h = absurd (not-suc-le-zero h)
slots_at d f (suc n) s h =
    let l = slots_length n f in
    ⊎_elim
    (λ e.
    let z : s ≡ length (by_slot n f) = omega arith in
    ap (λ (k : ℕ). get_or (by_slot n f ++ (f n ∷ [])) k d) z ∙ after d (by_slot n f) (f n) ∙ ap f (sym e))
    (λ k. get_or-append (by_slot n f) (f n ∷ []) d s (omega arith) ∙ slots_at d f n s k)
    (eq-or-lt_of_le (le_of_suc-le-suc h))

pub slots_past : {A : Type 0} (d : A) (f : ℕ → A) (n s : ℕ) → n ≤ s → get_or (by_slot n f) s d ≡ d
slots_past d f n s h = let l = slots_length n f in get_or-eq_default (by_slot n f) d (omega arith)

-- what is the same past the end, too
pub slots_all :
    {A : Type 0} (d : A) (f : ℕ → A) (n : ℕ) → ((s : ℕ) → n ≤ s → f s ≡ d) → (s : ℕ) → get_or (by_slot n f) s d ≡ f s
slots_all d f n h s =
    by_order (get_or (by_slot n f) s d ≡ f s) s n
    (λ k. slots_at d f n s k)
    (λ k. slots_past d f n s k ∙ sym (h s k))

pub slots_in : (f : ℕ → Bool) (n s : ℕ) → at (by_slot n f) s ≡ true → (s < n) × (f s ≡ true)
slots_in f n s e =
    by_order ((s < n) × (f s ≡ true)) s n
    (λ k. (k, sym (slots_at false f n s k) ∙ e))
    (λ k. absurd (false≢true (sym (slots_past false f n s k) ∙ e)))

pub slots_built :
    {A : Type 0} (d : A) (f : ℕ → A) (n i : ℕ) (r : List A) → n ≤ i → Built d f n i r → r ≡ by_slot n f
slots_built d f n i r h b = built_done d f n i r (by_slot n f) h b (slots_length n f) (λ k l. slots_at d f n k l)

-- ---- the slots of a set by slot, as the walk over them finds them
in_order_from :
    (q p : List Bool) (i : ℕ) →
    ((k : ℕ) → at q (i + k) ≡ at p k) →
    in_order q (ascending i (length p)) ≡ slots i p
unfolding in_order ascending slots
in_order_from q [] i h = refl
in_order_from q (true ∷ p) i h =
    let e : at q i ≡ true = ap (at q) (sym (add-zero i)) ∙ h 0 in
    rw e (ap (λ (l : List ℕ). i ∷ l) (in_order_from q p (suc i) (λ k. ap (at q) (suc-add i k ∙ sym (add-suc i k)) ∙ h (suc k))))
in_order_from q (false ∷ p) i h =
    let e : at q i ≡ false = ap (at q) (sym (add-zero i)) ∙ h 0 in
    rw e (in_order_from q p (suc i) (λ k. ap (at q) (suc-add i k ∙ sym (add-suc i k)) ∙ h (suc k)))

pub by_slot_lem : (p : List Bool) (n : ℕ) → length p ≡ n → in_order p (ascending 0 n) ≡ slots 0 p
by_slot_lem p n e =
    ap (λ (k : ℕ). in_order p (ascending 0 k)) (sym e)
    ∙ in_order_from p p 0 (λ k. let z : 0 + k ≡ k = omega arith in ap (at p) z)

-- ---- how many slots a set has
pub size_count : (m : List Bool) (n : ℕ) → length m ≡ n → size m ≡ count n (at m)
unfolding size count
size_count [] zero e = refl
size_count [] (suc n) e = absurd (omega arith)
size_count (x ∷ m) zero e = absurd (omega arith)
size_count (true ∷ m) (suc n) e =
    let h = size_count m n (omega arith) in
    let k = count_first (at (true ∷ m)) n in
    omega arith
size_count (false ∷ m) (suc n) e =
    let h = size_count m n (omega arith) in
    let k = count_first (at (false ∷ m)) n in
    omega arith

-- of the slots of m that are in o, and of those that are not
pub both_count :
    (m o : List Bool) (n : ℕ) → length m ≡ n → length o ≡ n → size (both m o) ≡ count n (λ s. at m s && at o s)
both_count m o n lm lo =
    size_count (both m o) n (both_length m o (lm ∙ sym lo) ∙ lm)
    ∙ count_same (at (both m o)) (λ s. at m s && at o s) n (λ s h. both_at m o s)

pub except_count :
    (m o : List Bool) (n : ℕ) → length m ≡ n → size (except m o) ≡ count n (λ s. at m s && not (at o s))
except_count m o n lm =
    size_count (except m o) n (except_length m o ∙ lm)
    ∙ count_same (at (except m o)) (λ s. at m s && not (at o s)) n (λ s h. except_at m o s)
