-- Sets of slots, and the walks along an order of slots that mesh maintenance is made of. Generic in the slot count.
-- Definitions only: mesh maintenance (crate mesh) is read by them, so a change here is a change of its rules.
use Rattle.std.specs.Prelude.{ℕ, zero, suc, ◌-◌, ◌≡◌, Bool, true, false, not, cond, ◌&&◌, ◌||◌, List, [], ◌∷◌, map, length, get_or, set, ltb, leb, eqb}
use Rattle.index.specs.Index.{every, gather}

-- what f gives of each slot below n, in a list by slot
unfoldable pub by_slot : {A : Type 0} → ℕ → (ℕ → A) → List A
by_slot n f = gather n (λ s. f s ∷ [])

-- A set has a Bool for each slot. Is slot s in the set m? Past its end, no.
abbrev pub at : List Bool → ℕ → Bool
at m s = get_or m s false

-- every slot of a is in b
abbrev pub Sub : List Bool → List Bool → Type 0
Sub a b = (s : ℕ) → at a s ≡ true → at b s ≡ true

-- how many slots are in the set
unfoldable pub size : List Bool → ℕ
size [] = zero
size (true ∷ m) = suc (size m)
size (false ∷ m) = size m

-- in a and in b
unfoldable pub both : List Bool → List Bool → List Bool
both [] b = []
both (x ∷ a) [] = []
both (x ∷ a) (y ∷ b) = (x && y) ∷ both a b

-- in a and not in b
unfoldable pub except : List Bool → List Bool → List Bool
except [] b = []
except (x ∷ a) [] = x ∷ a
except (x ∷ a) (y ∷ b) = (x && not y) ∷ except a b

-- the slots whose score is at least x, and those whose score is above x
unfoldable pub from : ℕ → List ℕ → List Bool
from x scores = map (leb x) scores

unfoldable pub above : ℕ → List ℕ → List Bool
above x scores = map (ltb x) scores

-- An order is a list of slots: the slot that stands first comes first. How often s stands in it
unfoldable pub occurs : ℕ → List ℕ → ℕ
occurs s [] = zero
occurs s (x ∷ r) = cond (eqb x s) (suc (occurs s r)) (occurs s r)

-- 01's draw: "each of 0..63 once", here of the slots below n
unfoldable pub is_permutation : ℕ → List ℕ → Bool
is_permutation n order = eqb (length order) n && every n (λ s. eqb (occurs s order) 1)

-- the order by slot: k slots from i on
unfoldable pub ascending : ℕ → ℕ → List ℕ
ascending i zero = []
ascending i (suc k) = i ∷ ascending (suc i) k

-- the slots of a set, in an order
unfoldable pub in_order : List Bool → List ℕ → List ℕ
in_order p [] = []
in_order p (s ∷ r) = cond (at p s) (s ∷ in_order p r) (in_order p r)

-- Put in, in an order, the first k slots of p that are not yet in m.
abbrev pub takes : List Bool → ℕ → List Bool → ℕ → Bool
takes p k m s = ltb 0 k && (at p s && not (at m s))

unfoldable pub fill : List Bool → ℕ → List ℕ → List Bool → List Bool
fill p k [] m = m
fill p k (s ∷ r) m = fill p (cond (takes p k m s) (k - 1) k) r (cond (takes p k m s) (set m s true) m)

-- The best of p: of those with the highest score the first in the order. n, the slot count, stands for none.
abbrev pub better : ℕ → List ℕ → ℕ → ℕ → Bool
better n scores best s = leb n best || ltb (get_or scores best 0) (get_or scores s 0)

unfoldable pub top : ℕ → List ℕ → List Bool → List ℕ → ℕ → ℕ
top n scores p [] best = best
top n scores p (s ∷ r) best = top n scores p r (cond (at p s && better n scores best s) s best)

-- b with the k best of m put in, one after the other
unfoldable pub bests : ℕ → List ℕ → List Bool → List ℕ → ℕ → List Bool → List Bool
bests n scores m order zero b = b
bests n scores m order (suc k) b = bests n scores m order k (set b (top n scores (except m b) order n) true)

-- The lowest of p: of those with the lowest score the last in the order. n stands for none.
abbrev pub worse : ℕ → List ℕ → ℕ → ℕ → Bool
worse n scores low s = leb n low || leb (get_or scores s 0) (get_or scores low 0)

unfoldable pub bottom : ℕ → List ℕ → List Bool → List ℕ → ℕ → ℕ
bottom n scores p [] low = low
bottom n scores p (s ∷ r) low = bottom n scores p r (cond (at p s && worse n scores low s) s low)

-- the first and the last slot of p in the order; n for none
unfoldable pub first_of : List Bool → List ℕ → ℕ → ℕ
first_of p [] n = n
first_of p (s ∷ r) n = cond (at p s) s (first_of p r n)

unfoldable pub last_of : List Bool → List ℕ → ℕ → ℕ
last_of p [] n = n
last_of p (s ∷ r) n = last_of p r (cond (at p s) s n)

-- Who goes in a swap, of the inbound keepers p whose best are b: "first [..] inbound keepers that were drawn, last drawn first, then
-- inbound ones among the best, lowest score first, of equals the later drawn" (order 14). 01 has the first half alone: under its rules on
-- the degrees a drawn one is always left (proofs/SwapLaws.antt, `drawn_left`).
unfoldable pub goer : ℕ → List ℕ → List ℕ → List Bool → List Bool → ℕ
goer n scores order b p =
    cond (ltb 0 (size (except p b))) (last_of (except p b) order n) (bottom n scores p order n)

-- The swap of step 3: "in comes the first left-out outbound in draw order, until D_out or none is left". The keepers are k, of the mesh m.
module _ (n out : ℕ) (scores : List ℕ) (outbound : List Bool) (order : List ℕ) (m b : List Bool) where
  -- the left-out outbound
  abbrev pub comers : List Bool → List Bool
  comers k = except (both m outbound) k

  unfoldable pub swap_once : List Bool → List Bool
  swap_once k = set (set k (goer n scores order b (except k outbound)) false) (first_of (comers k) order n) true

  -- at most f swaps, each while one can come and one can go
  unfoldable pub swap_to : ℕ → List Bool → List Bool
  swap_to zero k = k
  swap_to (suc f) k =
      cond (ltb (size (both k outbound)) out && ltb 0 (size (comers k)) && ltb 0 (size (except k outbound)))
      (swap_to f (swap_once k))
      k

-- sorted upward
unfoldable pub insert : ℕ → List ℕ → List ℕ
insert x [] = x ∷ []
insert x (y ∷ l) = cond (leb x y) (x ∷ y ∷ l) (y ∷ insert x l)

unfoldable pub sort : List ℕ → List ℕ
sort [] = []
sort (x ∷ l) = insert x (sort l)

-- the scores of a set's slots
unfoldable pub scores_of : List Bool → List ℕ → List ℕ
scores_of [] scores = []
scores_of (x ∷ m) [] = []
scores_of (true ∷ m) (v ∷ scores) = v ∷ scores_of m scores
scores_of (false ∷ m) (v ∷ scores) = scores_of m scores
