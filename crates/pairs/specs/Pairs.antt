-- The best by comparing every pair: "keep the D_score best (ties in draw order)". What the choice by picks is proved to give (order 2).
-- Over any slot count n.
use Rattle.std.specs.Prelude.{ℕ, suc, Bool, false, not, cond, ◌&&◌, ◌||◌, List, [], ◌∷◌, get_or, ltb, eqb}
use Rattle.index.specs.Index.{count}
use Rattle.sets.specs.Sets.{by_slot, at}

-- a stands before c in the order
unfoldable pub earlier : List ℕ → ℕ → ℕ → Bool
earlier [] a c = false
earlier (s ∷ r) a c = not (eqb s c) && (eqb s a || earlier r a c)

-- a comes before c: its score is higher, or the same and a stands before c
abbrev pub ahead : List ℕ → List ℕ → ℕ → ℕ → Bool
ahead scores order a c =
    ltb (get_or scores c 0) (get_or scores a 0) || (eqb (get_or scores a 0) (get_or scores c 0) && earlier order a c)

-- how many slots of m come before s
abbrev pub rank : ℕ → List ℕ → List Bool → List ℕ → ℕ → ℕ
rank n scores m order s = count n (λ a. at m a && ahead scores order a s)

-- the slots of m before which fewer than k others come
unfoldable pub by_pairs : ℕ → List ℕ → List Bool → List ℕ → ℕ → List Bool
by_pairs n scores m order k = by_slot n (λ s. at m s && ltb (rank n scores m order s) k)

-- ---- what the code goes by (proofs/PlaceLaws.antt: the same order, the same rank)
-- where s stands in the order first; its length if nowhere
unfoldable pub place : List ℕ → ℕ → ℕ
place [] s = 0
place (x ∷ r) s = cond (eqb x s) 0 (suc (place r s))

-- how many slots of m come before one with this score at this place
abbrev pub rank_by : ℕ → List ℕ → List Bool → List ℕ → ℕ → ℕ → ℕ
rank_by n scores m places score place =
    count n (λ a. at m a && (ltb score (get_or scores a 0) || (eqb (get_or scores a 0) score && ltb (get_or places a 0) place)))
