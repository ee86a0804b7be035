-- Mesh maintenance, the heartbeat's work for one topic (01's tidy), as 01 has it: "Scores and candidates are those at the start; each step
-- sees the mesh left by the one before." Definitions only, in 01's words and order; generic in the slot count n.
use Rattle.std.specs.Prelude.{ℕ, ◌+◌, ◌-◌, ◌*◌, ◌/◌, ◌≤◌, ◌≡◌, ◌⊎◌, Bool, true, false, cond, ◌&&◌, List, [], ◌∷◌, ◌++◌, map, length, get_or, replicate, ltb}
use Rattle.std.specs.Prelude.{leb, eqb}
use Rattle.std.proofs.lemmas.List.Edits.{sets}
use Rattle.sets.specs.Sets.{
  at,
  Sub,
  size,
  both,
  except,
  from,
  above,
  is_permutation,
  ascending,
  in_order,
  fill,
  bests,
  swap_to,
  sort,
  scores_of,
}
use Rattle.mesh.specs.declared.Degrees.{Degrees}

-- What maintenance sees at its start, by slot, with the permutation and whether it is asked for opportunistic grafts.
pub record View : Type 0 where
  pub members : List Bool
  pub candidates : List Bool
  pub outbound : List Bool
  pub scores : List ℕ
  pub permutation : List ℕ
  pub ask : Bool

-- the mesh that each step leaves
pub record Meshes : Type 0 where
  pub first : List Bool
  pub second : List Bool
  pub third : List Bool
  pub fourth : List Bool
  pub fifth : List Bool

-- what each step changes: the members that steps 1 and 3 PRUNE, and the candidates that steps 2, 4 and 5 graft
pub record Changes : Type 0 where
  pub first : List Bool
  pub second : List Bool
  pub third : List Bool
  pub fourth : List Bool
  pub fifth : List Bool

-- The number that stands for a score of 0: a score s is given as zero_score + s. "No score passes 2.6 × 10^18 either way."
abbrev pub zero_score : ℕ
zero_score = 2600000000000000000

-- the slots whose score is not negative
abbrev pub goods : View → List Bool
goods v = from zero_score v.scores

-- "1. PRUNE negative members."
unfoldable pub mesh1 : View → List Bool
mesh1 v = both v.members (goods v)

-- "2. Under D_lo: graft candidates in draw order up to D."
unfoldable pub mesh2 : Degrees → View → List Bool → List Bool
mesh2 t v m = cond (ltb (size m) t.lo) (fill v.candidates (t.d - size m) v.permutation m) m

-- "3. Over D_hi: keep the D_score best (ties in draw order), then others in draw order to make D. If fewer than D_out kept are outbound,
-- swap: out goes the last drawn inbound keeper of the non-best, in comes the first left-out outbound in draw order, until D_out or none is
-- left. PRUNE the rest." Where no drawn one is left the lowest of the best goes (`goer`, sets/Sets), as order 14 has it; under 01's rules
-- that never happens.
unfoldable pub the_best : ℕ → Degrees → View → List Bool → List Bool
the_best n t v m = bests n v.scores m v.permutation t.score (replicate n false)

unfoldable pub keepers : Degrees → View → List Bool → List Bool → List Bool
keepers t v m best = fill m (t.d - size best) v.permutation best

unfoldable pub swapped : ℕ → Degrees → View → List Bool → List Bool → List Bool
swapped n t v m best =
    swap_to n t.out v.scores v.outbound v.permutation m best t.out (keepers t v m best)

unfoldable pub mesh3 : ℕ → Degrees → View → List Bool → List Bool
mesh3 n t v m = cond (ltb t.hi (size m)) (swapped n t v m (the_best n t v m)) m

-- "4. Under D_out outbound: graft outbound candidates not yet grafted, in draw order, until D_out or none is left."
unfoldable pub mesh4 : Degrees → View → List Bool → List Bool
mesh4 t v m = fill (both v.candidates v.outbound) (t.out - size (both m v.outbound)) v.permutation m

-- "5. If asked, mesh ≥ 2 and median < threshold: graft up to 2 candidates not yet grafted with scores above the median, in draw order. The
-- median of n sorted upward is at index floor(n/2)."
unfoldable pub median : List Bool → List ℕ → ℕ
median m scores = get_or (sort (scores_of m scores)) (size m / 2) 0

unfoldable pub mesh5 : Degrees → View → List Bool → List Bool
mesh5 t v m =
    cond (v.ask && leb 2 (size m) && ltb (median m v.scores) t.threshold)
    (fill (both v.candidates (above (median m v.scores) v.scores)) 2 v.permutation m)
    m

-- the mesh that each step leaves, and the one that maintenance leaves
unfoldable pub meshes : ℕ → Degrees → View → Meshes
meshes n t v =
    let a : List Bool = mesh1 v in
    let b : List Bool = mesh2 t v a in
    let c : List Bool = mesh3 n t v b in
    let d : List Bool = mesh4 t v c in
    record { first = a; second = b; third = c; fourth = d; fifth = mesh5 t v d }

abbrev pub maintained : ℕ → Degrees → View → List Bool
maintained n t v = (meshes n t v).fifth

unfoldable pub changes_of : List Bool → Meshes → Changes
changes_of start m =
    record {
      first = except start m.first;
      second = except m.second m.first;
      third = except m.second m.third;
      fourth = except m.fourth m.third;
      fifth = except m.fifth m.fourth;
    }

-- What is told to a peer: the kind, "1 GRAFT or 2 PRUNE", and the peer's slot.
pub record Action : Type 0 where
  pub kind : ℕ
  pub slot : ℕ

abbrev pub action : ℕ → ℕ → Action
action k s = record { kind = k; slot = s }

-- actions of one kind, on the slots of a set in an order
unfoldable pub actions_on : ℕ → List Bool → List ℕ → List Action
actions_on k p order = map (action k) (in_order p order)

-- "Order: by step, PRUNEs by slot, GRAFTs in draw order."
unfoldable pub actions_of : ℕ → List ℕ → Changes → List Action
actions_of n order c =
    actions_on 2 c.first (ascending 0 n)
    ++ actions_on 1 c.second order
    ++ actions_on 2 c.third (ascending 0 n)
    ++ actions_on 1 c.fourth order
    ++ actions_on 1 c.fifth order

-- "Actions are three 32-bit numbers: 1 GRAFT or 2 PRUNE, peer id, the sheet's prune (in a leave, unsubscribe) backoff in seconds (0 for
-- GRAFT and for a 1.0.0 peer)." The ids, and the seconds of a PRUNE, are given by slot.
abbrev pub seconds_of : ℕ → List ℕ → ℕ → ℕ
seconds_of k seconds s = cond (eqb k 2) (get_or seconds s 0) 0

unfoldable pub numbers_of : List ℕ → List ℕ → List Action → List ℕ
numbers_of ids seconds [] = []
numbers_of ids seconds (a ∷ r) =
    a.kind ∷ get_or ids a.slot 0 ∷ seconds_of a.kind seconds a.slot ∷ numbers_of ids seconds r

-- A list of numbers has room for n actions, and the ids and seconds fit an action's 32 bits.
abbrev pub Narrow : List ℕ → Type 0
Narrow l = (s : ℕ) → get_or l s 0 ≤ 4294967295

pub record Writable (l ids seconds : List ℕ) (n : ℕ) : Type 0 where
  pub room : 3 * n ≤ length l
  pub narrow_ids : Narrow ids
  pub narrow_seconds : Narrow seconds

-- The list r is l with the actions x written into it after n others, m in all. "Numbers past them .. are unchanged."
pub record Written (ids seconds : List ℕ) (x : List Action) (l : List ℕ) (n : ℕ) (r : List ℕ) (m : ℕ) : Type 0 where
  pub many : m ≡ n + length x
  pub list : r ≡ sets l (3 * n) (numbers_of ids seconds x)

-- What the claims below ask: rules on the degrees that 01's joint rules give, and order 14's too (01's score + out ≤ d, or score ≤ d with
-- out < lo), and a view that is whole: lists by slot, a right permutation, and candidates whose score is not negative.
pub record Rules (t : Degrees) : Type 0 where
  pub lo_d : t.lo ≤ t.d
  pub d_hi : t.d ≤ t.hi
  pub score_d : t.score ≤ t.d
  pub out_d : t.out ≤ t.d

pub record Whole (n : ℕ) (v : View) : Type 0 where
  pub members : length v.members ≡ n
  pub candidates : length v.candidates ≡ n
  pub outbound : length v.outbound ≡ n
  pub scores : length v.scores ≡ n
  pub permutation : is_permutation n v.permutation ≡ true
  pub good : Sub v.candidates (goods v)

-- "The pool is the members at that start whose score was zero or more, and all candidates at that start."
abbrev pub InPool : View → ℕ → Type 0
InPool v s = (at (both v.members (goods v)) s ≡ true) ⊎ (at v.candidates s ≡ true)

-- What demand 3 says of a mesh r that maintenance left: at most D_hi + 2 inbound; "only peers whose score at that tidy's start was zero or
-- more", and only of the pool; "at least D_out outbound peers or every outbound one in the pool, and at least D_lo peers or the whole
-- pool".
pub record Maintained (t : Degrees) (v : View) (r : List Bool) : Type 0 where
  pub inbound : size (except r v.outbound) ≤ t.hi + 2
  pub only : Sub r (goods v)
  pub pool : (s : ℕ) → at r s ≡ true → InPool v s
  pub outs :
      (t.out ≤ size (both r v.outbound)) ⊎
      ((s : ℕ) → InPool v s → at v.outbound s ≡ true → at r s ≡ true)
  pub lower : (t.lo ≤ size r) ⊎ ((s : ℕ) → InPool v s → at r s ≡ true)
