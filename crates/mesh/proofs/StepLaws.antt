-- The code's steps over plain values: what each call ensures, put together as the definition of the step.
-- Assumes nothing.
use Prim.Native.Nat.{ℕ, ◌+◌, ◌-◌, ◌/◌, ◌≤◌, ◌<◌}
use mathlib.Core.Path.{◌≡◌}
use mathlib.Core.Bool.{Bool, true, false, ◌&&◌, and-false}
use mathlib.Core.List.{List}
use lib.ListN.{replicate, get_or}
use lib.Dec.{leb}
use borrow.Author.Tests.{lt-ltb, le-ltb, le-leb, lt-leb}
use Rattle.sets.specs.Sets.{size, both, except, from, fill, bests, swap_to, sort, scores_of}
use Rattle.sets.proofs.WalkLaws.{above_is}
use Rattle.mesh.specs.Maintenance.{zero_score, mesh1, mesh2, the_best, keepers, swapped, mesh3, mesh4, median, mesh5, meshes, changes_of}
use Rattle.mesh.specs.declared.Degrees.{Degrees}
use Rattle.mesh.specs.Maintenance.{View}
use Rattle.mesh.specs.Maintenance.{Meshes}
use Rattle.mesh.specs.Maintenance.{Changes}

-- ---- 1, 2, 3, 4
pub mesh1_is : (v : View) {f r : List Bool} → f ≡ from zero_score v.scores → r ≡ both v.members f → r ≡ mesh1 v
unfolding mesh1
mesh1_is v ef er = cc

module _ (t : Degrees) (v : View) (m : List Bool) {n : ℕ} (en : n ≡ size m) where
  pub mesh2_under :
      n < t.lo →
      {k : ℕ} {r : List Bool} →
      k ≡ t.d - n →
      r ≡ fill v.candidates k v.permutation m →
      r ≡ mesh2 t v m
  unfolding mesh2
  mesh2_under h ek er = let e = lt-ltb n t.lo h in cc

  pub mesh2_else : t.lo ≤ n → m ≡ mesh2 t v m
  unfolding mesh2
  mesh2_else h = let e = le-ltb n t.lo h in cc

  pub mesh3_else : (slots : ℕ) → n ≤ t.hi → m ≡ mesh3 slots t v m
  unfolding mesh3
  mesh3_else slots h = let e = le-ltb t.hi n h in cc

  pub mesh3_over :
      (slots : ℕ) →
      t.hi < n →
      {b : List Bool} →
      b ≡ bests slots v.scores m v.permutation t.score (replicate slots false) →
      {nb room : ℕ} →
      nb ≡ size b →
      room ≡ t.d - nb →
      {k r : List Bool} →
      k ≡ fill m room v.permutation b →
      r ≡ swap_to slots t.out v.scores v.outbound v.permutation m b t.out k →
      r ≡ mesh3 slots t v m
  unfolding mesh3 swapped keepers the_best
  mesh3_over slots h eb enb er ek err = let e = lt-ltb t.hi n h in cc

pub mesh4_is :
    (t : Degrees) (v : View) (m : List Bool) {co mo r : List Bool} {n k : ℕ} →
    co ≡ both v.candidates v.outbound →
    mo ≡ both m v.outbound →
    n ≡ size mo →
    k ≡ t.out - n →
    r ≡ fill co k v.permutation m →
    r ≡ mesh4 t v m
unfolding mesh4
mesh4_is t v m eco emo en ek er = cc

-- ---- 5
module _ (t : Degrees) (v : View) (m : List Bool) where
  pub mesh5_unasked : v.ask ≡ false → m ≡ mesh5 t v m
  unfolding mesh5
  mesh5_unasked h = cc

  pub mesh5_few : {n : ℕ} → n ≡ size m → n < 2 → m ≡ mesh5 t v m
  unfolding mesh5
  mesh5_few {n} en h = let e = lt-leb 2 n h in let f = and-false v.ask in cc

  pub mesh5_high :
      {n x : ℕ} →
      n ≡ size m →
      x ≡ get_or (sort (scores_of m v.scores)) (n / 2) 0 →
      t.threshold ≤ x →
      m ≡ mesh5 t v m
  unfolding mesh5 median
  mesh5_high {n} {x} en ex h =
      let e = le-ltb x t.threshold h in
      let f = and-false (v.ask && leb 2 (size m)) in
      cc

  pub mesh5_low :
      v.ask ≡ true →
      {n x : ℕ} →
      n ≡ size m →
      2 ≤ n →
      x ≡ get_or (sort (scores_of m v.scores)) (n / 2) 0 →
      x < t.threshold →
      {a p r : List Bool} →
      a ≡ from (x + 1) v.scores →
      p ≡ both v.candidates a →
      r ≡ fill p 2 v.permutation m →
      r ≡ mesh5 t v m
  unfolding mesh5 median
  mesh5_low ask {n} {x} en two ex h ea ep er =
      let e = lt-ltb x t.threshold h in
      let f = le-leb 2 n two in
      let g = above_is x v.scores in
      cc

-- ---- all five
pub meshes_are :
    (n : ℕ) (t : Degrees) (v : View) {m₁ m₂ m₃ m₄ m₅ : List Bool} →
    m₁ ≡ mesh1 v →
    m₂ ≡ mesh2 t v m₁ →
    m₃ ≡ mesh3 n t v m₂ →
    m₄ ≡ mesh4 t v m₃ →
    m₅ ≡ mesh5 t v m₄ →
    ◌≡◌ {A = Meshes} (record { first = m₁; second = m₂; third = m₃; fourth = m₄; fifth = m₅ }) (meshes n t v)
unfolding meshes
meshes_are n t v e₁ e₂ e₃ e₄ e₅ = cc

-- ---- what the steps change
pub changes_are :
    (start : List Bool) (m : Meshes) {c₁ c₂ c₃ c₄ c₅ : List Bool} →
    c₁ ≡ except start m.first →
    c₂ ≡ except m.second m.first →
    c₃ ≡ except m.second m.third →
    c₄ ≡ except m.fourth m.third →
    c₅ ≡ except m.fifth m.fourth →
    ◌≡◌ {A = Changes} (record { first = c₁; second = c₂; third = c₃; fourth = c₄; fifth = c₅ }) (changes_of start m)
unfolding changes_of
changes_are start m e₁ e₂ e₃ e₄ e₅ = cc
