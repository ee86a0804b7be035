-- The degrees are the sheet's numbers, field by field, and step 5 is one choice by three tests.
-- Assumes nothing.
use Rattle.index.proofs.Kit.{ℕ, ◌+◌, ◌*◌, ◌≤◌, ◌<◌, ◌≡◌, ap, ◌∙◌, Bool, true, false}
use mathlib.Core.Logic.{◌≢◌, ◌⊎◌, ⊎_elim}
use mathlib.Core.Bool.{cond, ◌&&◌, and-false}
use mathlib.Core.List.{List, map}
use lib.Dec.{eqb, leb, ltb}
use borrow.Author.Tests.{eq-eqb, ne_eqb, le-leb, lt-leb, lt-ltb, le-ltb}
use Rattle.varint.specs.Codes.{code_of}
use Rattle.params.specs.declared.Params.{Params}
use Rattle.records.specs.Records.{State, slot_count}
use Rattle.sets.specs.Sets.{size, by_slot, both, above, fill}
use Rattle.mesh.specs.declared.Degrees.{Degrees}
use Rattle.mesh.specs.Maintenance.{Meshes}
use Rattle.mesh.specs.Maintenance.{zero_score, median, mesh5, meshes}
use Rattle.rules.specs.Step.{is_candidate, height_in, degrees_in, view_in, meshes_in}
use Rattle.call_lists.specs.Lists.{after}
use Rattle.call_lists.proofs.Standing.{degree_is}
use Rattle.call_lists.proofs.Demand3.{standing}
use Rattle.promises.specs.Opportunism.{opportunistic, degrees_of, Fifth, Opportunism}

module _ (params : Params) (st : State) (codes : st.codes ≡ map code_of params.numbers) where
  degrees_are : degrees_in st ≡ degrees_of params
  unfolding degrees_in
  degrees_are = λ i. record {
    lo = degree_is st params codes 0 i;
    d = degree_is st params codes 1 i;
    hi = degree_is st params codes 2 i;
    out = degree_is st params codes 3 i;
    score = degree_is st params codes 4 i;
    threshold = ap (λ (n : ℕ). zero_score + n * 1000000) (degree_is st params codes 8) i;
  }

  module _ (time t ask : ℕ) (order : List ℕ) where
    abbrev m : Meshes
    m = meshes_in st time t ask order

    abbrev heights : List ℕ
    heights = by_slot slot_count (height_in st)

    abbrev asked : List Bool → Bool
    asked x = eqb ask 1 && leb 2 (size x) && ltb (median x heights) (opportunistic params)

    abbrev more : List Bool → List Bool
    more x = fill (both (by_slot slot_count (is_candidate st time t)) (above (median x heights) heights)) 2 order x

    five : (x : List Bool) (b : Bool) → asked x ≡ b → mesh5 (degrees_in st) (view_in st time t ask order) x ≡ cond b (more x) x
    unfolding mesh5 view_in
    five x b e =
        ap (λ (d : Degrees). cond (eqb ask 1 && leb 2 (size x) && ltb (median x heights) d.threshold) (more x) x) degrees_are
        ∙ ap (λ (c : Bool). cond c (more x) x) e

    not_asked : (x : List Bool) → (ask ≢ 1) ⊎ ((size x < 2) ⊎ (opportunistic params ≤ median x heights)) → asked x ≡ false
    not_asked x w =
        ⊎_elim
        (λ n. rw (ne_eqb ask 1 n))
        (λ w.
        ⊎_elim
        (λ l. rw (lt-leb 2 (size x) l, and-false (eqb ask 1)))
        (λ l. rw (le-ltb (median x heights) (opportunistic params) l) (and-false (eqb ask 1 && leb 2 (size x))))
        w)
        w

    fifth_is : Fifth params st time t ask order m
    unfolding meshes_in meshes
    fifth_is =
        record {
          still = λ w. five m.fourth false (not_asked m.fourth w);
          grafts = λ a b c. five m.fourth true (rw (eq-eqb ask 1 a, le-leb 2 (size m.fourth) b, lt-ltb _ _ c));
        }

pub opportunism : Opportunism
opportunism start calls fine =
    let st = after start calls in
    let w = standing start fine calls in
    record { degrees = degrees_are start.params st w.codes; fifth = fifth_is start.params st w.codes }
