-- What one maintenance leaves: demand 3's claims about its mesh, from the rules on the degrees and a whole view.
-- Assumes nothing.
use Prim.Native.Nat.{ℕ, ◌+◌, ◌-◌, ◌≤◌, ◌<◌}
use native.Mathlib.Omega.{arith}
use mathlib.Core.Path.{◌≡◌, sym, ◌∙◌}
use mathlib.Core.Bool.{Bool, true, false, ◌&&◌, false≢true}
use mathlib.Core.Logic.{◌⊎◌, inl, inr, ⊎_elim}
use mathlib.Core.List.{List}
use lib.ListN.{length, replicate, length-replicate}
use lib.Dec.{ltb, leb}
use borrow.Author.Tests.{ltb-true, ltb-false}
use Rattle.index.proofs.Flags.{cond_case}
use Rattle.sets.specs.Sets.{at, Sub, size, both, except, above, fill}
use Rattle.mesh.specs.Maintenance.{
  zero_score,
  goods,
  mesh1,
  mesh2,
  the_best,
  keepers,
  swapped,
  mesh3,
  mesh4,
  median,
  mesh5,
  meshes,
  maintained,
  Rules,
  Whole,
  InPool,
  Maintained,
}
use Rattle.mesh.specs.declared.Degrees.{Degrees}
use Rattle.mesh.specs.Maintenance.{View}
use Rattle.sets.proofs.WalkLaws.{at_below, both_length, from_length}
use Rattle.sets.proofs.CountLaws.{
  In,
  size_mono,
  size_set_le,
  up_except,
  flat_except,
  fill_length,
  fill_sub,
  fill_only,
  fill_upper,
  fill_flat,
  fill_reach,
  bests_upper,
  bests_length,
  bests_only,
}
use Rattle.sets.proofs.SetLaws.{both_left, both_right, both_in, at_none, size_none, except_left, both_sub, grow_size, grow_outs}
use Rattle.sets.proofs.PermutationLaws.{permutation_mem}
use Rattle.sets.proofs.SwapLaws.{Swapped, swapped_keeps}

-- what steps 2, 4 and 5 make of m: they only put candidates in
pub record Adds (n : ℕ) (v : View) (m r : List Bool) : Type 0 where
  pub len : length r ≡ n
  pub sub : Sub m r
  pub only : (s : ℕ) → at r s ≡ true → (at m s ≡ true) ⊎ (at v.candidates s ≡ true)

-- what step 3 makes of m
pub record Keeps (n : ℕ) (t : Degrees) (v : View) (m r : List Bool) : Type 0 where
  pub len : length r ≡ n
  pub only : Sub r m
  pub inbound : size (except r v.outbound) ≤ t.hi
  pub lower : (t.lo ≤ size r) ⊎ Sub m r
  pub outs : (t.out ≤ size (both r v.outbound)) ⊎ Sub (both m v.outbound) r

module _ (n : ℕ) (t : Degrees) (v : View) (ru : Rules t) (w : Whole n v) where
  -- a slot of a set stands in the permutation
  stands : (p : List Bool) → length p ≡ n → (s : ℕ) → at p s ≡ true → In s v.permutation
  stands p lp s a = let b = at_below p s a in permutation_mem n v.permutation w.permutation s (omega arith)

  -- 1
  pub len1 : length (mesh1 v) ≡ n
  unfolding mesh1
  len1 =
      both_length v.members (goods v) (w.members ∙ sym w.scores ∙ sym (from_length zero_score v.scores))
      ∙ w.members

  only1 : Sub (mesh1 v) (goods v)
  unfolding mesh1
  only1 = both_right v.members (goods v)

  module _ (m : List Bool) (lm : length m ≡ n) where
    fill_adds : (p : List Bool) → Sub p v.candidates → (k : ℕ) → Adds n v m (fill p k v.permutation m)
    fill_adds p h k =
        record {
          len = fill_length p v.permutation k m ∙ lm;
          sub = fill_sub p v.permutation k m;
          only = λ s x. ⊎_elim (λ a. inl a) (λ a. inr (h s a)) (fill_only p v.permutation k m s x);
        }

    none_adds : Adds n v m m
    none_adds = record { len = lm; sub = λ s x. x; only = λ s x. inl x }

    -- 2
    pub adds2 : Adds n v m (mesh2 t v m)
    unfolding mesh2
    adds2 =
        cond_case (Adds n v m) (ltb (size m) t.lo) (fill v.candidates (t.d - size m) v.permutation m) m
        (λ e. fill_adds v.candidates (λ s x. x) (t.d - size m))
        (λ e. none_adds)

    reach2 : (t.lo ≤ size (mesh2 t v m)) ⊎ Sub v.candidates (mesh2 t v m)
    unfolding mesh2
    reach2 =
        cond_case (λ r. (t.lo ≤ size r) ⊎ Sub v.candidates r) (ltb (size m) t.lo)
        (fill v.candidates (t.d - size m) v.permutation m)
        m
        (λ e.
        ⊎_elim
        (λ h. let a = ru.lo_d in inl (omega arith))
        (λ h. inr (λ s a. h s (stands v.candidates w.candidates s a) a))
        (fill_reach n v.candidates size w.candidates (grow_size n v.candidates w.candidates) v.permutation
        (t.d - size m)
        m
        lm))
        (λ e. inl (ltb-false (size m) t.lo e))

    -- 3
    module _ (over : t.hi < size m) where
      abbrev pub b : List Bool
      b = the_best n t v m

      abbrev pub k : List Bool
      k = keepers t v m b

      pub len_best : length b ≡ n
      unfolding the_best
      len_best =
          bests_length n v.scores m v.permutation t.score (replicate n false) ∙ length-replicate n false

      pub size_best : size b ≤ t.score
      unfolding the_best
      size_best =
          let h = bests_upper n v.scores m v.permutation t.score (replicate n false) in
          let z = size_none n in
          omega arith

      pub sub_best : Sub b m
      unfolding the_best
      sub_best =
          bests_only n v.scores m v.permutation t.score (replicate n false) (length-replicate n false)
          (λ s e. absurd (false≢true (sym (at_none n s) ∙ e)))

      pub len_keepers : length k ≡ n
      unfolding keepers
      len_keepers = fill_length m v.permutation (t.d - size b) b ∙ len_best

      pub sub_keepers : Sub k m
      unfolding keepers
      sub_keepers s e =
          ⊎_elim (λ h. sub_best s h) (λ h. h) (fill_only m v.permutation (t.d - size b) b s e)

      pub upper_keepers : size k ≤ t.d
      unfolding keepers
      upper_keepers =
          let h = fill_upper m size size_set_le v.permutation (t.d - size b) b in
          let l = size_best in
          let a = ru.score_d in
          omega arith

      pub lower_keepers : t.d ≤ size k
      unfolding keepers
      lower_keepers =
          ⊎_elim
          (λ h. omega arith)
          (λ h.
          let l = size_mono m (fill m (t.d - size b) v.permutation b) (λ s e. h s (stands m lm s e) e) in
          let a = ru.d_hi in
          omega (arith, over))
          (fill_reach n m size lm (grow_size n m lm) v.permutation (t.d - size b) b len_best)

      swaps_keep : Swapped n t.out v.outbound m k (swapped n t v m b)
      unfolding swapped
      swaps_keep =
          swapped_keeps n t.out v.scores v.outbound v.permutation m b w.outbound lm w.permutation t.out k
          len_keepers
          sub_keepers
          (let a = ru.out_d in let e = lower_keepers in omega arith)
          (omega arith)

      over_keeps : Keeps n t v m (swapped n t v m b)
      over_keeps =
          let s = swaps_keep in
          record {
            len = s.len;
            only = s.only;
            inbound =
                let a = s.inbound in
                let c = size_mono (except k v.outbound) k (except_left k v.outbound) in
                let u = upper_keepers in
                let r = ru.d_hi in
                omega arith;
            lower = inl (let a = s.size_ge in let l = lower_keepers in let r = ru.lo_d in omega arith);
            outs = s.outs_in;
          }

    pub keeps3 : Keeps n t v m (mesh3 n t v m)
    unfolding mesh3
    keeps3 =
        cond_case (Keeps n t v m) (ltb t.hi (size m)) (swapped n t v m (the_best n t v m)) m
        (λ e. over_keeps (ltb-true t.hi (size m) e))
        (λ e.
        record {
          len = lm;
          only = λ s x. x;
          inbound =
              let a = size_mono (except m v.outbound) m (except_left m v.outbound) in
              let l = ltb-false t.hi (size m) e in
              omega arith;
          lower = inr (λ s x. x);
          outs = inr (λ s x. both_left m v.outbound s x);
        })

    -- 4
    abbrev co : List Bool
    co = both v.candidates v.outbound

    len_co : length co ≡ n
    len_co = both_length v.candidates v.outbound (w.candidates ∙ sym w.outbound) ∙ w.candidates

    pub adds4 : Adds n v m (mesh4 t v m)
    unfolding mesh4
    adds4 = fill_adds co (both_left v.candidates v.outbound) (t.out - size (both m v.outbound))

    inbound4 : size (except (mesh4 t v m) v.outbound) ≤ size (except m v.outbound)
    unfolding mesh4
    inbound4 =
        fill_flat co (λ l. size (except l v.outbound))
        (λ l s e. flat_except v.outbound l s (both_right v.candidates v.outbound s e))
        v.permutation
        (t.out - size (both m v.outbound))
        m

    reach4 : (t.out ≤ size (both (mesh4 t v m) v.outbound)) ⊎ Sub co (mesh4 t v m)
    unfolding mesh4
    reach4 =
        ⊎_elim
        (λ h. inl (omega arith))
        (λ h. inr (λ s e. h s (stands co len_co s e) e))
        (fill_reach n co (λ l. size (both l v.outbound)) len_co
        (grow_outs n co v.outbound len_co (both_right v.candidates v.outbound))
        v.permutation
        (t.out - size (both m v.outbound))
        m
        lm)

    -- 5
    abbrev asked : Bool
    asked = v.ask && leb 2 (size m) && ltb (median m v.scores) t.threshold

    abbrev high : List Bool
    high = both v.candidates (above (median m v.scores) v.scores)

    pub adds5 : Adds n v m (mesh5 t v m)
    unfolding mesh5
    adds5 =
        cond_case (Adds n v m) asked (fill high 2 v.permutation m) m
        (λ e. fill_adds high (both_left v.candidates (above (median m v.scores) v.scores)) 2)
        (λ e. none_adds)

    inbound5 : size (except (mesh5 t v m) v.outbound) ≤ size (except m v.outbound) + 2
    unfolding mesh5
    inbound5 =
        cond_case (λ r. size (except r v.outbound) ≤ size (except m v.outbound) + 2) asked
        (fill high 2 v.permutation m)
        m
        (λ e. fill_upper high (λ l. size (except l v.outbound)) (up_except v.outbound) v.permutation 2 m)
        (λ e. omega arith)

  -- all five
  pub maintained_length : length (maintained n t v) ≡ n
  unfolding meshes
  maintained_length =
      let m₂ = mesh2 t v (mesh1 v) in
      let k₃ = keeps3 m₂ (adds2 (mesh1 v) len1).len in
      let m₃ = mesh3 n t v m₂ in
      (adds5 (mesh4 t v m₃) (adds4 m₃ k₃.len).len).len

  pub maintained_keeps : Maintained t v (maintained n t v)
  unfolding meshes mesh1
  maintained_keeps =
      let m₁ = mesh1 v in
      let a₂ = adds2 m₁ len1 in
      let m₂ = mesh2 t v m₁ in
      let k₃ = keeps3 m₂ a₂.len in
      let m₃ = mesh3 n t v m₂ in
      let a₄ = adds4 m₃ k₃.len in
      let m₄ = mesh4 t v m₃ in
      let a₅ = adds5 m₄ a₄.len in
      let m₅ = mesh5 t v m₄ in
      let up : Sub m₃ m₅ = λ s x. a₅.sub s (a₄.sub s x) in
      let from-pool : (s : ℕ) → at m₅ s ≡ true → InPool v s = λ s x.
      ⊎_elim
      (λ h₄. ⊎_elim (λ h₃. a₂.only s (k₃.only s h₃)) (λ c. inr c) (a₄.only s h₄))
      (λ c. inr c)
      (a₅.only s x) in
      record {
        inbound =
            let a = inbound5 m₄ a₄.len in
            let b = inbound4 m₃ k₃.len in
            let c = k₃.inbound in
            omega arith;
        only = λ s x. ⊎_elim (λ h. only1 s h) (λ c. w.good s c) (from-pool s x);
        pool = from-pool;
        outs =
            ⊎_elim
            (λ h.
            let a = size_mono (both m₄ v.outbound) (both m₅ v.outbound) (both_sub m₄ m₅ v.outbound a₅.sub) in
            inl (omega arith))
            (λ h.
            ⊎_elim
            (λ e.
            let a = size_mono (both m₃ v.outbound) (both m₅ v.outbound) (both_sub m₃ m₅ v.outbound up) in
            inl (omega arith))
            (λ e.
            inr
            (λ s p o.
            ⊎_elim
            (λ x. up s (e s (both_in m₂ v.outbound s (a₂.sub s x) o)))
            (λ x. a₅.sub s (h s (both_in v.candidates v.outbound s x o)))
            p))
            k₃.outs)
            (reach4 m₃ k₃.len);
        lower =
            ⊎_elim
            (λ h. let a = size_mono m₃ m₅ up in inl (omega arith))
            (λ h.
            ⊎_elim
            (λ e. let a = size_mono m₂ m₅ (λ s x. up s (h s x)) in inl (omega arith))
            (λ e. inr (λ s p. ⊎_elim (λ x. up s (h s (a₂.sub s x))) (λ x. up s (h s (e s x))) p))
            (reach2 m₁ len1))
            k₃.lower;
      }
