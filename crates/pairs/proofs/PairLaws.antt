-- The k best picked one after the other are the k best by comparing every pair, with the same ties: each pick comes before all that are
-- left, so before a picked slot come other picks alone, and before any other come all k of them.
-- Assumes nothing.
use Prim.Native.Nat.{ℕ, zero, suc, ◌+◌, ◌≤◌, ◌<◌}
use native.Mathlib.Omega.{arith}
use mathlib.Core.Path.{◌≡◌, refl, sym, ap, ap₂, ◌∙◌, subst}
use mathlib.Core.Bool.{Bool, true, false, not, ◌&&◌, ◌||◌, false≢true}
use mathlib.Core.Logic.{◌⊎◌, inl, inr, ⊎_elim}
use mathlib.Core.List.{List, [], ◌∷◌}
use lib.ListN.{length, get_or, set, length-set, replicate, length-replicate}
use lib.Seq.{ext_get_or, set_out, get_or-set_other}
use lib.Dec.{ltb, leb, eqb}
use borrow.Author.Tests.{lt-ltb, le-ltb, ltb-true, le-leb, leb-true, eq-eqb, ne_eqb, eqb-true, not-true}
use Rattle.index.proofs.Index.{both as halves, count_less}
use Rattle.index.proofs.Flags.{by_test, by_order, cond_case}
use Rattle.sets.specs.Sets.{at, Sub, size, except, occurs, is_permutation, better, top, bests}
use Rattle.sets.proofs.WalkLaws.{at_below, except_at, except_length}
use Rattle.sets.proofs.CountLaws.{In, size_set_true, at_set_same, set_keeps, set_only, bests_upper, bests_length, bests_only}
use Rattle.sets.proofs.SetLaws.{at_none, size_none, size_unset}
use Rattle.sets.proofs.PickLaws.{or_right}
use Rattle.sets.proofs.SlotLaws.{slots_length, slots_at, size_count}
use Rattle.sets.proofs.PermutationLaws.{occurs_self, occurs_tail, permutation_once, permutation_mem}
use Rattle.pairs.specs.Pairs.{earlier, ahead, rank, by_pairs}

or_case : (a b : Bool) → a || b ≡ true → (a ≡ true) ⊎ (b ≡ true)
or_case true b e = inl refl
or_case false b e = inr e

-- ---- the order of two slots
earlier_not : (r : List ℕ) (a c : ℕ) → earlier r a c ≡ true → earlier r c a ≡ true → ⊥
unfolding earlier
earlier_not [] a c e f = false≢true e
earlier_not (s ∷ r) a c e f =
    let p = halves (not (eqb s c)) (eqb s a || earlier r a c) e in
    let q = halves (not (eqb s a)) (eqb s c || earlier r c a) f in
    ⊎_elim
    (λ h. false≢true (sym (not-true (eqb s a) q.0) ∙ h))
    (λ h.
    ⊎_elim
    (λ k. false≢true (sym (not-true (eqb s c) p.0) ∙ k))
    (λ k. earlier_not r a c h k)
    (or_case (eqb s c) (earlier r c a) q.1))
    (or_case (eqb s a) (earlier r a c) p.1)

module _ (sc : List ℕ) where
  higher : (r : List ℕ) (a c : ℕ) → get_or sc c 0 < get_or sc a 0 → ahead sc r a c ≡ true
  higher r a c h = rw (lt-ltb (get_or sc c 0) (get_or sc a 0) h)

  level : (r : List ℕ) (a c : ℕ) → get_or sc a 0 ≡ get_or sc c 0 → earlier r a c ≡ true → ahead sc r a c ≡ true
  level r a c e f =
      or_right (ltb (get_or sc c 0) (get_or sc a 0)) (eqb (get_or sc a 0) (get_or sc c 0) && earlier r a c)
      (ap₂ (λ (y z : Bool). y && z) (eq-eqb (get_or sc a 0) (get_or sc c 0) e) f)

  ahead_case :
      (r : List ℕ) (a c : ℕ) →
      ahead sc r a c ≡ true →
      (get_or sc c 0 < get_or sc a 0) ⊎ ((get_or sc a 0 ≡ get_or sc c 0) × (earlier r a c ≡ true))
  ahead_case r a c e =
      ⊎_elim
      (λ h. inl (ltb-true (get_or sc c 0) (get_or sc a 0) h))
      (λ h. let q = halves (eqb (get_or sc a 0) (get_or sc c 0)) (earlier r a c) h in inr (eqb-true (get_or sc a 0) (get_or sc c 0) q.0, q.1))
      (or_case (ltb (get_or sc c 0) (get_or sc a 0)) (eqb (get_or sc a 0) (get_or sc c 0) && earlier r a c) e)

  ahead_not : (r : List ℕ) (a c : ℕ) → ahead sc r a c ≡ true → ahead sc r c a ≡ true → ⊥
  ahead_not r a c e f =
      ⊎_elim
      (λ h. ⊎_elim (λ k. let z : ⊥ = omega arith in z) (λ k. let l = k.0 in let z : ⊥ = omega arith in z) (ahead_case r c a f))
      (λ h.
      ⊎_elim
      (λ k. let l = h.0 in let z : ⊥ = omega arith in z)
      (λ k. earlier_not r a c h.1 k.1)
      (ahead_case r c a f))
      (ahead_case r a c e)

  -- a slot in front of the order changes nothing between two others, and comes before what is no higher
  lift : (s : ℕ) (r : List ℕ) (a c : ℕ) → (s ≡ c → ⊥) → ahead sc r a c ≡ true → ahead sc (s ∷ r) a c ≡ true
  unfolding earlier
  lift s r a c ne e =
      ⊎_elim
      (λ h. higher (s ∷ r) a c h)
      (λ h.
      level (s ∷ r) a c h.0
      (ap₂ (λ (y z : Bool). not y && z) (ne_eqb s c ne) (or_right (eqb s a) (earlier r a c) h.1)))
      (ahead_case r a c e)

  front : (s : ℕ) (r : List ℕ) (c : ℕ) → (s ≡ c → ⊥) → get_or sc c 0 ≤ get_or sc s 0 → ahead sc (s ∷ r) s c ≡ true
  unfolding earlier
  front s r c ne h =
      by_order _ (get_or sc c 0) (get_or sc s 0)
      (λ l. higher (s ∷ r) s c l)
      (λ l.
      level (s ∷ r) s c (omega arith)
      (ap₂ (λ (y z : Bool). not y && (z || earlier r s c)) (ne_eqb s c ne) (eq-eqb s s refl)))

  -- ---- what `top` finds comes before every other slot of p
  module _ (n : ℕ) (p : List Bool) (lp : length p ≡ n) where
    -- each slot of p stands in the order once at the most
    abbrev Once : List ℕ → Type 0
    Once r = (s : ℕ) → at p s ≡ true → occurs s r ≤ 1

    once_tail : (s : ℕ) (r : List ℕ) → Once (s ∷ r) → Once r
    once_tail s r h c a = let k = h c a in let t = occurs_tail c s r in omega arith

    in_occurs : (c : ℕ) (r : List ℕ) → In c r → 1 ≤ occurs c r
    in_occurs c [] i = absurd i
    in_occurs c (s ∷ r) i =
        ⊎_elim
        (λ e. let o = occurs_self s r in let q = ap (λ (k : ℕ). occurs k (s ∷ r)) e in omega arith)
        (λ j. let h = in_occurs c r j in let t = occurs_tail c s r in omega arith)
        i

    apart : (s : ℕ) (r : List ℕ) → Once (s ∷ r) → (c : ℕ) → at p c ≡ true → In c r → s ≡ c → ⊥
    apart s r h c a i e =
        let o = occurs_self s r in
        let k = h s (ap (at p) e ∙ a) in
        let j = in_occurs c r i in
        let q = ap (λ (z : ℕ). occurs z r) e in
        let z : ⊥ = omega arith in
        z

    abbrev First : List ℕ → ℕ → Type 0
    First r t = (c : ℕ) → at p c ≡ true → In c r → (c ≡ t → ⊥) → ahead sc r t c ≡ true

    -- from one that was found: it stays and none is higher, or a higher one is found
    abbrev Walked : List ℕ → ℕ → ℕ → Type 0
    Walked r cur t =
        ((t ≡ cur) × ((c : ℕ) → at p c ≡ true → In c r → get_or sc c 0 ≤ get_or sc cur 0)) ⊎
        ((get_or sc cur 0 < get_or sc t 0) × (at p t ≡ true) × First r t)

    -- s was taken
    taken :
        (s : ℕ) (r : List ℕ) (t : ℕ) →
        Once (s ∷ r) →
        at p s ≡ true →
        Walked r s t →
        (get_or sc s 0 ≤ get_or sc t 0) × (at p t ≡ true) × First (s ∷ r) t
    taken s r t o a w =
        ⊎_elim
        (λ h. (
          let q = ap (λ (k : ℕ). get_or sc k 0) h.0 in omega arith,
          ap (at p) h.0 ∙ a,
          subst (First (s ∷ r)) (sym h.0)
              (λ c b i ne. front s r c (λ e. ne (sym e)) (⊎_elim (λ e. absurd (ne e)) (λ j. h.1 c b j) i)),
        ))
        (λ h. (
          let l = h.0 in omega arith,
          h.1,
          λ c b i ne.
              ⊎_elim
              (λ e. let l = h.0 in let q = ap (λ (k : ℕ). get_or sc k 0) e in higher (s ∷ r) t c (omega arith))
              (λ j. lift s r t c (apart s r o c b j) (h.2 c b j ne))
              i,
        ))
        w

    walk : (r : List ℕ) (cur : ℕ) → Once r → cur < n → Walked r cur (top n sc p r cur)
    unfolding top
    walk [] cur o l = inl (refl, λ c a i. absurd i)
    walk (s ∷ r) cur o l =
        cond_case (λ k. Walked (s ∷ r) cur (top n sc p r k)) (at p s && better n sc cur s) s cur
        (λ e.
        let q = halves (at p s) (better n sc cur s) e in
        let up : get_or sc cur 0 < get_or sc s 0 =
        ⊎_elim
        (λ f. let g = leb-true n cur f in let z : ⊥ = omega arith in absurd z)
        (λ f. ltb-true (get_or sc cur 0) (get_or sc s 0) f)
        (or_case (leb n cur) (ltb (get_or sc cur 0) (get_or sc s 0)) q.1) in
        let b = at_below p s q.0 in
        let w = taken s r (top n sc p r s) o q.0 (walk r s (once_tail s r o) (omega arith)) in
        inr (let v = w.0 in omega arith, w.1, w.2))
        (λ e.
        let flat : at p s ≡ true → get_or sc s 0 ≤ get_or sc cur 0 = λ a.
        by_order _ (get_or sc cur 0) (get_or sc s 0)
        (λ g.
        absurd
        (false≢true
        (sym e
        ∙ ap₂ (λ (y z : Bool). y && z) a
        (or_right (leb n cur) (ltb (get_or sc cur 0) (get_or sc s 0)) (lt-ltb (get_or sc cur 0) (get_or sc s 0) g)))))
        (λ g. g) in
        ⊎_elim
        (λ h. inl (
          h.0,
          λ c b i.
              ⊎_elim
              (λ q. let z = flat (ap (at p) (sym q) ∙ b) in let k = ap (λ (k : ℕ). get_or sc k 0) q in omega arith)
              (λ j. h.1 c b j)
              i,
        ))
        (λ h. inr (
          h.0,
          h.1,
          λ c b i ne.
              ⊎_elim
              (λ q.
              let z = flat (ap (at p) (sym q) ∙ b) in
              let k = ap (λ (k : ℕ). get_or sc k 0) q in
              let u = h.0 in
              higher (s ∷ r) (top n sc p r cur) c (omega arith))
              (λ j. lift s r (top n sc p r cur) c (apart s r o c b j) (h.2 c b j ne))
              i,
        ))
        (walk r cur (once_tail s r o) l))

    -- from none
    found :
        (r : List ℕ) →
        Once r →
        ((top n sc p r n ≡ n) × ((c : ℕ) → at p c ≡ true → In c r → ⊥)) ⊎
        ((at p (top n sc p r n) ≡ true) × First r (top n sc p r n))
    unfolding top
    found [] o = inl (refl, λ c a i. i)
    found (s ∷ r) o =
        cond_case
        (λ k.
        ((top n sc p r k ≡ n) × ((c : ℕ) → at p c ≡ true → In c (s ∷ r) → ⊥)) ⊎
        ((at p (top n sc p r k) ≡ true) × First (s ∷ r) (top n sc p r k)))
        (at p s && better n sc n s)
        s
        n
        (λ e.
        let a = (halves (at p s) (better n sc n s) e).0 in
        let b = at_below p s a in
        let w = taken s r (top n sc p r s) o a (walk r s (once_tail s r o) (omega arith)) in
        inr (w.1, w.2))
        (λ e.
        let out : at p s ≡ false =
        by_test _ (at p s)
        (λ a.
        absurd
        (false≢true
        (sym e
        ∙ ap₂ (λ (y z : Bool). y && (z || ltb (get_or sc n 0) (get_or sc s 0))) a (le-leb n n (omega arith)))))
        (λ a. a) in
        let other : (c : ℕ) → at p c ≡ true → s ≡ c → ⊥ = λ c b q. false≢true (sym out ∙ ap (at p) q ∙ b) in
        ⊎_elim
        (λ h. inl (h.0, λ c b i. ⊎_elim (λ q. other c b (sym q)) (λ j. h.1 c b j) i))
        (λ h. inr (
          h.0,
          λ c b i ne. ⊎_elim (λ q. absurd (other c b (sym q))) (λ j. lift s r (top n sc p r n) c (other c b) (h.1 c b j ne)) i,
        ))
        (found r (once_tail s r o)))

-- ---- the best
module _ (n : ℕ) (sc : List ℕ) (m : List Bool) (order : List ℕ) (lm : length m ≡ n) (dr : is_permutation n order ≡ true) where
  -- the picks come before those not picked
  abbrev Upper : List Bool → Type 0
  Upper b = (a c : ℕ) → at b a ≡ true → at m c ≡ true → at b c ≡ false → ahead sc order a c ≡ true

  bests_sub : (k : ℕ) (b : List Bool) → Sub b (bests n sc m order k b)
  unfolding bests
  bests_sub zero b s e = e
  bests_sub (suc k) b s e =
      bests_sub k (set b (top n sc (except m b) order n) true) s (set_keeps b (top n sc (except m b) order n) s e)

  record Picked (k : ℕ) (b r : List Bool) : Type 0 where
    upper : Upper r
    many : (size b + k ≤ size r) ⊎ Sub m r

  picks : (k : ℕ) (b : List Bool) → length b ≡ n → Upper b → Picked k b (bests n sc m order k b)
  unfolding bests
  picks zero b lb u = record { upper = u; many = inl (omega arith) }
  picks (suc k) b lb u =
      let p = except m b in
      let t = top n sc p order n in
      let lp : length p ≡ n = except_length m b ∙ lm in
      let stands : (c : ℕ) → at p c ≡ true → c < n = λ c a. let h = at_below p c a in omega arith in
      ⊎_elim
      (λ h.
      let all : Sub m b = λ c a.
      by_test _ (at b c)
      (λ e. e)
      (λ e.
      let pc : at p c ≡ true = except_at m b c ∙ ap₂ (λ (y z : Bool). y && not z) a e in
      absurd (h.1 c pc (permutation_mem n order dr c (stands c pc)))) in
      let same : set b t true ≡ b = set_out b t true (let q = h.0 in omega arith) in
      let r = picks k (set b t true) (length-set b t true ∙ lb) (subst Upper (sym same) u) in
      record {
        upper = r.upper;
        many = inr (λ c a. bests_sub k (set b t true) c (subst (λ (z : List Bool). at z c ≡ true) (sym same) (all c a)));
      })
      (λ h.
      let q = halves (at m t) (not (at b t)) (sym (except_at m b t) ∙ h.0) in
      let free = not-true (at b t) q.1 in
      let below = stands t h.0 in
      let grown = size_set_true b t free (omega arith) in
      let u' : Upper (set b t true) = λ a c x y z.
      let cb : at b c ≡ false = by_test _ (at b c) (λ e. absurd (false≢true (sym z ∙ set_keeps b t c e))) (λ e. e) in
      ⊎_elim
      (λ e. u a c e y cb)
      (λ e.
      let pc : at p c ≡ true = except_at m b c ∙ ap₂ (λ (v w : Bool). v && not w) y cb in
      subst (λ (v : ℕ). ahead sc order v c ≡ true) (sym e)
      (h.1 c pc (permutation_mem n order dr c (stands c pc))
      (λ f. false≢true (sym z ∙ ap (at (set b t true)) f ∙ at_set_same b t (omega arith)))))
      (set_only b t a x) in
      let r = picks k (set b t true) (length-set b t true ∙ lb) u' in
      record { upper = r.upper; many = ⊎_elim (λ g. inl (omega arith)) (λ g. inr g) r.many })
      (found sc n p lp order (λ s a. let o = permutation_once n order dr s (stands s a) in omega arith))

  -- ---- by pairs
  module _ (k : ℕ) where
    abbrev b : List Bool
    b = bests n sc m order k (replicate n false)

    lb : length b ≡ n
    lb = bests_length n sc m order k (replicate n false) ∙ length-replicate n false

    chosen : Picked k (replicate n false) b
    chosen = picks k (replicate n false) (length-replicate n false) (λ a c x y z. absurd (false≢true (sym (at_none n a) ∙ x)))

    sub : Sub b m
    sub = bests_only n sc m order k (replicate n false) (length-replicate n false) (λ s e. absurd (false≢true (sym (at_none n s) ∙ e)))

    -- before one of the best come others of the best alone
    few : (s : ℕ) → at b s ≡ true → rank n sc m order s < k
    few s e =
        let z = size_none n in
        let most = bests_upper n sc m order k (replicate n false) in
        let u = size_unset b s e in
        let c = size_count (set b s false) n (length-set b s false ∙ lb) in
        let l = count_less (λ a. at m a && ahead sc order a s) (at (set b s false)) n
        (λ a h f.
        let q = halves (at m a) (ahead sc order a s) f in
        let ne : a ≡ s → ⊥ = λ g.
        let self = subst (λ (v : ℕ). ahead sc order v s ≡ true) g q.1 in
        ahead_not sc order s s self self in
        get_or-set_other b s a false false ne
        ∙ by_test _ (at b a) (λ g. g) (λ g. absurd (ahead_not sc order s a (chosen.upper s a e q.0 g) q.1))) in
        omega arith

    -- before another member come all of the best
    many : (s : ℕ) → at m s ≡ true → at b s ≡ false → k ≤ rank n sc m order s
    many s a e =
        let z = size_none n in
        ⊎_elim
        (λ h.
        let c = size_count b n lb in
        let l = count_less (at b) (λ v. at m v && ahead sc order v s) n
        (λ v h f. ap₂ (λ (y z : Bool). y && z) (sub v f) (chosen.upper v s f a e)) in
        omega arith)
        (λ h. absurd (false≢true (sym e ∙ h s a)))
        chosen.many

    pub bests_pairs : bests n sc m order k (replicate n false) ≡ by_pairs n sc m order k
    unfolding by_pairs
    bests_pairs =
        ext_get_or false b (by_pairs n sc m order k) (lb ∙ sym (slots_length n _))
        (λ s h.
        let q = lb in
        sym
        (slots_at false _ n s (omega arith)
        ∙ by_test _ (at m s)
        (λ a.
        by_test _ (at b s)
        (λ e. rw (a, lt-ltb (rank n sc m order s) k (few s e)) (sym e))
        (λ e. rw (a, le-ltb (rank n sc m order s) k (many s a e)) (sym e)))
        (λ a. rw a (by_test _ (at b s) (λ e. absurd (false≢true (sym a ∙ sub s e))) (λ e. sym e)))))
