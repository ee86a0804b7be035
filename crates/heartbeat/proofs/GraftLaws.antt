-- Grafts with scores that are taken where they are asked for: the walk puts in what `fill` does from the set of all that are wanted, and
-- that set is the one of each step.
-- Assumes nothing.
use Prim.Native.Nat.{ℕ, suc, ◌+◌, ◌-◌, ◌/◌, ◌≤◌, ◌<◌}
use native.Mathlib.Omega.{arith}
use mathlib.Core.Path.{◌≡◌, refl, sym, ap, ap₂, ◌∙◌}
use mathlib.Core.Bool.{Bool, true, false, not, ◌&&◌, false≢true}
use mathlib.Core.List.{List, [], ◌∷◌}
use lib.ListN.{length, get_or, set, drop, length-set}
use lib.Seq.{get_or-set_same, get_or-set_other}
use lib.Dec.{eqb, leb, ltb}
use borrow.Author.Tests.{le-leb}
use Rattle.index.proofs.Flags.{by_order}
use Rattle.index.proofs.Index.{both as and_both}
use Rattle.records.specs.Records.{State, slot_count, peer_in}
use Rattle.words.specs.Words.{word_count, bits_of}
use Rattle.words.proofs.WideLaws.{at_past}
use Rattle.layout.specs.View.{state_of}
use Rattle.sets.specs.Sets.{at, size, by_slot, both, from, takes, fill, sort, scores_of}
use Rattle.sets.proofs.WalkLaws.{both_at, from_at, takes_room, fill_step, fill_end}
use Rattle.sets.proofs.CountLaws.{fill_zero}
use Rattle.sets.proofs.SlotLaws.{slots_length, slots_at, slots_past, slots_in}
use Rattle.sets.proofs.SetLaws.{both_left}
use Rattle.mesh.specs.declared.Degrees.{Degrees}
use Rattle.mesh.specs.Maintenance.{Meshes, zero_score, mesh1, mesh2, mesh3, mesh4, mesh5}
use Rattle.mesh.proofs.StepLaws.{mesh2_under, mesh2_else, mesh3_else, mesh4_is, mesh5_unasked, mesh5_few, mesh5_high, mesh5_low}
use Rattle.mesh.proofs.StepLaws.{meshes_are}
use Rattle.mesh.proofs.StillLaws.{goods_same}
use Rattle.effects.specs.Effects.{is_member}
use Rattle.rules.specs.Step.{is_candidate, height_in, degrees_in, view_in, meshes_in}
use Rattle.heartbeat.specs.Ready.{is_eligible, is_free}
use Rattle.peer_score.specs.declared.buckets.Buckets.{Buckets}
use Rattle.peer_score.specs.declared.weights.TopicWeights.{TopicWeights}
use Rattle.heartbeat.specs.Heights.{HeightsOn, Taken, Partial}
use Rattle.heartbeat.specs.Grafts.{is_wanted, WantedOf, Grafting, Kept, Asked, Scored, Grafted, Halfway}
use Rattle.heartbeat.proofs.SeenLaws.{candidate_is}

by_slot_lem : (k s : ℕ) (P : Type 0) → (k ≡ s → P) → ((k ≡ s → ⊥) → P) → P
by_slot_lem k s P f g =
    by_order P k s
    (λ (a : k < s). g (λ z. omega arith))
    (λ (a : s ≤ k). by_order P s k (λ (b : s < k). g (λ z. omega arith)) (λ (b : k ≤ s). f (omega arith)))

-- ---- one slot
pub asked_not : (st : State) (time t least s : ℕ) (b : Bool) (heights : List ℕ) → b ≡ false →
    Asked st time t least s b false heights heights
asked_not st time t least s b heights e =
    record {
      answer = sym (ap (λ (x : Bool). x && is_wanted st time t least s) e);
      size = refl;
      kept = λ k h q. q;
      scored = λ q. absurd (false≢true q);
    }

-- a slot of four words is one of the slots
pub taken_slot : (p : List ℕ) (k s : ℕ) (m : List Bool) → length p ≡ word_count → takes (bits_of p) k m s ≡ true → s < slot_count
taken_slot p k s m l e =
    by_order (s < slot_count) s slot_count
    (λ h. h)
    (λ (h : slot_count ≤ s).
    let q = (and_both (ltb 0 k) (at (bits_of p) s && not (at m s)) e).1 in
    let r = (and_both (at (bits_of p) s) (not (at m s)) q).0 in
    absurd (false≢true (sym (at_past p s (omega arith)) ∙ r)))

module _ (st : State) (time t least s : ℕ) (before : List ℕ) (x : ℕ) where
  pub asked_is :
      (takes free : Bool) →
      takes ≡ true →
      s < length before →
      x ≡ height_in st s →
      free ≡ is_free st time t s →
      Asked st time t least s takes (free && leb least x) before (set before s x)
  unfolding is_wanted
  asked_is takes free e l ex ef =
      let there : get_or (set before s x) s 0 ≡ height_in st s = get_or-set_same before s x 0 l ∙ ex in
      record {
        answer = rw (e, ef, ex);
        size = length-set before s x;
        kept = λ k h q.
            by_slot_lem k s (get_or (set before s x) k 0 ≡ height_in st k)
            (λ z. rw z there)
            (λ n. get_or-set_other before s k x 0 n ∙ q);
        scored = λ q. there;
      }

pub asked_room :
    (st : State) (time t least s k : ℕ) (p m : List Bool) (b : Bool) (before after : List ℕ) →
    Asked st time t least s (takes p k m s) b before after →
    b ≡ true →
    0 < k
asked_room st time t least s k p m b before after a e =
    takes_room p k m s (and_both (takes p k m s) (is_wanted st time t least s) (sym a.answer ∙ e)).0

-- ---- the walk
sift : (x y w z : Bool) → x && ((y && w) && z) ≡ (x && (y && z)) && w
sift true true true true = refl
sift true true true false = refl
sift true true false true = refl
sift true true false false = refl
sift true false w z = refl
sift false y w z = refl

-- before turn i: the rest of the walk gives the whole
pub record Walk
    (st : State) (time t least : ℕ) (p : List Bool) (order : List ℕ) (k₀ : ℕ) (m₀ : List Bool) (before : List ℕ)
    (i k : ℕ) (m : List Bool) (after : List ℕ) : Type 0 where
  pub rest : (c : List Bool) → WantedOf st time t least p c → fill c k (drop i order) m ≡ fill c k₀ order m₀
  pub scores : Scored st m₀ m before after

module _
    (st : State) (time t least : ℕ) (ws order : List ℕ) (k₀ : ℕ) (m₀ : List Bool) (before : List ℕ)
    (len : length ws ≡ word_count)
  where
    abbrev p : List Bool
    p = bits_of ws

    pub walk_none : Walk st time t least p order k₀ m₀ before 0 k₀ m₀ before
    walk_none = record { rest = λ c w. refl; scores = record { size = refl; kept = λ s h e. e; scored = λ h. h } }

    takes_wanted :
        (c : List Bool) → WantedOf st time t least p c → (k s : ℕ) (m : List Bool) →
        takes c k m s ≡ takes p k m s && is_wanted st time t least s
    takes_wanted c w k s m =
        by_order (takes c k m s ≡ takes p k m s && is_wanted st time t least s) s slot_count
        (λ h.
        ap (λ (x : Bool). ltb 0 k && (x && not (at m s))) (w.here s h)
        ∙ sift (ltb 0 k) (at p s) (is_wanted st time t least s) (not (at m s)))
        (λ (h : slot_count ≤ s).
        ap (λ (x : Bool). ltb 0 k && (x && not (at m s))) (w.past s h)
        ∙ sift (ltb 0 k) false (is_wanted st time t least s) (not (at m s))
        ∙ ap (λ (x : Bool). (ltb 0 k && (x && not (at m s))) && is_wanted st time t least s) (sym (at_past ws s (omega arith))))

    module _
        (i k : ℕ) (m : List Bool) (after next : List ℕ) (b : Bool) (h : i < length order)
        (w : Walk st time t least p order k₀ m₀ before i k m after)
        (a : Asked st time t least (get_or order i 0) (takes p k m (get_or order i 0)) b after next)
      where
        on : (c : List Bool) → WantedOf st time t least p c → (e : Bool) → b ≡ e → takes c k m (get_or order i 0) ≡ e
        on c v e q = takes_wanted c v k (get_or order i 0) m ∙ sym a.answer ∙ q

        more : Kept st before next
        more s l e = a.kept s l (w.scores.kept s l e)

        pub walk_out :
            b ≡ false → (k' : ℕ) (m' : List Bool) → k' ≡ k → m' ≡ m → Walk st time t least p order k₀ m₀ before (i + 1) k' m' next
        walk_out e k' m' ek em =
            rw (ek, em)
            record {
              rest = λ c v. sym (fill_step c order i h false k m (on c v false e)) ∙ w.rest c v;
              scores = record {
                size = a.size ∙ w.scores.size;
                kept = more;
                scored = λ d s l q. a.kept s l (w.scores.scored d s l q);
              };
            }

        pub walk_in :
            b ≡ true → (k' : ℕ) (m' : List Bool) → k' ≡ k - 1 → m' ≡ set m (get_or order i 0) true →
            Walk st time t least p order k₀ m₀ before (i + 1) k' m' next
        walk_in e k' m' ek em =
            rw (ek, em)
            record {
              rest = λ c v. sym (fill_step c order i h true k m (on c v true e)) ∙ w.rest c v;
              scores = record {
                size = a.size ∙ w.scores.size;
                kept = more;
                scored = λ d s l q.
                    by_slot_lem s (get_or order i 0) (get_or next s 0 ≡ height_in st s)
                    (λ z. rw z (a.scored e))
                    (λ n.
                    a.kept s l
                    (w.scores.scored d s l (sym (get_or-set_other m (get_or order i 0) s true false n) ∙ q)));
              };
            }

    module _ (i k : ℕ) (m : List Bool) (after : List ℕ) (w : Walk st time t least p order k₀ m₀ before i k m after) where
      pub walk_full : k ≤ 0 → Grafted st time t least p k₀ order m₀ m before after
      walk_full h =
          record { mesh = λ c v. sym (fill_zero c (drop i order) k m h) ∙ w.rest c v; scores = w.scores }

      pub walk_end : length order ≤ i → Grafted st time t least p k₀ order m₀ m before after
      walk_end h = record { mesh = λ c v. sym (fill_end c k order m i h) ∙ w.rest c v; scores = w.scores }

-- ---- what each step wants
wanted_2 : (e f l : Bool) → l ≡ true → e && f ≡ e && (f && l)
wanted_2 e f l q = ap (λ (x : Bool). e && x) (ends f) ∙ ap (λ (x : Bool). e && (f && x)) (sym q)
  where
    ends : (f : Bool) → f ≡ f && true
    ends true = refl
    ends false = refl

wanted_4 : (e f o : Bool) → (e && f) && o ≡ (e && o) && f
wanted_4 true true true = refl
wanted_4 true true false = refl
wanted_4 true false true = refl
wanted_4 true false false = refl
wanted_4 false f o = refl

wanted_5 : (e f a : Bool) → (e && f) && a ≡ e && (f && a)
wanted_5 true f a = refl
wanted_5 false f a = refl

module _ (st : State) (time t : ℕ) (p : List Bool) (ep : (s : ℕ) → s < slot_count → at p s ≡ is_eligible st t s) where
  abbrev candidates : List Bool
  candidates = by_slot slot_count (is_candidate st time t)

  candidate_at : (s : ℕ) → s < slot_count → at candidates s ≡ at p s && is_free st time t s
  candidate_at s h =
      slots_at false (is_candidate st time t) slot_count s h
      ∙ candidate_is st time t s
      ∙ ap (λ (x : Bool). x && is_free st time t s) (sym (ep s h))

  -- all candidates
  pub wants_all : WantedOf st time t 0 p candidates
  unfolding is_wanted
  wants_all =
      record {
        here = λ s h. candidate_at s h
            ∙ wanted_2 (at p s) (is_free st time t s) (leb 0 (height_in st s)) (le-leb 0 (height_in st s) (omega arith));
        past = λ s h. slots_past false (is_candidate st time t) slot_count s h;
      }

  past_both : (o : List Bool) (s : ℕ) → slot_count ≤ s → at (both candidates o) s ≡ false
  past_both o s h =
      both_at candidates o s ∙ ap (λ (x : Bool). x && at o s) (slots_past false (is_candidate st time t) slot_count s h)

  -- those of a set
  pub wants_of : (o q : List Bool) → q ≡ both p o → WantedOf st time t 0 q (both candidates o)
  unfolding is_wanted
  wants_of o q eq =
      record {
        here = λ s h.
            both_at candidates o s
            ∙ ap (λ (x : Bool). x && at o s) (candidate_at s h)
            ∙ wanted_4 (at p s) (is_free st time t s) (at o s)
            ∙ wanted_2 (at p s && at o s) (is_free st time t s) (leb 0 (height_in st s)) (le-leb 0 (height_in st s) (omega arith))
            ∙ ap (λ (x : Bool). x && (is_free st time t s && leb 0 (height_in st s)))
            (sym (ap (λ (l : List Bool). at l s) eq ∙ both_at p o s));
        past = past_both o;
      }

  -- those with at least a score
  pub wants_from : (x : ℕ) → WantedOf st time t x p (both candidates (from x (by_slot slot_count (height_in st))))
  unfolding is_wanted
  wants_from x =
      record {
        here = λ s h.
            let l = slots_length slot_count (height_in st) in
            both_at candidates (from x (by_slot slot_count (height_in st))) s
            ∙ ap₂ (λ (a b : Bool). a && b) (candidate_at s h)
            (from_at x (by_slot slot_count (height_in st)) s (omega arith)
            ∙ ap (leb x) (slots_at 0 (height_in st) slot_count s h))
            ∙ wanted_5 (at p s) (is_free st time t s) (leb x (height_in st s));
        past = past_both (from x (by_slot slot_count (height_in st)));
      }

-- ---- the median asks for the members' scores alone
known_scores :
    (m : List Bool) (a b : List ℕ) →
    length a ≡ length b →
    ((s : ℕ) → s < length a → at m s ≡ true → get_or a s 0 ≡ get_or b s 0) →
    scores_of m a ≡ scores_of m b
unfolding scores_of
known_scores [] a b l h = refl
known_scores (y ∷ m) [] [] l h = refl
known_scores (y ∷ m) [] (v ∷ b) l h = absurd (omega arith)
known_scores (y ∷ m) (u ∷ a) [] l h = absurd (omega arith)
known_scores (true ∷ m) (u ∷ a) (v ∷ b) l h =
    ap₂ (λ (x : ℕ) (q : List ℕ). x ∷ q) (h 0 (omega arith) refl) (known_scores m a b (omega arith) (λ s k e. h (suc s) (omega arith) e))
known_scores (false ∷ m) (u ∷ a) (v ∷ b) l h = known_scores m a b (omega arith) (λ s k e. h (suc s) (omega arith) e)

pub scores_known :
    (st : State) (m : List Bool) (heights : List ℕ) →
    length heights ≡ slot_count →
    HeightsOn st m heights →
    scores_of m heights ≡ scores_of m (by_slot slot_count (height_in st))
scores_known st m heights l on =
    known_scores m heights (by_slot slot_count (height_in st)) (l ∙ sym (slots_length slot_count (height_in st)))
    (λ s h e. on s (omega arith) e ∙ sym (slots_at 0 (height_in st) slot_count s (omega arith)))

-- ---- the steps
pub scored_same : (st : State) (m : List Bool) (heights : List ℕ) → Scored st m m heights heights
scored_same st m heights = record { size = refl; kept = λ s h e. e; scored = λ h. h }

module _ (st : State) (time t ask : ℕ) (order : List ℕ) (d : Degrees) (ed : d ≡ degrees_in st) (m : List Bool) where
  module _ (n : ℕ) (en : n ≡ size m) where
    pub second_none : d.lo ≤ n → m ≡ mesh2 (degrees_in st) (view_in st time t ask order) m
    second_none h = rw (← ed) (mesh2_else d (view_in st time t ask order) m en h)

    pub second_some :
        (p r : List Bool) (k : ℕ) (before after : List ℕ) →
        n < d.lo →
        k ≡ d.d - n →
        ((s : ℕ) → s < slot_count → at p s ≡ is_eligible st t s) →
        Grafted st time t 0 p k order m r before after →
        r ≡ mesh2 (degrees_in st) (view_in st time t ask order) m
    unfolding view_in
    second_some p r k before after h ek ep g =
        rw (← ed) (mesh2_under d (view_in st time t ask order) m en h ek (g.mesh _ (wants_all st time t p ep)))

    pub third_none : n ≤ d.hi → m ≡ mesh3 slot_count (degrees_in st) (view_in st time t ask order) m
    third_none h = rw (← ed) (mesh3_else d (view_in st time t ask order) m en slot_count h)

    pub fifth_few : n < 2 → m ≡ mesh5 (degrees_in st) (view_in st time t ask order) m
    fifth_few h = mesh5_few (degrees_in st) (view_in st time t ask order) m en h

    module _ (heights : List ℕ) (l : length heights ≡ slot_count) (on : HeightsOn st m heights)
        (x : ℕ) (ex : x ≡ get_or (sort (scores_of m heights)) (n / 2) 0) where
      median_is : x ≡ get_or (sort (scores_of m (by_slot slot_count (height_in st)))) (n / 2) 0
      median_is = ex ∙ ap (λ (q : List ℕ). get_or (sort q) (n / 2) 0) (scores_known st m heights l on)

      pub fifth_high : d.threshold ≤ x → m ≡ mesh5 (degrees_in st) (view_in st time t ask order) m
      unfolding view_in
      fifth_high h = rw (← ed) (mesh5_high d (view_in st time t ask order) m en median_is h)

      pub fifth_low :
          (p r : List Bool) (before after : List ℕ) →
          eqb ask 1 ≡ true →
          2 ≤ n →
          x < d.threshold →
          ((s : ℕ) → s < slot_count → at p s ≡ is_eligible st t s) →
          Grafted st time t (x + 1) p 2 order m r before after →
          r ≡ mesh5 (degrees_in st) (view_in st time t ask order) m
      unfolding view_in
      fifth_low p r before after e two h ep g =
          rw (← ed)
          (mesh5_low d (view_in st time t ask order) m e en two median_is h refl refl (g.mesh _ (wants_from st time t p ep (x + 1))))

  pub fourth_is :
      (p o q mo r : List Bool) (n k : ℕ) (before after : List ℕ) →
      ((s : ℕ) → s < slot_count → at p s ≡ is_eligible st t s) →
      o ≡ by_slot slot_count (λ s. eqb (peer_in st s).outbound 1) →
      q ≡ both p o →
      mo ≡ both m o →
      n ≡ size mo →
      k ≡ d.out - n →
      Grafted st time t 0 q k order m r before after →
      r ≡ mesh4 (degrees_in st) (view_in st time t ask order) m
  unfolding view_in
  fourth_is p o q mo r n k before after ep eo eq em en ek g =
      rw (← ed)
      (mesh4_is d (view_in st time t ask order) m (ap (both (by_slot slot_count (is_candidate st time t))) eo) (em ∙ ap (both m) eo) en ek
      (g.mesh _ (wants_of st time t p ep o q eq)))

pub fifth_unasked :
    (st : State) (time t ask : ℕ) (order : List ℕ) (m : List Bool) →
    eqb ask 1 ≡ false →
    m ≡ mesh5 (degrees_in st) (view_in st time t ask order) m
unfolding view_in
fifth_unasked st time t ask order m e = mesh5_unasked (degrees_in st) (view_in st time t ask order) m e

-- ---- what is relied on stands when more scores are taken
pub grafting_on :
    (table : List ℕ) (b : Buckets) (w : TopicWeights) (t : ℕ) (before after : List ℕ) →
    length after ≡ length before →
    Grafting table b w t before →
    Grafting table b w t after
grafting_on table b w t before after l g =
    let k = g.taking in
    record {
      taking = record { standing = k.standing; buckets = k.buckets; size = l ∙ k.size };
      weights = g.weights;
      topic = g.topic;
    }

pub partial_on :
    (table : List ℕ) (b : Buckets) (t : ℕ) (before after : List ℕ) →
    length after ≡ length before →
    Kept (state_of table) before after →
    Partial table b t before →
    Partial table b t after
partial_on table b t before after l kept g =
    let k = g.taking in
    record {
      taking = record { standing = k.standing; buckets = k.buckets; size = l ∙ k.size };
      topic = g.topic;
      members = λ s h e. kept s h (g.members s h e);
      empty = λ s h e. kept s h (g.empty s h e);
    }

-- ---- all five
pub first_is :
    (st : State) (time t ask : ℕ) (order heights : List ℕ) (members goods first : List Bool) →
    members ≡ by_slot slot_count (is_member st t) →
    length heights ≡ slot_count →
    HeightsOn st members heights →
    goods ≡ from zero_score heights →
    first ≡ both members goods →
    first ≡ mesh1 (view_in st time t ask order)
unfolding view_in mesh1
first_is st time t ask order heights members goods first em l on eg ef =
    ef
    ∙ ap₂ both em eg
    ∙ goods_same zero_score (by_slot slot_count (is_member st t)) heights (by_slot slot_count (height_in st))
    (l ∙ sym (slots_length slot_count (height_in st)))
    (λ s q.
    let i = slots_in (is_member st t) slot_count s q in
    on s i.0 (ap (λ (x : List Bool). at x s) em ∙ q) ∙ sym (slots_at 0 (height_in st) slot_count s i.0))

pub first_scores :
    (st : State) (before after : List ℕ) (members goods first : List Bool) →
    Taken st members before after →
    first ≡ both members goods →
    HeightsOn st first after
first_scores st before after members goods first t ef s h e =
    t.taken s h (both_left members goods s (ap (λ (x : List Bool). at x s) (sym ef) ∙ e))

pub stages_of :
    (st : State) (time t ask : ℕ) (order heights : List ℕ) (m₁ m₂ m₄ m₅ : List Bool) →
    Halfway st time t ask order m₁ m₂ heights →
    m₄ ≡ mesh4 (degrees_in st) (view_in st time t ask order) m₂ →
    m₅ ≡ mesh5 (degrees_in st) (view_in st time t ask order) m₄ →
    ◌≡◌ {A = Meshes} (record { first = m₁; second = m₂; third = m₂; fourth = m₄; fifth = m₅ }) (meshes_in st time t ask order)
unfolding meshes_in
stages_of st time t ask order heights m₁ m₂ m₄ m₅ h e₄ e₅ =
    meshes_are slot_count (degrees_in st) (view_in st time t ask order) h.first h.second
    (third_none st time t ask order (degrees_in st) refl m₂ (size m₂) refl h.few) e₄ e₅

pub few_of : (st : State) (d : Degrees) (n : ℕ) (m : List Bool) → d ≡ degrees_in st → n ≡ size m → n ≤ d.hi → size m ≤ (degrees_in st).hi
few_of st d n m ed en h = rw (← ed, ← en) h
