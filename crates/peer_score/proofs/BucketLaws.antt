-- Buckets of groups: one more peer is told, the slots are told one after the other, and what the buckets answer has the surplus of the
-- group's count.
-- Assumes nothing.
use Prim.Native.Nat.{ℕ, zero, suc, ◌+◌, ◌-◌, ◌≤◌, ◌<◌}
use native.Mathlib.Nat.{mod-lt, zero-lt-suc}
use native.Mathlib.Omega.{arith}
use mathlib.Core.Path.{◌≡◌, refl, sym, ap, ◌∙◌}
use mathlib.Core.Bool.{Bool, true, false, not, cond, ◌&&◌, ◌||◌}
use mathlib.Core.List.{List}
use lib.Dec.{eqb, leb, ltb}
use lib.ListN.{length, get_or, set, length-set, replicate, length-replicate}
use lib.Seq.{get_or-set_same, get_or-set_other}
use borrow.Author.Tests.{eqb-true, eqb-false, eq-eqb, ne_eqb, leb-true, ltb-true}
use Rattle.index.specs.Index.{one}
use Rattle.index.proofs.Flags.{by_test, by_order}
use Rattle.index.proofs.Index.{one_le, count_none, count_more, count_done}
use Rattle.records.specs.declared.Groups.{Groups}
use Rattle.records.specs.declared.Peer.{Peer}
use Rattle.records.specs.Records.{State, slot_count, topic_count, no_groups, no_topic, peer_in, holds_group}
use Rattle.validity.specs.Valid.{max_group, follows, rising_ok, ends_up_to, zero_groups, zero_peer, valid}
use Rattle.validity.proofs.Conditions.{all3, all4, all9, else}
use Rattle.validity.proofs.ValidLaws.{valid_facts, zero_groups_lem}
use Rattle.score.specs.declared.ScoreParams.{ScoreParams}
use Rattle.score.specs.declared.Sharers.{Sharers}
use Rattle.score.specs.declared.Balance.{Balance}
use Rattle.score.specs.declared.Parts.{Parts}
use Rattle.score.specs.Parts.{surplus_of, crowd_of}
use Rattle.score.specs.Ranges.{ScoreParamsIn, TopicsIn, SharersIn}
use Rattle.score.specs.Sums.{share_of, no_balance, sum_of, parts_of, total_of}
use Rattle.score.specs.Score.{topic_params_in, shares_group, sharing, sharing_at, sharers_of, score_params_in, share_at, parts_at, Scores}
use Rattle.score.proofs.InputLaws.{SlotIn, slot_in, general_in}
use Rattle.score.proofs.ScoreLaws.{sharing_most, parts_done, scores}
use Rattle.peer_score.proofs.IdleLaws.{none_idle, idle_share}
use Rattle.peer_score.specs.Buckets.{bucket_count, bucket_of, with_one, with_held, TellsOf, below, pairs, Together, Gathered}

pub bucket_in : (group : ℕ) → bucket_of group < bucket_count
unfolding bucket_of
bucket_in group = mod-lt _ (zero-lt-suc _)

-- ---- nobody yet

zeros : (n i : ℕ) → ◌≡◌ {A = ℕ} (get_or (replicate n 0) i 0) 0
zeros zero i = refl
zeros (suc n) zero = refl
zeros (suc n) (suc i) = zeros n i

pub tells_none : TellsOf (λ g. 0) 0 (replicate bucket_count 0) (replicate bucket_count 0) (replicate bucket_count 0)
tells_none =
    let l = length-replicate {A = ℕ} bucket_count 0 in
    record {
      sizes = (l, (l, l));
      head = λ g e. zeros bucket_count (bucket_of g);
      other = λ g e. omega arith;
      none = λ b e. zeros bucket_count b;
      most = λ b. omega (arith, zeros bucket_count b);
    }

-- ---- one bucket

-- its head is h, n peers are of that group and o of others; it tells of x peers of group g
record Entry (g x h n o : ℕ) : Type 0 where
  head : h ≡ g → n ≡ x
  other : (h ≡ g → ⊥) → x ≤ o

one_here : (x p g : ℕ) → p ≡ g → x + one (eqb p g) ≡ x + 1
one_here x p g e = rw (eq-eqb p g e)

one_there : (x p g : ℕ) → (p ≡ g → ⊥) → x + one (eqb p g) ≡ x
one_there x p g e = rw (ne_eqb p g e) (omega arith)

-- a peer of group p comes: t is whether it is the first, u whether its group is the head then
module _ (g x h n o p : ℕ) (e : Entry g x h n o) (none : n ≡ 0 → o ≡ 0) where
  few : n ≡ 0 → x ≡ 0
  few z =
      by_test (x ≡ 0) (eqb h g)
      (λ q. sym (e.head (eqb-true h g q)) ∙ z)
      (λ q. omega (arith, e.other (eqb-false h g q), none z))

  entry_way : (t u : Bool) → eqb n 0 ≡ t → eqb (cond t p h) p ≡ u →
      Entry g (x + one (eqb p g)) (cond t p h) (n + one u) (o + one (not u))
  entry_way true true et eu =
      let z = eqb-true n 0 et in
      record {
        head = λ q. omega (arith, z, few z, one_here x p g q);
        other = λ q. omega (arith, few z, one_there x p g q);
      }
  entry_way true false et eu = absurd (eqb-false p p eu refl)
  entry_way false true et eu =
      let s = eqb-true h p eu in
      record {
        head = λ q. omega (arith, e.head q, one_here x p g (sym s ∙ q));
        other = λ q. omega (arith, e.other q, one_there x p g (λ z. q (s ∙ z)));
      }
  entry_way false false et eu =
      let s = eqb-false h p eu in
      record {
        head = λ q. omega (arith, e.head q, one_there x p g (λ z. s (q ∙ sym z)));
        other = λ q. omega (arith, e.other q, one_le (eqb p g));
      }

  none_way : (t u : Bool) → eqb n 0 ≡ t → eqb (cond t p h) p ≡ u → n + one u ≡ 0 → o + one (not u) ≡ 0
  none_way true true et eu z = omega (arith, z)
  none_way true false et eu z = absurd (eqb-false p p eu refl)
  none_way false true et eu z = omega (arith, z)
  none_way false false et eu z = absurd (eqb-false n 0 et (omega (arith, z)))

most_way : (n o m : ℕ) (u : Bool) → n + o ≤ m → n + one u + (o + one (not u)) ≤ m + 1
most_way n o m true l = omega (arith, l)
most_way n o m false l = omega (arith, l)

-- ---- one more peer

module _ (c : ℕ → ℕ) (m : ℕ) (heads same others : List ℕ) (k : TellsOf c m heads same others) (p : ℕ) where
  -- the group is the head of its bucket then
  abbrev is_head : Bool
  is_head = eqb (cond (eqb (get_or same (bucket_of p) 0) 0) p (get_or heads (bucket_of p) 0)) p

  module _ (heads' same' others' : List ℕ)
      (eh : heads' ≡ set heads (bucket_of p) (cond (eqb (get_or same (bucket_of p) 0) 0) p (get_or heads (bucket_of p) 0)))
      (es : same' ≡ set same (bucket_of p) (get_or same (bucket_of p) 0 + one is_head))
      (eo : others' ≡ set others (bucket_of p) (get_or others (bucket_of p) 0 + one (not is_head))) where
    in_heads : bucket_of p < length heads
    in_heads = omega (arith, bucket_in p, k.sizes.0)

    in_same : bucket_of p < length same
    in_same = omega (arith, bucket_in p, k.sizes.1.0)

    in_others : bucket_of p < length others
    in_others = omega (arith, bucket_in p, k.sizes.1.1)

    -- what stands in the bucket, and in another
    module _ (b : ℕ) where
      module _ (e : b ≡ bucket_of p) where
        head_here : get_or heads' b 0 ≡ cond (eqb (get_or same (bucket_of p) 0) 0) p (get_or heads (bucket_of p) 0)
        head_here = rw (eh, e) (get_or-set_same heads (bucket_of p) _ 0 in_heads)

        same_here : get_or same' b 0 ≡ get_or same (bucket_of p) 0 + one is_head
        same_here = rw (es, e) (get_or-set_same same (bucket_of p) _ 0 in_same)

        others_here : get_or others' b 0 ≡ get_or others (bucket_of p) 0 + one (not is_head)
        others_here = rw (eo, e) (get_or-set_same others (bucket_of p) _ 0 in_others)

      module _ (e : bucket_of p ≡ b → ⊥) where
        head_there : get_or heads' b 0 ≡ get_or heads b 0
        head_there = rw eh (get_or-set_other heads (bucket_of p) b _ 0 (λ z. e (sym z)))

        same_there : get_or same' b 0 ≡ get_or same b 0
        same_there = rw es (get_or-set_other same (bucket_of p) b _ 0 (λ z. e (sym z)))

        others_there : get_or others' b 0 ≡ get_or others b 0
        others_there = rw eo (get_or-set_other others (bucket_of p) b _ 0 (λ z. e (sym z)))

    entry : (g : ℕ) →
        Entry g (with_one c p g) (get_or heads' (bucket_of g) 0) (get_or same' (bucket_of g) 0) (get_or others' (bucket_of g) 0)
    entry g =
        let old : Entry g (c g) (get_or heads (bucket_of g) 0) (get_or same (bucket_of g) 0) (get_or others (bucket_of g) 0) =
        record { head = k.head g; other = k.other g } in
        by_test _ (eqb (bucket_of g) (bucket_of p))
        (λ t.
        let e = eqb-true (bucket_of g) (bucket_of p) t in
        let here : Entry g (c g) (get_or heads (bucket_of p) 0) (get_or same (bucket_of p) 0) (get_or others (bucket_of p) 0) = rw e at old in
        rw (head_here (bucket_of g) e, same_here (bucket_of g) e, others_here (bucket_of g) e)
        (entry_way g (c g) _ _ _ p here (k.none (bucket_of p)) _ _ refl refl))
        (λ t.
        let e = eqb-false (bucket_of g) (bucket_of p) t in
        let d : bucket_of p ≡ bucket_of g → ⊥ = λ z. e (sym z) in
        let x = one_there (c g) p g (λ z. d (ap bucket_of z)) in
        rw (head_there (bucket_of g) d, same_there (bucket_of g) d, others_there (bucket_of g) d, x) old)

    pub tells_more : TellsOf (with_one c p) (m + 1) heads' same' others'
    tells_more =
        record {
          sizes = (
            ap length eh ∙ length-set heads _ _ ∙ k.sizes.0,
            (ap length es ∙ length-set same _ _ ∙ k.sizes.1.0, ap length eo ∙ length-set others _ _ ∙ k.sizes.1.1),
          );
          head = λ g. (entry g).head;
          other = λ g. (entry g).other;
          none = λ b.
              by_test _ (eqb b (bucket_of p))
              (λ t.
              let e = eqb-true b (bucket_of p) t in
              rw (same_here b e, others_here b e)
              (none_way p (c p) _ _ _ p (record { head = k.head p; other = k.other p }) (k.none (bucket_of p)) _ _ refl refl))
              (λ t.
              let d : bucket_of p ≡ b → ⊥ = λ z. eqb-false b (bucket_of p) t (sym z) in
              rw (same_there b d, others_there b d) (k.none b));
          most = λ b.
              by_test _ (eqb b (bucket_of p))
              (λ t.
              let e = eqb-true b (bucket_of p) t in
              rw (same_here b e, others_here b e) (most_way _ _ m is_head (k.most (bucket_of p))))
              (λ t.
              let d : bucket_of p ≡ b → ⊥ = λ z. eqb-false b (bucket_of p) t (sym z) in
              rw (same_there b d, others_there b d) (omega (arith, k.most b)));
        }

  -- in the form in which the code stores it
  pub noted :
      (b h x y : ℕ) →
      b ≡ bucket_of p →
      h ≡ cond (eqb (get_or same b 0) 0) p (get_or heads b 0) →
      x ≡ one (eqb h p) →
      y ≡ one (not (eqb h p)) →
      TellsOf (with_one c p) (m + 1) (set heads b h) (set same b (get_or same b 0 + x)) (set others b (get_or others b 0 + y))
  noted b h x y eb eh ex ey = rw (ey, ex, eh, eb) (tells_more _ _ _ refl refl refl)

-- ---- the slots, one after the other

tells_same :
    (c d : ℕ → ℕ) (n m : ℕ) (heads same others : List ℕ) →
    ((g : ℕ) → c g ≡ d g) →
    n ≤ m →
    TellsOf c n heads same others →
    TellsOf d m heads same others
tells_same c d n m heads same others e l k =
    record {
      sizes = k.sizes;
      head = λ g q. k.head g q ∙ e g;
      other = λ g q. omega (arith, k.other g q, e g);
      none = k.none;
      most = λ b. omega (arith, k.most b, l);
    }

-- ---- a peer of a number that a record holds

pub held_some :
    (c : ℕ → ℕ) (n held : ℕ) (heads same others : List ℕ) →
    1 ≤ held →
    TellsOf (with_one c (held - 1)) (n + 1) heads same others →
    TellsOf (with_held c held) (n + 1) heads same others
held_some c n held heads same others h =
    tells_same _ _ (n + 1) (n + 1) heads same others (λ g. ap (λ (v : Bool). c g + one v) (same_test g)) (omega arith)
  where
    same_test : (g : ℕ) → eqb (held - 1) g ≡ eqb held (g + 1)
    same_test g =
        by_test _ (eqb (held - 1) g)
        (λ t. let e = eqb-true (held - 1) g t in t ∙ sym (eq-eqb held (g + 1) (omega (arith, e, h))))
        (λ t. let e = eqb-false (held - 1) g t in t ∙ sym (ne_eqb held (g + 1) (λ z. e (omega (arith, z)))))

pub held_none :
    (c : ℕ → ℕ) (n held : ℕ) (heads same others : List ℕ) →
    held < 1 →
    TellsOf c n heads same others →
    TellsOf (with_held c held) (n + 1) heads same others
held_none c n held heads same others h =
    tells_same _ _ n (n + 1) heads same others (λ g.
    let z : eqb held (g + 1) ≡ false = ne_eqb held (g + 1) (λ e. omega (arith, e, h)) in
    let y : c g ≡ c g + one false = omega arith in
    y ∙ ap (λ (v : Bool). c g + one v) (sym z)) (omega arith)

-- ---- a record's groups: they are in their range, and no two are the same

rise : (a b : ℕ) → follows a b ≡ true → 1 ≤ b → (1 ≤ a) × ((a < b) × (b ≤ max_group))
rise a b e h =
    let q =
    all3 (leb 1 a) (ltb a b) (leb b max_group)
    (else (eqb b 0) (leb 1 a && ltb a b && leb b max_group) e (ne_eqb b 0 (λ z. omega (arith, z, h)))) in
    (leb-true 1 a q.0, (ltb-true a b q.1, leb-true b max_group q.2))

fits_after : (a b : ℕ) → follows a b ≡ true → b ≤ max_group
fits_after a b e = by_order (b ≤ max_group) b 1 (λ l. omega (arith, l)) (λ l. (rise a b e l).1.1)

one_or : (p q : Bool) → (p ≡ true → q ≡ true → ⊥) → one (p || q) ≡ one p + one q
one_or true true n = absurd (n refl refl)
one_or true false n = refl
one_or false true n = refl
one_or false false n = refl

either : (P : Type 0) (p q : Bool) → p || q ≡ true → (p ≡ true → P) → (q ≡ true → P) → P
either P true q e f g = f refl
either P false q e f g = g e

module _ (g : Groups) (ok : rising_ok g ≡ true) where
  steps :
      (leb g.first max_group ≡ true)
      × (follows g.first g.second ≡ true)
      × (follows g.second g.third ≡ true)
      × (follows g.third g.fourth ≡ true)
  unfolding rising_ok
  steps = all4 _ _ _ _ ok

  pub groups_fit : (g.first ≤ max_group) × ((g.second ≤ max_group) × ((g.third ≤ max_group) × (g.fourth ≤ max_group)))
  groups_fit = (
    leb-true g.first max_group steps.0,
    (
      fits_after g.first g.second steps.1,
      (fits_after g.second g.third steps.2, fits_after g.third g.fourth steps.3),
    ),
  )

  module _ (x : ℕ) (some : 1 ≤ x) where
    before2 : g.second ≡ x → g.first ≡ x → ⊥
    before2 e f = let r = rise g.first g.second steps.1 (omega arith) in omega (arith, r.1.0, e, f)

    before3 : g.third ≡ x → (g.first ≡ x → ⊥) × (g.second ≡ x → ⊥)
    before3 e =
        let r = rise g.second g.third steps.2 (omega arith) in
        let q = rise g.first g.second steps.1 r.0 in
        (λ f. omega (arith, r.1.0, q.1.0, e, f), λ f. omega (arith, r.1.0, e, f))

    before4 : g.fourth ≡ x → (g.first ≡ x → ⊥) × ((g.second ≡ x → ⊥) × (g.third ≡ x → ⊥))
    before4 e =
        let t = rise g.third g.fourth steps.3 (omega arith) in
        let r = rise g.second g.third steps.2 t.0 in
        let q = rise g.first g.second steps.1 r.0 in (
          λ f. omega (arith, t.1.0, r.1.0, q.1.0, e, f),
          (λ f. omega (arith, t.1.0, r.1.0, e, f), λ f. omega (arith, t.1.0, e, f)),
        )

    -- so a group that is held is held once
    pub held_once :
        one (holds_group g x)
        ≡ one (eqb g.first x) + one (eqb g.second x) + one (eqb g.third x) + one (eqb g.fourth x)
    unfolding holds_group
    held_once =
        let a = eqb g.first x in
        let b = eqb g.second x in
        let c = eqb g.third x in
        let d = eqb g.fourth x in
        let at1 : a ≡ true → g.first ≡ x = eqb-true g.first x in
        let at2 : b ≡ true → g.second ≡ x = eqb-true g.second x in
        let at3 : c ≡ true → g.third ≡ x = eqb-true g.third x in
        let at4 : d ≡ true → g.fourth ≡ x = eqb-true g.fourth x in
        let p = one_or a b (λ m n. before2 (at2 n) (at1 m)) in
        let q = one_or (a || b) c (λ m n.
        let z = before3 (at3 n) in
        either ⊥ a b m (λ k. z.0 (at1 k)) (λ k. z.1 (at2 k))) in
        let r = one_or (a || b || c) d (λ m n.
        let z = before4 (at4 n) in
        either ⊥ (a || b) c m (λ k. either ⊥ a b k (λ i. z.0 (at1 i)) (λ i. z.1.0 (at2 i))) (λ k. z.1.1 (at3 k))) in
        omega (arith, p, q, r)

module _ (st : State) (s : ℕ) (heads same others : List ℕ) where
  pub below_none : TellsOf (λ g. 0) 0 heads same others → TellsOf (below st 0) 0 heads same others
  below_none = tells_same _ _ 0 0 heads same others (λ g. sym (count_none (shares_group st (g + 1)))) (omega arith)

  pub below_on :
      (status : ℕ) (o : Groups) →
      status ≡ (peer_in st s).status →
      o ≡ (peer_in st s).groups →
      status ≡ 1 →
      rising_ok o ≡ true →
      TellsOf (with_held (with_held (with_held (with_held (below st s) o.first) o.second) o.third) o.fourth) (pairs s + 1 + 1 + 1 + 1)
      heads same others →
      TellsOf (below st (s + 1)) (pairs (s + 1)) heads same others
  unfolding shares_group
  below_on status o es eo on ok =
      tells_same _ _ (pairs s + 1 + 1 + 1 + 1) (pairs (s + 1)) heads same others
      (λ g.
      let f : holds_group o (g + 1) ≡ shares_group st (g + 1) s = rw (← es, on, eo) in
      let h = held_once o ok (g + 1) (omega arith) in
      let z :
      below st s g
      + one (eqb o.first (g + 1))
      + one (eqb o.second (g + 1))
      + one (eqb o.third (g + 1))
      + one (eqb o.fourth (g + 1))
      ≡ below st s g + one (holds_group o (g + 1)) = omega (arith, h) in
      z ∙ ap (λ (v : Bool). below st s g + one v) f ∙ count_more (shares_group st (g + 1)) s _ refl)
      (omega arith)

  pub below_off :
      (status : ℕ) →
      status ≡ (peer_in st s).status →
      (status ≡ 1 → ⊥) →
      TellsOf (below st s) (pairs s) heads same others →
      TellsOf (below st (s + 1)) (pairs (s + 1)) heads same others
  unfolding shares_group
  below_off status es off =
      tells_same _ _ (pairs s) (pairs (s + 1)) heads same others
      (λ g.
      let f : false ≡ shares_group st (g + 1) s = rw (← es, ne_eqb status 1 off) in
      let z : below st s g ≡ below st s g + one false = omega arith in
      z ∙ ap (λ (v : Bool). below st s g + one v) f ∙ count_more (shares_group st (g + 1)) s _ refl)
      (omega arith)

  pub below_all :
      s ≤ slot_count →
      slot_count ≤ s →
      TellsOf (below st s) (pairs s) heads same others →
      TellsOf (λ g. sharing st (g + 1)) (pairs slot_count) heads same others
  unfolding sharing
  below_all l u =
      tells_same _ _ (pairs s) (pairs slot_count) heads same others (λ g. count_done (shares_group st (g + 1)) slot_count s l u) (omega arith)

-- ---- what the buckets answer

pub told_none : (st : State) (threshold held : ℕ) → held ≡ 0 → Together st threshold held 0
unfolding sharing_at
told_none st threshold held e = record { surplus = rw (eq-eqb held 0 e); most = omega arith }

pub told_exact : (st : State) (threshold held n : ℕ) → (held ≡ 0 → ⊥) → n ≡ sharing st held → Together st threshold held n
unfolding sharing_at
told_exact st threshold held n o e =
    record {
      surplus = rw (ne_eqb held 0 o) (ap (surplus_of threshold) e);
      most = omega (arith, e, sharing_most st held);
    }

module _ (st : State) (heads same others : List ℕ) (k : TellsOf (λ g. sharing st (g + 1)) (pairs slot_count) heads same others)
    (threshold held b : ℕ) (o : held ≡ 0 → ⊥) (e : b ≡ bucket_of (held - 1)) where
  here : held - 1 + 1 ≡ held
  here = omega (arith, o)

  pub told_head : get_or heads b 0 ≡ held - 1 → Together st threshold held (get_or same b 0)
  told_head t =
      let q : get_or heads (bucket_of (held - 1)) 0 ≡ held - 1 = ap (λ (j : ℕ). get_or heads j 0) (sym e) ∙ t in
      told_exact st threshold held (get_or same b 0) o
      (ap (λ (j : ℕ). get_or same j 0) e ∙ k.head (held - 1) q ∙ ap (sharing st) here)

  -- "the surplus being .. above the P6 threshold, or 0": of no more peers than the threshold it is 0, and the group's are no more than
  -- these
  pub told_few : (get_or heads b 0 ≡ held - 1 → ⊥) → get_or others b 0 ≤ threshold → Together st threshold held 0
  unfolding sharing_at
  told_few t f =
      let q : get_or heads (bucket_of (held - 1)) 0 ≡ held - 1 → ⊥ = λ z. t (ap (λ (j : ℕ). get_or heads j 0) e ∙ z) in
      let l : sharing st (held - 1 + 1) ≤ get_or others b 0 = rw e (k.other (held - 1) q) in
      let m : sharing st (held - 1 + 1) ≡ sharing st held = ap (sharing st) here in
      record { surplus = rw (ne_eqb held 0 o) (omega (arith, l, m, f)); most = omega arith }

-- ---- the score that is made of it

-- the groups of a record go upward
pub groups_rise : (st : State) → valid st ≡ true → (s : ℕ) → s < slot_count → rising_ok (peer_in st s).groups ≡ true
groups_rise st v s h = ((valid_facts st v).peer s h).groups

pub loaded_rise :
    (st : State) → valid st ≡ true → (s : ℕ) → s < slot_count → (g : Groups) → g ≡ (peer_in st s).groups → rising_ok g ≡ true
loaded_rise st v s h g e = rw e (groups_rise st v s h)

module _ (st : State) (threshold : ℕ) (g : Groups) (n : Sharers) (k : Gathered st threshold g n) where
  pub gathered_in : SharersIn n
  gathered_in =
      record { first = k.first.most; second = k.second.most; third = k.third.most; fourth = k.fourth.most }

  pub gathered_crowd : crowd_of threshold n ≡ crowd_of threshold (sharers_of st g)
  unfolding crowd_of sharers_of
  gathered_crowd = rw (k.first.surplus, k.second.surplus, k.third.surplus, k.fourth.surplus) refl

same_parts :
    (g : ScoreParams) (b : Balance) (code : ℕ) (n m : Sharers) (p7 : ℕ) →
    crowd_of g.threshold n ≡ crowd_of g.threshold m →
    parts_of g b code n p7 ≡ parts_of g b code m p7
unfolding parts_of
same_parts g b code n m p7 e = rw e

pub parts_among :
    (st : State) (s : ℕ) →
    SlotIn st s →
    (p : Peer) (g : ScoreParams) (b : Balance) (n : Sharers) →
    p ≡ peer_in st s →
    g ≡ score_params_in st →
    (r : Parts) →
    r ≡ parts_of g b p.p5 n p.p7 →
    b ≡ sum_of topic_count (share_at st s) →
    crowd_of g.threshold n ≡ crowd_of g.threshold (sharers_of st p.groups) →
    r ≡ parts_at st s
parts_among st s k p g b n ep eg r er eb t =
    parts_done st s k p g b _ ep eg r (er ∙ same_parts g b p.p5 n (sharers_of st p.groups) p.p7 t) eb refl

-- ---- an empty slot's score

abbrev nobody : Sharers
nobody = record { first = 0; second = 0; third = 0; fourth = 0 }

pub sum_nothing : (f : ℕ → Balance) (n : ℕ) → ((t : ℕ) → t < n → f t ≡ no_balance) → sum_of n f ≡ no_balance
unfolding sum_of
sum_nothing f zero h = refl
sum_nothing f (suc n) h = rw (sum_nothing f n (λ t l. h t (omega arith)), h n (omega arith))

module _ (st : State) (ok : valid st ≡ true) (s : ℕ) (h : s < slot_count) (e : (peer_in st s).status ≡ 0) where
  empty_topics : no_balance ≡ sum_of topic_count (share_at st s)
  unfolding share_at
  empty_topics =
      sym
      (sum_nothing (share_at st s) topic_count
      (λ t l.
      let z = ((valid_facts st ok).topic s t h l).empty e in
      ap (share_of (topic_params_in st t)) z ∙ sym (idle_share (topic_params_in st t) no_topic none_idle)))

  record Zeros : Type 0 where
    groups : (peer_in st s).groups ≡ no_groups
    p5 : (peer_in st s).p5 ≡ 0
    p7 : (peer_in st s).p7 ≡ 0

  zeros_at : Zeros
  unfolding zero_peer
  zeros_at =
      let p = peer_in st s in
      let r =
      all9 (eqb p.id 0) (zero_groups p.groups) (eqb p.outbound 0) (eqb p.explicit 0) (eqb p.version 0) (eqb p.p5 0)
      (eqb p.p7 0) (eqb p.retain 0) (ends_up_to 0 p) (((valid_facts st ok).peer s h).empty e) in
      record { groups = zero_groups_lem p.groups r.1; p5 = eqb-true p.p5 0 r.5; p7 = eqb-true p.p7 0 r.6 }

  nobody_shares : nobody ≡ sharers_of st no_groups
  unfolding sharers_of sharing_at
  nobody_shares = refl

  pub empty_scores :
      (g : ScoreParams) (q : Parts) (b : Balance) →
      g ≡ score_params_in st →
      q ≡ parts_of g no_balance 0 nobody 0 →
      b ≡ total_of q →
      Scores st s b
  empty_scores g q b eg eq eb =
      let i = slot_in st ok s h in
      let z = zeros_at in
      let t : crowd_of g.threshold nobody ≡ crowd_of g.threshold (sharers_of st (peer_in st s).groups) =
      ap (crowd_of g.threshold) (nobody_shares ∙ ap (sharers_of st) (sym z.groups)) in
      let v : q ≡ parts_of g no_balance (peer_in st s).p5 nobody (peer_in st s).p7 = rw (z.p5, z.p7) eq in
      scores st s i q b (parts_among st s i (peer_in st s) g no_balance nobody refl eg q v empty_topics t) eb

pub empty_ready :
    (st : State) →
    valid st ≡ true →
    (g : ScoreParams) →
    g ≡ score_params_in st →
    ScoreParamsIn g × (TopicsIn no_balance × ((0 ≤ 2000000000) × (SharersIn nobody × (0 ≤ 1000000))))
empty_ready st ok g eg = (
  rw eg (general_in st ok),
  (
    record { gain = omega arith; loss = omega arith },
    (omega arith, (record { first = omega arith; second = omega arith; third = omega arith; fourth = omega arith }, omega arith)),
  ),
)
