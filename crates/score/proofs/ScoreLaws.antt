-- What the code computes of a router's state is worth 01's score, and the score depends on nothing but what 01 names.
-- Assumes nothing.
use Prim.Native.Nat.{ℕ, ◌<◌, ◌≤◌, zero-le}
use mathlib.Core.Path.{◌≡◌, refl, sym, ap, ◌∙◌}
use mathlib.Core.Bool.{true}
use native.Mathlib.Omega.{arith}
use lib.IntN.{pos, nat_abs, sub_ℕ, ◌+ℤ◌, ◌*ℤ◌}
use lib.Dec.{eqb}
use Rattle.index.proofs.Index.{count_bound}
use Rattle.index.proofs.Flags.{cond_case}
use Rattle.varint.specs.Codes.{number_of}
use Rattle.limits.specs.Limits.{place as topicPlace}
use Rattle.records.specs.declared.Groups.{Groups}
use Rattle.records.specs.declared.Peer.{Peer}
use Rattle.records.specs.Records.{State, topic_count, place, peer_in, topic_in, slot_count}
use Rattle.validity.specs.Valid.{valid}
use Rattle.score.specs.declared.ScoreParams.{ScoreParams}
use Rattle.score.specs.declared.Sharers.{Sharers}
use Rattle.score.specs.declared.Balance.{Balance}
use Rattle.score.specs.declared.Parts.{Parts}
use Rattle.score.specs.declared.Why.{Why}
use Rattle.score.specs.Ranges.{ScoreParamsIn, TopicsIn, PartsIn, BalanceIn, ShareIn, SharersIn, score_most}
use Rattle.score.specs.Parts.{square, crowd_of}
use Rattle.score.specs.Formula.{all_topics, bounded, why_of}
use Rattle.score.specs.Sums.{worth, sum_of, parts_of, total_of, told_of}
use Rattle.score.specs.Score.{param_in, magnitude_in, topic_params_in, score_params_in, shares_group, sharing, sharing_at, sharers_of}
use Rattle.score.specs.Score.{topic_score, why_in, score_in, share_at, parts_at, balance_at, Scores, Agree}
use Rattle.score.proofs.InputLaws.{TopicSigns, SlotIn, slot_in}
use Rattle.score.proofs.ShareLaws.{share_is, sum_is, sum_done, topics_same}
use Rattle.score.proofs.SumLaws.{same_why, capped_is, p5_is, loss_is, total_is, score_size}
use Rattle.score.proofs.BoundLaws.{share_in, sum_in, topics_in, parts_in, total_in}

pub sharing_most : (st : State) (group : ℕ) → sharing st group ≤ slot_count
unfolding sharing
sharing_most st group = count_bound (shares_group st group) slot_count

pub sharing_at_most : (st : State) (group : ℕ) → sharing_at st group ≤ slot_count
unfolding sharing_at
sharing_at_most st group =
    cond_case (λ (n : ℕ). n ≤ slot_count) (eqb group 0) 0 (sharing st group) (λ _. zero-le) (λ _. sharing_most st group)

pub sharers_most : (st : State) (g : Groups) → SharersIn (sharers_of st g)
unfolding sharers_of
sharers_most st g =
    record {
      first = sharing_at_most st g.first;
      second = sharing_at_most st g.second;
      third = sharing_at_most st g.third;
      fourth = sharing_at_most st g.fourth;
    }

-- one topic
topic_is : (st : State) (s t : ℕ) → TopicSigns st t → topic_score st s t ≡ worth (share_at st s t)
unfolding topic_score share_at topic_params_in
topic_is st s t h =
    rw (← h.weight, ← h.w1, ← h.w2, ← h.w3, ← h.w3b, ← h.w4)
    (share_is (topic_params_in st t) (topic_in st (place s t)))

-- the parts over signed numbers: the topics' total before the cap and after it, P5, P6 and P7
pub record PartsWorth (st : State) (s : ℕ) (p : Parts) : Type 0 where
  pub topics : worth p.topics ≡ all_topics topic_count (topic_score st s)
  pub capped : worth p.capped ≡ bounded (magnitude_in st 12) (all_topics topic_count (topic_score st s))
  pub p5 : worth p.p5 ≡ param_in st 13 *ℤ number_of (peer_in st s).p5 *ℤ pos 1000
  pub p6 :
      sub_ℕ 0 p.p6
      ≡ param_in st 14 *ℤ pos (crowd_of (magnitude_in st 15) (sharers_of st (peer_in st s).groups)) *ℤ pos 1000000000
  pub p7 : sub_ℕ 0 p.p7 ≡ param_in st 16 *ℤ pos (square (peer_in st s).p7) *ℤ pos 1000

module _ (st : State) (s : ℕ) (h : SlotIn st s) where
  share_at_in : (t : ℕ) → t < 8 → ShareIn (share_at st s t)
  unfolding share_at
  share_at_in t l = share_in (topic_params_in st t) (h.params t l) (topic_in st (place s t)) (h.counters t l)

  pub topics_are : TopicsIn (sum_of 8 (share_at st s))
  topics_are = topics_in (share_at st s) share_at_in

  -- the loop over the topics: the next share can be added, and the end
  pub add_ready :
      (t : ℕ) (a b : Balance) →
      t < 8 →
      a ≡ sum_of t (share_at st s) →
      ShareIn b →
      BalanceIn a × BalanceIn b
  add_ready t a b l e k =
      let i = sum_in (share_at st s) t (λ j m. share_at_in j (omega arith)) in (
        rw e (record { gain = omega arith; loss = omega arith }),
        record { gain = omega arith; loss = omega arith },
      )

  pub topics_done :
      (t : ℕ) (a : Balance) →
      t ≤ 8 →
      8 ≤ t →
      a ≡ sum_of t (share_at st s) →
      (a ≡ sum_of 8 (share_at st s)) × TopicsIn a
  topics_done t a l m e =
      let f : a ≡ sum_of 8 (share_at st s) = sum_done (share_at st s) 8 t a l m e in
      (f, rw f topics_are)

  pub parts_are : PartsIn (parts_at st s)
  unfolding parts_at
  parts_are =
      parts_in
      (score_params_in st)
      (sum_of 8 (share_at st s))
      (peer_in st s).p5
      (sharers_of st (peer_in st s).groups)
      (peer_in st s).p7
      h.general
      topics_are
      h.p5
      (sharers_most st (peer_in st s).groups)
      h.p7

  -- what is loaded is ready for `sums::parts`, and what that gives
  module _ (p : Peer) (g : ScoreParams) (b : Balance) (n : Sharers) (is-p : p ≡ peer_in st s) (is-g : g ≡ score_params_in st) where
    pub parts_ready :
        TopicsIn b →
        SharersIn n →
        ScoreParamsIn g × (TopicsIn b × ((p.p5 ≤ 2000000000) × (SharersIn n × (p.p7 ≤ 1000000))))
    parts_ready i k = rw (is-g, is-p) (h.general, (i, (h.p5, (k, h.p7))))

    pub parts_done :
        (r : Parts) →
        r ≡ parts_of g b p.p5 n p.p7 →
        b ≡ sum_of 8 (share_at st s) →
        n ≡ sharers_of st p.groups →
        r ≡ parts_at st s
    unfolding parts_at
    parts_done r e is_b is-n = e ∙ rw (is-n, is_b, is-g, is-p)

  pub balance_in : BalanceIn (balance_at st s)
  unfolding balance_at
  balance_in = total_in (parts_at st s) parts_are

  sums : all_topics 8 (topic_score st s) ≡ worth (sum_of 8 (share_at st s))
  sums = sum_is (topic_score st s) (share_at st s) 8 (λ t l. topic_is st s t (h.topic_signs t l))

  -- the code's balance is worth 01's score
  pub score_is : worth (balance_at st s) ≡ score_in st s
  unfolding score_in why_in why_of balance_at total_of parts_at score_params_in
  score_is =
      let w = h.general_signs in
      rw (← w.w5, ← w.w6, ← w.w7, sums)
      (sym
      (total_is
      (score_params_in st)
      (sum_of 8 (share_at st s))
      (peer_in st s).p5
      (sharers_of st (peer_in st s).groups)
      (peer_in st s).p7))

  -- "No score passes 2.6 × 10^18 either way."
  pub score_most_lem : nat_abs (score_in st s) ≤ score_most
  score_most_lem = rw (← score_is) (score_size (balance_at st s) balance_in)

  -- each part is worth its line of 01
  pub parts_worth : PartsWorth st s (parts_at st s)
  unfolding parts_at parts_of score_params_in
  parts_worth =
      let w = h.general_signs in
      record {
        topics = sym sums;
        capped = sym (rw sums (capped_is (magnitude_in st 12) (sum_of 8 (share_at st s))));
        p5 = sym (rw (← w.w5) (p5_is (magnitude_in st 13) (peer_in st s).p5));
        p6 = sym (rw (← w.w6)
            (loss_is (magnitude_in st 14) (crowd_of (magnitude_in st 15) (sharers_of st (peer_in st s).groups)) 1000000000));
        p7 = sym (rw (← w.w7) (loss_is (magnitude_in st 16) (square (peer_in st s).p7) 1000));
      }

  -- what the code tells of the parts is 01's formula with its parts
  pub told_is : told_of (parts_at st s) ≡ why_in st s
  unfolding told_of why_in why_of score_in balance_at
  told_is =
      let w = parts_worth in
      same_why w.topics w.capped w.p5 w.p6 w.p7 score_is

  pub scores : (q : Parts) (b : Balance) → q ≡ parts_at st s → b ≡ total_of q → Scores st s b
  unfolding balance_at
  scores q b p t =
      let e : b ≡ balance_at st s = t ∙ ap total_of p in
      record { is = e; score = ap worth e ∙ score_is; range = rw e balance_in }

-- "the last four's sum being the score" (02, order 5)
pub why_sum :
    (st : State) (s : ℕ) → score_in st s ≡ (why_in st s).capped +ℤ (why_in st s).p5 +ℤ (why_in st s).p6 +ℤ (why_in st s).p7
unfolding score_in why_in why_of
why_sum st s = refl

-- of a router's state: the code's balance is worth 01's score, and "no score passes 2.6 × 10^18 either way"
module _ (st : State) (ok : valid st ≡ true) (s : ℕ) (h : s < slot_count) where
  pub router_score_most : nat_abs (score_in st s) ≤ score_most
  router_score_most = score_most_lem st s (slot_in st ok s h)

-- "One peer's score depends on its own record, the sheet, and the number of connected peers in its group, and on nothing else" (01), with
-- order 11 in each of its groups.
module _ (st : State) (s : ℕ) (other : State) (u : ℕ) (h : Agree st s other u) where
  params_same : (t : ℕ) → topic_params_in st t ≡ topic_params_in other t
  unfolding topic_params_in
  params_same t = simp h.codes

  topic_same : (t : ℕ) → t < topic_count → topic_score st s t ≡ topic_score other u t
  unfolding topic_score
  topic_same t l =
      rw (
        h.codes (topicPlace t 0),
        h.codes (topicPlace t 1),
        h.codes (topicPlace t 4),
        h.codes (topicPlace t 7),
        h.codes (topicPlace t 12),
        h.codes (topicPlace t 14),
        params_same t,
        h.topics t l,
      )

  pub why_depends : why_in st s ≡ why_in other u
  unfolding why_in
  why_depends =
      let sums : all_topics 8 (topic_score st s) ≡ all_topics 8 (topic_score other u) =
      topics_same (topic_score st s) (topic_score other u) 8 topic_same in
      rw (h.codes 12, h.codes 13, h.codes 14, h.codes 15, h.codes 16, h.p5, h.p7, h.sharers, sums)

  pub score_depends : score_in st s ≡ score_in other u
  unfolding score_in
  score_depends = ap (λ (w : Why). w.score) why_depends
