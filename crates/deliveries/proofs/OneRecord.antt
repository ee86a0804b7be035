-- "A delivery alters the counters of one record and no other record."
-- Assumes nothing.
use Rattle.std.proofs.Common.{Option, Some, None}
use Prim.Native.Nat.{ℕ}
use mathlib.Core.Path.{◌≡◌, refl}
use mathlib.Core.Bool.{cond}
use lib.Dec.{eqb}
use lib.ListN.{length-set}
use Rattle.index.proofs.Flags.{cond_case}
use Rattle.records.specs.declared.TopicRecord.{TopicRecord}
use Rattle.records.specs.Records.{State, place, topic_in, set_clock, set_topic}
use Rattle.layout.specs.View.{state_of}
use Rattle.layout.proofs.StateLaws.{topic_other, topic_case}
use Rattle.lookup.specs.Find.{find_connected}
use Rattle.score.specs.declared.TopicParams.{TopicParams}
use Rattle.score.specs.Counters.{with_counters, first_of, near_first_of, invalid_of}
use Rattle.score.specs.Score.{topic_params_in}
use Rattle.effects.specs.Effects.{on_topic}
use Rattle.rules.specs.declared.Answer.TheVariants.{NotConnected}
use Rattle.rules.specs.Reply.{Reply, refused, ignored}
use Rattle.rules.specs.Calls.{deliver}
use Rattle.rules.specs.Step.{on_found, is_heard, delivered_of, deliver_reply, effect}
use Rattle.rules.proofs.CaseLaws.{by_gate}
use Rattle.deliveries.specs.OneRecord.{OneRecord, AltersOne, AltersOneIn}

-- ---- one record

-- q is r but for P2, P3 and P4
abbrev Counted : TopicRecord → TopicRecord → Type 0
Counted r q = q ≡ with_counters r q.p2 q.p3 q.p4 r.p3b r.mesh

delivered_counted : (kind : ℕ) (t : TopicParams) (r : TopicRecord) → Counted r (delivered_of kind t r)
unfolding delivered_of first_of near_first_of invalid_of
delivered_counted kind t r =
    cond_case (Counted r) (eqb kind 1) (first_of t r) (cond (eqb kind 2) (near_first_of t r) (invalid_of r))
    (λ a. refl)
    (λ a. cond_case (Counted r) (eqb kind 2) (near_first_of t r) (invalid_of r) (λ b. refl) (λ b. refl))

-- ---- the state

module _ (st : State) (time id t : ℕ) where
  same : OneRecord st st id t
  same = record { joined = refl; codes = refl; setup = refl; peers = refl; size = refl; others = λ k n. refl; rest = λ k. refl }

  ticked : OneRecord st (set_clock st time) id t
  unfolding set_clock topic_in
  ticked = record { joined = refl; codes = refl; setup = refl; peers = refl; size = refl; others = λ k n. refl; rest = λ k. refl }

  altered :
      (s : ℕ) (f : TopicRecord → TopicRecord) →
      find_connected st id ≡ Some s →
      ((r : TopicRecord) → Counted r (f r)) →
      OneRecord st (set_clock (on_topic st s t f) time) id t
  unfolding set_clock set_topic topic_in
  altered s f e c =
      record {
        joined = refl;
        codes = refl;
        setup = refl;
        peers = refl;
        size = length-set st.topics (place s t) (f (topic_in st (place s t)));
        others = λ k n. topic_other st (place s t) (f (topic_in st (place s t))) k (n s e);
        rest = λ k.
            topic_case st (Counted (topic_in st k)) (place s t) (f (topic_in st (place s t))) k
            (λ p. rw p (c (topic_in st (place s t))))
            refl;
      }

  delivered :
      (kind s : ℕ) → find_connected st id ≡ Some s → OneRecord st (deliver_reply st time t kind s).state id t
  unfolding deliver_reply
  delivered kind s e =
      cond_case (λ (o : Reply). OneRecord st o.state id t) (is_heard st t s) _ (ignored st time)
      (λ h. altered s (delivered_of kind (topic_params_in st t)) e (delivered_counted kind (topic_params_in st t)))
      (λ h. ticked)

  effected : (kind : ℕ) → OneRecord st (effect st (deliver time id t kind)).state id t
  unfolding effect
  effected kind = go (find_connected st id) refl
    where
      go :
          (r : Option ℕ) →
          find_connected st id ≡ r →
          OneRecord st (on_found r (deliver_reply st time t kind) (refused NotConnected st)).state id t
      go (Some s) e = delivered kind s e
      go None e = same

-- ---- the call

pub alters_one : AltersOne
alters_one st time id t kind room =
    by_gate (λ (o : Reply). OneRecord st o.state id t) st (deliver time id t kind) room
    (λ a e. same st time id t)
    (λ p. effected st time id t kind)

pub alters_one_in : AltersOneIn
alters_one_in time id t kind r table table' list list' f =
    rw f.leaves.state (alters_one (state_of table) time id t kind _)
