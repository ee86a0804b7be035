-- What a delivery comes to at each of its ends.
-- Assumes nothing.
use Rattle.std.proofs.Common.{Result, Ok}
use Rattle.rules.specs.declared.Answer.{Answer}
use Prim.Native.Nat.{ℕ, ◌<◌, ◌≤◌}
use mathlib.Core.Path.{◌≡◌, refl, sym, ap₂, ◌∙◌}
use mathlib.Core.Bool.{Bool, true, cond, ◌&&◌}
use native.Mathlib.Omega.{arith}
use mathlib.Core.List.{List, []}
use lib.Dec.{leb, eqb}
use Rattle.index.proofs.Index.{both}
use Rattle.index.proofs.Flags.{cond_case}
use Rattle.records.specs.declared.TopicRecord.{TopicRecord}
use Rattle.records.specs.Records.{State, place, topic_in, set_topic, slot_count}
use Rattle.layout.specs.View.{state_of, TopicFits}
use Rattle.validity.specs.Valid.{valid}
use Rattle.validity.proofs.FitLaws.{topic_fits}
use Rattle.score.specs.declared.TopicParams.{TopicParams}
use Rattle.score.specs.Score.{topic_params_in}
use Rattle.score.specs.Ranges.{CountersWithin}
use Rattle.score.specs.Parts.{is_member}
use Rattle.score.specs.Counters.{raised3_of, first_of, near_first_of, invalid_of}
use Rattle.score.proofs.InputLaws.{params_in, counters_within}
use Rattle.credits.specs.Credits.{credited_of}
use Rattle.credits.proofs.CreditLaws.{credited_is}
use Rattle.effects.specs.Effects.{on_topic}
use Rattle.rules.specs.Reply.{Reply}
use Rattle.rules.specs.Calls.{deliver, id_ok, topic_ok}
use Rattle.rules.specs.Step.{effect, is_heard, delivered_of, deliver_reply}
use Rattle.rules.proofs.EndLaws.{quiet_peer}
use Rattle.rules.proofs.CaseLaws.{topic_in_lem}
use Rattle.gate.specs.PeerGate.{peer_gate}
use Rattle.gate.proofs.PeerGateLaws.{peer_fine}

-- ---- what is credited is what the rules deliver

credited_delivers :
    (t : TopicParams) (r : TopicRecord) → CountersWithin t r → (kind : ℕ) → credited_of kind t r ≡ delivered_of kind t r
unfolding delivered_of
credited_delivers t r k kind = credited_is t r k kind

pub slot_delivered :
    (st u : State) (t s kind : ℕ) (p : TopicParams) (r q : TopicRecord) →
    valid st ≡ true →
    t < 8 →
    s < slot_count →
    r ≡ topic_in st (place s t) →
    p ≡ topic_params_in st t →
    q ≡ credited_of kind p r →
    u ≡ set_topic st (place s t) q →
    u ≡ on_topic st s t (delivered_of kind (topic_params_in st t))
slot_delivered st u t s kind p r q v l h er ep eq eu =
    let e = credited_delivers (topic_params_in st t) (topic_in st (place s t)) (counters_within st v s h t l) kind in cc

-- ---- what is credited fits: the counters stop at their caps

raised3_fits : (t : TopicParams) (r : TopicRecord) → t.cap3 ≤ 1000000 → r.p3 < 2097152 → raised3_of t r < 2097152
unfolding raised3_of
raised3_fits t r m k = cond_case (λ (n : ℕ). n < 2097152) (is_member r) _ _ (λ h. omega arith) (λ h. k)

delivered_fits :
    (kind : ℕ) (t : TopicParams) (r : TopicRecord) →
    t.cap2 ≤ 1000000 →
    t.cap3 ≤ 1000000 →
    TopicFits r →
    TopicFits (delivered_of kind t r)
unfolding delivered_of first_of near_first_of invalid_of
delivered_fits kind t r c2 c3 f =
    let p3 = raised3_fits t r c3 f.p3 in
    cond_case
    TopicFits
    (eqb kind 1)
    (first_of t r)
    (cond (eqb kind 2) (near_first_of t r) (invalid_of r))
    (λ h. record {
      p2 = omega arith;
      p3 = p3;
      p4 = f.p4;
      subscribed = f.subscribed;
      member = f.member;
      graft = f.graft;
      mesh = f.mesh;
    })
    (λ h.
    cond_case
    TopicFits
    (eqb kind 2)
    (near_first_of t r)
    (invalid_of r)
    (λ h. record {
      p2 = f.p2;
      p3 = p3;
      p4 = f.p4;
      subscribed = f.subscribed;
      member = f.member;
      graft = f.graft;
      mesh = f.mesh;
    })
    (λ h. record {
      p2 = f.p2;
      p3 = f.p3;
      p4 = omega arith;
      subscribed = f.subscribed;
      member = f.member;
      graft = f.graft;
      mesh = f.mesh;
    }))

pub credited_fits :
    (st : State) (t s kind : ℕ) (p : TopicParams) (r q : TopicRecord) →
    valid st ≡ true →
    t < 8 →
    s < slot_count →
    r ≡ topic_in st (place s t) →
    p ≡ topic_params_in st t →
    q ≡ credited_of kind p r →
    TopicFits q
credited_fits st t s kind p r q v l h er ep eq =
    let i = params_in st v t l in
    let e : q ≡ delivered_of kind (topic_params_in st t) (topic_in st (place s t)) =
    eq ∙ ap₂ (λ (x : TopicParams) (y : TopicRecord). credited_of kind x y) ep er
    ∙ credited_delivers (topic_params_in st t) (topic_in st (place s t)) (counters_within st v s h t l) kind in
    rw e (delivered_fits kind (topic_params_in st t) (topic_in st (place s t)) i.cap2 i.cap3 (topic_fits st v s t h l))

-- ---- no action

quiet_reply : (st : State) (time t kind s : ℕ) → (deliver_reply st time t kind s).actions ≡ []
unfolding deliver_reply
quiet_reply st time t kind s =
    cond_case (λ (o : Reply). o.actions ≡ []) (is_heard st t s) _ _ (λ h. refl) (λ h. refl)

pub quiet_deliver : (st : State) (time id t kind : ℕ) → (effect st (deliver time id t kind)).actions ≡ []
unfolding effect
quiet_deliver st time id t kind = quiet_peer st id _ (quiet_reply st time t kind)

-- ---- ranges of the arguments

pub deliver_range :
    (id t kind : ℕ) (a b : Bool) →
    a ≡ id_ok id →
    b ≡ topic_ok t →
    (a && b) && (leb 1 kind && leb kind 3) ≡ id_ok id && topic_ok t && (leb 1 kind && leb kind 3)
deliver_range id t kind a b p q = ap₂ (λ (x y : Bool). x && y && (leb 1 kind && leb kind 3)) p q

pub deliver_topic :
    (table : List ℕ) (a b d k : Bool) (room time id : ℕ) (g : Result ℕ Answer) →
    g ≡ peer_gate (state_of table) (a && (b && d && k)) room time id →
    (s : ℕ) →
    g ≡ Ok s →
    (t : ℕ) →
    d ≡ topic_ok t →
    t < 8
deliver_topic table a b d k room time id g eg s e t ed =
    topic_in_lem t (sym ed ∙ (both b d (both (b && d) k (peer_fine table a (b && d && k) room time id g eg s e)).0).1)
