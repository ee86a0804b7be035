-- GRAFT in, test by test: who may return passes each of them, and who fails one of the later ones is told by its PRUNE.
-- Assumes nothing.
use Rattle.std.proofs.Common.{Some}
use Prim.Native.Nat.{ℕ, zero, suc, ◌*◌, ◌≤◌, ◌<◌}
use native.Mathlib.Omega.{arith}
use mathlib.Core.Path.{◌≡◌, refl, sym, ap, ◌∙◌}
use mathlib.Core.Logic.{inl, inr, ⊎_elim}
use mathlib.Core.Bool.{true, false, and-false, false≢true, ◌&&◌}
use mathlib.Core.List.{[], ◌∷◌}
use lib.Dec.{eqb, leb}
use lib.IntN.{ℤ, pos, negsuc, neg_ℤ, ◌*ℤ◌}
use lib.Signed.{lt_z}
use Rattle.varint.specs.Codes.{number_of as signed, magnitude}
use Rattle.params.proofs.ParamLaws.{general}
use Rattle.score.specs.Score.{score_in}
use borrow.Author.Tests.{eqb-false, eq-eqb, ne_eqb, le-leb, lt-leb, le-ltb}
use Rattle.index.proofs.Flags.{cond_case}
use Rattle.records.specs.declared.Peer.{Peer}
use Rattle.records.specs.Records.{State, code_in, peer_in, topic_in, set_clock, set_peer, slot_count}
use Rattle.layout.specs.View.{Sized}
use Rattle.validity.specs.Valid.{max_time, valid}
use Rattle.validity.proofs.ValidLaws.{valid_facts}
use Rattle.lookup.specs.Find.{find_connected}
use Rattle.lookup.proofs.FindLaws.{connected_is}
use Rattle.effects.specs.Actions.{prune_of}
use Rattle.effects.specs.Effects.{high_degree, prune_backoff, with_end, with_p7, into_mesh, on_topic, is_member, mesh_size}
use Rattle.effects.specs.Effects.{end_after}
use Rattle.effects.proofs.EffectLaws.{member_in, member_peer}
use Rattle.rules.specs.Reply.{Reply, number_of}
use Rattle.rules.specs.Calls.{graft, in_range}
use Rattle.rules.specs.declared.GraftCase.{GraftCase}
use Rattle.rules.specs.declared.GraftCase.TheVariants.{AlreadyMember, Enters}
use Rattle.rules.proofs.GraftLaws.{by_graft}
use Rattle.rules.specs.Step.{is_negative, is_graylisted, graft_refused, raised_p7, is_crowded, graft_case, graft_done}
use Rattle.rules.specs.Step.{graft_reply, effect, step}
use Rattle.gate.proofs.StandingLaws.{graylist_is}
use Rattle.rules.proofs.GateLaws.{gate_0}
use Rattle.rules.proofs.CaseLaws.{topic_of_both, arguments, by_gate}
use Rattle.promises.specs.Ends.{end_in}
use Rattle.promises.specs.TakenBack.{MayReturn, IsIn, TakenBack, InOrTold, GraftAnswered}

clocked : (u : State) (time t s : ℕ) → is_member (set_clock u time) t s ≡ is_member u t s
unfolding set_clock is_member topic_in
clocked u time t s = refl

-- ---- a score of zero or more is not graylisted: the threshold is below zero
graylist_some : (st : State) → valid st ≡ true → 1 ≤ magnitude (code_in st 9)
unfolding code_in
graylist_some st v = (general st.codes (valid_facts st v).params).graylist_least

not_below : (z : ℤ) (n : ℕ) → 1 ≤ n → lt_z z (pos 0) ≡ false → lt_z z (neg_ℤ (pos n)) ≡ false
not_below (pos a) zero h e = absurd (omega arith)
not_below (pos a) (suc n) h e = refl
not_below (negsuc a) n h e = absurd (false≢true (sym e))

not_gray : (st : State) (s : ℕ) → valid st ≡ true → lt_z (score_in st s) (pos 0) ≡ false → is_graylisted st s ≡ false
unfolding is_graylisted
not_gray st s ok e =
    let n = magnitude (code_in st 9) * 1000000 in
    let q : lt_z (score_in st s) (signed (code_in st 9) *ℤ pos 1000000) ≡ false =
    ap (lt_z (score_in st s)) (graylist_is st ok) ∙ not_below (score_in st s) n (omega (arith, graylist_some st ok)) e in
    rw q (and-false (eqb (peer_in st s).explicit 0))

-- ---- who may return
module _ (st : State) (time t s : ℕ) (size : Sized st) (ok : valid st ≡ true) (m : MayReturn st time t s) where
  not_full : is_crowded st t && eqb (peer_in st s).outbound 0 ≡ false
  unfolding is_crowded
  not_full =
      ⊎_elim
      (λ l. rw (lt-leb (high_degree st) (mesh_size st t) l))
      (λ o. rw (ne_eqb (peer_in st s).outbound 0 (λ z. omega (arith, z, o))) (and-false (leb (high_degree st) (mesh_size st t))))
      m.room

  returned : IsIn t s (graft_reply st time t s)
  unfolding graft_reply graft_case is_member is_negative
  returned =
      rw (
        eq-eqb _ _ m.joined,
        not_gray st s ok m.score,
        ne_eqb (peer_in st s).explicit 1 (λ z. omega (arith, z, m.plain)),
        le-ltb time (end_in st s t) m.over,
        m.score,
        eq-eqb _ _ m.subscribed,
        not_full,
      )
      (cond_case (λ (k : GraftCase). IsIn t s (graft_done k st time t s)) (is_member st t s) AlreadyMember Enters
      (λ e. record { answer = refl; actions = refl; member = clocked st time t s ∙ e })
      (λ e.
      record {
        answer = refl;
        actions = refl;
        member = clocked (on_topic st s t (λ r. into_mesh r time)) time t s ∙ member_in st s t size m.slot m.topic time;
      }))

pub taken_back : TakenBack
unfolding step effect in_range
taken_back st time t s room size ok c top l m =
    let id = (peer_in st s).id in
    let f = valid_facts st ok in
    let p = f.peer s m.slot in
    let used = p.used (λ z. omega (arith, z, m.connected)) in
    let fine : in_range (graft time id t) ≡ true =
    rw (le-leb time max_time top, le-leb 1 id used, le-leb id 4294967295 p.id, le-leb t 7 (omega (arith, m.topic))) in
    let g = gate_0 st (in_range (graft time id t)) room time st.clock ok fine l refl c in
    let at_slot : find_connected st id ≡ Some s = connected_is st f s m.slot m.connected in
    rw (← g, at_slot) (returned st time t s size ok m)

-- ---- in, or told
module _ (st : State) (time t s : ℕ) (size : Sized st) (h : s < slot_count) (k : t < 8) where
  abbrev Done : Reply → Type 0
  Done r = InOrTold st t s r

  -- p is the record that gets the end
  back : (p : Peer) → prune_of p (prune_backoff st) ≡ prune_of (peer_in st s) (prune_backoff st) → is_member st t s ≡ false →
      Done (graft_refused st time t s p)
  unfolding graft_refused
  back p q e =
      let w = with_end p t (end_after time (prune_backoff st)) in
      record { either = λ z. inr (clocked (set_peer st s w) time t s ∙ member_peer st s w s t ∙ e, ap (λ a. a ∷ []) q) }

  answered : Done (graft_reply st time t s)
  unfolding is_member raised_p7 with_p7
  answered =
      by_graft Done st time t s
      (λ e. record { either = λ z. absurd (omega (arith, z)) })
      (λ e m. record { either = λ z. inl (clocked st time t s ∙ m, refl) })
      (λ e. back (peer_in st s) refl e.new)
      (λ e. back (raised_p7 (peer_in st s)) refl e.outside.new)
      (λ e. record { either = λ z. inl (clocked (on_topic st s t (λ r. into_mesh r time)) time t s ∙ member_in st s t size h k time, refl) })

pub graft_answered : GraftAnswered
unfolding effect
graft_answered st time t s room size h on =
    let id = (peer_in st s).id in
    by_gate (InOrTold st t s) st (graft time id t) room
    (λ a e. record { either = λ z. absurd (eqb-false (number_of a) 0 e z) })
    (λ p.
    let at_slot : find_connected st id ≡ Some s = connected_is st (valid_facts st p.router) s h on in
    rw at_slot (answered st time t s size h (topic_of_both id t (arguments (graft time id t) p.ranges))))
