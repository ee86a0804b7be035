-- One call of a host, from its function's promise: what comes back, the lists and what is left are the rules'. A function that is handed
-- the table alone leaves the array, and its call does nothing besides 01's.
-- Assumes nothing.
use Rattle.index.proofs.Kit.{ℕ, arith, ◌≡◌, refl, sym, ap, ◌∙◌}
use mathlib.Core.Path.{ap₂}
use mathlib.Core.Bool.{Bool, true, false, true≢false}
use mathlib.Core.List.{List}
use lib.Dec.{eqb}
use lib.ListN.{length}
use lib.Seq.{sets}
use Rattle.index.proofs.Flags.{cond_case}
use Rattle.records.specs.Records.{State}
use Rattle.effects.specs.Actions.{numbers_of}
use Rattle.answers.specs.Answers.{answer_code}
use Rattle.rules.specs.Reply.{number_of}
use Rattle.rules.specs.Calls.{Call, connect, disconnect, join, leave, subscribe, unsubscribe, graft, prune, deliver, rate, heartbeat, decay}
use Rattle.rules.specs.Calls.{score}
use Rattle.rules.specs.Step.{step}
use Rattle.rules.proofs.CountLaws.{counted}
use Rattle.gossip.specs.Notes.{Gossip, Extended}
use Rattle.gossip.specs.Calls.{New, ask_all, idontwant, relay, beat, store, announce, ihave, iwant, Any, old, new}
use Rattle.gossip.specs.Step.{FullReply, besides, extended, handed, old_step, step_all}
use Rattle.gossip_table.specs.View.{gossip_of, extended_of}
use Rattle.gossip_gate.specs.Promise.{reply_code, FollowsAll}
use Rattle.host_gossip_lists.specs.Hosted.{HostCall, RunsBoth, RunsTelling, RunsAlone, RunsOld, RunsNew, RunsAny, Runs}
use Rattle.host_gossip_lists.proofs.Numbers.{Silent, silent_old, silent_ask, silent_idontwant, silent_relay, silent_beat}
use Rattle.host_gossip_lists.proofs.Numbers.{silent_store, silent_iwant}

-- ---- 01's calls without the array
-- what they do besides is nothing
nothing_besides : (st : State) (g : Gossip) (c : Call) → handed c ≡ false → besides st c g ≡ g
unfolding besides
nothing_besides st g (connect time id groups flags name) e = absurd (true≢false e)
nothing_besides st g (disconnect time id) e = absurd (true≢false e)
nothing_besides st g (join time t) e = refl
nothing_besides st g (leave time t) e = absurd (true≢false e)
nothing_besides st g (subscribe time id t) e = refl
nothing_besides st g (unsubscribe time id t) e = refl
nothing_besides st g (graft time id t) e = refl
nothing_besides st g (prune time id t seconds) e = refl
nothing_besides st g (deliver time id t kind) e = refl
nothing_besides st g (rate time id p5) e = refl
nothing_besides st g (heartbeat time t ask order) e = refl
nothing_besides st g (decay time) e = refl
nothing_besides st g (score time id) e = refl

module _ (x : Extended) (c : Call) (room : ℕ) (e : handed c ≡ false) where
  -- test 12 looks at the table alone
  alone_reply : step_all x (old c) room ≡ extended x c (step x.base c room)
  unfolding step_all old_step
  alone_reply = rw e

  alone_gossip : (extended x c (step x.base c room)).state.gossip ≡ x.gossip
  alone_gossip =
      cond_case (λ (g : Gossip). g ≡ x.gossip) (eqb (number_of (step x.base c room).answer) 0) (besides x.base c x.gossip)
      x.gossip
      (λ z. nothing_besides x.base x.gossip c e)
      (λ z. refl)

  -- what comes back counts the actions
  alone_code : answer_code (step x.base c room).answer ≡ reply_code (extended x c (step x.base c room))
  alone_code = let k = (counted x.base c room).counts in omega (arith, k)

-- ---- one call
abbrev pub reply_of : HostCall → (table gossip : List ℕ) → FullReply
reply_of c table gossip = step_all (extended_of table gossip) c.call (length c.list)

abbrev both : State → Gossip → Extended
both st g = record { base = st; gossip = g }

pub record Ran (c : HostCall) (table table' gossip gossip' : List ℕ) : Type 0 where
  pub code : c.code ≡ reply_code (reply_of c table gossip)
  pub state : extended_of table' gossip' ≡ (reply_of c table gossip).state
  pub actions : c.list' ≡ sets c.list 0 (numbers_of (reply_of c table gossip).actions)
  pub numbers : c.numbers' ≡ sets c.numbers 0 (reply_of c table gossip).numbers

module _ (c : HostCall) (table table' gossip gossip' : List ℕ) where
  abbrev o : FullReply
  o = reply_of c table gossip

  untouched : Silent o → c.numbers' ≡ c.numbers → c.numbers' ≡ sets c.numbers 0 o.numbers
  untouched h e = e ∙ sym (ap (sets c.numbers 0) h)

  follows :
      FollowsAll c.call c.code table table' gossip gossip' c.list c.list' →
      c.numbers' ≡ sets c.numbers 0 o.numbers →
      Ran c table table' gossip gossip'
  follows f n =
      record {
        code = f.leaves.answer;
        state = ap₂ both f.leaves.base f.leaves.others;
        actions = f.actions;
        numbers = n;
      }

  ran_both : Silent o → RunsBoth c table table' gossip gossip' → Ran c table table' gossip gossip'
  ran_both h p = follows p.0 (untouched h p.1)

  ran_telling : (many : ℕ) → RunsTelling c table table' gossip gossip' many → Ran c table table' gossip gossip'
  ran_telling many p = follows p.0 p.1

  ran_alone :
      (k : Call) →
      c.call ≡ old k →
      handed k ≡ false →
      Silent o →
      RunsAlone c table table' gossip gossip' k →
      Ran c table table' gossip gossip'
  ran_alone k e h s p =
      let x = extended_of table gossip in
      let room = length c.list in
      let r : o ≡ extended x k (step x.base k room) =
      ap (λ (a : Any). step_all x a room) e ∙ alone_reply x k room h in
      let g : gossip_of gossip' ≡ (extended x k (step x.base k room)).state.gossip =
      ap gossip_of p.1 ∙ sym (alone_gossip x k room h) in
      record {
        code = p.0.answer ∙ alone_code x k room h ∙ sym (ap reply_code r);
        state = ap₂ both p.0.state g ∙ sym (ap (λ (w : FullReply). w.state) r);
        actions = p.0.actions ∙ sym (ap (λ (w : FullReply). sets c.list 0 (numbers_of w.actions)) r);
        numbers = untouched s p.2;
      }

  -- 01's calls by whether they are handed the array, the others by which they are
  silent_by : (a : Any) → c.call ≡ a → Silent (step_all (extended_of table gossip) a (length c.list)) → Silent o
  silent_by a e h = ap (λ (k : Any). (step_all (extended_of table gossip) k (length c.list)).numbers) e ∙ h

  ran_old :
      (b : Bool) (k : Call) →
      c.call ≡ old k →
      handed k ≡ b →
      RunsOld c table table' gossip gossip' b k →
      Ran c table table' gossip gossip'
  ran_old true k e h p = ran_both (silent_by (old k) e (silent_old _ _ k)) p
  ran_old false k e h p = ran_alone k e h (silent_by (old k) e (silent_old _ _ k)) p

  ran_new : (k : New) → c.call ≡ new k → RunsNew c table table' gossip gossip' k → Ran c table table' gossip gossip'
  ran_new (ask_all time t sender n) e p = ran_both (silent_by _ e (silent_ask _ _ time t sender n)) p
  ran_new (idontwant time id n) e p = ran_both (silent_by _ e (silent_idontwant _ _ time id n)) p
  ran_new (relay time t sender n) e p = ran_both (silent_by _ e (silent_relay _ _ time t sender n)) p
  ran_new (beat time) e p = ran_both (silent_by _ e (silent_beat _ _ time)) p
  ran_new (store time t n) e p = ran_both (silent_by _ e (silent_store _ _ time t n)) p
  ran_new (announce time t order many) e p = ran_telling many p
  ran_new (ihave time id t given many) e p = ran_telling many p
  ran_new (iwant time id n) e p = ran_both (silent_by _ e (silent_iwant _ _ time id n)) p

  ran_any : (k : Any) → c.call ≡ k → RunsAny c table table' gossip gossip' k → Ran c table table' gossip gossip'
  ran_any (old k) e p = ran_old (handed k) k e refl p
  ran_any (new k) e p = ran_new k e p

  pub ran : Runs c table table' gossip gossip' → Ran c table table' gossip gossip'
  ran p = ran_any c.call refl p
