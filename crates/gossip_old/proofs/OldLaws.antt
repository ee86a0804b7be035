-- From what 01's call promises, and what is done to the array besides, to what the call with the array promises.
-- Assumes nothing.
use Rattle.std.proofs.Common.{Option, Some, None}
use Rattle.index.proofs.Kit.{ℕ, ◌<◌, ◌≡◌, refl, sym, ap, ◌∙◌, Bool, true, false, arith}
use mathlib.Core.Bool.{cond, false≢true, ◌&&◌}
use mathlib.Core.List.{List}
use lib.Dec.{eqb}
use lib.ListN.{length}
use borrow.Author.Tests.{ne_eqb}
use Rattle.index.proofs.Index.{both}
use Rattle.index.proofs.Flags.{by_test}
use Rattle.records.specs.Records.{State, topic_count, peer_in}
use Rattle.layout.specs.View.{state_of}
use Rattle.validity.specs.Valid.{valid}
use Rattle.lookup.specs.Find.{find_connected}
use Rattle.lookup.proofs.FindLaws.{connected_at}
use Rattle.effects.specs.Effects.{reclaimable}
use Rattle.answers.specs.Answers.{answer_code}
use Rattle.rules.specs.declared.Answer.{Answer}
use Rattle.rules.specs.declared.Answer.TheVariants.{Done, Scored, Early, OutOfRange, NotConnected, AlreadyConnected, NoSlot}
use Rattle.rules.specs.declared.Answer.TheVariants.{UnknownProtocol, NotPermutation, ListShort, Ignored, NotRouter}
use Rattle.rules.specs.Reply.{Reply, number_of, actions_of, refuses}
use Rattle.rules.specs.Calls.{Call, connect, disconnect, leave}
use Rattle.rules.specs.Step.{step, gate_of}
use Rattle.rules.specs.Promise.{Follows}
use Rattle.rules.proofs.CaseLaws.{by_gate, topic_in_lem, arguments}
use Rattle.rules.proofs.CountLaws.{counted}
use Rattle.gossip.specs.Notes.{Gossip, no_store, set_note, set_store, set_replies, note_in, ended, forget}
use Rattle.gossip.specs.Valid.{gossip_ok, valid_all}
use Rattle.gossip.specs.Calls.{old}
use Rattle.gossip.specs.Step.{refused_all, kept, parted, on_found_note, besides, extended, handed, old_step, step_all}
use Rattle.gossip_table.specs.View.{gossip_cells, gossip_of, extended_of}
use Rattle.gossip_table.specs.Fine.{Fine, FineTopic, KeptSlot, Lent}
use Rattle.gossip_table.proofs.StoreParts.{fine_kept}
use Rattle.gossip_gate.specs.Promise.{refusal, reply_code, FollowsAll}
use Rattle.gossip_gate.proofs.PromiseLaws.{gives_refused}
use Rattle.gossip_old.specs.Tested.{Tested, GivesOld, FineFound, emptied}

-- an answer that is neither 0 nor 11 is a refusal
refused_too : (a : Answer) → refusal (number_of a) ≡ true → refuses a ≡ true
refused_too (Done n) e = absurd (false≢true e)
refused_too (Scored w) e = absurd (false≢true e)
refused_too Early e = refl
refused_too OutOfRange e = refl
refused_too NotConnected e = refl
refused_too AlreadyConnected e = refl
refused_too NoSlot e = refl
refused_too UnknownProtocol e = refl
refused_too NotPermutation e = refl
refused_too ListShort e = refl
refused_too Ignored e = absurd (false≢true e)
refused_too NotRouter e = refl

-- 11 is said by one answer alone
ignored_too : (a : Answer) → number_of a ≡ 11 → a ≡ Ignored
ignored_too (Done n) e = absurd (omega (arith, e))
ignored_too (Scored w) e = absurd (omega (arith, e))
ignored_too Early e = absurd (omega (arith, e))
ignored_too OutOfRange e = absurd (omega (arith, e))
ignored_too NotConnected e = absurd (omega (arith, e))
ignored_too AlreadyConnected e = absurd (omega (arith, e))
ignored_too NoSlot e = absurd (omega (arith, e))
ignored_too UnknownProtocol e = absurd (omega (arith, e))
ignored_too NotPermutation e = absurd (omega (arith, e))
ignored_too ListShort e = absurd (omega (arith, e))
ignored_too Ignored e = refl
ignored_too NotRouter e = absurd (omega (arith, e))

module _ (c : Call) (a : Answer) (table table' gossip list list' : List ℕ) (f : Follows c a table table' list list') where
  abbrev o : Reply
  o = step (state_of table) c (length list)

  -- what comes back counts the actions
  coded : (r : ℕ) → r ≡ answer_code a → r ≡ reply_code (extended (extended_of table gossip) c o)
  coded r e =
      let n : number_of a ≡ number_of o.answer = ap number_of f.leaves.answer in
      let m : actions_of a ≡ actions_of o.answer = ap actions_of f.leaves.answer in
      let k = (counted (state_of table) c (length list)).counts in
      omega (arith, e, n, m, k)

  -- 0: what the call does besides
  pub old_done :
      (r n : ℕ) (gossip' : List ℕ) →
      n ≡ number_of a →
      n ≡ 0 →
      r ≡ answer_code a →
      gossip_of gossip' ≡ besides (state_of table) c (gossip_of gossip) →
      GivesOld c r table table' gossip gossip' list list'
  old_done r n gossip' en z er eg =
      let zero : number_of o.answer ≡ 0 = sym (ap number_of f.leaves.answer) ∙ sym en ∙ z in
      record {
        leaves = record {
          answer = coded r er;
          base = f.leaves.state;
          others = eg ∙ sym (ap (λ (k : ℕ). cond (eqb k 0) (besides (state_of table) c (gossip_of gossip)) (gossip_of gossip)) zero);
          kept = λ e. absurd (false≢true (sym (ap refusal zero) ∙ e));
          clock = λ e. absurd (omega (arith, zero, e));
        };
        actions = f.actions;
      }

  -- any other answer leaves the array as it was
  pub old_else :
      (r n : ℕ) →
      n ≡ number_of a →
      (n ≡ 0 → ⊥) →
      r ≡ answer_code a →
      GivesOld c r table table' gossip gossip list list'
  old_else r n en nz er =
      let some : eqb (number_of o.answer) 0 ≡ false =
      ne_eqb (number_of o.answer) 0 (λ z. nz (en ∙ ap number_of f.leaves.answer ∙ z)) in
      record {
        leaves = record {
          answer = coded r er;
          base = f.leaves.state;
          others = sym (ap (λ (b : Bool). cond b (besides (state_of table) c (gossip_of gossip)) (gossip_of gossip)) some);
          kept = λ e. (f.leaves.kept (refused_too a (ap (λ (b : Answer). refusal (number_of b)) f.leaves.answer ∙ e)), refl);
          clock = λ e. (f.leaves.clock (ignored_too a (ap number_of f.leaves.answer ∙ e)), refl);
        };
        actions = f.actions;
      }

-- ---- test 12
module _ (table gossip : List ℕ) where
  pub test_table : valid (state_of table) ≡ false → false ≡ valid_all (extended_of table gossip)
  unfolding valid_all
  test_table e = sym (ap (λ (b : Bool). b && gossip_ok (state_of table) (gossip_of gossip)) e)

  pub test_array :
      (r : Bool) → valid (state_of table) ≡ true → r ≡ gossip_ok (state_of table) (gossip_of gossip) → r ≡ valid_all (extended_of table gossip)
  unfolding valid_all
  test_array r e g = g ∙ sym (ap (λ (b : Bool). b && gossip_ok (state_of table) (gossip_of gossip)) e)

pub tested : (table gossip : List ℕ) → valid_all (extended_of table gossip) ≡ true → Tested table gossip
unfolding valid_all
tested table gossip e = (both (valid (state_of table)) (gossip_ok (state_of table) (gossip_of gossip)) e).1

module _ (c : Call) (table gossip list : List ℕ) (h : handed c ≡ true) where
  step_behind :
      gossip_ok (state_of table) (gossip_of gossip) ≡ true →
      step_all (extended_of table gossip) (old c) (length list)
      ≡ extended (extended_of table gossip) c (step (state_of table) c (length list))
  unfolding step_all old_step
  step_behind ok = rw (h, ok)

  pub old_passes :
      (r : ℕ) (table' gossip' list' : List ℕ) →
      Tested table gossip →
      GivesOld c r table table' gossip gossip' list list' →
      FollowsAll (old c) r table table' gossip gossip' list list'
  old_passes r table' gossip' list' t g = rw (step_behind t) g

  -- where the table is no router's 01's call is refused as the call is, whatever the array holds
  step_refused :
      valid_all (extended_of table gossip) ≡ false →
      step_all (extended_of table gossip) (old c) (length list) ≡ refused_all 12 (extended_of table gossip)
  unfolding step_all old_step valid_all step gate_of
  step_refused e =
      by_test _ (gossip_ok (state_of table) (gossip_of gossip))
      (λ g. by_test _ (valid (state_of table))
      (λ v. absurd (false≢true (sym e ∙ rw (v, g))))
      (λ v. rw (h, g, v)))
      (λ g. rw (h, g))

  pub old_refused :
      valid_all (extended_of table gossip) ≡ false → FollowsAll (old c) 12 table table gossip gossip list list
  old_refused e = rw (step_refused e) (gives_refused 12 table gossip list)

-- ---- what the inner functions rely on, and what they leave
tested_fine : (table gossip : List ℕ) → length gossip ≡ gossip_cells → Tested table gossip → Fine gossip
tested_fine table gossip l t = record { size = l; base = state_of table; ok = t }

pub tested_found :
    (table gossip : List ℕ) (id : ℕ) (r : Option ℕ) →
    length gossip ≡ gossip_cells →
    Tested table gossip →
    r ≡ find_connected (state_of table) id →
    FineFound gossip r
tested_found table gossip id r l t e =
    record { fine = tested_fine table gossip l t; slot = λ s z. (connected_at (state_of table) id s (sym e ∙ z)).0 }

pub found_kept : {gossip : List ℕ} {r : Option ℕ} (s : ℕ) → FineFound gossip r → r ≡ Some s → KeptSlot gossip s
found_kept s f e = record { kept = fine_kept f.fine; slot = f.slot s e }

pub found_lent :
    {gossip : List ℕ} {r : Option ℕ} (u : List ℕ) (s : ℕ) → FineFound gossip r → r ≡ Some s → length u ≡ length gossip → Lent u s
found_lent u s f e l = record { size = l ∙ f.fine.size; slot = f.slot s e }

pub parted_none : (r : Option ℕ) (g : Gossip) → r ≡ None → g ≡ on_found_note r g
parted_none r g e = sym (ap (λ (k : Option ℕ). on_found_note k g) e)

-- the connection's replies first, then its set
pub parted_both :
    (g h u : Gossip) (r : Option ℕ) (s : ℕ) →
    r ≡ Some s →
    h ≡ set_replies g (ended s g.replies) →
    u ≡ set_note h s (parted (note_in h s)) →
    u ≡ on_found_note r g
unfolding set_replies set_note note_in
parted_both g h u r s z e d =
    d ∙ ap (λ (k : Gossip). set_note k s (parted (note_in k s))) e ∙ sym (ap (λ (k : Option ℕ). on_found_note k g) z)

pub besides_connect :
    (st : State) (time id : ℕ) (groups : List ℕ) (flags : ℕ) (name : List ℕ) (g : Gossip) →
    emptied (λ s. reclaimable (peer_in st s) time) g ≡ besides st (connect time id groups flags name) g
unfolding besides kept
besides_connect st time id groups flags name g = refl

pub besides_disconnect :
    (st : State) (time id : ℕ) (r : Option ℕ) (g u : Gossip) →
    r ≡ find_connected st id →
    u ≡ on_found_note r g →
    u ≡ besides st (disconnect time id) g
unfolding besides
besides_disconnect st time id r g u e d = d ∙ ap (λ (k : Option ℕ). on_found_note k g) e

pub besides_leave :
    (st : State) (time t : ℕ) (g u : Gossip) → u ≡ forget (set_store g t no_store) → u ≡ besides st (leave time t) g
unfolding besides
besides_leave st time t g u e = e

pub leave_fits :
    (table gossip : List ℕ) (t : ℕ) → length gossip ≡ gossip_cells → Tested table gossip → t < topic_count → FineTopic gossip t
leave_fits table gossip t l h b = record { fine = tested_fine table gossip l h; topic = b }

-- a leave that is answered 0 was of a topic
pub leave_topic :
    (table table' list list' : List ℕ) (time t n : ℕ) (a : Answer) →
    Follows (leave time t) a table table' list list' →
    n ≡ number_of a →
    n ≡ 0 →
    t < topic_count
leave_topic table table' list list' time t n a f en z =
    by_gate (λ (r : Reply). number_of r.answer ≡ 0 → t < topic_count) (state_of table) (leave time t) (length list)
    (λ b e k. absurd (false≢true (sym e ∙ ap (λ (m : ℕ). eqb m 0) k)))
    (λ p k. topic_in_lem t (arguments (leave time t) p.ranges))
    (sym (ap number_of f.leaves.answer) ∙ sym en ∙ z)
