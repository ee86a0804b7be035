-- From the promise alone: the rules see the state of a table, which both forms hold, and the state fixes every cell of the old form.
-- Assumes nothing.
use mathlib.Core.Path.{sym, ap, ◌∙◌}
use lib.ListN.{length}
use lib.Seq.{sets}
use Rattle.records.specs.Records.{State}
use Rattle.layout.specs.View.{state_of}
use Rattle.rows.proofs.Whole.{determined}
use Rattle.effects.specs.Actions.{numbers_of}
use Rattle.gossip.specs.Step.{FullReply, step_all}
use Rattle.gossip_table.specs.View.{gossip_of}
use Rattle.gossip_gate.specs.Promise.{reply_code, refusal}
use Rattle.forms_gossip.specs.Same.{SameCallsAll}

pub same_calls_all : SameCallsAll
same_calls_all c r table table' rows rows' gossip gossip' list list' l l' e e' f =
    let reply : State → FullReply = λ u. step_all (record { base = u; gossip = gossip_of gossip }) c (length list) in
    record {
      answer = f.leaves.answer ∙ ap (λ (u : State). reply_code (reply u)) (sym e);
      base = e' ∙ f.leaves.base ∙ ap (λ (u : State). (reply u).state.base) (sym e);
      others = f.leaves.others ∙ ap (λ (u : State). (reply u).state.gossip) (sym e);
      kept = λ h.
          let k = f.leaves.kept (ap (λ (u : State). refusal (reply u).answer) (sym e) ∙ h) in
          (determined rows' rows l' l (e' ∙ ap state_of k.0 ∙ sym e), k.1);
      actions = f.actions ∙ ap (λ (u : State). sets list 0 (numbers_of (reply u).actions)) (sym e);
    }
