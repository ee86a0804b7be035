-- From the number of the tests 12, 2, 8 and 1 to what a new call promises and what its inner function may rely on: one law for every call.
-- Assumes nothing.
use Rattle.index.proofs.Kit.{ℕ, ◌≤◌, ◌≡◌, refl, sym, ap, ◌∙◌, Bool, true, false, arith}
use mathlib.Core.Path.{ap₂}
use mathlib.Core.Bool.{cond, ◌&&◌}
use mathlib.Core.List.{List, []}
use lib.Dec.{leb}
use lib.ListN.{length}
use borrow.Author.Tests.{leb-true}
use Rattle.index.proofs.Index.{both}
use Rattle.layout.specs.View.{cell_count}
use Rattle.validity.specs.Valid.{max_time}
use Rattle.effects.specs.Actions.{numbers_of}
use Rattle.rules.specs.Calls.{time_ok}
use Rattle.rules.specs.Step.{action_room}
use Rattle.gossip.specs.Notes.{Extended}
use Rattle.gossip.specs.Valid.{valid_all}
use Rattle.gossip.specs.Calls.{New, new, time_of_new, new_arguments_ok, new_in_range, list_ok}
use Rattle.gossip.specs.Step.{FullReply, refused_all, gated, new_effect, new_step, step_all}
use Rattle.gossip_table.specs.View.{gossip_cells, extended_of}
use Rattle.gossip_gate.specs.Promise.{GivesAll, FollowsAll, gate_all}
use Rattle.gossip_gate.specs.Admitted.{Admitted}
use Rattle.gossip_gate.proofs.PromiseLaws.{gated_passes, gated_refuses, leaves_refused}

-- what is known behind the tests
pub record Passed (x : Extended) (fine fits : Bool) (time : ℕ) : Type 0 where
  pub router : valid_all x ≡ true
  pub ranges : fine ≡ true
  pub lists : fits ≡ true
  pub clock : x.base.clock ≤ time

pub gate_passed : (x : Extended) (fine fits : Bool) (time : ℕ) → gate_all x fine fits time ≡ 0 → Passed x fine fits time
unfolding gate_all
gate_passed x fine fits time e =
    go (valid_all x) fine fits (leb x.base.clock time) refl refl refl refl e
  where
    go : (a b d f : Bool) → valid_all x ≡ a → fine ≡ b → fits ≡ d → leb x.base.clock time ≡ f →
        ◌≡◌ {A = ℕ} (cond a (cond b (cond d (cond f 0 1) 8) 2) 12) 0 → Passed x fine fits time
    go true true true true ea eb ed ef z =
        record { router = ea; ranges = eb; lists = ed; clock = leb-true x.base.clock time ef }
    go true true true false ea eb ed ef z = absurd (omega arith)
    go true true false f ea eb ed ef z = absurd (omega arith)
    go true false d f ea eb ed ef z = absurd (omega arith)
    go false b d f ea eb ed ef z = absurd (omega arith)

module _
    (c : New)
    (table gossip list : List ℕ)
    (a b d : Bool)
    (n : ℕ)
    (ea : a ≡ time_ok (time_of_new c))
    (eb : b ≡ new_arguments_ok c)
    (ed : d ≡ (leb action_room (length list) && list_ok c))
    (en : n ≡ gate_all (extended_of table gossip) (a && b) d (time_of_new c))
  where
    abbrev x : Extended
    x = extended_of table gossip

    -- what the tests were asked is the call's
    word : gate_all x (new_in_range c) (leb action_room (length list) && list_ok c) (time_of_new c) ≡ n
    unfolding new_in_range
    word =
        sym (en
        ∙ ap (λ (f : Bool). gate_all x f d (time_of_new c)) (ap₂ ◌&&◌ ea eb)
        ∙ ap (λ (f : Bool). gate_all x (time_ok (time_of_new c) && new_arguments_ok c) f (time_of_new c)) ed)

    step_is :
        (o : FullReply) →
        gated x (new_in_range c) (leb action_room (length list) && list_ok c) (time_of_new c) (new_effect x c) ≡ o →
        step_all x (new c) (length list) ≡ o
    unfolding step_all new_step
    step_is o e = e

    pub gate_refusal : (n ≡ 0 → ⊥) → FollowsAll (new c) n table table gossip gossip list list
    unfolding numbers_of
    gate_refusal ne =
        rw (step_is (refused_all n x)
        (gated_refuses x (new_in_range c) (leb action_room (length list) && list_ok c) (time_of_new c) (new_effect x c) n word ne))
        (record { leaves = leaves_refused n table gossip; actions = refl })

    pub gate_silent : (n ≡ 0 → ⊥) → (step_all x (new c) (length list)).numbers ≡ []
    gate_silent ne =
        ap (λ (o : FullReply). o.numbers)
        (step_is (refused_all n x)
        (gated_refuses x (new_in_range c) (leb action_room (length list) && list_ok c) (time_of_new c) (new_effect x c) n word ne))

    module _ (e : n ≡ 0) where
      passes : step_all x (new c) (length list) ≡ new_effect x c
      passes =
          step_is (new_effect x c)
          (gated_passes x (new_in_range c) (leb action_room (length list) && list_ok c) (time_of_new c) (new_effect x c) (word ∙ e))

      pub gate_gives :
          (r : ℕ) (table' gossip' list' : List ℕ) →
          GivesAll (new_effect x c) r table table' gossip gossip' list list' →
          FollowsAll (new c) r table table' gossip gossip' list list'
      gate_gives r table' gossip' list' h = rw passes h

      pub gate_numbers : (step_all x (new c) (length list)).numbers ≡ (new_effect x c).numbers
      gate_numbers = ap (λ (o : FullReply). o.numbers) passes

-- ---- what the inner function of a call may rely on
module _
    (table gossip : List ℕ)
    (a b d : Bool)
    (time n : ℕ)
    (en : n ≡ gate_all (extended_of table gossip) (a && b) d time)
    (e : n ≡ 0)
  where
    behind : Passed (extended_of table gossip) (a && b) d time
    behind = gate_passed (extended_of table gossip) (a && b) d time (sym en ∙ e)

    pub gate_fine : b ≡ true
    gate_fine = (both a b behind.ranges).1

    pub gate_lists : d ≡ true
    gate_lists = behind.lists

    pub gate_admitted : a ≡ time_ok time → length table ≡ cell_count → length gossip ≡ gossip_cells → Admitted table gossip time
    gate_admitted ea l m =
        record {
          size = l;
          sizes = m;
          router = behind.router;
          late = behind.clock;
          range = leb-true time max_time (sym ea ∙ (both a b behind.ranges).0);
        }
