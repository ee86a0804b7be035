-- From the number of `admit` to what a public call promises and what its inner function may rely on, for a call that is lent an action list
-- and no list of numbers: its code tests that list's length alone.
-- Assumes nothing.
use Rattle.index.proofs.Kit.{ℕ, ◌≤◌, ◌<◌, ◌≡◌, refl, sym, ◌∙◌, Bool, true, false}
use mathlib.Core.Bool.{◌&&◌}
use mathlib.Core.List.{List, []}
use lib.Dec.{leb}
use lib.ListN.{length}
use borrow.Author.Tests.{leb-true}
use Rattle.index.proofs.Index.{both}
use Rattle.rules.specs.Calls.{time_ok, topic_ok}
use Rattle.rules.specs.Step.{action_room}
use Rattle.rules.proofs.CaseLaws.{topic_in_lem}
use Rattle.gossip.specs.Calls.{New, new, time_of_new, new_arguments_ok, list_ok}
use Rattle.gossip.specs.Step.{new_effect}
use Rattle.gossip_table.specs.View.{extended_of}
use Rattle.gossip_gate.specs.Promise.{LeavesAll, GivesAll, FollowsAll, gate_all}
use Rattle.gossip_gate.proofs.PromiseLaws.{gives_quiet}
use Rattle.gossip_gate.proofs.GateLaws.{gate_refusal, gate_gives, gate_fine, gate_lists}

one_list : (b d : Bool) → d ≡ true → b ≡ (b && d)
one_list true d e = sym e
one_list false d e = refl

module _
    (c : New)
    (table gossip list : List ℕ)
    (a b : Bool)
    (n : ℕ)
    (ea : a ≡ time_ok (time_of_new c))
    (eb : b ≡ new_arguments_ok c)
    (el : list_ok c ≡ true)
    (en : n ≡ gate_all (extended_of table gossip) (a && b) (leb action_room (length list)) (time_of_new c))
  where
    abbrev long : Bool
    long = leb action_room (length list)

    pub call_refused : (n ≡ 0 → ⊥) → FollowsAll (new c) n table table gossip gossip list list
    call_refused ne = gate_refusal c table gossip list a b long n ea eb (one_list long (list_ok c) el) en ne

    module _ (e : n ≡ 0) (r : ℕ) (table' gossip' : List ℕ) where
      pub call_gives :
          (list' : List ℕ) →
          GivesAll (new_effect (extended_of table gossip) c) r table table' gossip gossip' list list' →
          FollowsAll (new c) r table table' gossip gossip' list list'
      call_gives list' h = gate_gives c table gossip list a b long n ea eb (one_list long (list_ok c) el) en e r table' gossip' list' h

      -- a call that gives no action
      pub call_quiet :
          (new_effect (extended_of table gossip) c).actions ≡ [] →
          LeavesAll (new_effect (extended_of table gossip) c) r table table' gossip gossip' →
          FollowsAll (new c) r table table' gossip gossip' list list
      call_quiet q h = call_gives list (gives_quiet (new_effect (extended_of table gossip) c) r table table' gossip gossip' list q h)

-- ---- what the inner function may rely on, beside `gate_admitted`
pub call_room :
    (table gossip list : List ℕ) (a b : Bool) (time n : ℕ) →
    n ≡ gate_all (extended_of table gossip) (a && b) (leb action_room (length list)) time →
    n ≡ 0 →
    action_room ≤ length list
call_room table gossip list a b time n en e =
    leb-true action_room (length list) (gate_lists table gossip a b (leb action_room (length list)) time n en e)

-- a topic before another argument
pub call_topic :
    (table gossip : List ℕ) (a b d f : Bool) (time n t : ℕ) →
    n ≡ gate_all (extended_of table gossip) (a && (b && d)) f time →
    n ≡ 0 →
    b ≡ topic_ok t →
    t < 8
call_topic table gossip a b d f time n t en e eb =
    topic_in_lem t (sym eb ∙ (both b d (gate_fine table gossip a (b && d) f time n en e)).0)
