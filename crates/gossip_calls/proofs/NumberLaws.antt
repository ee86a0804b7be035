-- From the number of `admit` to what a public call promises and what its inner function may rely on: for a call that is lent a list of
-- numbers besides the action list, and for a topic that is the only argument.
-- Assumes nothing.
use Rattle.index.proofs.Kit.{ℕ, ◌≡◌, sym, ap, ◌∙◌, Bool, true}
use mathlib.Core.Path.{ap₂}
use mathlib.Core.Bool.{◌&&◌}
use mathlib.Core.List.{List, []}
use lib.Dec.{leb}
use lib.ListN.{length}
use lib.Seq.{sets}
use borrow.Author.Tests.{leb-true}
use Rattle.index.proofs.Index.{both}
use Rattle.layout.specs.View.{cell_count}
use Rattle.rules.specs.Calls.{id_ok, time_ok, topic_ok}
use Rattle.rules.specs.Step.{action_room}
use Rattle.rules.proofs.CaseLaws.{topic_in_lem}
use Rattle.gossip.specs.Notes.{numbers_most}
use Rattle.gossip.specs.Calls.{New, new, time_of_new, new_arguments_ok, list_ok}
use Rattle.gossip.specs.Step.{FullReply, new_effect}
use Rattle.gossip_table.specs.View.{gossip_cells, extended_of}
use Rattle.gossip_gate.specs.Promise.{GivesAll, FollowsAll, Tells, gate_all}
use Rattle.gossip_gate.specs.Admitted.{SlotAdmitted, TopicAdmitted}
use Rattle.gossip_gate.proofs.GateLaws.{gate_refusal, gate_silent, gate_gives, gate_numbers, gate_fine, gate_lists, gate_admitted}
use Rattle.gossip_calls.specs.Asked.{Announcing, HavingAt}

-- a reply without numbers leaves the lent list as it was
pub no_numbers : (numbers : List ℕ) (o p : FullReply) → o ≡ p → p.numbers ≡ [] → numbers ≡ sets numbers 0 o.numbers
no_numbers numbers o p e z = sym (ap (λ (q : FullReply). sets numbers 0 q.numbers) e ∙ ap (sets numbers 0) z)

module _
    (c : New)
    (table gossip list numbers : List ℕ)
    (a b d : Bool)
    (n : ℕ)
    (ea : a ≡ time_ok (time_of_new c))
    (eb : b ≡ new_arguments_ok c)
    (ed : d ≡ (leb action_room (length list) && list_ok c))
    (en : n ≡ gate_all (extended_of table gossip) (a && b) d (time_of_new c))
  where
    pub lists_refused :
        (n ≡ 0 → ⊥) →
        FollowsAll (new c) n table table gossip gossip list list × Tells (new c) table gossip list numbers numbers
    lists_refused ne = (
      gate_refusal c table gossip list a b d n ea eb ed en ne,
      sym (ap (sets numbers 0) (gate_silent c table gossip list a b d n ea eb ed en ne)),
    )

    module _ (e : n ≡ 0) (r : ℕ) (table' gossip' numbers' : List ℕ) where
      pub lists_given :
          (list' : List ℕ) →
          GivesAll (new_effect (extended_of table gossip) c) r table table' gossip gossip' list list'
          × (numbers' ≡ sets numbers 0 (new_effect (extended_of table gossip) c).numbers) →
          FollowsAll (new c) r table table' gossip gossip' list list' × Tells (new c) table gossip list numbers numbers'
      lists_given list' h = (
        gate_gives c table gossip list a b d n ea eb ed en e r table' gossip' list' h.0,
        h.1 ∙ sym (ap (sets numbers 0) (gate_numbers c table gossip list a b d n ea eb ed en e)),
      )

-- ---- what the inner function may rely on
pub topic_admitted :
    (table gossip : List ℕ) (a b d : Bool) (time n t : ℕ) →
    n ≡ gate_all (extended_of table gossip) (a && b) d time →
    n ≡ 0 →
    a ≡ time_ok time →
    b ≡ topic_ok t →
    length table ≡ cell_count →
    length gossip ≡ gossip_cells →
    TopicAdmitted table gossip time t
topic_admitted table gossip a b d time n t en e ea eb l m =
    record {
      admitted = gate_admitted table gossip a b d time n en e ea l m;
      topic = topic_in_lem t (sym eb ∙ gate_fine table gossip a b d time n en e);
    }

module _
    (table gossip list numbers : List ℕ)
    (a b : Bool)
    (time n t : ℕ)
    (en : n
    ≡ gate_all (extended_of table gossip) (a && b) (leb action_room (length list) && leb numbers_most (length numbers)) time)
    (e : n ≡ 0)
    (ea : a ≡ time_ok time)
    (l : length table ≡ cell_count)
    (m : length gossip ≡ gossip_cells)
  where
    abbrev fits : Bool
    fits = leb action_room (length list) && leb numbers_most (length numbers)

    rooms : (leb action_room (length list) ≡ true) × (leb numbers_most (length numbers) ≡ true)
    rooms =
        both (leb action_room (length list)) (leb numbers_most (length numbers)) (gate_lists table gossip a b fits time n en e)

    pub announcing : b ≡ topic_ok t → Announcing table gossip time t list numbers
    announcing eb =
        record {
          admitted = gate_admitted table gossip a b fits time n en e ea l m;
          topic = topic_in_lem t (sym eb ∙ gate_fine table gossip a b fits time n en e);
          room = leb-true action_room (length list) rooms.0;
          fits = leb-true numbers_most (length numbers) rooms.1;
        }

pub having :
    {table gossip : List ℕ} (list numbers given : List ℕ) {time s : ℕ} (t : ℕ) (p q : Bool) →
    SlotAdmitted table gossip time s →
    (p && (q && leb (length given) numbers_most)) ≡ true →
    q ≡ topic_ok t →
    (leb action_room (length list) && leb numbers_most (length numbers)) ≡ true →
    HavingAt table gossip time t s given numbers
having list numbers given t p q a fine eq lists =
    let g = both q (leb (length given) numbers_most) (both p (q && leb (length given) numbers_most) fine).1 in
    record {
      admitted = a.admitted;
      topic = topic_in_lem t (sym eq ∙ g.0);
      slot = a.slot;
      few = leb-true (length given) numbers_most g.1;
      fits = leb-true numbers_most (length numbers) (both (leb action_room (length list)) (leb numbers_most (length numbers)) lists).1;
    }

-- an id, a topic, and not too many numbers
pub arguments_are :
    (id t k : ℕ) (p q : Bool) →
    p ≡ id_ok id →
    q ≡ topic_ok t →
    (p && (q && leb k numbers_most)) ≡ (id_ok id && (topic_ok t && leb k numbers_most))
arguments_are id t k p q ep eq = ap₂ (λ (u v : Bool). u && (v && leb k numbers_most)) ep eq
