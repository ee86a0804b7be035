-- From the gate's word to what a public call promises and what its inner function may rely on: one law for every call.
-- Assumes nothing.
use Rattle.std.proofs.Common.{Result, Ok, Err}
use Prim.Native.Nat.{ℕ, ◌≤◌, ◌<◌}
use mathlib.Core.Path.{◌≡◌, sym, ap, ap₂, ◌∙◌}
use mathlib.Core.Bool.{Bool, true, ◌&&◌}
use mathlib.Core.List.{List, []}
use borrow.Author.Tests.{leb-true}
use lib.ListN.{length}
use Rattle.index.proofs.Index.{both}
use Rattle.layout.specs.View.{cell_count, state_of}
use Rattle.validity.specs.Valid.{max_time}
use Rattle.rules.specs.declared.Answer.{Answer}
use Rattle.rules.specs.Calls.{Call, time_of, time_ok, id_ok, topic_ok, arguments_ok, in_range}
use Rattle.rules.specs.Step.{gate_of, effect, action_room}
use Rattle.rules.specs.Promise.{Leaves, Gives, Follows}
use Rattle.rules.proofs.CaseLaws.{topic_in_lem}
use Rattle.rules.proofs.GateLaws.{Passed, gate_passed}
use Rattle.rules.proofs.PromiseLaws.{gives_quiet, follows_refused, follows_passed}
use Rattle.gate.specs.Ready.{Ready}

-- ---- in the form in which a search finds it: a and b are what the code computes of the call's time and of its other arguments, and g is
-- what `admit` says of them
module _
    (c : Call)
    (table list : List ℕ)
    (a b : Bool)
    (g : Result (Unit {0}) Answer)
    (ea : a ≡ time_ok (time_of c))
    (eb : b ≡ arguments_ok c)
    (eg : g ≡ gate_of (state_of table) (a && b) (length list) (time_of c))
  where
    -- what the gate was asked is the call's range
    word : g ≡ gate_of (state_of table) (in_range c) (length list) (time_of c)
    unfolding in_range
    word = eg ∙ ap (λ (f : Bool). gate_of (state_of table) f (length list) (time_of c)) (ap₂ ◌&&◌ ea eb)

    pub gate_refusal : (x : Answer) → g ≡ Err x → Follows c x table table list list
    gate_refusal x e = follows_refused c table list x (sym word ∙ e)

    module _ (e : g ≡ Ok tt) (r : Answer) (table' : List ℕ) where
      pub gate_gives : (list' : List ℕ) → Gives (effect (state_of table) c) r table table' list list' → Follows c r table table' list list'
      gate_gives list' h = follows_passed c table list r table' list' (sym word ∙ e) h

      -- a call that gives no action
      pub gate_quiet :
          (effect (state_of table) c).actions ≡ [] → Leaves (effect (state_of table) c) r table table' → Follows c r table table' list list
      gate_quiet q h = gate_gives list (gives_quiet (effect (state_of table) c) r table table' list q h)

-- ---- what the inner function of a call may rely on
module _
    (table : List ℕ)
    (a b : Bool)
    (room time : ℕ)
    (g : Result (Unit {0}) Answer)
    (eg : g ≡ gate_of (state_of table) (a && b) room time)
    (e : g ≡ Ok tt)
  where
    behind : Passed (state_of table) (a && b) room time
    behind = gate_passed (state_of table) (a && b) room time (sym eg ∙ e)

    pub gate_room : action_room ≤ room
    gate_room = behind.size

    pub gate_fine : b ≡ true
    gate_fine = (both a b behind.ranges).1

    pub gate_ready : a ≡ time_ok time → length table ≡ cell_count → Ready table time
    gate_ready ea l =
        record {
          standing = record { size = l; router = behind.router };
          clock = behind.clock;
          latest = leb-true time max_time (sym ea ∙ (both a b behind.ranges).0);
        }

    pub gate_topic : (t : ℕ) → b ≡ topic_ok t → t < 8
    gate_topic t eb = topic_in_lem t (sym eb ∙ gate_fine)

-- a topic behind another argument
pub gate_topic_2 :
    (table : List ℕ) (a b d : Bool) (room time : ℕ) (g : Result (Unit {0}) Answer) → g ≡ gate_of (state_of table) (a && (b && d)) room time → g ≡ Ok tt →
    (t : ℕ) →
    d ≡ topic_ok t → t < 8
gate_topic_2 table a b d room time g eg e t ed = topic_in_lem t (sym ed ∙ (both b d (gate_fine table a (b && d) room time g eg e)).1)

-- the range of a peer's id and a topic
pub ids_topics : (id t : ℕ) (a b : Bool) → a ≡ id_ok id → b ≡ topic_ok t → a && b ≡ id_ok id && topic_ok t
ids_topics id t a b ea eb = ap₂ ◌&&◌ ea eb

pub ruleset call_ends = (gate_refusal, gate_gives, gate_quiet, gate_ready, gate_room, gate_topic, gate_topic_2, ids_topics)
