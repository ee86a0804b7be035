-- What stands after a reply: the invariant with the directions as the call changed them. A refusal, and a reply that leaves nobody new.
-- Assumes nothing.
use Prim.Native.Nat.{ℕ, ◌%◌}
use mathlib.Core.Path.{◌≡◌, refl, ap, ◌∙◌}
use mathlib.Core.Bool.{Bool, true, false, cond, and-false}
use lib.Dec.{eqb}
use Rattle.params.specs.declared.Params.{Params}
use Rattle.records.specs.Records.{State}
use Rattle.layout.specs.View.{Sized}
use Rattle.validity.specs.Valid.{valid}
use Rattle.rules.specs.declared.Answer.{Answer}
use Rattle.rules.specs.Reply.{Reply, number_of, refused}
use Rattle.rules.specs.Calls.{Call, connect, disconnect, join, leave, subscribe, unsubscribe, graft, prune, deliver, rate, heartbeat, decay}
use Rattle.rules.specs.Calls.{score}
use Rattle.call_lists.specs.Lists.{heard}
use Rattle.call_lists.proofs.Fewer.{Fewer, fewer_self}
use Rattle.call_lists.proofs.Standing.{Standing, stands_fewer}

-- the directions after call c with this answer, from those before it
abbrev pub heard_of : Call → Answer → (ℕ → Bool) → ℕ → Bool
heard_of c a dir = λ peer. heard c (eqb (number_of a) 0) peer (dir peer)

-- that the tables stay a router's is known of every call
abbrev pub After : Params → (ℕ → Bool) → Call → Reply → Type 0
After params dir c r = Sized r.state → valid r.state ≡ true → Standing params (heard_of c r.answer dir) r.state

-- the same of a call that says no direction
abbrev pub Stays : Params → (ℕ → Bool) → Reply → Type 0
Stays params dir r = Sized r.state → valid r.state ≡ true → Standing params dir r.state

-- no call that is refused says a direction
pub unheard : (c : Call) (peer : ℕ) (was : Bool) → heard c false peer was ≡ was
unheard (connect time id groups flags name) peer was =
    ap (λ (b : Bool). cond b (eqb (flags % 2) 1) was) (and-false (eqb id peer))
unheard (disconnect time id) peer was = refl
unheard (join time t) peer was = refl
unheard (leave time t) peer was = refl
unheard (subscribe time id t) peer was = refl
unheard (unsubscribe time id t) peer was = refl
unheard (graft time id t) peer was = refl
unheard (prune time id t seconds) peer was = refl
unheard (deliver time id t kind) peer was = refl
unheard (rate time id p5) peer was = refl
unheard (heartbeat time t ask order) peer was = refl
unheard (decay time) peer was = refl
unheard (score time id) peer was = refl

module _ (params : Params) (dir : ℕ → Bool) (st : State) (h : Standing params dir st) where
  pub after_refused : (c : Call) (a : Answer) → eqb (number_of a) 0 ≡ false → After params dir c (refused a st)
  after_refused c a e =
      stands_fewer params dir (heard_of c a dir) st st h (fewer_self st) (λ peer.
      ap (λ (b : Bool). heard c b peer (dir peer)) e ∙ unheard c peer (dir peer))

  pub after_fewer : (u : State) → Fewer st u → Sized u → valid u ≡ true → Standing params dir u
  after_fewer u f = stands_fewer params dir dir st u h f (λ peer. refl)
