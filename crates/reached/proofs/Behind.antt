-- What a list of calls reaches, computed without the first tests: after every list the tables are a router's (crate call_lists), so a call
-- that is in range and not early passes them, and its reply is its effect.
-- Assumes nothing.
use Rattle.std.proofs.Common.{Result}
use Rattle.rules.specs.declared.Answer.{Answer}
use native.Mathlib.Omega.{arith}
use mathlib.Core.Path.{◌≡◌, refl, sym, ap, ap₂, ◌∙◌}
use mathlib.Core.Bool.{Bool, true, ◌&&◌}
use mathlib.Core.List.{List, [], ◌∷◌, ◌++◌}
use lib.Dec.{leb}
use borrow.Author.Tests.{leb-true}
use Rattle.index.proofs.Index.{both}
use Rattle.params.specs.Ordinary.{ordinary_params}
use Rattle.params.proofs.OrdinaryLaws.{ordinary_accepted, ordinary_length}
use Rattle.records.specs.Records.{State}
use Rattle.lookup.specs.Fresh.{fresh_state}
use Rattle.rules.specs.Reply.{Reply}
use Rattle.rules.specs.Calls.{Call, time_of, in_range}
use Rattle.rules.specs.Step.{action_room, through, effect, step}
use Rattle.rules.proofs.GateLaws.{gate_0}
use Rattle.call_lists.specs.Lists.{Made, fresh, from_fresh, after}
use Rattle.call_lists.specs.Demand3.{Accepted}
use Rattle.call_lists.proofs.Demand3.{standing}
use Rattle.reached.specs.Reached.{lent, behind, reply, replies, reached, asked}

-- the tests 2 and 1 along a list of calls, and what their effects leave and give
abbrev passes_one : State → Call → Bool
passes_one st c = in_range c && leb st.clock (time_of c)

unfoldable pub passes : State → List Call → Bool
passes st [] = true
passes st (c ∷ rest) = passes_one st c && passes (effect st c).state rest

unfoldable pub left : State → List Call → State
left st [] = st
left st (c ∷ rest) = left (effect st c).state rest

unfoldable pub given : State → List Call → List Reply
given st [] = []
given st (c ∷ rest) = let r : Reply = effect st c in r ∷ given r.state rest

accepted : Accepted (fresh ordinary_params)
accepted = record { size = ordinary_length; passes = ordinary_accepted; begins = from_fresh refl }

-- the state behind a list, as `after` has it
abbrev at : List Made → State
at before = after (fresh ordinary_params) before

reply_effect : (before : List Made) (c : Call) → passes_one (at before) c ≡ true → reply before c ≡ effect (at before) c
unfolding reply step
reply_effect before c e =
    let q = both (in_range c) (leb (at before).clock (time_of c)) e in
    ap (λ (g : Result (Unit {0}) Answer). through g (at before) (effect (at before) c))
    (sym
    (gate_0 (at before) (in_range c) action_room (time_of c) (at before).clock
    (standing (fresh ordinary_params) accepted before).router
    q.0
    (omega arith)
    refl
    (leb-true (at before).clock (time_of c) q.1)))

-- one call more
next : (before : List Made) (c : Call) → passes_one (at before) c ≡ true → at (lent c ∷ before) ≡ (effect (at before) c).state
unfolding after reply
next before c e = ap (λ (r : Reply). r.state) (reply_effect before c e)

behind_left : (before : List Made) (calls : List Call) → passes (at before) calls ≡ true → at (behind before calls) ≡ left (at before) calls
unfolding behind passes left
behind_left before [] e = refl
behind_left before (c ∷ rest) e =
    let q = both (passes_one (at before) c) (passes (effect (at before) c).state rest) e in
    let n = next before c q.0 in
    behind_left (lent c ∷ before) rest (rw n q.1) ∙ ap (λ (st : State). left st rest) n

replies_given : (before : List Made) (calls : List Call) → passes (at before) calls ≡ true → replies before calls ≡ given (at before) calls
unfolding replies passes given
replies_given before [] e = refl
replies_given before (c ∷ rest) e =
    let q = both (passes_one (at before) c) (passes (effect (at before) c).state rest) e in
    let n = next before c q.0 in
    ap₂ ◌∷◌ (reply_effect before c q.0) (replies_given (lent c ∷ before) rest (rw n q.1) ∙ ap (λ (st : State). given st rest) n)

-- a list with one call more at its end
pub passes_last :
    (st : State) (calls : List Call) (c : Call) → passes st (calls ++ c ∷ []) ≡ true →
    (passes st calls ≡ true) × (passes_one (left st calls) c ≡ true)
unfolding passes left
passes_last st [] c e = (refl, (both (passes_one st c) true e).0)
passes_last st (x ∷ calls) c e =
    let w = both (passes_one st x) (passes (effect st x).state (calls ++ c ∷ [])) e in
    let v = passes_last (effect st x).state calls c w.1 in
    (rw w.0 v.0, v.1)

-- ---- from a fresh router
abbrev pub start : State
start = fresh_state ordinary_params

module _ (calls : List Call) (e : passes start calls ≡ true) where
  pub reached_left : reached calls ≡ left start calls
  unfolding reached after
  reached_left = behind_left [] calls e

  pub replies_start : replies [] calls ≡ given start calls
  unfolding after
  replies_start = replies_given [] calls e

pub asked_effect : (calls : List Call) (c : Call) → passes start (calls ++ c ∷ []) ≡ true → asked calls c ≡ effect (left start calls) c
unfolding asked after
asked_effect calls c e =
    let w = passes_last start calls c e in
    let n : at (behind [] calls) ≡ left start calls = behind_left [] calls w.0 in
    reply_effect (behind [] calls) c (rw n w.1) ∙ ap (λ (st : State). effect st c) n
