-- What a call that is handed the table and the array of orders 6 and 7 promises: it answers and leaves what the rules give, for every
-- content of both, every argument and every lent list.
use Rattle.std.specs.Prelude.{ℕ, ◌+◌, ◌*◌, ◌≡◌, Bool, true, cond, not, ◌||◌, List, eqb, leb, length, set}
use Rattle.std.proofs.lemmas.List.Edits.{sets}
use Rattle.layout.specs.View.{clock_at, state_of}
use Rattle.effects.specs.Actions.{numbers_of}
use Rattle.gossip.specs.Notes.{Extended}
use Rattle.gossip.specs.Valid.{valid_all}
use Rattle.gossip.specs.Calls.{Any}
use Rattle.gossip.specs.Step.{FullReply, step_all}
use Rattle.gossip_table.specs.View.{gossip_of, extended_of}

-- what comes back as one number: 01's number in the low byte, then how many actions there are, in two bytes, then how many numbers
abbrev pub reply_code : FullReply → ℕ
reply_code o = o.answer + 256 * length o.actions + 16777216 * length o.numbers

-- the answers that leave everything as it was: all but 0 and 11
abbrev pub refusal : ℕ → Bool
refusal n = not (eqb n 0 || eqb n 11)

-- r is what comes back; table and gossip are what stood there at the call, table' and gossip' what stands there after it
pub record LeavesAll (o : FullReply) (r : ℕ) (table table' gossip gossip' : List ℕ) : Type 0 where
  pub answer : r ≡ reply_code o
  pub base : state_of table' ≡ o.state.base
  pub others : gossip_of gossip' ≡ o.state.gossip
  -- a refusal changes no cell
  pub kept : refusal o.answer ≡ true → (table' ≡ table) × (gossip' ≡ gossip)
  -- and an ignored call the clock's alone
  pub clock : o.answer ≡ 11 → (table' ≡ set table clock_at o.state.base.clock) × (gossip' ≡ gossip)

-- the same with the lent action list: it begins with the rules' actions, and the numbers past them are unchanged
pub record GivesAll (o : FullReply) (r : ℕ) (table table' gossip gossip' list list' : List ℕ) : Type 0 where
  pub leaves : LeavesAll o r table table' gossip gossip'
  pub actions : list' ≡ sets list 0 (numbers_of o.actions)

abbrev pub FollowsAll : Any → ℕ → (table table' gossip gossip' list list' : List ℕ) → Type 0
FollowsAll c r table table' gossip gossip' list list' =
    GivesAll (step_all (extended_of table gossip) c (length list)) r table table' gossip gossip' list list'

-- and with the lent list of numbers
abbrev pub Tells : Any → (table gossip list numbers numbers' : List ℕ) → Type 0
Tells c table gossip list numbers numbers' =
    numbers' ≡ sets numbers 0 (step_all (extended_of table gossip) c (length list)).numbers

-- ---- the tests 12, 2, 8, 1 as one number, 0 where all are passed
unfoldable pub gate_all : Extended → Bool → Bool → ℕ → ℕ
gate_all x fine fits time =
    cond (valid_all x) (cond fine (cond fits (cond (leb x.base.clock time) 0 1) 8) 2) 12
