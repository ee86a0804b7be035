-- What a call gives: an answer, the state that it leaves, and the actions for the lent list.
use Rattle.std.specs.Prelude.{ℕ, Bool, true, false, List, [], length}
use Rattle.records.specs.Records.{State, set_clock}
use Rattle.effects.specs.Actions.{Action}
use Rattle.rules.specs.declared.Answer.{Answer}
use Rattle.rules.specs.declared.Answer.TheVariants.{Done, Scored, Early, OutOfRange, NotConnected, AlreadyConnected, NoSlot}
use Rattle.rules.specs.declared.Answer.TheVariants.{UnknownProtocol, NotPermutation, ListShort, Ignored, NotRouter}

-- 01's number of an answer
abbrev pub number_of : Answer → ℕ
number_of (Done n) = 0
number_of (Scored w) = 0
number_of Early = 1
number_of OutOfRange = 2
number_of NotConnected = 3
number_of AlreadyConnected = 4
number_of NoSlot = 5
number_of UnknownProtocol = 6
number_of NotPermutation = 7
number_of ListShort = 8
number_of Ignored = 11
number_of NotRouter = 12

-- the number of actions, which the trace prints behind it
abbrev pub actions_of : Answer → ℕ
actions_of (Done n) = n
actions_of (Scored w) = 0
actions_of Early = 0
actions_of OutOfRange = 0
actions_of NotConnected = 0
actions_of AlreadyConnected = 0
actions_of NoSlot = 0
actions_of UnknownProtocol = 0
actions_of NotPermutation = 0
actions_of ListShort = 0
actions_of Ignored = 0
actions_of NotRouter = 0

-- the answers that leave everything as it was: all but 0 and 11
abbrev pub refuses : Answer → Bool
refuses (Done n) = false
refuses (Scored w) = false
refuses Early = true
refuses OutOfRange = true
refuses NotConnected = true
refuses AlreadyConnected = true
refuses NoSlot = true
refuses UnknownProtocol = true
refuses NotPermutation = true
refuses ListShort = true
refuses Ignored = false
refuses NotRouter = true

-- the answers that change more: 0
abbrev pub changes : Answer → Bool
changes (Done n) = true
changes (Scored w) = true
changes Early = false
changes OutOfRange = false
changes NotConnected = false
changes AlreadyConnected = false
changes NoSlot = false
changes UnknownProtocol = false
changes NotPermutation = false
changes ListShort = false
changes Ignored = false
changes NotRouter = false

pub record Reply : Type 0 where
  pub answer : Answer
  pub state : State
  pub actions : List Action

-- a refusal: nothing changed
abbrev pub refused : Answer → State → Reply
refused a st = record { answer = a; state = st; actions = [] }

-- 11: only the clock moves
abbrev pub ignored : State → ℕ → Reply
ignored st time = record { answer = Ignored; state = set_clock st time; actions = [] }

-- 0: the new state, its clock now, and the actions
abbrev pub done : State → ℕ → List Action → Reply
done st time acts = record { answer = Done (length acts); state = set_clock st time; actions = acts }
