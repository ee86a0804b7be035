-- The calls of orders 6 and 7 with their arguments, and the range of each argument (answer 2). A message number has 64 bits by its type,
-- and no range.
use Rattle.std.specs.Prelude.{ℕ, Bool, true, ◌&&◌, List, leb, length}
use Rattle.rules.specs.Calls.{Call, id_ok, topic_ok, time_ok}
use Rattle.gossip.specs.Notes.{numbers_most}

-- time first
pub data New : Type 0 where
  -- order 6. topic, sender (0: ourselves), number
  ask_all : ℕ → ℕ → ℕ → ℕ → New
  -- id, number
  idontwant : ℕ → ℕ → ℕ → New
  -- topic, sender, number
  relay : ℕ → ℕ → ℕ → ℕ → New
  beat : ℕ → New
  -- order 7. topic, number
  store : ℕ → ℕ → ℕ → New
  -- topic, draw, how many numbers the lent list has room for
  announce : ℕ → ℕ → List ℕ → ℕ → New
  -- id, topic, numbers, room of the lent list of numbers
  ihave : ℕ → ℕ → ℕ → List ℕ → ℕ → New
  -- id, number
  iwant : ℕ → ℕ → ℕ → New

pub data Any : Type 0 where
  old : Call → Any
  new : New → Any

abbrev pub time_of_new : New → ℕ
time_of_new (ask_all time t sender n) = time
time_of_new (idontwant time id n) = time
time_of_new (relay time t sender n) = time
time_of_new (beat time) = time
time_of_new (store time t n) = time
time_of_new (announce time t order list) = time
time_of_new (ihave time id t numbers list) = time
time_of_new (iwant time id n) = time

-- "the sender (0: ourselves)"
abbrev pub sender_ok : ℕ → Bool
sender_ok id = leb id 4294967295

abbrev pub new_arguments_ok : New → Bool
new_arguments_ok (ask_all time t sender n) = topic_ok t && sender_ok sender
new_arguments_ok (idontwant time id n) = id_ok id
new_arguments_ok (relay time t sender n) = topic_ok t && sender_ok sender
new_arguments_ok (beat time) = true
new_arguments_ok (store time t n) = topic_ok t
new_arguments_ok (announce time t order list) = topic_ok t
new_arguments_ok (ihave time id t numbers list) =
    id_ok id && (topic_ok t && leb (length numbers) numbers_most)
new_arguments_ok (iwant time id n) = id_ok id

unfoldable pub new_in_range : New → Bool
new_in_range c = time_ok (time_of_new c) && new_arguments_ok c

-- 8 of the lent list of numbers: "192 numbers (shorter: 8)"
abbrev pub list_ok : New → Bool
list_ok (ask_all time t sender n) = true
list_ok (idontwant time id n) = true
list_ok (relay time t sender n) = true
list_ok (beat time) = true
list_ok (store time t n) = true
list_ok (announce time t order list) = leb numbers_most list
list_ok (ihave time id t numbers list) = leb numbers_most list
list_ok (iwant time id n) = true
