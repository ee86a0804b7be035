-- Worked examples of what is written (02, orders 4 and 6), with the names and the table of the reader's examples: topic 0 is "a"; the ids
-- "b" and "aa" have the numbers 9 and 0.
use Rattle.std.specs.Prelude.{◌≡◌, true, false, [], ◌∷◌}
use Rattle.message_ids.specs.Examples.{some_ids, some_numbers}
use Rattle.rpc.specs.Messages.{subscription, prune, idontwant}
use Rattle.rpc.specs.Examples.{some_names}
use Rattle.rpc.specs.Reading.{Known, known}
use Rattle.rpc_write.specs.Writing.{message_of, list_ok}

abbrev pub some : Known
some = known some_names some_ids some_numbers

pub record Examples : Type 0 where
  -- 9, a PRUNE of "a" with 60 s, and 0: both ids in one field, after the PRUNE
  pub one_field :
      message_of some (idontwant ∷ 0 ∷ 9 ∷ prune ∷ 0 ∷ 60 ∷ idontwant ∷ 0 ∷ 0 ∷ []) 3
      ≡ 0x1A ∷ 0x10 ∷ 0x22 ∷ 0x05 ∷ 0x0A ∷ 0x01 ∷ 0x61 ∷ 0x18 ∷ 0x3C
      ∷ 0x2A ∷ 0x07 ∷ 0x0A ∷ 0x01 ∷ 0x62 ∷ 0x0A ∷ 0x02 ∷ 0x61 ∷ 0x61
      ∷ []
  -- none without an id
  pub none : message_of some (subscription ∷ 0 ∷ 1 ∷ []) 1 ≡ 0x0A ∷ 0x05 ∷ 0x08 ∷ 0x01 ∷ 0x12 ∷ 0x01 ∷ 0x61 ∷ []
  -- "a number not in it 2", and so is one with another number in the topic's place
  pub known_number : list_ok some (idontwant ∷ 0 ∷ 9 ∷ []) 1 ≡ true
  pub unknown : list_ok some (idontwant ∷ 0 ∷ 1 ∷ []) 1 ≡ false
  pub third : list_ok some (idontwant ∷ 1 ∷ 9 ∷ []) 1 ≡ false
