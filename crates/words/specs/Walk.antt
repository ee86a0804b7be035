-- A walk over the slots of a set, a call after another.
use Rattle.std.specs.Prelude.{ℕ, ◌+◌, ◌<◌, ◌≡◌, Option, None, Some}
use Rattle.records.specs.Records.{slot_count}
use Rattle.words.specs.Words.{bits_of, Next}
use Rattle.words.specs.declared.slots.Slots.{Slots}

-- the lowest slot that was left is given, and the others are left
pub record Gives (old : Slots) (slot : ℕ) (new : Slots) : Type 0 where
  pub slot_lt : slot < slot_count
  pub lowest : Next (bits_of old.set) old.from slot
  pub set_is : new.set ≡ old.set
  pub from_is : new.from ≡ slot + 1

-- or none was left, and none is
pub record Ends (old new : Slots) : Type 0 where
  pub none : Next (bits_of old.set) old.from slot_count
  pub set_is : new.set ≡ old.set
  pub from_is : new.from ≡ old.from

abbrev pub GivesSlot : Slots → Option ℕ → Slots → Type 0
GivesSlot old None new = Ends old new
GivesSlot old (Some slot) new = Gives old slot new
