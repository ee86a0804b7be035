-- Worked examples of 02, orders 1 and 6: what the definitions give for some messages. To be changed with 02's text alone.
use Rattle.std.specs.Prelude.{ℕ, ◌≡◌, List, [], ◌∷◌, ◌++◌, replicate}
use Rattle.fields.specs.Walk.{Items, items, broken}
use Rattle.message_ids.specs.Examples.{some_ids, some_numbers}
use Rattle.rpc.specs.Messages.{Item, subscription, graft, prune, idontwant, rpc_at}
use Rattle.rpc.specs.Reading.{no_topic, known, numbers_of, ordered}

-- topic 0 is "a", topic 1 is "ab", the others have no name
abbrev pub some_names : List ℕ
some_names = (1 ∷ 0x61 ∷ []) ++ replicate 63 0 ++ (2 ∷ 0x61 ∷ 0x62 ∷ []) ++ replicate 62 0 ++ replicate 390 0

-- the numbers that stand in the list after a message is read; the ids "b" and "aa" have the numbers 9 and 0
abbrev pub listed : List ℕ → Items Item → Items ℕ
listed s (items xs) = items (numbers_of (known some_names some_ids some_numbers) s (ordered xs))
listed s (broken q) = broken q

abbrev pub numbers_in : List ℕ → Items ℕ
numbers_in s = listed s (rpc_at s 0)

pub record Examples : Type 0 where
  -- ---- the place of a broken field
  -- a control field whose length passes the end is broken itself; with lengths that fit, the innermost field is
  pub overrun : numbers_in (0x1A ∷ 0x05 ∷ 0x1A ∷ 0x03 ∷ 0x0A ∷ 0x05 ∷ []) ≡ broken 0
  pub innermost : numbers_in (0x1A ∷ 0x04 ∷ 0x1A ∷ 0x02 ∷ 0x0A ∷ 0x05 ∷ []) ≡ broken 4
  pub second : numbers_in (0x20 ∷ 0x00 ∷ 0x0B ∷ 0x00 ∷ []) ≡ broken 2
  pub field_zero : numbers_in (0x02 ∷ 0x00 ∷ []) ≡ broken 0
  pub wire_three : numbers_in (0x0B ∷ 0x00 ∷ []) ≡ broken 0
  -- ---- numbers: overlong is accepted, an eleventh byte and a 65th bit are not
  pub overlong : numbers_in (0x8A ∷ 0x00 ∷ 0x80 ∷ 0x00 ∷ []) ≡ items (subscription ∷ no_topic ∷ 0 ∷ [])
  pub ten_bytes : numbers_in (0x20 ∷ replicate 9 0xFF ++ (0x01 ∷ [])) ≡ items []
  pub bits_65 : numbers_in (0x20 ∷ replicate 9 0xFF ++ (0x02 ∷ [])) ≡ broken 0
  pub bytes_11 : numbers_in (0x20 ∷ replicate 10 0x80 ++ (0x00 ∷ [])) ≡ broken 0
  -- ---- what is skipped: publish, ihave, iwant, a PRUNE's peers, unknown fields, known ones of another wire type
  pub publish : numbers_in (0x12 ∷ 0x02 ∷ 0xFF ∷ 0xFF ∷ []) ≡ items []
  pub ihave_iwant : numbers_in (0x1A ∷ 0x04 ∷ 0x0A ∷ 0x00 ∷ 0x12 ∷ 0x00 ∷ []) ≡ items []
  pub peers : numbers_in (0x1A ∷ 0x05 ∷ 0x22 ∷ 0x03 ∷ 0x12 ∷ 0x01 ∷ 0xFF ∷ []) ≡ items (prune ∷ no_topic ∷ 0 ∷ [])
  pub other_wire : numbers_in (0x08 ∷ 0x01 ∷ 0x1A ∷ 0x04 ∷ 0x1A ∷ 0x02 ∷ 0x08 ∷ 0x01 ∷ []) ≡ items (graft ∷ no_topic ∷ 0 ∷ [])
  -- ---- a repeated field's last counts, also where the first is a known topic
  pub last_counts :
      numbers_in (0x1A ∷ 0x09 ∷ 0x22 ∷ 0x07 ∷ 0x18 ∷ 0x01 ∷ 0x0A ∷ 0x00 ∷ 0x18 ∷ 0xBC ∷ 0x00 ∷ [])
      ≡ items (prune ∷ no_topic ∷ 60 ∷ [])
  pub last_unknown :
      numbers_in (0x0A ∷ 0x06 ∷ 0x12 ∷ 0x01 ∷ 0x61 ∷ 0x12 ∷ 0x01 ∷ 0x62 ∷ [])
      ≡ items (subscription ∷ no_topic ∷ 0 ∷ [])
  -- ---- a PRUNE of "a" with 60 s, in a second control field a GRAFT of "ab", then a subscribe of 5 to "a": in the order of the kinds
  pub by_kind :
      numbers_in
      (0x1A ∷ 0x07 ∷ 0x22 ∷ 0x05 ∷ 0x0A ∷ 0x01 ∷ 0x61 ∷ 0x18 ∷ 0x3C
      ∷ 0x1A ∷ 0x06 ∷ 0x1A ∷ 0x04 ∷ 0x0A ∷ 0x02 ∷ 0x61 ∷ 0x62
      ∷ 0x0A ∷ 0x05 ∷ 0x08 ∷ 0x05 ∷ 0x12 ∷ 0x01 ∷ 0x61
      ∷ [])
      ≡ items (subscription ∷ 0 ∷ 1 ∷ graft ∷ 1 ∷ 0 ∷ prune ∷ 0 ∷ 60 ∷ [])
  -- ---- IDONTWANT: "aa", "a", the empty id and "b" twice, then a GRAFT of "a": the ids come last, each in its place
  pub notices :
      numbers_in
      (0x1A ∷ 0x16 ∷ 0x2A ∷ 0x0F ∷ 0x0A ∷ 0x02 ∷ 0x61 ∷ 0x61 ∷ 0x0A ∷ 0x01 ∷ 0x61 ∷ 0x0A ∷ 0x00 ∷ 0x0A ∷ 0x01 ∷ 0x62 ∷ 0x0A ∷ 0x01 ∷ 0x62
      ∷ 0x1A ∷ 0x03 ∷ 0x0A ∷ 0x01 ∷ 0x61
      ∷ [])
      ≡ items
      (graft ∷ 0 ∷ 0 ∷ idontwant ∷ 0 ∷ 0 ∷ idontwant ∷ no_topic ∷ 0 ∷ idontwant ∷ no_topic ∷ 0 ∷ idontwant ∷ 0 ∷ 9 ∷ idontwant ∷ 0 ∷ 9 ∷ [])
  -- a broken field inside, and a message id of another wire type
  pub notice_broken : numbers_in (0x1A ∷ 0x05 ∷ 0x2A ∷ 0x03 ∷ 0x0A ∷ 0x02 ∷ 0x61 ∷ []) ≡ broken 4
  pub notice_number : numbers_in (0x1A ∷ 0x04 ∷ 0x2A ∷ 0x02 ∷ 0x08 ∷ 0x01 ∷ []) ≡ items []
