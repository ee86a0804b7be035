-- The longest message that is written: 8 joins of topics with names of 64 bytes, 70 bytes each, 64 PRUNEs of 3600 seconds, 71 bytes each,
-- and the control field's tag and length, 3 bytes. An id takes less than a
-- PRUNE, with its part of the head of all.
use Rattle.std.specs.Prelude.{ℕ, ◌≤◌, ◌≡◌, true, List, [], ◌∷◌, length}
use Rattle.index.specs.Index.{gather}
use Rattle.rpc.specs.Messages.{prune}
use Rattle.message_ids.specs.Ids.{table_ok}
use Rattle.rpc.specs.Reading.{topics, name_bytes, Known, known}
use Rattle.rpc_write.specs.Writing.{most_seconds, most_actions, most_changes, message_of, list_ok, wrote_value}
use Rattle.rpc_actions.specs.Actions.{actions_ok, changes_ok, entries_of, entry_count, write_actions_of}

abbrev pub longest : ℕ
longest = 5107

-- the message of every list that is accepted
abbrev pub Longest : Type 0
Longest =
    (k : Known) (order actions topics changes : List ℕ) →
    table_ok k.ids k.numbers order ≡ true →
    actions_ok actions topics ≡ true →
    changes_ok changes ≡ true →
    list_ok k (entries_of actions topics changes) (entry_count topics changes) ≡ true →
    length (message_of k (entries_of actions topics changes) (entry_count topics changes)) ≤ longest

-- and so the length in every answer
abbrev pub AnswersLongest : Type 0
AnswersLongest =
    (k : Known) (order actions topics changes buf : List ℕ) →
    wrote_value (write_actions_of k order actions topics changes buf).answer ≤ longest

-- ---- one that is as long: eight names of 64 bytes, of which no two are alike
abbrev pub full_names : List ℕ
full_names = gather topics (λ k. name_bytes ∷ gather name_bytes (λ i. k ∷ []))

abbrev pub full_actions : List ℕ
full_actions = gather most_actions (λ i. prune ∷ 7 ∷ most_seconds ∷ [])

abbrev pub full_topics : List ℕ
full_topics = gather most_actions (λ i. 0 ∷ [])

abbrev pub full_changes : List ℕ
full_changes = gather most_changes (λ k. 1 ∷ k ∷ [])

abbrev pub full : Known
full = known full_names [] []

abbrev pub Reached : Type 0
Reached =
    (list_ok full (entries_of full_actions full_topics full_changes) (entry_count full_topics full_changes) ≡ true)
    × (length (message_of full (entries_of full_actions full_topics full_changes) (entry_count full_topics full_changes)) ≡ longest)
