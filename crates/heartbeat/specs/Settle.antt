-- One turn of the walk that writes a mesh back, from the state as it stands at that turn. The rules' own words, which go by the call's
-- start, are `settle_slot` of crate rules; that the two agree is proved (proofs/SettleLaws.antt).
use Rattle.std.specs.Prelude.{ℕ, ◌<◌, ◌≡◌, Bool, true, cond, List, get_or}
use Rattle.records.specs.Records.{State, slot_count}
use Rattle.layout.specs.View.{state_of}
use Rattle.sets.specs.Sets.{at, by_slot}
use Rattle.effects.specs.Effects.{on_topic, into_mesh, is_member, pruned, end_after, prune_backoff}
use Rattle.rules.specs.Step.{height_in}
use Rattle.peer_score.specs.Standing.{Standing}
use Rattle.leaving.specs.Slots.{grown_if}

-- slot s in topic t, from whether it was a member, whether it stays or comes in, and whether its score was negative
unfoldable pub settled_if : Bool → Bool → Bool → ℕ → ℕ → ℕ → ℕ → State → State
settled_if was stays negative t time end s u =
    cond was
    (cond stays u (pruned (grown_if negative t s u) s t end))
    (cond stays (on_topic u s t (λ r. into_mesh r time)) u)

-- what the walk relies on: the members, and their scores, are those of the table it starts from
pub record Settle (table : List ℕ) (t time end : ℕ) (members : List Bool) (scores : List ℕ) : Type 0 where
  pub standing : Standing table
  pub topic : t < 8
  pub backoff : end ≡ end_after time (prune_backoff (state_of table))
  pub was : members ≡ by_slot slot_count (is_member (state_of table) t)
  pub heights : (s : ℕ) → s < slot_count → at members s ≡ true → get_or scores s 0 ≡ height_in (state_of table) s
