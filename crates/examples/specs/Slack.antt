-- The slack after a backoff (02, order 3): "A candidate now needs now ≥ backoff end + 1000 ms, or an end of 0 (never set). Incoming GRAFTs
-- and the emptying of records still go by the end alone." The peer of `pruned_for60` has a backoff that ends at 70,000.
use Rattle.std.specs.Prelude.{ℕ, ◌≡◌, true, false, [], ◌∷◌, map}
use Rattle.records.specs.Records.{peer_in}
use Rattle.effects.specs.Effects.{mesh_size, retained_to, reclaimable}
use Rattle.rules.specs.Reply.{Reply}
use Rattle.rules.specs.Calls.{graft}
use Rattle.rules.specs.Step.{past_slack, is_candidate, effect}
use Rattle.examples.specs.Table.{crowd, pruned_for60, told}

-- its GRAFT at a time
unfoldable pub grafted_at : ℕ → Reply
grafted_at time = effect pruned_for60 (graft time 1 0)

pub record Slack : Type 0 where
  -- we send it no GRAFT before 71,000
  pub waits : is_candidate pruned_for60 70999 0 0 ≡ false
  pub over : is_candidate pruned_for60 71000 0 0 ≡ true
  -- its own GRAFT is refused at 69,999 and taken at 70,000
  pub refused : map told (grafted_at 69999).actions ≡ (2, 1) ∷ []
  pub taken : (mesh_size (grafted_at 70000).state 0 ≡ 1) × (map told (grafted_at 70000).actions ≡ [])
  -- retained until 70,000, its record is emptied then
  pub kept : reclaimable (retained_to (peer_in pruned_for60 0) 70000) 69999 ≡ false
  pub emptied : reclaimable (retained_to (peer_in pruned_for60 0) 70000) 70000 ≡ true
  -- an end of 0 asks for nothing, an end of 1 for the slack
  pub never : is_candidate (crowd 0 1 0) 0 0 0 ≡ true
  pub end_of1 : (past_slack 1 1000 ≡ false) × (past_slack 1 1001 ≡ true)
