-- What the calls of orders 6 and 7 read of 01's table alone, in halves that words by slot, or another region, answer; and what the
-- functions on it rely on. No public call asks that of its caller.
use Rattle.std.specs.Prelude.{Option, Some, None}
use Rattle.std.specs.Prelude.{ℕ, ◌≤◌, ◌<◌, ◌≡◌, Bool, true, false, not, ◌&&◌, ◌||◌, List, eqb, pos, ◌*ℤ◌, length}
use Rattle.std.proofs.lemmas.List.Edits.{sets}
use Rattle.std.specs.Int.Signed.{lt_z}
use Rattle.varint.specs.Codes.{number_of}
use Rattle.records.specs.Records.{State, slot_count, code_in, peer_in, is_connected}
use Rattle.records.specs.Parameters.{gossip_threshold_at}
use Rattle.lookup.specs.Find.{find_connected}
use Rattle.score.specs.Score.{score_in}
use Rattle.sets.specs.Sets.{is_permutation}
use Rattle.effects.specs.Actions.{Action, numbers_of}
use Rattle.effects.specs.Effects.{is_member, is_subscribed}
use Rattle.rules.specs.Step.{action_room}
use Rattle.gossip.specs.Step.{notice_version}
use Rattle.peer_score.specs.Standing.{Standing}
use Rattle.peer_score.specs.declared.buckets.Buckets.{Buckets}
use Rattle.peer_score.specs.Buckets.{Counted}

-- ---- a test of slots
-- post, what a test may answer at a slot, is what f says
abbrev pub Tests : (ℕ → Bool → Type 0) → (ℕ → Bool) → Type 0
Tests post f = (s : ℕ) (b : Bool) → s < slot_count → post s b → b ≡ f s

-- ---- senders
abbrev pub is_found : Option ℕ → Bool
is_found (Some s) = true
is_found None = false

-- a sender is ourselves (0) or connected
unfoldable pub is_known : State → ℕ → Bool
is_known st id = eqb id 0 || is_found (find_connected st id)

-- ---- who is asked, and who is sent a message
-- a 1.2.0 member, the sender too
unfoldable pub is_noticed : State → ℕ → ℕ → Bool
is_noticed st t s = is_member st t s && eqb (peer_in st s).version notice_version

-- a member, or a connected, subscribed explicit peer, the sender too
unfoldable pub is_listener : State → ℕ → ℕ → Bool
is_listener st t s =
    is_member st t s || (is_connected (peer_in st s) && (is_subscribed st t s && eqb (peer_in st s).explicit 1))

-- all of `is_relayed` but the set that may hold the number: "the members and connected, subscribed explicit peers, except the sender"
unfoldable pub is_reached : State → ℕ → ℕ → ℕ → Bool
is_reached st t sender s = is_listener st t s && not (eqb (peer_in st s).id sender)

-- ---- targets
-- the score is below the gossip threshold, whoever's it is
unfoldable pub is_low : State → ℕ → Bool
is_low st s = lt_z (score_in st s) (number_of (code_in st gossip_threshold_at) *ℤ pos 1000000)

-- a router's table, whose connected peers are counted by group
pub record Grouped (table : List ℕ) (b : Buckets) : Type 0 where
  pub standing : Standing table
  pub buckets : Counted table b

-- ---- actions
-- in the lent list: l' is l with them from its start on, and n is how many they are
pub record Tells (acts : List Action) (l l' : List ℕ) (n : ℕ) : Type 0 where
  pub list : l' ≡ sets l 0 (numbers_of acts)
  pub many : n ≡ length acts

-- a router's table, and a lent list with room for every action
pub record Lent (table list : List ℕ) : Type 0 where
  pub standing : Standing table
  pub room : action_room ≤ length list

-- and the numbers by which targets are picked
pub record Picking (table list order : List ℕ) (l f : ℕ) : Type 0 where
  pub lent : Lent table list
  pub permutation : is_permutation slot_count order ≡ true
  pub lazy : l ≤ 48
  pub factor : f ≤ 1000
