-- Order 7: "bound [..], to be shown over demand 3's lists, IWANT replies per connection and message while it stays stored".
-- Of calls and answers alone. Lists have the last call first: `recent` are the calls since some moment, `older` those before it.
use Rattle.std.specs.Prelude.{ℕ, ◌+◌, ◌≤◌, ◌≡◌, Bool, true, false, ◌&&◌, List, [], ◌∷◌, ◌++◌, eqb}
use Rattle.index.specs.Index.{one}
use Rattle.rules.specs.Calls.{Call, connect, disconnect, join, leave, subscribe, unsubscribe, graft, prune, deliver, rate, heartbeat}
use Rattle.rules.specs.Calls.{decay, score}
use Rattle.gossip.specs.Calls.{New, ask_all, idontwant, relay, beat, store, announce, ihave, iwant, Any, old, new}
use Rattle.gossip_lists.specs.Lists.{Start, Did, AcceptedAll, answered_all, stored_after}

-- a connect of the peer
abbrev pub connects_old : Call → ℕ → Bool
connects_old (connect time id groups flags name) peer = eqb id peer
connects_old (disconnect time id) peer = false
connects_old (join time u) peer = false
connects_old (leave time u) peer = false
connects_old (subscribe time id u) peer = false
connects_old (unsubscribe time id u) peer = false
connects_old (graft time id u) peer = false
connects_old (prune time id u seconds) peer = false
connects_old (deliver time id u kind) peer = false
connects_old (rate time id p5) peer = false
connects_old (heartbeat time u ask order) peer = false
connects_old (decay time) peer = false
connects_old (score time id) peer = false

abbrev pub connects : Any → ℕ → Bool
connects (old c) peer = connects_old c peer
connects (new c) peer = false

-- an IWANT of the peer for number n
abbrev pub wants_new : New → ℕ → ℕ → Bool
wants_new (ask_all time u sender m) peer n = false
wants_new (idontwant time id m) peer n = false
wants_new (relay time u sender m) peer n = false
wants_new (beat time) peer n = false
wants_new (store time u m) peer n = false
wants_new (announce time u order list) peer n = false
wants_new (ihave time id u numbers list) peer n = false
wants_new (iwant time id m) peer n = eqb id peer && eqb m n

abbrev pub wants : Any → ℕ → ℕ → Bool
wants (old c) peer n = false
wants (new c) peer n = wants_new c peer n

module _ (start : Start) (older : List Did) (peer n : ℕ) where
  -- in none of the recent calls was the peer connected, and after each of them some topic stored the number
  unfoldable pub Within : List Did → Type 0
  Within [] = Unit
  Within (c ∷ recent) =
      (connects c.call peer && eqb (answered_all start c (recent ++ older)) 0 ≡ false)
      × (stored_after start (c ∷ recent ++ older) n ≡ true)
      × Within recent

  -- how many of the recent calls were IWANTs of the peer for it, answered 0
  unfoldable pub replies_in : List Did → ℕ
  replies_in [] = 0
  replies_in (c ∷ recent) =
      replies_in recent + one (wants c.call peer n && eqb (answered_all start c (recent ++ older)) 0)

-- since the later of the peer's last connect answered 0 and the last moment at which no topic stored the number
abbrev pub RepliesBounded : Type 0
RepliesBounded =
    (start : Start) (older recent : List Did) (peer n : ℕ) →
    AcceptedAll start →
    Within start older peer n recent →
    replies_in start older peer n recent ≤ start.setup.replies
