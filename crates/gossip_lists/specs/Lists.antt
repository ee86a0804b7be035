-- Lists of all calls, the last call first, as in call_lists: what a list leaves and what each call was answered; and, from the calls and
-- answers alone, how long a number stays stored and how many IWANTs of it a peer was answered.
use Rattle.std.specs.Prelude.{ℕ, ◌+◌, ◌-◌, ◌≡◌, Bool, true, cond, ◌&&◌, List, [], ◌∷◌, eqb, ltb}
use Rattle.records.specs.Records.{topic_count}
use Rattle.rules.specs.Calls.{Call, connect, disconnect, join, leave, subscribe, unsubscribe, graft, prune, deliver, rate, heartbeat}
use Rattle.rules.specs.Calls.{decay}
use Rattle.rules.specs.Calls.{score}
use Rattle.call_lists.specs.Lists.{Start as Router}
use Rattle.call_lists.specs.Demand3.{Accepted}
use Rattle.gossip.specs.Notes.{Setup, Extended, window_count, some, fresh_gossip}
use Rattle.gossip.specs.Valid.{setup_ok}
use Rattle.gossip.specs.Calls.{New, ask_all, idontwant, relay, beat, store, announce, ihave, iwant, Any, old, new}
use Rattle.gossip.specs.Step.{step_all}

-- a call, and how many numbers the action list has that it is lent
pub record Did : Type 0 where
  pub call : Any
  pub room : ℕ

-- what a list starts from: a router as in call_lists, and the set-up numbers of orders 6 and 7
pub record Start : Type 0 where
  pub router : Router
  pub setup : Setup

-- a fresh or loaded router with accepted parameters, and set-up numbers within their bounds
pub record AcceptedAll (start : Start) : Type 0 where
  pub router : Accepted start.router
  pub setup : setup_ok start.setup ≡ true

-- sets, stores and replies start empty, beside a loaded router too: a load gives "these records retained [..], all else 0"
unfoldable pub after_all : Start → List Did → Extended
after_all start [] = record { base = start.router.state; gossip = fresh_gossip start.setup }
after_all start (c ∷ before) = (step_all (after_all start before) c.call c.room).state

unfoldable pub answered_all : Start → Did → List Did → ℕ
answered_all start c before = (step_all (after_all start before) c.call c.room).answer

-- ---- how many more heartbeats a number stays stored in topic t, 0 if it is not stored, after a call answered 0
abbrev pub lives_old : Call → ℕ → ℕ → ℕ
lives_old (connect time id groups flags name) t was = was
lives_old (disconnect time id) t was = was
lives_old (join time u) t was = was
lives_old (leave time u) t was = cond (eqb u t) 0 was
lives_old (subscribe time id u) t was = was
lives_old (unsubscribe time id u) t was = was
lives_old (graft time id u) t was = was
lives_old (prune time id u seconds) t was = was
lives_old (deliver time id u kind) t was = was
lives_old (rate time id p5) t was = was
lives_old (heartbeat time u ask order) t was = was
lives_old (decay time) t was = was
lives_old (score time id) t was = was

-- "one already there changes nothing"
abbrev pub lives_new : New → ℕ → ℕ → ℕ → ℕ
lives_new (ask_all time u sender m) t n was = was
lives_new (idontwant time id m) t n was = was
lives_new (relay time u sender m) t n was = was
lives_new (beat time) t n was = was - 1
lives_new (store time u m) t n was = cond (eqb u t && (eqb m n && eqb was 0)) window_count was
lives_new (announce time u order list) t n was = was
lives_new (ihave time id u numbers list) t n was = was
lives_new (iwant time id m) t n was = was

abbrev pub lives : Any → ℕ → ℕ → ℕ → ℕ
lives (old c) t n was = lives_old c t was
lives (new c) t n was = lives_new c t n was

unfoldable pub life : Start → List Did → ℕ → ℕ → ℕ
life start [] t n = 0
life start (c ∷ before) t n =
    cond (eqb (answered_all start c before) 0) (lives c.call t n (life start before t n)) (life start before t n)

-- some topic stores number n after these calls
unfoldable pub stored_after : Start → List Did → ℕ → Bool
stored_after start calls n = some topic_count (λ t. ltb 0 (life start calls t n))

-- ---- the IWANTs of number n by a peer that were answered 0, since its last connect answered 0
abbrev pub gives_old : Call → ℕ → ℕ → ℕ
gives_old (connect time id groups flags name) peer was = cond (eqb id peer) 0 was
gives_old (disconnect time id) peer was = was
gives_old (join time u) peer was = was
gives_old (leave time u) peer was = was
gives_old (subscribe time id u) peer was = was
gives_old (unsubscribe time id u) peer was = was
gives_old (graft time id u) peer was = was
gives_old (prune time id u seconds) peer was = was
gives_old (deliver time id u kind) peer was = was
gives_old (rate time id p5) peer was = was
gives_old (heartbeat time u ask order) peer was = was
gives_old (decay time) peer was = was
gives_old (score time id) peer was = was

abbrev pub gives_new : New → ℕ → ℕ → ℕ → ℕ
gives_new (ask_all time u sender m) peer n was = was
gives_new (idontwant time id m) peer n was = was
gives_new (relay time u sender m) peer n was = was
gives_new (beat time) peer n was = was
gives_new (store time u m) peer n was = was
gives_new (announce time u order list) peer n was = was
gives_new (ihave time id u numbers list) peer n was = was
gives_new (iwant time id m) peer n was = cond (eqb id peer && eqb m n) (was + 1) was

abbrev pub gives : Any → ℕ → ℕ → ℕ → ℕ
gives (old c) peer n was = gives_old c peer was
gives (new c) peer n was = gives_new c peer n was

-- and since the last moment at which no topic stored the number
unfoldable pub given : Start → List Did → ℕ → ℕ → ℕ
given start [] peer n = 0
given start (c ∷ before) peer n =
    cond (stored_after start (c ∷ before) n)
    (cond (eqb (answered_all start c before) 0) (gives c.call peer n (given start before peer n)) (given start before peer n))
    0
