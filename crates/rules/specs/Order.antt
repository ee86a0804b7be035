-- In which order a reply's actions stand (01: "Order: by step, PRUNEs by slot, GRAFTs in draw order"; "Leave PRUNEs every member by slot").
-- Who is told what, each once, is crate promises (Told).
use Rattle.std.specs.Prelude.{ℕ, ◌≤◌, ◌≡◌, ◌⊎◌, Bool, true, false, cond, List, [], ◌∷◌, ◌++◌, length}
use Rattle.records.specs.Records.{State, slot_count, peer_in}
use Rattle.effects.specs.Actions.{Action}
use Rattle.effects.specs.Effects.{is_member}
use Rattle.sets.specs.Sets.{ascending}
use Rattle.rules.specs.Calls.{Call, connect, disconnect, join, leave, subscribe, unsubscribe, graft, prune, deliver, rate, heartbeat}
use Rattle.rules.specs.Calls.{decay, score}
use Rattle.rules.specs.Step.{is_negative, is_candidate, step}

-- the kind and the id of each action, one after the other
unfoldable pub heads : List Action → List ℕ
heads [] = []
heads (a ∷ l) = a.kind ∷ a.id ∷ heads l

-- the same of actions of kind k (1 GRAFT, 2 PRUNE) to the peers in the slots of an order for which p holds
unfoldable pub telling : State → ℕ → (ℕ → Bool) → List ℕ → List ℕ
telling st k p [] = []
telling st k p (s ∷ r) = cond (p s) (k ∷ (peer_in st s).id ∷ telling st k p r) (telling st k p r)

-- "by slot"
abbrev pub slots : List ℕ
slots = ascending 0 slot_count

-- the five steps' actions, one step after the other; `first` .. `fifth` are the slots that they act on
pub record ByStep (st : State) (time t : ℕ) (order : List ℕ) (l : List Action) : Type 0 where
  pub first : ℕ → Bool
  pub second : ℕ → Bool
  pub third : ℕ → Bool
  pub fourth : ℕ → Bool
  pub fifth : ℕ → Bool
  pub list :
      heads l
      ≡ telling st 2 first slots
      ++ telling st 1 second order
      ++ telling st 2 third slots
      ++ telling st 1 fourth order
      ++ telling st 1 fifth order
  -- "1. PRUNE negative members."
  pub negative : (s : ℕ) → first s ≡ true → (is_member st t s ≡ true) × (is_negative st s ≡ true)
  -- "2. Under D_lo: graft candidates"
  pub fills : (s : ℕ) → second s ≡ true → is_candidate st time t s ≡ true
  -- "3. Over D_hi: [..] PRUNE the rest": of the members that step 1 left
  pub rest : (s : ℕ) → third s ≡ true → (is_member st t s ≡ true) × (is_negative st s ≡ false)
  -- "4. Under D_out outbound: graft outbound candidates"
  pub outs : (s : ℕ) → fourth s ≡ true → (is_candidate st time t s ≡ true) × ((peer_in st s).outbound ≡ 1)
  -- "5. [..] graft up to 2 candidates"
  pub better : (s : ℕ) → fifth s ≡ true → is_candidate st time t s ≡ true

-- leave and a heartbeat act in this order, or not at all; a GRAFT in is answered by one action at most, every other call by none
abbrev pub Ordered : State → Call → List Action → Type 0
Ordered st (connect time id groups flags name) l = l ≡ []
Ordered st (disconnect time id) l = l ≡ []
Ordered st (join time t) l = l ≡ []
Ordered st (leave time t) l = (l ≡ []) ⊎ (heads l ≡ telling st 2 (is_member st t) slots)
Ordered st (subscribe time id t) l = l ≡ []
Ordered st (unsubscribe time id t) l = l ≡ []
Ordered st (graft time id t) l = length l ≤ 1
Ordered st (prune time id t seconds) l = l ≡ []
Ordered st (deliver time id t kind) l = l ≡ []
Ordered st (rate time id p5) l = l ≡ []
Ordered st (heartbeat time t ask order) l = (l ≡ []) ⊎ ByStep st time t order l
Ordered st (decay time) l = l ≡ []
Ordered st (score time id) l = l ≡ []

abbrev pub ToldInOrder : Type 0
ToldInOrder = (st : State) (c : Call) (room : ℕ) → Ordered st c (step st c room).actions
