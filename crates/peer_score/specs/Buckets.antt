-- How many connected peers hold each group, told by buckets, so that the scores of all slots need no comparison of every two peers. The
-- group that comes first into a bucket is its head, and its peers are counted by themselves; those of all other groups in the bucket are
-- counted together, which is no less than the peers of any one of them. A peer comes once for each of its groups. The buckets speak of a
-- group itself, and not of the number that a record holds, which is the group + 1.
use Rattle.std.specs.Prelude.{ℕ, ◌+◌, ◌*◌, ◌/◌, ◌%◌, ◌≤◌, ◌<◌, ◌≡◌, true, List, eqb, length, get_or}
use Rattle.index.specs.Index.{one, count}
use Rattle.records.specs.declared.Groups.{Groups}
use Rattle.records.specs.Records.{State, slot_count, peer_in}
use Rattle.validity.specs.Valid.{max_group, rising_ok}
use Rattle.layout.specs.View.{state_of}
use Rattle.score.specs.declared.Sharers.{Sharers}
use Rattle.score.specs.declared.Balance.{Balance}
use Rattle.score.specs.Ranges.{BalanceIn}
use Rattle.score.specs.Parts.{surplus_of}
use Rattle.score.specs.Score.{shares_group, sharing, sharing_at, Scores}
use Rattle.peer_score.specs.Standing.{Standing, SlotStanding}
use Rattle.peer_score.specs.declared.buckets.Buckets.{Buckets}
use Rattle.peer_score.specs.declared.weights.TopicWeights.{TopicWeights}
use Rattle.peer_score.specs.Weights.{Weights}

-- as many as slots, though any number would do
abbrev pub bucket_count : ℕ
bucket_count = slot_count

-- Groups are often prefixes of addresses, alike in their low bits: of their product with 2^32 over the golden ratio, the eight bits below
-- 2^32 are the bucket.
unfoldable pub bucket_of : ℕ → ℕ
bucket_of group = group * 2654435769 / 16777216 % bucket_count

-- c, and one more peer of the group
abbrev pub with_one : (ℕ → ℕ) → ℕ → ℕ → ℕ
with_one c group g = c g + one (eqb group g)

-- the buckets tell of c g peers of group g, for every g, and of n in all at most
pub record TellsOf (c : ℕ → ℕ) (n : ℕ) (heads same others : List ℕ) : Type 0 where
  pub sizes : (length heads ≡ bucket_count) × ((length same ≡ bucket_count) × (length others ≡ bucket_count))
  pub head : (g : ℕ) → get_or heads (bucket_of g) 0 ≡ g → get_or same (bucket_of g) 0 ≡ c g
  pub other : (g : ℕ) → (get_or heads (bucket_of g) 0 ≡ g → ⊥) → c g ≤ get_or others (bucket_of g) 0
  pub none : (b : ℕ) → get_or same b 0 ≡ 0 → get_or others b 0 ≡ 0
  pub most : (b : ℕ) → get_or same b 0 + get_or others b 0 ≤ n

abbrev pub Tells : (ℕ → ℕ) → ℕ → Buckets → Type 0
Tells c n b = TellsOf c n b.heads b.same b.others

-- the same, of a number that a record holds: 0 is no group
abbrev pub with_held : (ℕ → ℕ) → ℕ → ℕ → ℕ
with_held c held g = c g + one (eqb held (g + 1))

-- how many peers that hold a group are connected in the slots below s
abbrev pub below : State → ℕ → ℕ → ℕ
below st s g = count s (shares_group st (g + 1))

-- how many pairs of a slot and a group there are at most, of so many slots
abbrev pub pairs : ℕ → ℕ
pairs s = 4 * s

-- nobody is counted yet
abbrev pub Unused : Buckets → Type 0
Unused = Tells (λ g. 0) 0

-- every connected peer is
abbrev pub Counted : List ℕ → Buckets → Type 0
Counted table = Tells (λ g. sharing (state_of table) (g + 1)) (pairs slot_count)

-- what noting a peer relies on: the counts have room for it
pub record Noting (buckets : Buckets) (group most : ℕ) : Type 0 where
  pub room : (b : ℕ) → get_or buckets.same b 0 + get_or buckets.others b 0 < 65535
  pub fits : group ≤ most

-- what counting relies on: a router's table, a connected peer in slot s, and the slots before it counted
pub record Counting (table : List ℕ) (s : ℕ) (b : Buckets) : Type 0 where
  pub standing : Standing table
  pub slot : s < slot_count
  pub connected : (peer_in (state_of table) s).status ≡ 1
  pub buckets : Tells (below (state_of table) s) (pairs s) b

-- n stands for the number of connected peers that hold a group where P6 is taken: it has the same surplus
pub record Together (st : State) (threshold held n : ℕ) : Type 0 where
  pub surplus : surplus_of threshold n ≡ surplus_of threshold (sharing_at st held)
  pub most : n ≤ slot_count

-- the same for each of a record's groups
pub record Gathered (st : State) (threshold : ℕ) (g : Groups) (n : Sharers) : Type 0 where
  pub first : Together st threshold g.first n.first
  pub second : Together st threshold g.second n.second
  pub third : Together st threshold g.third n.third
  pub fourth : Together st threshold g.fourth n.fourth

-- a group that a record holds, asked of the buckets
pub record Asking (table : List ℕ) (b : Buckets) (held : ℕ) : Type 0 where
  pub standing : Standing table
  pub buckets : Counted table b
  pub fits : held ≤ max_group

-- all of a record's
pub record AskingAll (table : List ℕ) (b : Buckets) (g : Groups) : Type 0 where
  pub standing : Standing table
  pub buckets : Counted table b
  pub rising : rising_ok g ≡ true

-- a slot, asked of the buckets and of the weights
pub record Among (table : List ℕ) (b : Buckets) (w : TopicWeights) (s : ℕ) : Type 0 where
  pub at : SlotStanding table s
  pub buckets : Counted table b
  pub weights : Weights (state_of table) w

-- b is the score of every empty slot
pub record EmptyScore (st : State) (b : Balance) : Type 0 where
  pub range : BalanceIn b
  pub score : (s : ℕ) → s < slot_count → (peer_in st s).status ≡ 0 → Scores st s b
