-- What the words tell of the flags of all slots, and the walk over members of their times.
use Rattle.std.specs.Prelude.{ℕ, ◌+◌, ◌*◌, ◌/◌, ◌%◌, ◌^◌, ◌≤◌, ◌<◌, ◌≡◌, List}
use Rattle.records.specs.Records.{State, slot_count, place, joined_in, peer_in, topic_in}
use Rattle.layout.specs.View.{bit_at}

-- the bits of w are the empty slots
pub record FreeSlots (st : State) (w : List ℕ) : Type 0 where
  pub empty : (s : ℕ) → s < slot_count → bit_at w 0 s ≡ 1 → (peer_in st s).status ≡ 0
  pub every : (s : ℕ) → s < slot_count → (peer_in st s).status ≡ 0 → bit_at w 0 s ≡ 1

-- the flags of the peers: an empty record has none, and from slot n on all are empty
pub record PeerFlags (st : State) (n : ℕ) : Type 0 where
  pub status : (s : ℕ) → s < slot_count → (peer_in st s).status ≤ 2
  pub version : (s : ℕ) → s < slot_count → (peer_in st s).version ≤ 2
  pub no_explicit : (s : ℕ) → s < slot_count → (peer_in st s).status ≡ 0 → (peer_in st s).explicit ≡ 0
  pub no_outbound : (s : ℕ) → s < slot_count → (peer_in st s).status ≡ 0 → (peer_in st s).outbound ≡ 0
  pub no_version : (s : ℕ) → s < slot_count → (peer_in st s).status ≡ 0 → (peer_in st s).version ≡ 0
  pub rest : (s : ℕ) → n ≤ s → s < slot_count → (peer_in st s).status ≡ 0

-- a topic's: who is subscribed is connected, and a member is subscribed, not explicit, in a joined topic
pub record TopicFlags (st : State) (t : ℕ) : Type 0 where
  pub connected : (s : ℕ) → s < slot_count → (topic_in st (place s t)).subscribed ≡ 1 → (peer_in st s).status % 2 ≡ 1
  pub subscribed : (s : ℕ) → s < slot_count → (topic_in st (place s t)).member ≡ 1 → (topic_in st (place s t)).subscribed ≡ 1
  pub chosen : (s : ℕ) → s < slot_count → (topic_in st (place s t)).member ≡ 1 → (peer_in st s).explicit ≡ 0
  pub joined : (s : ℕ) → s < slot_count → (topic_in st (place s t)).member ≡ 1 → joined_in st t ≡ 1

-- the members' times
pub record TimesWithin (st : State) (t clock : ℕ) : Type 0 where
  pub times :
      (s : ℕ) → s < slot_count → (topic_in st (place s t)).member ≡ 1 → (topic_in st (place s t)).graft + (topic_in st (place s t)).mesh ≤ clock

-- every bit of w is a member among the slots of word i
pub record MembersIn (st : State) (t i w : ℕ) : Type 0 where
  pub member : (j : ℕ) → j < 64 → w / 2 ^ j % 2 ≡ 1 → (topic_in st (place (64 * i + j) t)).member ≡ 1
