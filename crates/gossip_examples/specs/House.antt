-- One house of twelve peers of different sorts, and what each of order 6's and 7's sentences says of them. The answers are worked out from
-- the sentences, which stand beside them.
use Rattle.std.specs.Prelude.{ℕ, ◌+◌, ◌-◌, ◌≡◌, List, [], ◌∷◌, ◌++◌, map}
use Rattle.limits.specs.Limits.{minus}
use Rattle.records.specs.Records.{slot_count}
use Rattle.lookup.specs.Name.{meshsub}
use Rattle.sets.specs.Sets.{ascending}
use Rattle.rules.specs.Calls.{connect, disconnect, join, subscribe, graft, rate}
use Rattle.gossip.specs.Notes.{Setup}
use Rattle.gossip.specs.Calls.{New, ask_all, idontwant, relay, store, announce, ihave, iwant, Any, old, new}
use Rattle.gossip_examples.specs.Worked.{Seen, quiet, told, listed, run, begin}

-- ---- who lives there, by slot. Their ids do not rise, so an order by slot is none by id
-- members of topic 0: of 1.2.0; of 1.1.0; of 1.2.0 and graylisted
abbrev pub member : ℕ
member = 40

abbrev pub older : ℕ
older = 7

abbrev pub outcast : ℕ
outcast = 30

-- subscribed to topic 0 and no members: explicit, of 1.2.0, and scoring below graylist; at, just below and just above the gossip threshold
abbrev pub friend : ℕ
friend = 25

abbrev pub at_gossip : ℕ
at_gossip = 12

abbrev pub below_gossip : ℕ
below_gossip = 9

abbrev pub above_gossip : ℕ
above_gossip = 50

-- subscribed to topic 1 alone: of 1.2.0; explicit and of 1.0.0
abbrev pub elsewhere : ℕ
elsewhere = 3

abbrev pub friend_elsewhere : ℕ
friend_elsewhere = 5

-- explicit, subscribed to topic 0, and gone: its record is retained
abbrev pub gone : ℕ
gone = 60

-- of 1.0.0, subscribed to topic 0
abbrev pub oldest : ℕ
oldest = 21

-- of 1.2.0, subscribed to nothing, at the graylist threshold
abbrev pub at_graylist : ℕ
at_graylist = 33

-- never seen
abbrev pub stranger : ℕ
stranger = 99

-- ---- how they come to be so, all at time 1. A score is w5 × P5 × 1000 here, w5 being 1: the gossip threshold of -10,000 thousandths of a
-- point is reached at a P5 of -10,000,000 millionths, the graylist threshold of -40,000 at -40,000,000
-- by /meshsub/1.m.0, with flags (2: explicit)
abbrev pub comes_as : ℕ → ℕ → ℕ → List Any
comes_as flags m id = old (connect 1 id (0 ∷ []) flags (meshsub (48 + m))) ∷ []

-- subscribed to topic t
abbrev pub guest : ℕ → ℕ → ℕ → List Any
guest m t id = comes_as 0 m id ++ (old (subscribe 1 id t) ∷ [])

abbrev pub explicit_guest : ℕ → ℕ → ℕ → List Any
explicit_guest m t id = comes_as 2 m id ++ (old (subscribe 1 id t) ∷ [])

-- in the mesh of topic 0
abbrev pub insider : ℕ → ℕ → List Any
insider m id = guest m 0 id ++ (old (graft 1 id 0) ∷ [])

-- slots 0 to 11; message 5 is in the outcast's set before it falls
abbrev pub house : List Any
house =
    old (join 1 0)
    ∷ old (join 1 1)
    ∷ insider 2 member
    ++ insider 1 older
    ++ insider 2 outcast
    ++ explicit_guest 2 0 friend
    ++ guest 2 0 at_gossip
    ++ guest 2 0 below_gossip
    ++ guest 1 0 above_gossip
    ++ guest 2 1 elsewhere
    ++ explicit_guest 0 1 friend_elsewhere
    ++ explicit_guest 2 0 gone
    ++ guest 0 0 oldest
    ++ comes_as 0 2 at_graylist
    ++ (old (disconnect 1 gone)
    ∷ new (idontwant 1 outcast 5)
    ∷ old (rate 1 outcast (minus 40000001))
    ∷ old (rate 1 friend (minus 40000001))
    ∷ old (rate 1 at_gossip (minus 10000000))
    ∷ old (rate 1 below_gossip (minus 10000001))
    ∷ old (rate 1 above_gossip (minus 9999999))
    ∷ old (rate 1 at_graylist (minus 40000000))
    ∷ [])

-- ---- a call after these, and what it gives
pub record Case : Type 0 where
  pub call : New
  pub gives : Seen

abbrev pub on : New → Seen → Case
on c s = record { call = c; gives = s }

abbrev pub call_of : Case → Any
call_of c = new c.call

abbrev pub given_by : Case → Seen
given_by c = c.gives

-- each call of the house is done, without an action
abbrev pub settled : List Seen
settled = map (λ c. quiet 0) house

abbrev pub InHouse : Setup → List Case → Type 0
InHouse p l = run (house ++ map call_of l) (begin p) ≡ settled ++ map given_by l

-- D_lazy and the factor; two numbers, IHAVEs and replies each
abbrev pub lazily : ℕ → ℕ → Setup
lazily lazy factor = record { limit = 2; lazy = lazy; factor = factor; ihaves = 2; replies = 2 }

-- D_lazy above the number of targets
abbrev pub roomy : Setup
roomy = lazily 6 250

-- ---- order 6
-- "A host with a large message asks for IDONTWANT to all 1.2.0 members of the topic": whatever they score; friends are no members
-- "but the sender (0: ourselves)"; a sender that is not asked takes nobody's place; topic 1 has no members
abbrev pub asks : List Case
asks =
    on (ask_all 2 0 0 6) (told 3 (member ∷ outcast ∷ []))
    ∷ on (ask_all 2 0 member 6) (told 3 (outcast ∷ []))
    ∷ on (ask_all 2 0 older 6) (told 3 (member ∷ outcast ∷ []))
    ∷ on (ask_all 2 1 0 6) (told 3 [])
    ∷ []

-- "A relay call lists by slot [..] the members and connected, subscribed explicit peers": who is gone or subscribed elsewhere is none
-- "except the sender and those whose set holds the number": 5 is in the outcast's, and 6 comes into the friend's
abbrev pub relays : List Case
relays =
    on (relay 2 0 0 6) (told 4 (member ∷ older ∷ outcast ∷ friend ∷ []))
    ∷ on (relay 2 1 0 6) (told 4 (friend_elsewhere ∷ []))
    ∷ on (relay 2 0 older 6) (told 4 (member ∷ outcast ∷ friend ∷ []))
    ∷ on (relay 2 0 friend 6) (told 4 (member ∷ older ∷ outcast ∷ []))
    ∷ on (relay 2 0 at_gossip 6) (told 4 (member ∷ older ∷ outcast ∷ friend ∷ []))
    ∷ on (relay 2 0 0 5) (told 4 (member ∷ older ∷ friend ∷ []))
    ∷ on (idontwant 2 friend 6) (quiet 0)
    ∷ on (relay 2 0 0 6) (told 4 (member ∷ older ∷ outcast ∷ []))
    ∷ []

-- "A notice from an older or graylisted peer is 11": also of a number that its set holds. An explicit peer is not graylisted ("from a
-- non-explicit peer scoring below graylist", 01), but may be older; at the threshold a peer is not below it; 3 is as for every call
abbrev pub notices : List Case
notices =
    on (idontwant 2 older 8) (quiet 11)
    ∷ on (idontwant 2 oldest 8) (quiet 11)
    ∷ on (idontwant 2 friend_elsewhere 8) (quiet 11)
    ∷ on (idontwant 2 outcast 8) (quiet 11)
    ∷ on (idontwant 2 outcast 5) (quiet 11)
    ∷ on (idontwant 2 friend 8) (quiet 0)
    ∷ on (idontwant 2 at_graylist 8) (quiet 0)
    ∷ on (idontwant 2 below_gossip 8) (quiet 0)
    ∷ on (idontwant 2 gone 8) (quiet 3)
    ∷ on (idontwant 2 stranger 8) (quiet 3)
    ∷ on (relay 2 0 0 8) (told 4 (member ∷ older ∷ outcast ∷ []))
    ∷ []

-- ---- order 7
-- "a lent list of 192 numbers"
abbrev pub lent : ℕ
lent = 192

abbrev pub by_slots : List ℕ
by_slots = ascending 0 slot_count

-- a permutation that is neither by slot nor against it; what is none, with slot 0 twice and slot 255 not at all
abbrev pub mixed : List ℕ
mixed = 10 ∷ 0 ∷ 6 ∷ 3 ∷ 4 ∷ 9 ∷ 5 ∷ 1 ∷ 2 ∷ 8 ∷ 7 ∷ ascending 11 (slot_count - 11)

abbrev pub repeated : List ℕ
repeated = 0 ∷ ascending 0 (slot_count - 1)

-- "Targets are connected subscribed non-members, not explicit, scoring at least the gossip threshold", "in draw order", "none without
-- numbers": in topic 0 those in slots 4, 6 and 10
abbrev pub targets : List Case
targets =
    on (announce 2 0 mixed lent) (listed [] [])
    ∷ on (store 2 0 4) (quiet 0)
    ∷ on (store 2 1 8) (quiet 0)
    ∷ on (announce 2 0 by_slots lent) (listed (4 ∷ []) (at_gossip ∷ above_gossip ∷ oldest ∷ []))
    ∷ on (announce 2 0 mixed lent) (listed (4 ∷ []) (oldest ∷ above_gossip ∷ at_gossip ∷ []))
    ∷ on (announce 2 1 mixed lent) (listed (8 ∷ []) (elsewhere ∷ []))
    ∷ []

-- "IHAVE [..], or IWANT of one number, from a non-explicit peer under the threshold is 11": a member too; at the threshold it is not
-- under it; whether the peer is subscribed is not asked
-- "else IHAVE is answered [..] by those that no topic stores, each once, in order"; an IWANT "when no topic stores it, 11"
abbrev pub gossiped : List Case
gossiped =
    on (store 2 0 4) (quiet 0)
    ∷ on (store 2 1 8) (quiet 0)
    ∷ on (ihave 2 below_gossip 0 (7 ∷ []) lent) (quiet 11)
    ∷ on (ihave 2 outcast 0 (7 ∷ []) lent) (quiet 11)
    ∷ on (ihave 2 at_gossip 0 (9 ∷ 4 ∷ 7 ∷ 8 ∷ 9 ∷ []) lent) (listed (9 ∷ 7 ∷ []) [])
    ∷ on (ihave 2 above_gossip 1 (4 ∷ 8 ∷ []) lent) (listed [] [])
    ∷ on (ihave 2 friend 0 (7 ∷ []) lent) (listed (7 ∷ []) [])
    ∷ on (ihave 2 elsewhere 0 (7 ∷ []) lent) (listed (7 ∷ []) [])
    ∷ on (ihave 2 gone 0 (7 ∷ []) lent) (quiet 3)
    ∷ on (iwant 2 below_gossip 4) (quiet 11)
    ∷ on (iwant 2 outcast 4) (quiet 11)
    ∷ on (iwant 2 at_gossip 4) (quiet 0)
    ∷ on (iwant 2 above_gossip 8) (quiet 0)
    ∷ on (iwant 2 friend 4) (quiet 0)
    ∷ on (iwant 2 elsewhere 4) (quiet 0)
    ∷ on (iwant 2 gone 4) (quiet 3)
    ∷ on (iwant 2 member 7) (quiet 11)
    ∷ []

-- ---- both orders
-- "Ask and relay in a topic not joined are 11"; "store, announce or IHAVE in a topic not joined is 11". Of the tests 12, 2, 8, 1, 6, 7, 3,
-- 4, 5, 11, a sender that is not connected (3) and a permutation that is none (7) come first
abbrev pub unjoined : List Case
unjoined =
    on (ask_all 2 2 member 6) (quiet 11)
    ∷ on (relay 2 2 0 6) (quiet 11)
    ∷ on (store 2 2 6) (quiet 11)
    ∷ on (announce 2 2 mixed lent) (quiet 11)
    ∷ on (ihave 2 member 2 (7 ∷ []) lent) (quiet 11)
    ∷ on (ask_all 2 2 stranger 6) (quiet 3)
    ∷ on (relay 2 2 gone 6) (quiet 3)
    ∷ on (ihave 2 stranger 2 (7 ∷ []) lent) (quiet 3)
    ∷ on (iwant 2 stranger 7) (quiet 3)
    ∷ on (announce 2 2 repeated lent) (quiet 7)
    ∷ on (announce 2 0 repeated lent) (quiet 7)
    ∷ []

-- "IHAVE of up to 192 numbers (more: 2)"; lists of under 192 numbers are 8; 2, 8 and 1 come first, in this order. 11 moves the clock and 3
-- does not
abbrev pub tests : List Case
tests =
    on (ihave 1 stranger 0 (ascending 100 193) 191) (quiet 2)
    ∷ on (ihave 1 stranger 0 (ascending 100 192) 191) (quiet 8)
    ∷ on (ihave 1 stranger 0 (ascending 100 192) 192) (quiet 1)
    ∷ on (ihave 2 stranger 0 (ascending 100 192) 192) (quiet 3)
    ∷ on (announce 1 0 repeated 191) (quiet 8)
    ∷ on (announce 1 0 repeated 192) (quiet 1)
    ∷ on (idontwant 2 0 6) (quiet 2)
    ∷ on (relay 2 8 0 6) (quiet 2)
    ∷ on (relay 5 0 stranger 6) (quiet 3)
    ∷ on (idontwant 4 older 6) (quiet 11)
    ∷ on (relay 3 0 0 6) (quiet 1)
    ∷ []

-- ---- how many targets are taken: a hall with three guests, 31 to 33 in slots 0 to 2
abbrev pub hall : List Any
hall = old (join 1 0) ∷ guest 1 0 31 ++ guest 1 0 32 ++ guest 1 0 33 ++ (new (store 2 0 4) ∷ [])

-- slot 2 first, then slot 0
abbrev pub hall_order : List ℕ
hall_order = 2 ∷ 0 ∷ 1 ∷ ascending 3 (slot_count - 3)

abbrev pub Takes : Setup → List ℕ → Type 0
Takes p ids =
    run (hall ++ (new (announce 2 0 hall_order lent) ∷ [])) (begin p) ≡ map (λ c. quiet 0) hall ++ (listed (4 ∷ []) ids ∷ [])

pub record House : Type 0 where
  pub said : InHouse roomy (asks ++ relays ++ notices ++ targets ++ gossiped ++ unjoined ++ tests)
  -- "take the larger of D_lazy and floor(count × factor / 1000), or all if fewer, in draw order": of 2 and 0.999; of 1 and 2.001; of 0 and
  -- 0.999; of 4 and 0.75, and there are three
  pub lazy : Takes (lazily 2 333) (33 ∷ 31 ∷ [])
  pub factor : Takes (lazily 1 667) (33 ∷ 31 ∷ [])
  pub none : Takes (lazily 0 333) []
  pub all : Takes (lazily 4 250) (33 ∷ 31 ∷ 32 ∷ [])
