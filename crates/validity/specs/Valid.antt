-- When tables are a router's (01, answer 12: "Tables are a router's if .."), sentence by sentence. A change of a range or of a rule is made
-- here and in src/valid.rt; proofs/ValidLaws.antt says the same in plain facts.
use Rattle.std.specs.Prelude.{ℕ, ◌+◌, ◌*◌, Bool, ◌&&◌, ◌||◌, not, get_or, eqb, leb, ltb}
use Rattle.index.specs.Index.{every}
use Rattle.params.specs.Check.{accepted_codes}
use Rattle.records.specs.declared.Groups.{Groups}
use Rattle.records.specs.declared.Peer.{Peer}
use Rattle.records.specs.declared.TopicRecord.{TopicRecord}
use Rattle.varint.specs.Codes.{magnitude}
use Rattle.records.specs.Records.{State, slot_count, topic_count, place, code_in, joined_in, peer_in, topic_in, is_empty, is_retained}
use Rattle.records.specs.Parameters.{p2_cap_at, p3_cap_at}

-- "Times are milliseconds, 0 to 2^40."
abbrev pub max_time : ℕ
max_time = 1099511627776

-- 02, order 8: "remaining retain times go to 86,400,000, backoffs to 3,600,000, in test 12 too, from the clock". 01's "backoff ends to 2^40
-- + 3,600,000, retain ends to 2^40 + 86,400,000" follow, since the clock is at most 2^40
abbrev pub max_end : ℕ → ℕ
max_end clock = clock + 3600000

abbrev pub max_retain : ℕ → ℕ
max_retain clock = clock + 86400000

-- "Peer ids are 1 to 4,294,967,295"
abbrev pub max_id : ℕ
max_id = 4294967295

-- "address group (32 bits)", as a record holds it: the group + 1
abbrev pub max_group : ℕ
max_group = 4294967296

-- ---- a peer's record
-- "one to four different address groups [..], lowest first" (02, order 11): after a there is none, or a group above a, which is one
abbrev pub follows : ℕ → ℕ → Bool
follows a b = eqb b 0 || (leb 1 a && ltb a b && leb b max_group)

unfoldable pub rising_ok : Groups → Bool
rising_ok g =
    leb g.first max_group
    && follows g.first g.second
    && follows g.second g.third
    && follows g.third g.fourth

-- "every number is in its range": three versions have a name (01, and 02, order 6); P5 is the code of a number up to 10^9 either way, so at
-- most 2 * 10^9; "P4 and P7 stop at 10^6"
unfoldable pub peer_ranges : (clock : ℕ) → Peer → Bool
peer_ranges clock p =
    leb p.status 2
    && leb p.id max_id
    && rising_ok p.groups
    && leb p.outbound 1
    && leb p.explicit 1
    && leb p.version 2
    && leb p.p5 2000000000
    && leb p.p7 1000000
    && leb p.retain (max_retain clock)

-- each backoff end is at most m
unfoldable pub ends_up_to : ℕ → Peer → Bool
ends_up_to m p = every topic_count (λ t. leb (get_or p.backoff t 0) m)

-- a record that is not empty has an id, which is at least 1, and at least one group
unfoldable pub used_ok : Peer → Bool
used_ok p = is_empty p || (leb 1 p.id && leb 1 p.groups.first)

-- "empty records are all zero"
unfoldable pub zero_groups : Groups → Bool
zero_groups g = eqb g.first 0 && eqb g.second 0 && eqb g.third 0 && eqb g.fourth 0

unfoldable pub zero_peer : Peer → Bool
zero_peer p =
    eqb p.id 0
    && zero_groups p.groups
    && eqb p.outbound 0
    && eqb p.explicit 0
    && eqb p.version 0
    && eqb p.p5 0
    && eqb p.p7 0
    && eqb p.retain 0
    && ends_up_to 0 p

unfoldable pub empty_ok : Peer → Bool
empty_ok p = not (is_empty p) || zero_peer p

-- "a retain end (0 unless retained)"
unfoldable pub retain_ok : Peer → Bool
retain_ok p = is_retained p || eqb p.retain 0

unfoldable pub peer_ok : (clock : ℕ) → Peer → Bool
peer_ok clock p = peer_ranges clock p && ends_up_to (max_end clock) p && used_ok p && empty_ok p && retain_ok p

-- ---- what a record holds for one topic, by the status and the explicit flag of its peer, the topic's joined flag, the clock, and the caps
-- "P2, P3 counters to their caps"; "P4 and P7 stop at 10^6, P3b at 10^12"
unfoldable pub topic_ranges : (cap2 cap3 : ℕ) → TopicRecord → Bool
topic_ranges cap2 cap3 t =
    leb t.p2 cap2
    && leb t.p3 cap3
    && leb t.p4 1000000
    && leb t.p3b 1000000000000
    && leb t.subscribed 1
    && leb t.member 1
    && leb t.graft max_time
    && leb t.mesh max_time

-- "empty records are all zero"
unfoldable pub zero_topic : TopicRecord → Bool
zero_topic t =
    eqb t.p2 0
    && eqb t.p3 0
    && eqb t.p4 0
    && eqb t.p3b 0
    && eqb t.subscribed 0
    && eqb t.member 0
    && eqb t.graft 0
    && eqb t.mesh 0

unfoldable pub empty_topic_ok : (status : ℕ) → TopicRecord → Bool
empty_topic_ok status t = not (eqb status 0) || zero_topic t

-- "Graft and mesh time are 0 for a non-member."
unfoldable pub outside_ok : TopicRecord → Bool
outside_ok t = eqb t.member 1 || (eqb t.graft 0 && eqb t.mesh 0)

-- "a retained record has no subscription and no membership"
unfoldable pub retained_ok : (status : ℕ) → TopicRecord → Bool
retained_ok status t = not (eqb status 2) || (eqb t.subscribed 0 && eqb t.member 0)

-- "a member is connected, subscribed, not explicit, in a joined topic"
unfoldable pub member_ok : (status explicit joined : ℕ) → TopicRecord → Bool
member_ok status explicit joined t =
    not (eqb t.member 1) || (eqb status 1 && eqb t.subscribed 1 && eqb explicit 0 && eqb joined 1)

-- "graft time plus mesh time is at most the clock"
unfoldable pub times_ok : (clock : ℕ) → TopicRecord → Bool
times_ok clock t = leb (t.graft + t.mesh) clock

unfoldable pub topic_ok : (status explicit joined clock cap2 cap3 : ℕ) → TopicRecord → Bool
topic_ok status explicit joined clock cap2 cap3 t =
    topic_ranges cap2 cap3 t
    && empty_topic_ok status t
    && outside_ok t
    && retained_ok status t
    && member_ok status explicit joined t
    && times_ok clock t

-- ---- the tables, by slot and topic
-- the magnitude of topic t's j-th parameter: "19 general, then 16 per topic"
unfoldable pub topic_param : State → ℕ → ℕ → ℕ
topic_param st t j = magnitude (code_in st (19 + 16 * t + j))

-- P2 cap and P3 cap
abbrev pub cap2 : State → ℕ → ℕ
cap2 st t = topic_param st t p2_cap_at

abbrev pub cap3 : State → ℕ → ℕ
cap3 st t = topic_param st t p3_cap_at

-- a joined flag is 0 or 1
unfoldable pub joined_ok : State → ℕ → Bool
joined_ok st t = leb (joined_in st t) 1

-- topic t of slot s, whose peer has this status and this explicit flag
unfoldable pub topic_ok_at : State → (s status explicit t : ℕ) → Bool
topic_ok_at st s status explicit t =
    topic_ok status explicit (joined_in st t) st.clock (cap2 st t) (cap3 st t) (topic_in st (place s t))

unfoldable pub slot_ok : State → ℕ → Bool
slot_ok st s =
    peer_ok st.clock (peer_in st s) && every topic_count (topic_ok_at st s (peer_in st s).status (peer_in st s).explicit)

-- "no id stands twice"; ids start at 1, so 0 is none
unfoldable pub apart : ℕ → ℕ → Bool
apart a b = not (eqb b a && not (eqb a 0))

unfoldable pub new_id : State → ℕ → Bool
new_id st s = every s (λ k. apart (peer_in st s).id (peer_in st k).id)

-- the tables are a router's
unfoldable pub valid : State → Bool
valid st =
    -- "if the sheet passes 9", by the rules of its edition (02, order 14), which is one that there is
    accepted_codes st.setup.edition st.codes
    && leb st.clock max_time
    && every topic_count (joined_ok st)
    && every slot_count (slot_ok st)
    && every slot_count (new_id st)
