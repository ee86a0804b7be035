-- What a load makes of bytes (02, order 8), test by test: "A load tests the set-up numbers (2), the sheet (9 as in 01), the clock (2), then
-- edition and count as they are read, another edition or a count above the slots being 9 at its place; after them 10 comes before 9."
use Rattle.std.specs.Prelude.{Result, Ok, Err}
use Rattle.saves.specs.declared.LoadError.{LoadError}
use Rattle.saves.specs.declared.LoadError.TheVariants.{Broken, Malformed, OutOfRange}
use Rattle.std.specs.Prelude.{Option, Some, None}
use Rattle.std.specs.Prelude.{ℕ, zero, suc, ◌+◌, ◌-◌, ◌*◌, ◌/◌, ◌%◌, ◌≡◌, Bool, true, false, cond, not, ◌&&◌, List, [], ◌∷◌, map, eqb, leb, ltb, length, get_or}
use Rattle.std.specs.Prelude.{replicate}
use Rattle.index.specs.Index.{first, gather}
use Rattle.varint.specs.Groups.{read_at}
use Rattle.varint.specs.Codes.{code_of}
use Rattle.params.specs.declared.Params.{Params}
use Rattle.params.specs.Check.{first_broken}
use Rattle.records.specs.declared.Groups.{Groups}
use Rattle.records.specs.declared.Peer.{Peer}
use Rattle.records.specs.declared.TopicRecord.{TopicRecord}
use Rattle.records.specs.Records.{State, slot_count, topic_count, no_peer, no_topic}
use Rattle.layout.specs.Rows.{tab}
use Rattle.rows.specs.Rows.{span}
use Rattle.layout.specs.View.{place_count, state_of}
use Rattle.validity.specs.Valid.{max_time, max_id, cap2, cap3}
use Rattle.lookup.specs.Fresh.{setup_of, fresh_state}
use Rattle.saves.specs.Save.{edition, row_size}

-- ---- numbers from bytes
-- the numbers and the place after them, or the place at which they cannot go on
pub data Parse : Type 0 where
  numbers : List ℕ → ℕ → Parse
  malformed : ℕ → Parse

abbrev pub then : ℕ → Parse → Parse
then n (numbers l next) = numbers (n ∷ l) next
then n (malformed p) = malformed p

abbrev pub step : (ℕ → Parse) → ℕ → Option (ℕ × ℕ) → Parse
step rest at None = malformed at
step rest at (Some (n, next)) = then n (rest next)

unfoldable pub parse_from : ℕ → List ℕ → ℕ → Parse
parse_from zero s at = numbers [] at
parse_from (suc n) s at = step (λ next. parse_from n s next) at (read_at 18446744073709551615 s at)

-- "bytes left over"
abbrev pub ending : List ℕ → Parse → Parse
ending s (numbers l next) = cond (ltb next (length s)) (malformed next) (numbers l next)
ending s (malformed p) = malformed p

abbrev pub end_of : Parse → ℕ
end_of (numbers l next) = next
end_of (malformed p) = p

-- the place of number i, of those that stand from a place on: where the i numbers before it end
unfoldable pub place_of : List ℕ → ℕ → ℕ → ℕ
place_of s at i = end_of (parse_from i s at)

-- ---- the ranges: "Ids not ascending, or numbers outside 01's ranges, are 9 with the place; remaining retain times go to 86,400,000,
-- backoffs to 3,600,000"
abbrev pub most_retain : ℕ
most_retain = 86400000

abbrev pub most_backoff : ℕ
most_backoff = 3600000

-- of a router with the sheet, the most of each number of a record
unfoldable pub most_of : State → List ℕ
most_of st =
    max_id
    ∷ most_retain
    ∷ 2000000000
    ∷ 1000000
    ∷ gather topic_count (λ t. cap2 st t ∷ cap3 st t ∷ 1000000000000 ∷ 1000000 ∷ most_backoff ∷ [])

-- the number that number i has to pass if it is an id: the id before it, or 0
unfoldable pub prior : List ℕ → ℕ → ℕ
prior l i = cond (ltb i row_size) 0 (get_or l (i - row_size) 0)

unfoldable pub ascends : List ℕ → ℕ → Bool
ascends l i = cond (eqb (i % row_size) 0) (ltb (prior l i) (get_or l i 0)) true

unfoldable pub outside : (most : List ℕ) → List ℕ → ℕ → Bool
outside most l i = not (ascends l i && leb (get_or l i 0) (get_or most (i % row_size) 0))

-- ---- the router
-- "a backoff of 0 as end 0, other times counted from the load's clock"
unfoldable pub end_from : ℕ → ℕ → ℕ
end_from clock left = cond (eqb left 0) 0 (clock + left)

-- "one to four different address groups ([..] a loaded one the group 0)" (order 11), as a record holds it: the group + 1
abbrev pub group_zero : Groups
group_zero = record { first = 1; second = 0; third = 0; fourth = 0 }

-- "retained in slots 0 upward, no topic joined, version 1.0.0, all else 0"
unfoldable pub loaded_peer : ℕ → List ℕ → Peer
loaded_peer clock row =
    record {
      status = 2;
      id = get_or row 0 0;
      groups = group_zero;
      outbound = 0;
      explicit = 0;
      version = 0;
      p5 = get_or row 2 0;
      p7 = get_or row 3 0;
      retain = clock + get_or row 1 0;
      backoff = tab topic_count (λ t. end_from clock (get_or row (8 + t * 5) 0));
    }

unfoldable pub loaded_topic : List ℕ → ℕ → TopicRecord
loaded_topic row t =
    record {
      p2 = get_or row (4 + t * 5) 0;
      p3 = get_or row (5 + t * 5) 0;
      p4 = get_or row (7 + t * 5) 0;
      p3b = get_or row (6 + t * 5) 0;
      subscribed = 0;
      member = 0;
      graft = 0;
      mesh = 0;
    }

abbrev pub row_at : List ℕ → ℕ → List ℕ
row_at l k = span l (k * row_size) row_size

-- the router of the n records whose numbers are l
unfoldable pub loaded_state : Params → ℕ → ℕ → List ℕ → State
loaded_state p clock n l =
    record {
      clock = clock;
      joined = replicate topic_count 0;
      codes = map code_of p.numbers;
      setup = setup_of p;
      peers = tab slot_count (λ s. cond (ltb s n) (loaded_peer clock (row_at l s)) no_peer);
      topics = tab place_count (λ k. cond (ltb (k / topic_count) n) (loaded_topic (row_at l (k / topic_count)) (k % topic_count)) no_topic);
    }

-- ---- the answer
pub data Loading : Type 0 where
  -- 0
  loaded : State → Loading
  -- 2
  out_of_range : Loading
  -- 9 with the index or the rule of the parameters, or with the place
  broken : ℕ → Loading
  -- 10 with the place
  bad : ℕ → Loading

-- how many records an edition may have, if it is one; "Edition 1 saves load by order 8's rules, with 64 for the slots" (order 9)
unfoldable pub slots_of : ℕ → Option ℕ
slots_of e = cond (eqb e 1) (Some 64) (cond (eqb e edition) (Some slot_count) None)

module _ (p : Params) (clock : ℕ) (s : List ℕ) where
  abbrev pub judged_by : Option ℕ → ℕ → ℕ → List ℕ → Loading
  judged_by (Some i) n at l = broken (place_of s at i)
  judged_by None n at l = loaded (loaded_state p clock n l)

  abbrev pub judged : ℕ → ℕ → Parse → Loading
  judged n at (numbers l next) = judged_by (first (n * row_size) (outside (most_of (fresh_state p)) l)) n at l
  judged n at (malformed q) = bad q

  unfoldable pub records : ℕ → ℕ → Loading
  records n at = judged n at (ending s (parse_from (n * row_size) s at))

  abbrev pub counted : ℕ → ℕ → Option (ℕ × ℕ) → Loading
  counted most at None = bad at
  counted most at (Some (n, next)) = cond (leb n most) (records n next) (broken at)

  abbrev pub of_edition : Option ℕ → ℕ → Loading
  of_edition (Some most) at = counted most at (read_at 18446744073709551615 s at)
  of_edition None at = broken 0

  abbrev pub opened : Option (ℕ × ℕ) → Loading
  opened None = bad 0
  opened (Some (e, next)) = of_edition (slots_of e) next

  abbrev pub timed : Bool → Loading
  timed ok = cond ok (opened (read_at 18446744073709551615 s 0)) out_of_range

  abbrev pub sheeted : Option ℕ → Loading
  sheeted (Some i) = broken i
  sheeted None = timed (leb clock max_time)

-- `fine` says that the set-up numbers beside the sheet are in their ranges
unfoldable pub load_of : Bool → Params → ℕ → List ℕ → Loading
load_of fine p clock s = cond fine (sheeted p clock s (first_broken p)) out_of_range

-- ---- what a load promises: r is the answer, table what stood there and table' what stands there after it
abbrev pub answer_of : Loading → Result (Unit {0}) LoadError
answer_of (loaded st) = Ok tt
answer_of out_of_range = Err OutOfRange
answer_of (broken i) = Err (Broken i)
answer_of (bad i) = Err (Malformed i)

abbrev pub left_by : Loading → State → State
left_by (loaded st) u = st
left_by out_of_range u = u
left_by (broken i) u = u
left_by (bad i) u = u

abbrev pub refuses : Result (Unit {0}) LoadError → Bool
refuses (Ok tt) = false
refuses (Err OutOfRange) = true
refuses (Err (Broken i)) = true
refuses (Err (Malformed i)) = true

pub record Loads (o : Loading) (r : Result (Unit {0}) LoadError) (table table' : List ℕ) : Type 0 where
  pub answer : r ≡ answer_of o
  pub state : state_of table' ≡ left_by o (state_of table)
  pub kept : refuses r ≡ true → table' ≡ table

-- 01's number of each answer, and the value that goes with it
abbrev pub loaded_number : Result (Unit {0}) LoadError → ℕ
loaded_number (Ok tt) = 0
loaded_number (Err OutOfRange) = 2
loaded_number (Err (Broken i)) = 9
loaded_number (Err (Malformed i)) = 10

abbrev pub loaded_value : Result (Unit {0}) LoadError → ℕ
loaded_value (Ok tt) = 0
loaded_value (Err OutOfRange) = 0
loaded_value (Err (Broken i)) = i
loaded_value (Err (Malformed i)) = i
