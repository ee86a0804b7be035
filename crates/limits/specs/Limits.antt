-- The limits of the parameters (01, "The sheet"): "Each number of the sheet lies between its two limits, kept in one table". The table has
-- a row for each field, in 01's order. src/lib.rt has the same rows.
use Rattle.std.specs.Prelude.{ℕ, ◌+◌, ◌-◌, ◌*◌, ◌%◌, Bool, not, ◌&&◌, cond, List, [], ◌∷◌, ltb, get_or, ℤ, pos, neg_ℤ}
use Rattle.std.specs.Int.Signed.{le_z}
use Rattle.limits.specs.declared.Limit.{Limit}

-- "19 general, then 16 per topic": 147 in all (`param_count`), 35 fields
abbrev pub general_count : ℕ
general_count = 19

abbrev pub of_topic : ℕ
of_topic = 16

abbrev pub field_count : ℕ
field_count = general_count + of_topic

-- the j-th number of topic k
abbrev pub place : ℕ → ℕ → ℕ
place k j = general_count + of_topic * k + j

abbrev pub minus : ℕ → ℤ
minus n = neg_ℤ (pos n)

abbrev pub to : ℤ → ℤ → Limit
to low high = record { low = low; high = high }

unfoldable pub limits : List Limit
limits =
    -- general: D_lo
    to (pos 1) (pos 48)
    -- D
    ∷ to (pos 1) (pos 48)
    -- D_hi
    ∷ to (pos 1) (pos 48)
    -- D_out
    ∷ to (pos 0) (pos 24)
    -- D_score
    ∷ to (pos 0) (pos 48)
    -- prune backoff, seconds
    ∷ to (pos 1) (pos 3600)
    -- unsubscribe backoff, seconds
    ∷ to (pos 1) (pos 3600)
    -- retain seconds
    ∷ to (pos 0) (pos 86400)
    -- opportunistic threshold, thousandths of a point
    ∷ to (pos 0) (pos 1000000)
    -- graylist threshold, thousandths of a point
    ∷ to (minus 1000000000) (minus 1)
    -- gossip threshold, thousandths of a point
    ∷ to (minus 1000000000) (minus 1)
    -- publish threshold, thousandths of a point
    ∷ to (minus 1000000000) (minus 1)
    -- topic cap, thousandths of a point (0: none)
    ∷ to (pos 0) (pos 1000000000)
    -- w5
    ∷ to (pos 1) (pos 100)
    -- w6
    ∷ to (minus 100) (minus 1)
    -- P6 threshold
    ∷ to (pos 1) (pos 256)
    -- w7
    ∷ to (minus 100) (minus 1)
    -- P7 decay
    ∷ to (pos 1) (pos 999)
    -- decay-to-zero, thousandths
    ∷ to (pos 0) (pos 1000)
    -- topic: weight, thousandths
    ∷ to (pos 0) (pos 1000)
    -- w1
    ∷ to (pos 0) (pos 100)
    -- quantum, ms
    ∷ to (pos 1) (pos 3600000)
    -- P1 cap
    ∷ to (pos 0) (pos 1000)
    -- w2
    ∷ to (pos 0) (pos 100)
    -- P2 decay
    ∷ to (pos 1) (pos 999)
    -- P2 cap
    ∷ to (pos 0) (pos 1000000)
    -- w3
    ∷ to (minus 100) (pos 0)
    -- P3 decay
    ∷ to (pos 1) (pos 999)
    -- P3 cap
    ∷ to (pos 1) (pos 1000000)
    -- P3 threshold
    ∷ to (pos 1) (pos 1000000)
    -- activation, ms
    ∷ to (pos 0) (pos 3600000)
    -- w3b
    ∷ to (minus 100) (pos 0)
    -- P3b decay
    ∷ to (pos 1) (pos 999)
    -- w4
    ∷ to (minus 100) (pos 0)
    -- P4 decay
    ∷ to (pos 1) (pos 999)
    ∷ []

-- the field of number i: a general number's is its index, and topic k's j-th number has the field 19 + j
abbrev pub field_of : ℕ → ℕ
field_of i = cond (ltb i general_count) i (general_count + (i - general_count) % of_topic)

unfoldable pub limit_at : ℕ → Limit
limit_at f = get_or limits f (to (pos 0) (pos 0))

-- number i
abbrev pub at : List ℤ → ℕ → ℤ
at xs i = get_or xs i (pos 0)

abbrev pub lies : ℤ → Limit → Bool
lies x l = le_z l.low x && le_z x l.high

-- "each number lies between its two limits"
unfoldable pub in_limits : List ℤ → ℕ → Bool
in_limits xs i = lies (at xs i) (limit_at (field_of i))

unfoldable pub outside : List ℤ → ℕ → Bool
outside xs i = not (in_limits xs i)
