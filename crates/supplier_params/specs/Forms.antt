-- The fields of the other supplier's parameters (02, order 12): "our 147 fields in our order, nine bytes each". The table of kinds and
-- units has a row for each field, beside the limits of params/specs/Limits.antt, which hold here too. src/lib.rt has the same rows.
use Rattle.std.specs.Prelude.{ℕ, List, [], ◌∷◌, get_or}
use Rattle.supplier_entry.specs.declared.Form.{Form}
use Rattle.supplier_entry.specs.Entries.{factor_kind, whole_kind, span_kind}

-- 147 entries of nine bytes
abbrev pub supplier_bytes : ℕ
supplier_bytes = 1323

-- "a factor as a 64-bit float (the decay factors and decay-to-zero)"
abbrev pub factor : Form
factor = record { kind = factor_kind; unit = 1 }

-- "a signed whole number (the rest)"
abbrev pub whole : Form
whole = record { kind = whole_kind; unit = 1 }

-- "a span in nanoseconds, unsigned (backoffs, retain, quantum, activation)", "as a whole number of our field's seconds or milliseconds"
abbrev pub seconds : Form
seconds = record { kind = span_kind; unit = 1000000000 }

abbrev pub milliseconds : Form
milliseconds = record { kind = span_kind; unit = 1000000 }

unfoldable pub forms : List Form
forms =
    -- general: D_lo, D, D_hi, D_out, D_score
    whole
    ∷ whole
    ∷ whole
    ∷ whole
    ∷ whole
    -- prune backoff, unsubscribe backoff, retain
    ∷ seconds
    ∷ seconds
    ∷ seconds
    -- opportunistic, graylist, gossip, publish thresholds, topic cap
    ∷ whole
    ∷ whole
    ∷ whole
    ∷ whole
    ∷ whole
    -- w5, w6, P6 threshold, w7
    ∷ whole
    ∷ whole
    ∷ whole
    ∷ whole
    -- P7 decay, decay-to-zero
    ∷ factor
    ∷ factor
    -- topic: weight, w1, quantum, P1 cap
    ∷ whole
    ∷ whole
    ∷ milliseconds
    ∷ whole
    -- w2, P2 decay, P2 cap
    ∷ whole
    ∷ factor
    ∷ whole
    -- w3, P3 decay, P3 cap, P3 threshold, activation
    ∷ whole
    ∷ factor
    ∷ whole
    ∷ whole
    ∷ milliseconds
    -- w3b, P3b decay
    ∷ whole
    ∷ factor
    -- w4, P4 decay
    ∷ whole
    ∷ factor
    ∷ []

unfoldable pub form_at : ℕ → Form
form_at f = get_or forms f (record { kind = 0; unit = 0 })
