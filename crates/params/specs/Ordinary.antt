-- The ordinary parameters (01: "D_lo 4, D 6, D_hi 12, D_out 2, D_score 4, backoffs 60 and 10 s; the team fixes and records the rest").
use Rattle.std.specs.Prelude.{ℕ, zero, suc, List, [], ◌∷◌, ◌++◌, ℤ, pos}
use Rattle.limits.specs.Limits.{minus}
use Rattle.params.specs.declared.Edition.TheVariants.{First}
use Rattle.params.specs.declared.Params.{Params}

abbrev general : List ℤ
general =
    pos 4
    ∷ pos 6
    ∷ pos 12
    ∷ pos 2
    ∷ pos 4
    -- backoffs, seconds
    ∷ pos 60
    ∷ pos 10
    -- retain seconds
    ∷ pos 3600
    -- opportunistic, graylist, gossip, publish thresholds, topic cap
    ∷ pos 1000
    ∷ minus 40000
    ∷ minus 10000
    ∷ minus 20000
    ∷ pos 50000
    -- w5, w6, P6 threshold, w7, P7 decay, decay-to-zero
    ∷ pos 1
    ∷ minus 5
    ∷ pos 16
    ∷ minus 10
    ∷ pos 970
    ∷ pos 10
    ∷ []

abbrev topic : List ℤ
topic =
    -- weight; w1, quantum, P1 cap
    pos 500
    ∷ pos 1
    ∷ pos 60000
    ∷ pos 10
    -- w2, P2 decay, P2 cap
    ∷ pos 1
    ∷ pos 990
    ∷ pos 20000
    -- w3, P3 decay, P3 cap, P3 threshold, activation
    ∷ minus 1
    ∷ pos 990
    ∷ pos 4000
    ∷ pos 1000
    ∷ pos 120000
    -- w3b, P3b decay
    ∷ minus 1
    ∷ pos 970
    -- w4, P4 decay
    ∷ minus 10
    ∷ pos 998
    ∷ []

abbrev times : ℕ → List ℤ → List ℤ
times zero l = []
times (suc n) l = l ++ times n l

unfoldable pub ordinary_numbers : List ℤ
ordinary_numbers = general ++ times 8 topic

-- they are of the first edition
abbrev pub ordinary_params : Params
ordinary_params = record { numbers = ordinary_numbers; edition = First }
