-- Connects of the third edition, by computation: with two groups, with none, which the call refuses, and with five, which is malformed; in
-- the second edition a connect has one group and no count.
-- Assumes nothing.
use mathlib.Core.Path.{◌≡◌, refl}
use mathlib.Core.List.{[], ◌∷◌}
use Rattle.varint.specs.Groups.{decode, read_at}
use Rattle.rules.specs.Calls.{connect}
use Rattle.trace_events.specs.declared.Edition.TheVariants.{Second, Third}
use Rattle.trace_events.specs.Reading.{numbers_from, arities, arity, event, malformed, named, event_at}

two_groups : event_at Third (1 ∷ 5 ∷ 7 ∷ 2 ∷ 3 ∷ 9 ∷ 1 ∷ 0 ∷ []) 0 ≡ event (connect 5 7 (3 ∷ 9 ∷ []) 1 []) 8
unfolding event_at arity arities numbers_from named read_at decode
two_groups = refl

no_group : event_at Third (1 ∷ 5 ∷ 7 ∷ 0 ∷ 1 ∷ 0 ∷ []) 0 ≡ event (connect 5 7 [] 1 []) 6
unfolding event_at arity arities numbers_from named read_at decode
no_group = refl

five_groups : event_at Third (1 ∷ 5 ∷ 7 ∷ 5 ∷ []) 0 ≡ malformed
unfolding event_at arity arities numbers_from named read_at decode
five_groups = refl

one_group : event_at Second (1 ∷ 5 ∷ 7 ∷ 2 ∷ 3 ∷ 0 ∷ []) 0 ≡ event (connect 5 7 (2 ∷ []) 3 []) 6
unfolding event_at arity arities numbers_from named read_at decode
one_group = refl
