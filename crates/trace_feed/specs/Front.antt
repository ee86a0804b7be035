-- The front of a trace (02, order 9): "edition 2, a trace by two zero bytes and then 2 in front of its sheet (another third byte: 9 2, and
-- stop; its sheet's byte places count from the trace's first byte); edition 1 is still read". "A trace with a count and groups in its
-- connect is edition 3" (order 11).
use Rattle.std.specs.Prelude.{Result, Ok, Err}
use Rattle.trace_events.specs.declared.Edition.{Edition}
use Rattle.std.specs.Prelude.{ℕ, cond, ◌&&◌, List, [], ◌∷◌, eqb}
use Rattle.trace_events.specs.declared.Edition.TheVariants.{First, Second, Third}
use Rattle.trace_feed.specs.declared.FrontError.{FrontError}
use Rattle.trace_feed.specs.declared.FrontError.TheVariants.{Other, Cut}

-- the third byte is the edition's number: the parameters begin behind it
abbrev pub of_third : ℕ → Result (Edition × ℕ) FrontError
of_third b = cond (eqb b 2) (Ok (Second, 3)) (cond (eqb b 3) (Ok (Third, 3)) (Err Other))

abbrev pub third_in : List ℕ → Result (Edition × ℕ) FrontError
third_in [] = Err Cut
third_in (b ∷ s) = of_third b

-- the edition, and the place where the parameters begin; what does not begin with two zero bytes is edition 1
unfoldable pub front_in : List ℕ → Result (Edition × ℕ) FrontError
front_in [] = Ok (First, 0)
front_in (a ∷ []) = Ok (First, 0)
front_in (a ∷ (b ∷ s)) = cond (eqb a 0 && eqb b 0) (third_in s) (Ok (First, 0))
