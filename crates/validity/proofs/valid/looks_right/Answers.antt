use Prim.Native.Nat.{ℕ, ◌≤◌}
use mathlib.Core.Path.{subst}
use Rattle.validity.specs.Valid.{max_time}
use Rattle.validity.proofs.LookLaws.{valid_told}
use Rattle.slot_words.proofs.WalkLaws.{refused}
use Rattle.validity.proofs.valid.looks_right.Goals as goal

pub returns-then-load_clock-gt-MAX_TIME : goal.returns-then-load_clock-gt-MAX_TIME
returns-then-load_clock-gt-MAX_TIME c e = refused e

pub returns-then-not-accepted : goal.returns-then-not-accepted
returns-then-not-accepted c e = refused e

pub returns-then-not-joined_ok : goal.returns-then-not-joined_ok
returns-then-not-joined_ok c e = refused e

pub returns : goal.returns
returns c e =
    valid_told _ _ (subst (λ (n : ℕ). n ≤ max_time) c.load_clock.ensures c.if-load_clock-gt-MAX_TIME.false)
    (c.accepted.ensures c.if-not-accepted.false)
    c.joined_ok.ensures
    c.if-not-joined_ok.false
    (c.records_right.ensures e)
