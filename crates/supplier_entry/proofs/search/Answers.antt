use Rattle.index.proofs.Kit.{ℕ, ◌+◌, ◌-◌, ◌≡◌, ap, ◌∙◌, Bool, arith}
use Prim.Native.Nat.{◌/◌}
use lib.Dec.{eqb}
use lib.Ieee.{Float, to_bits, binary64}
use Rattle.supplier_entry.specs.Factor.{factor_of, factor_bits}
use Rattle.supplier_entry.proofs.FactorLaws.{halved_none, halved_up, halved_down, search_past, search_hit, search_miss}
use Rattle.supplier_entry.proofs.search.Goals as goal

-- what the comparison of floats says of the bits
compared : (n : ℕ) (x y : Float) (b : Bool) → y ≡ factor_of n → b ≡ eqb (to_bits binary64 y) (to_bits binary64 x) → b
    ≡ eqb (factor_bits n) (to_bits binary64 x)
unfolding factor_bits
compared n x y b e d = d ∙ ap (λ (z : Float). eqb (to_bits binary64 z) (to_bits binary64 x)) e

pub loop-from-init : goal.loop-from-init
loop-from-init c = halved_none _ _ _

pub overflow_add-middle : goal.overflow_add-middle
overflow_add-middle c = let l = c.loop-from in omega (arith, l.invariant.end)

pub factor_bits-requires : goal.factor_bits-requires
factor_bits-requires c = let l = c.loop-from in omega (arith, l.invariant.end)

pub overflow_add-from : goal.overflow_add-from
overflow_add-from c = let l = c.loop-from in omega (arith, l.invariant.end)

pub loop-from-preserved-then-factor_bits-bits : goal.loop-from-preserved-then-factor_bits-bits
loop-from-preserved-then-factor_bits-bits c =
    let l = c.loop-from in
    let a = c.args in
    halved_up a.low a.high (to_bits binary64 a.x) l.from l.to (l.from + (l.to - l.from) / 2) _
    c.requires.0 l.invariant (omega arith) (omega arith) c.factor_bits.ensures c.if-factor_bits-bits.true

pub loop-from-preserved : goal.loop-from-preserved
loop-from-preserved c =
    let l = c.loop-from in
    let a = c.args in
    halved_down a.low a.high (to_bits binary64 a.x) l.from l.to (l.from + (l.to - l.from) / 2) _
    c.requires.0 l.invariant (omega arith) (omega arith) c.factor_bits.ensures c.if-factor_bits-bits.false

pub returns-then-high-from : goal.returns-then-high-from
returns-then-high-from c =
    let l = c.loop-from in
    search_past _ _ _ l.from l.to c.requires.0 l.invariant c.loop-from-test.false c.if-high-from.true

pub returns-then-same : goal.returns-then-same
returns-then-same c =
    let l = c.loop-from in
    search_hit _ _ _ l.from l.to c.requires.0 l.invariant c.loop-from-test.false
    c.if-high-from.false _
    (compared _ c.args.x _ _ c.factor.ensures.0 c.same.ensures)
    c.if-same.true

pub returns : goal.returns
returns c =
    let l = c.loop-from in
    search_miss _ _ _ l.from l.to c.requires.0 l.invariant c.loop-from-test.false
    c.if-high-from.false _
    (compared _ c.args.x _ _ c.factor.ensures.0 c.same.ensures)
    c.if-same.false
