use Prim.Native.Nat.{ℕ, ◌<◌}
use mathlib.Core.Path.{refl, ap₂, ◌∙◌, subst}
use mathlib.Core.List.{List}
use native.Mathlib.Omega.{arith}
use Rattle.index.proofs.Lists.{built_none, built_more}
use Rattle.records.specs.declared.Setup.{Setup}
use Rattle.params.specs.Check.{accepted_codes}
use Rattle.validity.proofs.SignLaws.{size_fails, codes_built}
use Rattle.validity.proofs.valid.params_ok.Goals as goal

pub loop-i-init : goal.loop-i-init
loop-i-init c = built_none _ _ _ _ refl

pub returns-then-load_magnitude-gt-MAX_SIZE : goal.returns-then-load_magnitude-gt-MAX_SIZE
returns-then-load_magnitude-gt-MAX_SIZE c = size_fails _ _ _ (omega arith) c.load_magnitude.ensures.0 c.if-load_magnitude-gt-MAX_SIZE.true

pub load_code-requires : goal.load_code-requires
load_code-requires c =
    let h : c.load_magnitude.result < 4611686018427387904 = let l = c.if-load_magnitude-gt-MAX_SIZE.false in omega arith in
    (c.requires, (omega arith, subst (λ (n : ℕ). n < 4611686018427387904) c.load_magnitude.ensures.0 h))

pub loop-i-preserved : goal.loop-i-preserved
loop-i-preserved c =
    let l = c.loop-i in
    built_more _ _ _ l.i l.codes _ (omega arith) l.invariant c.load_code.ensures

pub returns : goal.returns
returns c =
    let l = c.loop-i in
    c.accepts_codes.ensures
    ∙ ap₂ (λ (u : Setup) (x : List ℕ). accepted_codes u.edition x) c.load_setup-setup.ensures
    (codes_built c.args.table.now l.codes l.i (omega arith) l.invariant)
