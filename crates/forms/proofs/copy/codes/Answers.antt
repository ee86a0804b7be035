use mathlib.Core.Path.{refl}
use native.Mathlib.Omega.{arith}
use Rattle.index.proofs.Lists.{built_none, built_more}
use Rattle.validity.proofs.SignLaws.{codes_built}
use Rattle.forms.proofs.CopyLaws.{code_small}
use Rattle.forms.proofs.copy.codes.Goals as goal

pub loop-i-init : goal.loop-i-init
loop-i-init c = built_none _ _ _ _ refl

pub load_code-requires : goal.load_code-requires
load_code-requires c =
    (c.requires.0, (omega arith, code_small _ c.requires.1 _ (omega arith)))

pub loop-i-preserved : goal.loop-i-preserved
loop-i-preserved c =
    let l = c.loop-i in
    built_more _ _ _ l.i l.r _ (omega arith) l.invariant c.load_code.ensures

pub returns : goal.returns
returns c =
    let l = c.loop-i in
    codes_built c.args.table.now l.r l.i (omega arith) l.invariant
