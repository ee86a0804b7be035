use Rattle.index.proofs.Kit.{◌+◌, ◌-◌, ◌≡◌, arith}
use Rattle.fields.proofs.NumberLaws.{scanning_start, scanning_none, scanning_out, scanning_last, scanning_more}
use Rattle.fields.proofs.end_of.Goals as goal

pub loop-i-init : goal.loop-i-init
loop-i-init c = let e : c.args.at + 0 ≡ c.args.at = omega arith in record { scanning = rw e (scanning_start _ _); inside = omega arith }

pub returns-then-s-place : goal.returns-then-s-place
returns-then-s-place c = scanning_out _ _ _ _ c.loop-i.invariant.scanning c.if-s-place.true

pub returns-then-s-place-lt-TOP_BIT : goal.returns-then-s-place-lt-TOP_BIT
returns-then-s-place-lt-TOP_BIT c =
    scanning_last _ _ _ _ c.loop-i.invariant.scanning (omega arith) c.if-s-place.false c.if-s-place-lt-TOP_BIT.true

pub loop-i-preserved : goal.loop-i-preserved
loop-i-preserved c =
    let at = c.args.at in
    let i = c.loop-i.i in
    let e : at + (i + 1) ≡ at + i + 1 = omega arith in
    let f : 10 - (i + 1) ≡ 10 - i - 1 = omega arith in
    record {
      scanning = rw (e, f) (scanning_more _ _ _ _ c.loop-i.invariant.scanning (omega arith) c.if-s-place.false c.if-s-place-lt-TOP_BIT.false);
      inside = omega arith;
    }

pub returns : goal.returns
returns c = scanning_none _ _ _ _ c.loop-i.invariant.scanning (omega arith)
