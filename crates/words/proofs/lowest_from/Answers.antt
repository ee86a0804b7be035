use Prim.Native.Nat.{◌+◌, ◌*◌}
use native.Mathlib.Omega.{arith}
use mathlib.Core.Path.{ap}
use lib.ListN.{get_or}
use lib.Count.{trailing_le}
use Rattle.words.specs.Words.{word_bits, bits_of}
use Rattle.words.proofs.BitLaws.{bits_lowest}
use Rattle.words.proofs.NextLaws.{clear_more, hit_first, next_after, next_end}
use Rattle.words.proofs.lowest_from.Goals as goal

pub loop-k-init : goal.loop-k-init
loop-k-init c = (omega arith, omega (arith, c.requires.1), c.requires.0, λ s l u. absurd (omega arith))

pub overflow_cast-result : goal.overflow_cast-result
overflow_cast-result c = omega (
  arith,
  trailing_le word_bits (get_or c.args.m.now c.loop-k.k 0),
)

pub overflow_add-result : goal.overflow_add-result
overflow_add-result c = omega (
  arith,
  trailing_le word_bits (get_or c.args.m.now c.loop-k.k 0),
)

pub returns-then-w-ne0 : goal.returns-then-w-ne0
returns-then-w-ne0 c =
    let l = c.loop-k in
    let m = c.args.m.now in
    let w = get_or m l.k 0 in
    next_after (bits_of m) _ (word_bits * l.k) _ (let a = l.invariant.0 in omega arith) l.invariant.3
    (hit_first m l.invariant.2 l.k (omega arith) _ (omega (arith, c.type_inv.m l.k)) (omega arith)
    (ap (λ n. word_bits * l.k + n) (bits_lowest word_bits w)))

pub loop-k-preserved : goal.loop-k-preserved
loop-k-preserved c =
    let l = c.loop-k in
    let m = c.args.m.now in
    let a = l.invariant.0 in
    (omega arith, omega arith, l.invariant.2, clear_more m l.invariant.2 l.k (omega arith) _ l.invariant.3 (omega arith))

pub returns : goal.returns
returns c =
    let l = c.loop-k in
    let m = c.args.m.now in
    next_after (bits_of m) _ (word_bits * l.k) _ (let a = l.invariant.0 in omega arith) l.invariant.3 (next_end (bits_of m) _ (omega arith))
