-- `words::next`: in the word where it starts, or in a later one.
use Prim.Native.Nat.{◌+◌, ◌/◌, ◌%◌, ◌^◌}
use native.Mathlib.Omega.{arith}
use mathlib.Core.Path.{ap}
use lib.ListN.{get_or}
use lib.Count.{trailing_le}
use Rattle.words.specs.Words.{word_bits, bits_of}
use Rattle.words.proofs.BitLaws.{bits_lowest}
use Rattle.words.proofs.NextLaws.{next_end, hit_slot, pass_slot}
use Rattle.words.proofs.next.Goals as goal

pub returns-then-s : goal.returns-then-s
returns-then-s c = next_end (bits_of c.args.m.now) c.args.s (omega (arith, c.requires.1, c.if-s.true))

pub overflow_cast-result : goal.overflow_cast-result
overflow_cast-result c =
    let a = c.args in
    omega (arith, trailing_le word_bits (get_or a.m.now (a.s / word_bits) 0 / 2 ^ (a.s % word_bits)))

pub overflow_add-result : goal.overflow_add-result
overflow_add-result c =
    let a = c.args in
    omega (arith, trailing_le word_bits (get_or a.m.now (a.s / word_bits) 0 / 2 ^ (a.s % word_bits)))

pub returns-then-w-ne0 : goal.returns-then-w-ne0
returns-then-w-ne0 c =
    let w = get_or c.args.m.now (c.args.s / word_bits) 0 in
    hit_slot c.args.m.now c.requires.0 c.args.s (omega arith) _
    (omega (arith, c.type_inv.m (c.args.s / word_bits))) (omega arith)
    (ap (λ n. c.args.s + n) (bits_lowest word_bits (w / 2 ^ (c.args.s % word_bits))))

pub lowest_from-requires : goal.lowest_from-requires
lowest_from-requires c = (c.requires.0, omega arith)

pub returns : goal.returns
returns c =
    pass_slot c.args.m.now c.requires.0 c.args.s (omega arith) _ (omega arith) c.lowest_from.ensures
