-- `slot_words::word::outside`: a word of the one without the other is 0 exactly where every bit of the one is in the other.
use Rattle.slot_words.proofs.WordLaws.{slot_told, each_test}
use lib.ListN.{get_or}
use Prim.Native.Nat.{◌/◌, ◌%◌, ◌^◌}
use mathlib.Core.Path.{◌≡◌}
use Rattle.slot_words.proofs.word.outside.Goals as goal

pub returns : goal.returns
returns c =
    let a = c.args.a.now in
    let b = c.args.b.now in
    λ z. slot_told a b 1
    (each_test (λ i j. get_or a i 0 / 2 ^ j % 2 ≡ 1 → get_or b i 0 / 2 ^ j % 2 ≡ 1) _ _ _ _
    c.outside_word.ensures c.outside_word-2.ensures
    c.outside_word-3.ensures c.outside_word-4.ensures z)
