-- `slot_words::word::common`: a word of both is 0 exactly where no slot has both bits.
use Rattle.slot_words.proofs.WordLaws.{slot_told, each_test}
use lib.ListN.{get_or}
use Prim.Native.Nat.{◌/◌, ◌%◌, ◌^◌}
use mathlib.Core.Path.{◌≡◌}
use Rattle.slot_words.proofs.word.common.Goals as goal

pub returns : goal.returns
returns c =
    let a = c.args.a.now in
    let b = c.args.b.now in
    λ z. slot_told a b 0
    (each_test (λ i j. get_or a i 0 / 2 ^ j % 2 ≡ 1 → get_or b i 0 / 2 ^ j % 2 ≡ 0) _ _ _ _
    c.common_word.ensures c.common_word-2.ensures
    c.common_word-3.ensures c.common_word-4.ensures z)
