use Rattle.slot_words.proofs.WordLaws.{slot_none, each_test, word_none}
use lib.ListN.{get_or}
use Prim.Native.Nat.{◌/◌, ◌%◌, ◌^◌}
use mathlib.Core.Path.{◌≡◌}
use Rattle.slot_words.proofs.word.any.Goals as goal

pub returns : goal.returns
returns c =
    let a = c.args.a.now in
    λ z. slot_none a
    (each_test (λ i j. get_or a i 0 / 2 ^ j % 2 ≡ 0) _ _ _ _ (word_none _) (word_none _) (word_none _) (word_none _) z)
