-- Answers, variant by variant: the greatest number, and what the last arm of a match tells.
-- Assumes nothing.
use Prim.Native.Nat.{◌≤◌}
use native.Mathlib.Omega.{arith}
use mathlib.Core.Path.{◌≡◌, refl, sym, ap}
use mathlib.Core.List.{List}
use lib.IntN.{ℤ}
use Rattle.score.specs.declared.Why.{Why}
use Rattle.rules.specs.declared.Answer.{Answer}
use Rattle.rules.specs.declared.Answer.TheVariants.{Done, Scored, Early, OutOfRange, NotConnected, AlreadyConnected, NoSlot}
use Rattle.rules.specs.declared.Answer.TheVariants.{UnknownProtocol, NotPermutation, ListShort, Ignored, NotRouter}
use Rattle.rules.specs.Reply.{number_of}
use Rattle.answers.specs.Answers.{why_numbers, why_or}

pub number_most : (a : Answer) → number_of a ≤ 255
number_most (Done n) = omega arith
number_most (Scored w) = omega arith
number_most Early = omega arith
number_most OutOfRange = omega arith
number_most NotConnected = omega arith
number_most AlreadyConnected = omega arith
number_most NoSlot = omega arith
number_most UnknownProtocol = omega arith
number_most NotPermutation = omega arith
number_most ListShort = omega arith
number_most Ignored = omega arith
number_most NotRouter = omega arith

pub score_is : (a : Answer) (w : Why) (l : List ℤ) → a ≡ Scored w → why_numbers w ≡ why_or a l
score_is a w l t = sym (ap (λ (b : Answer). why_or b l) t)

-- the answers that are no score, as the last arm tells them
pub no_score : (a : Answer) (l : List ℤ) → ((w : Why) → a ≡ Scored w → ⊥) → l ≡ why_or a l
no_score (Done n) l h = refl
no_score (Scored w) l h = absurd (h w refl)
no_score Early l h = refl
no_score OutOfRange l h = refl
no_score NotConnected l h = refl
no_score AlreadyConnected l h = refl
no_score NoSlot l h = refl
no_score UnknownProtocol l h = refl
no_score NotPermutation l h = refl
no_score ListShort l h = refl
no_score Ignored l h = refl
no_score NotRouter l h = refl
