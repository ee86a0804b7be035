-- An answer as a host gets it: one number, and a score through six lent ones.
use Rattle.std.specs.Prelude.{ℕ, ◌+◌, ◌*◌, List, [], ◌∷◌, ℤ}
use Rattle.score.specs.declared.Why.{Why}
use Rattle.rules.specs.declared.Answer.{Answer}
use Rattle.rules.specs.declared.Answer.TheVariants.{Done, Scored, Early, OutOfRange, NotConnected, AlreadyConnected, NoSlot}
use Rattle.rules.specs.declared.Answer.TheVariants.{UnknownProtocol, NotPermutation, ListShort, Ignored, NotRouter}
use Rattle.rules.specs.Reply.{number_of, actions_of}

-- 01's number in the low byte, and the value that goes with it (action count, length, place) above it
abbrev pub packed : ℕ → ℕ → ℕ
packed number value = number + 256 * value

abbrev pub answer_code : Answer → ℕ
answer_code a = packed (number_of a) (actions_of a)

-- a score's five parts, then the score
abbrev pub why_numbers : Why → List ℤ
why_numbers w = w.topics ∷ w.capped ∷ w.p5 ∷ w.p6 ∷ w.p7 ∷ w.score ∷ []

-- the lent numbers of a score: written by an accepted score call alone
abbrev pub why_or : Answer → List ℤ → List ℤ
why_or (Done n) l = l
why_or (Scored w) l = why_numbers w
why_or Early l = l
why_or OutOfRange l = l
why_or NotConnected l = l
why_or AlreadyConnected l = l
why_or NoSlot l = l
why_or UnknownProtocol l = l
why_or NotPermutation l = l
why_or ListShort l = l
why_or Ignored l = l
why_or NotRouter l = l
