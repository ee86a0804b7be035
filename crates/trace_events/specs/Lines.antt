-- What a trace prints of a call (01: "Output: answer and action count, then one line an action or score").
use Rattle.std.specs.Prelude.{ℕ, ◌+◌, ◌*◌, cond, List, [], ◌∷◌, ◌++◌, eqb, get_or, ℤ}
use Rattle.index.specs.Index.{gather}
use Rattle.text.specs.Text.{decimal, signed_text}
use Rattle.effects.specs.Actions.{Action}
use Rattle.score.specs.declared.Why.{Why}
use Rattle.rules.specs.declared.Answer.{Answer}
use Rattle.rules.specs.declared.Answer.TheVariants.{Done, Scored, Early, OutOfRange, NotConnected, AlreadyConnected, NoSlot}
use Rattle.rules.specs.declared.Answer.TheVariants.{UnknownProtocol, NotPermutation, ListShort, Ignored, NotRouter}
use Rattle.rules.specs.Reply.{Reply, number_of, actions_of}

-- a space, and the end of a line
abbrev pub space : ℕ
space = 32

abbrev pub newline : ℕ
newline = 10

-- two numbers on a line
unfoldable pub pair_line : ℕ → ℕ → List ℕ
pair_line a b = decimal a ++ (space ∷ decimal b) ++ (newline ∷ [])

-- "G 7", "P 7 60"
unfoldable pub action_line : ℕ → ℕ → ℕ → List ℕ
action_line kind id seconds =
    cond (eqb kind 1)
    (71 ∷ space ∷ decimal id ++ (newline ∷ []))
    (80 ∷ space ∷ decimal id ++ (space ∷ decimal seconds) ++ (newline ∷ []))

unfoldable pub action_lines : List Action → List ℕ
action_lines [] = []
action_lines (a ∷ l) = action_line a.kind a.id a.seconds ++ action_lines l

-- a number with its sign, and the byte after it
abbrev pub part_text : ℤ → ℕ → List ℕ
part_text z c = signed_text z ++ (c ∷ [])

-- three numbers with spaces between them, and the byte after them
unfoldable pub three_text : ℤ → ℤ → ℤ → ℕ → List ℕ
three_text x y z c = part_text x space ++ part_text y space ++ part_text z c

-- "S 0 0 0 0 -10000000000 -10000000000" (02, order 5: "The trace prints the five after S, then the score")
unfoldable pub why_line : Why → List ℕ
why_line w =
    (83 ∷ space ∷ [])
    ++ three_text w.topics w.capped w.p5 space
    ++ three_text w.p6 w.p7 w.score newline

-- of a score alone
abbrev pub score_line : Answer → List ℕ
score_line (Done n) = []
score_line (Scored w) = why_line w
score_line Early = []
score_line OutOfRange = []
score_line NotConnected = []
score_line AlreadyConnected = []
score_line NoSlot = []
score_line UnknownProtocol = []
score_line NotPermutation = []
score_line ListShort = []
score_line Ignored = []
score_line NotRouter = []

unfoldable pub lines_of : Reply → List ℕ
lines_of o =
    pair_line (number_of o.answer) (actions_of o.answer) ++ action_lines o.actions ++ score_line o.answer

-- how many bytes one event may print: 256 actions of at most 44 bytes, and two lines
abbrev pub line_room : ℕ
line_room = 16384

-- ---- the same from the answer and the numbers of the lent list, three to an action: what is printed
abbrev pub action_at : List ℕ → ℕ → List ℕ
action_at l i = action_line (get_or l (3 * i) 0) (get_or l (3 * i + 1) 0) (get_or l (3 * i + 2) 0)

-- the lines of the first n actions of the list
unfoldable pub actions_text : ℕ → List ℕ → List ℕ
actions_text n l = gather n (action_at l)

unfoldable pub reply_text : Answer → List ℕ → List ℕ
reply_text a l = pair_line (number_of a) (actions_of a) ++ actions_text (actions_of a) l ++ score_line a
