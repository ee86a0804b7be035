-- Laws of a reply's text: how its parts are stored one after the other, and that the numbers of the lent list print what the reply has.
-- Assumes nothing.
use Prim.Native.Nat.{ℕ, suc, ◌+◌, ◌*◌, ◌<◌, ◌≤◌}
use mathlib.Core.Bool.{true, false}
use mathlib.Core.Path.{◌≡◌, refl, ap, ◌∙◌}
use mathlib.Core.List.{List, [], ◌∷◌, ◌++◌}
use native.Mathlib.Omega.{arith}
use native.Mathlib.Nat.{zero-add}
use lib.Dec.{eqb}
use lib.ListN.{length, drop}
use lib.Seq.{sets, sets-eq}
use lib.IntN.{ℤ}
use lib.Signed.{nat_abs-le}
use mir.Syntax.{w64}
use mir.Val.{SFits, to_z, of_z}
use mir.Facts.{to_z-of_z}
use Rattle.index.specs.Index.{gather}
use Rattle.index.proofs.Index.{gather_none, gather_more, gather_same, gather_first}
use Rattle.text.specs.Text.{decimal, signed_text, Stored}
use Rattle.text.proofs.TextLaws.{decimal_length, signed_length, stored_then}
use Rattle.effects.specs.Actions.{Action, numbers_of}
use Rattle.score.specs.declared.Why.{Why}
use Rattle.rules.specs.declared.Answer.{Answer}
use Rattle.rules.specs.declared.Answer.TheVariants.{Done, Scored, Early, OutOfRange, NotConnected, AlreadyConnected, NoSlot}
use Rattle.rules.specs.declared.Answer.TheVariants.{UnknownProtocol, NotPermutation, ListShort, Ignored, NotRouter}
use Rattle.rules.specs.Reply.{Reply, number_of, actions_of}
use Rattle.trace_events.specs.Lines.{space, newline, pair_line, action_line, action_lines, part_text, three_text, why_line, score_line}
use Rattle.trace_events.specs.Lines.{lines_of, action_at, actions_text, reply_text}

-- ---- the answers of the other variants, as an `else` tells them
pub no_score : (a : Answer) → ((w : Why) → a ≡ Scored w → ⊥) → score_line a ≡ []
no_score (Done n) h = refl
no_score (Scored w) h = absurd (h w refl)
no_score Early h = refl
no_score OutOfRange h = refl
no_score NotConnected h = refl
no_score AlreadyConnected h = refl
no_score NoSlot h = refl
no_score UnknownProtocol h = refl
no_score NotPermutation h = refl
no_score ListShort h = refl
no_score Ignored h = refl
no_score NotRouter h = refl

-- ---- how the parts are stored
-- nothing stored
pub stored_none : (b : List ℕ) (at : ℕ) → Stored b at [] at b
stored_none b at = (omega arith, refl)

-- a number below 2^64 and the byte after it
pub number_stored :
    (n c at : ℕ) (b₀ b₁ b₂ : List ℕ) (p₁ p₂ : ℕ) →
    n < 18446744073709551616 →
    Stored b₀ at (decimal n) p₁ b₁ →
    Stored b₁ p₁ (c ∷ []) p₂ b₂ →
    Stored b₀ at (decimal n ++ (c ∷ [])) p₂ b₂ × (p₂ ≤ at + 21)
number_stored n c at b₀ b₁ b₂ p₁ p₂ f s t =
    (stored_then b₀ at p₁ (decimal n) b₁ p₂ (c ∷ []) b₂ s t, omega (arith, decimal_length n f, s.0, t.0))

-- the four stores of two numbers' line
pub pair_stored :
    (a b at : ℕ) (b₀ b₁ b₂ b₃ b₄ : List ℕ) (p₁ p₂ p₃ p₄ : ℕ) →
    a < 18446744073709551616 →
    b < 18446744073709551616 →
    Stored b₀ at (decimal a) p₁ b₁ →
    Stored b₁ p₁ (space ∷ []) p₂ b₂ →
    Stored b₂ p₂ (decimal b) p₃ b₃ →
    Stored b₃ p₃ (newline ∷ []) p₄ b₄ →
    Stored b₀ at (pair_line a b) p₄ b₄ × (p₄ ≤ at + 42)
unfolding pair_line
pair_stored a b at b₀ b₁ b₂ b₃ b₄ p₁ p₂ p₃ p₄ f g s₁ s₂ s₃ s₄ =
    let h = number_stored a space at b₀ b₁ b₂ p₁ p₂ f s₁ s₂ in
    let t = number_stored b newline p₂ b₂ b₃ b₄ p₃ p₄ g s₃ s₄ in
    let u = stored_then b₁ p₁ p₂ (space ∷ []) b₂ p₃ (decimal b) b₃ s₂ s₃ in
    let v = stored_then b₀ at p₁ (decimal a) b₁ p₃ (space ∷ decimal b) b₃ s₁ u in
    (stored_then b₀ at p₃ (decimal a ++ (space ∷ decimal b)) b₃ p₄ (newline ∷ []) b₄ v s₄, omega (arith, h.1, t.1))

-- a GRAFT: its letter, the id, the end of the line
pub graft_stored :
    (kind id seconds at : ℕ) (b₀ b₁ b₂ b₃ : List ℕ) (p₁ p₂ p₃ : ℕ) →
    eqb kind 1 ≡ true →
    id < 18446744073709551616 →
    Stored b₀ at (71 ∷ space ∷ []) p₁ b₁ →
    Stored b₁ p₁ (decimal id) p₂ b₂ →
    Stored b₂ p₂ (newline ∷ []) p₃ b₃ →
    Stored b₀ at (action_line kind id seconds) p₃ b₃ × (p₃ ≤ at + 44)
unfolding action_line
graft_stored kind id seconds at b₀ b₁ b₂ b₃ p₁ p₂ p₃ e f s t u =
    let n = number_stored id newline p₁ b₁ b₂ b₃ p₂ p₃ f t u in
    rw
    e
    (stored_then b₀ at p₁ (71 ∷ space ∷ []) b₁ p₃ (decimal id ++ (newline ∷ [])) b₃ s n.0, omega (arith, n.1, s.0))

-- a PRUNE: its letter, then the line of the id and the seconds
pub prune_stored :
    (kind id seconds at : ℕ) (b₀ b₁ b₂ : List ℕ) (p₁ p₂ : ℕ) →
    eqb kind 1 ≡ false →
    Stored b₀ at (80 ∷ space ∷ []) p₁ b₁ →
    Stored b₁ p₁ (pair_line id seconds) p₂ b₂ × (p₂ ≤ p₁ + 42) →
    Stored b₀ at (action_line kind id seconds) p₂ b₂ × (p₂ ≤ at + 44)
unfolding action_line pair_line
prune_stored kind id seconds at b₀ b₁ b₂ p₁ p₂ e s t =
    rw e (stored_then b₀ at p₁ (80 ∷ space ∷ []) b₁ p₂ (pair_line id seconds) b₂ s t.0, omega (arith, t.1, s.0))

-- a number of 64 bits takes at most 21 bytes
pub fits_length : (z : ℤ) → SFits w64 z → length (signed_text z) ≤ 21
fits_length z f = signed_length z (omega (arith, nat_abs-le z f.sfits))

-- a number, read back from its bits, and the byte after it
pub part_stored :
    (z : ℤ) (c at : ℕ) (b₀ b₁ b₂ : List ℕ) (p₁ p₂ : ℕ) →
    SFits w64 z →
    Stored b₀ at (signed_text (to_z w64 (of_z w64 z))) p₁ b₁ →
    Stored b₁ p₁ (c ∷ []) p₂ b₂ →
    Stored b₀ at (part_text z c) p₂ b₂ × (p₂ ≤ at + 22)
part_stored z c at b₀ b₁ b₂ p₁ p₂ f s t =
    let s' : Stored b₀ at (signed_text z) p₁ b₁ = rw (to_z-of_z f) at s in
    (stored_then b₀ at p₁ (signed_text z) b₁ p₂ (c ∷ []) b₂ s' t, omega (arith, fits_length z f, s'.0, t.0))

pub three_stored :
    (x y z : ℤ) (c at : ℕ) (b₀ b₁ b₂ b₃ : List ℕ) (p₁ p₂ p₃ : ℕ) →
    SFits w64 x →
    SFits w64 y →
    SFits w64 z →
    Stored b₀ at (part_text (to_z w64 (of_z w64 x)) space) p₁ b₁ × (p₁ ≤ at + 22) →
    Stored b₁ p₁ (part_text (to_z w64 (of_z w64 y)) space) p₂ b₂ × (p₂ ≤ p₁ + 22) →
    Stored b₂ p₂ (part_text (to_z w64 (of_z w64 z)) c) p₃ b₃ × (p₃ ≤ p₂ + 22) →
    Stored b₀ at (three_text x y z c) p₃ b₃ × (p₃ ≤ at + 66)
unfolding three_text
three_stored x y z c at b₀ b₁ b₂ b₃ p₁ p₂ p₃ f g h s t u =
    let s' : Stored b₀ at (part_text x space) p₁ b₁ = rw (to_z-of_z f) at s.0 in
    let t' : Stored b₁ p₁ (part_text y space) p₂ b₂ = rw (to_z-of_z g) at t.0 in
    let u' : Stored b₂ p₂ (part_text z c) p₃ b₃ = rw (to_z-of_z h) at u.0 in
    let v = stored_then b₀ at p₁ (part_text x space) b₁ p₂ (part_text y space) b₂ s' t' in (
      stored_then b₀ at p₂ (part_text x space ++ part_text y space) b₂ p₃ (part_text z c) b₃ v u',
      omega (arith, s.1, t.1, u.1),
    )

-- every number of a score has 64 bits
pub record WhyFits (w : Why) : Type 0 where
  pub topics : SFits w64 w.topics
  pub capped : SFits w64 w.capped
  pub p5 : SFits w64 w.p5
  pub p6 : SFits w64 w.p6
  pub p7 : SFits w64 w.p7
  pub score : SFits w64 w.score

-- a score: its letter, then two times three numbers
pub why_stored :
    (w : Why) (at : ℕ) (b₀ b₁ b₂ b₃ : List ℕ) (p₁ p₂ p₃ : ℕ) →
    WhyFits w →
    Stored b₀ at (83 ∷ space ∷ []) p₁ b₁ →
    Stored b₁ p₁ (three_text (to_z w64 (of_z w64 w.topics)) (to_z w64 (of_z w64 w.capped)) (to_z w64 (of_z w64 w.p5)) space) p₂ b₂
    × (p₂ ≤ p₁ + 66) →
    Stored b₂ p₂ (three_text (to_z w64 (of_z w64 w.p6)) (to_z w64 (of_z w64 w.p7)) (to_z w64 (of_z w64 w.score)) newline) p₃ b₃
    × (p₃ ≤ p₂ + 66) →
    Stored b₀ at (why_line w) p₃ b₃ × (p₃ ≤ at + 134)
unfolding why_line
why_stored w at b₀ b₁ b₂ b₃ p₁ p₂ p₃ f s t u =
    let x : List ℕ = three_text w.topics w.capped w.p5 space in
    let y : List ℕ = three_text w.p6 w.p7 w.score newline in
    let t' : Stored b₁ p₁ x p₂ b₂ = rw (to_z-of_z f.topics, to_z-of_z f.capped, to_z-of_z f.p5) at t.0 in
    let u' : Stored b₂ p₂ y p₃ b₃ = rw (to_z-of_z f.p6, to_z-of_z f.p7, to_z-of_z f.score) at u.0 in
    let v = stored_then b₀ at p₁ (83 ∷ space ∷ []) b₁ p₂ x b₂ s t' in
    (stored_then b₀ at p₂ ((83 ∷ space ∷ []) ++ x) b₂ p₃ y b₃ v u', omega (arith, s.0, t.1, u.1))

pub score_stored :
    (a : Answer) (w : Why) (at : ℕ) (b₀ b₁ : List ℕ) (p : ℕ) →
    a ≡ Scored w →
    Stored b₀ at (why_line w) p b₁ × (p ≤ at + 134) →
    Stored b₀ at (score_line a) p b₁ × (p ≤ at + 134)
score_stored a w at b₀ b₁ p e s = rw e s

-- ---- the lines of the first i actions
pub actions_none : (l : List ℕ) (at : ℕ) (b : List ℕ) → Stored b at (actions_text 0 l) at b
unfolding actions_text
actions_none l at b = rw (gather_none (action_at l)) (stored_none b at)

pub actions_more :
    (l : List ℕ) (i at : ℕ) (b₀ b₁ b₂ : List ℕ) (p₁ p₂ : ℕ) →
    Stored b₀ at (actions_text i l) p₁ b₁ →
    Stored b₁ p₁ (action_at l i) p₂ b₂ →
    Stored b₀ at (actions_text (i + 1) l) p₂ b₂
unfolding actions_text
actions_more l i at b₀ b₁ b₂ p₁ p₂ s t =
    rw (gather_more (action_at l) i) (stored_then b₀ at p₁ (actions_text i l) b₁ p₂ (action_at l i) b₂ s t)

pub actions_all :
    (l : List ℕ) (i n at : ℕ) (b₀ b₁ : List ℕ) (p : ℕ) →
    i ≤ n →
    n ≤ i →
    Stored b₀ at (actions_text i l) p b₁ →
    Stored b₀ at (actions_text n l) p b₁
actions_all l i n at b₀ b₁ p h k s = let e : i ≡ n = omega arith in rw e at s

-- ---- the three parts
pub reply_stored :
    (a : Answer) (l : List ℕ) (b₀ b₁ b₂ b₃ : List ℕ) (m n p₁ p₂ p₃ : ℕ) →
    m ≡ number_of a →
    n ≡ actions_of a →
    Stored b₀ 0 (pair_line m n) p₁ b₁ →
    Stored b₁ p₁ (actions_text n l) p₂ b₂ →
    Stored b₂ p₂ (score_line a) p₃ b₃ →
    Stored b₀ 0 (reply_text a l) p₃ b₃
unfolding reply_text
reply_stored a l b₀ b₁ b₂ b₃ m n p₁ p₂ p₃ d e s t u =
    let v = stored_then b₀ 0 p₁ (pair_line m n) b₁ p₂ (actions_text n l) b₂ s t in
    rw (← d, ← e) (stored_then b₀ 0 p₂ (pair_line m n ++ actions_text n l) b₂ p₃ (score_line a) b₃ v u)

-- ---- what the list's numbers print
-- the lines of the actions behind the first
action_next : (a b c : ℕ) (l : List ℕ) (i : ℕ) → action_at (a ∷ b ∷ c ∷ l) (suc i) ≡ action_at l i
action_next a b c l i =
    let e : 3 * suc i ≡ suc (suc (suc (3 * i))) = omega arith in
    let f : 3 * suc i + 1 ≡ suc (suc (suc (3 * i + 1))) = omega arith in
    let g : 3 * suc i + 2 ≡ suc (suc (suc (3 * i + 2))) = omega arith in
    rw (f, g, e)

actions_front : (acts : List Action) (m : List ℕ) → gather (length acts) (action_at (numbers_of acts ++ m)) ≡ action_lines acts
unfolding action_lines numbers_of
actions_front [] m = gather_none (action_at m)
actions_front (a ∷ acts) m =
    gather_first (length acts) (action_at (numbers_of (a ∷ acts) ++ m))
    ∙ ap
    (λ (l : List ℕ). action_line a.kind a.id a.seconds ++ l)
    (gather_same
    (length acts)
    (λ i. action_at (numbers_of (a ∷ acts) ++ m) (suc i))
    (action_at (numbers_of acts ++ m))
    (λ i. action_next a.kind a.id a.seconds (numbers_of acts ++ m) i)
    ∙ actions_front acts m)

sets_front : (l xs : List ℕ) → length xs ≤ length l → sets l 0 xs ≡ xs ++ drop (length xs) l
sets_front l xs h = sets-eq xs l 0 (omega arith) ∙ ap (λ (n : ℕ). xs ++ drop n l) (zero-add (length xs))

actions_are :
    (acts : List Action) (l : List ℕ) →
    length (numbers_of acts) ≤ length l →
    actions_text (length acts) (sets l 0 (numbers_of acts)) ≡ action_lines acts
unfolding actions_text
actions_are acts l h = rw (sets_front l (numbers_of acts) h) (actions_front acts (drop (length (numbers_of acts)) l))

-- what is printed of an answer and of the list that holds a reply's actions are the reply's lines
pub lines_are :
    (o : Reply) (l : List ℕ) →
    actions_of o.answer ≡ length o.actions →
    length (numbers_of o.actions) ≤ length l →
    reply_text o.answer (sets l 0 (numbers_of o.actions)) ≡ lines_of o
unfolding reply_text lines_of
lines_are o l e h =
    ap
    (λ (t : List ℕ). pair_line (number_of o.answer) (actions_of o.answer) ++ t ++ score_line o.answer)
    (ap (λ (n : ℕ). actions_text n (sets l 0 (numbers_of o.actions))) e ∙ actions_are o.actions l h)
