-- How far a load can read: no number takes more than ten bytes, and so the value that goes with its answer is small.
-- Assumes nothing.
use Rattle.std.proofs.Common.{Option, Some, None}
use Prim.Native.Nat.{ℕ, zero, suc, ◌+◌, ◌*◌, ◌≤◌}
use native.Mathlib.Omega.{arith}
use mathlib.Core.Path.{◌≡◌, refl}
use mathlib.Core.Bool.{true}
use mathlib.Core.List.{List}
use borrow.Author.Tests.{leb-true}
use lib.Dec.{leb, ltb}
use lib.ListN.{length}
use Rattle.index.specs.Index.{first}
use Rattle.index.proofs.Flags.{cond_case}
use Rattle.index.proofs.Index.{first_is}
use Rattle.varint.specs.Groups.{read_at}
use Rattle.params.specs.declared.Params.{Params}
use Rattle.params.specs.Check.{first_broken}
use Rattle.params.proofs.CheckLaws.{broken_most}
use Rattle.params_bytes.proofs.PlaceLaws.{next_near}
use Rattle.records.specs.Records.{slot_count}
use Rattle.validity.specs.Valid.{max_time}
use Rattle.lookup.specs.Fresh.{fresh_state}
use Rattle.saves.specs.Save.{row_size}
use Rattle.saves.specs.Load.{Parse, numbers, malformed, then, step, parse_from, ending, end_of, place_of, most_of, outside, Loading}
use Rattle.saves.specs.Load.{out_of_range, broken, slots_of, judged_by, judged, records, counted, of_edition, opened, sheeted, load_of}
use Rattle.saves.specs.Load.{answer_of, loaded_value}
use Rattle.saves.proofs.Parsing.{top}
use Rattle.saves.proofs.Opened.{slots_most}

-- the farthest: behind an edition, a count and the numbers of 256 records
abbrev pub farthest : ℕ
farthest = 112660

then_end : (n : ℕ) (p : Parse) → end_of (then n p) ≡ end_of p
then_end n (numbers l next) = refl
then_end n (malformed p) = refl

step_end :
    (f : ℕ → Parse) (at : ℕ) (r : Option (ℕ × ℕ)) (to : ℕ) →
    at ≤ to →
    ((u next : ℕ) → r ≡ Some (u, next) → end_of (f next) ≤ to) →
    end_of (step f at r) ≤ to
step_end f at None to l h = l
step_end f at (Some (u, next)) to l h = omega (arith, then_end u (f next), h u next refl)

parse_end : (s : List ℕ) (n at : ℕ) → end_of (parse_from n s at) ≤ at + 10 * n
unfolding parse_from
parse_end s zero at = omega arith
parse_end s (suc n) at =
    step_end (λ next. parse_from n s next) at (read_at top s at) (at + 10 * suc n) (omega arith)
    (λ u next e. omega (arith, next_near s 9 top at u next (omega arith) e, parse_end s n next))

abbrev value : Loading → ℕ
value o = loaded_value (answer_of o)

module _ (p : Params) (clock : ℕ) (s : List ℕ) where
  judged_by_lem : (n at : ℕ) (l : List ℕ) (f : Option ℕ) → first (n * row_size) (outside (most_of (fresh_state p)) l) ≡ f →
      value (judged_by p clock s f n at l) ≤ at + 10 * (n * row_size)
  unfolding place_of
  judged_by_lem n at l (Some i) e =
      omega (arith, (first_is (outside (most_of (fresh_state p)) l) (n * row_size) i e).0, parse_end s i at)
  judged_by_lem n at l None e = omega arith

  judged_most : (n at : ℕ) (q : Parse) → end_of q ≤ at + 10 * (n * row_size) → value (judged p clock s n at q) ≤ at + 10 * (n * row_size)
  judged_most n at (numbers l next) h = judged_by_lem n at l (first (n * row_size) (outside (most_of (fresh_state p)) l)) refl
  judged_most n at (malformed q) h = h

  ending_end : (q : Parse) → end_of (ending s q) ≡ end_of q
  ending_end (malformed q) = refl
  ending_end (numbers l next) =
      cond_case (λ (q : Parse). end_of q ≡ next) (ltb next (length s)) (malformed next) (numbers l next) (λ t. refl) (λ t. refl)

  records_most : (n at : ℕ) → value (records p clock s n at) ≤ at + 10 * (n * row_size)
  unfolding records
  records_most n at =
      judged_most n at (ending s (parse_from (n * row_size) s at))
      (omega (arith, ending_end (parse_from (n * row_size) s at), parse_end s (n * row_size) at))

  counted_most : (most at : ℕ) (r : Option (ℕ × ℕ)) → most ≤ slot_count → at ≤ 10 → read_at top s at ≡ r →
      value (counted p clock s most at r) ≤ farthest
  counted_most most at None h l e = omega arith
  counted_most most at (Some (n, next)) h l e =
      cond_case (λ (o : Loading). value o ≤ farthest) (leb n most) (records p clock s n next) (broken at)
      (λ t. omega (arith, leb-true n most t, next_near s 9 top at n next (omega arith) e, records_most n next))
      (λ t. omega arith)

  edition_most : (v next : ℕ) (f : Option ℕ) → slots_of v ≡ f → next ≤ 10 → value (of_edition p clock s f next) ≤ farthest
  edition_most v next (Some most) e h = counted_most most next (read_at top s next) (slots_most v most e) h refl
  edition_most v next None e h = omega arith

  opened_most : (r : Option (ℕ × ℕ)) → read_at top s 0 ≡ r → value (opened p clock s r) ≤ farthest
  opened_most None e = omega arith
  opened_most (Some (v, next)) e = edition_most v next (slots_of v) refl (omega (arith, next_near s 9 top 0 v next (omega arith) e))

  sheeted_most : (f : Option ℕ) → first_broken p ≡ f → value (sheeted p clock s f) ≤ farthest
  sheeted_most (Some i) e = omega (arith, broken_most p i e)
  sheeted_most None e =
      cond_case (λ (o : Loading). value o ≤ farthest) (leb clock max_time) (opened p clock s (read_at top s 0)) out_of_range
      (λ t. opened_most (read_at top s 0) refl)
      (λ t. omega arith)

  pub load_most : loaded_value (answer_of (load_of true p clock s)) ≤ farthest
  unfolding load_of
  load_most = sheeted_most (first_broken p) refl
