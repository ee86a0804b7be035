-- Laws of reading: what is known after i of N numbers, and the ends of `parse`, `read` and `read_front`.
-- Assumes nothing.
use Rattle.std.proofs.Common.{Option, Some, None, Result, Ok, Err}
use Rattle.params_bytes.specs.declared.ReadError.{ReadError}
use Rattle.params_bytes.specs.declared.ReadError.TheVariants.{Broken, Malformed}
use Prim.Native.Nat.{ℕ, zero, suc, ◌+◌, ◌-◌, ◌<◌, ◌≤◌}
use mathlib.Core.Path.{◌≡◌, refl, sym, ap, ◌∙◌}
use mathlib.Core.Bool.{Bool, true, false, ◌&&◌}
use mathlib.Core.List.{List, [], ◌∷◌, ◌++◌, append_assoc, append-nil}
use native.Mathlib.Omega.{arith}
use native.Mathlib.Nat.{zero-add}
use native.Mathlib.Numerals.{add-one}
use borrow.Author.Tests.{lt-ltb, le-ltb}
use lib.Dec.{eqb}
use lib.ListN.{length, take, set, get_or, get_or-eq_default}
use lib.Seq.{take-suc-set, take_all}
use lib.IntN.{ℤ}
use Rattle.varint.specs.Groups.{read_at}
use Rattle.varint.specs.Codes.{number_of}
use Rattle.params.specs.declared.Edition.{Edition}
use Rattle.params.specs.declared.Edition.TheVariants.{First, Second}
use Rattle.params.specs.declared.Params.{Params}
use Rattle.params.specs.Editions.{sheet}
use Rattle.params.specs.Check.{first_broken}
use Rattle.records.specs.Records.{param_count}
use Rattle.params_bytes.specs.Read.{Parse, numbers, malformed, then, step, parse_from, edition_at, front_bytes, parse_at, Parses}
use Rattle.params_bytes.specs.Read.{Reading, told_with, told, judged_by, read_of, front_at}

then_then : (xs ys : List ℤ) (p : Parse) → then xs (then ys p) ≡ then (xs ++ ys) p
then_then xs ys (numbers zs next) = ap (λ (l : List ℤ). numbers l next) (sym (append_assoc xs ys zs))
then_then xs ys (malformed p) = refl

at_least_one : (m : ℕ) (s : List ℕ) (at : ℕ) (r : Option (ℕ × ℕ)) → 0 < m → r ≡ read_at 18446744073709551615 s at → parse_from m s at
    ≡ step (λ next. parse_from (m - 1) s next) at r
unfolding parse_from
at_least_one zero s at r h e = absurd (omega arith)
at_least_one (suc m) s at r h e = let f : suc m - 1 ≡ m = omega arith in rw (f, e)

-- what is known after i numbers, which are the first i of an array
abbrev pub After : ℕ → List ℕ → ℕ → ℕ → List ℤ → ℕ → Type 0
After N s from i xs at = then (take i xs) (parse_from (N - i) s at) ≡ parse_from N s from

pub after_none : (N : ℕ) (s : List ℕ) (from : ℕ) (xs : List ℤ) → After N s from 0 xs from
after_none N s from xs = let e : N - 0 ≡ N = omega arith in rw e (nothing (parse_from N s from))
  where
    nothing : (p : Parse) → then [] p ≡ p
    nothing (numbers ys next) = refl
    nothing (malformed p) = refl

pub after_more :
    (N : ℕ) (s : List ℕ) (from i : ℕ) (xs : List ℤ) (at u next : ℕ) (r : Option (ℕ × ℕ)) (v : ℤ) →
    i < N →
    i < length xs →
    After N s from i xs at →
    r ≡ read_at 18446744073709551615 s at →
    r ≡ Some (u, next) →
    v ≡ number_of u →
    After N s from (i + 1) (set xs i v) next
after_more N s from i xs at u next r v h l inv e f g =
    rw (add-one i, take-suc-set xs i v l, ← then_then (take i xs) (v ∷ []) (parse_from (N - suc i) s next))
    (ap (λ (p : Parse). then (take i xs) p) (back ∙ sym (at_least_one (N - i) s at r (omega arith) e)) ∙ inv)
  where
    back : then (v ∷ []) (parse_from (N - suc i) s next) ≡ step (λ next. parse_from (N - i - 1) s next) at r
    back = let k : N - i - 1 ≡ N - suc i = omega arith in rw (f, k, g)

pub after_bad :
    (N : ℕ) (s : List ℕ) (from i : ℕ) (xs : List ℤ) (at : ℕ) (r : Option (ℕ × ℕ)) →
    i < N →
    After N s from i xs at →
    r ≡ read_at 18446744073709551615 s at →
    r ≡ None →
    malformed at ≡ parse_from N s from
after_bad N s from i xs at r h inv e f = rw (at_least_one (N - i) s at r (omega arith) e, f) at inv

pub after_all :
    (N : ℕ) (s : List ℕ) (from i : ℕ) (xs : List ℤ) (at : ℕ) →
    N ≤ i →
    length xs ≤ i →
    After N s from i xs at →
    numbers xs at ≡ parse_from N s from
unfolding parse_from
after_all N s from i xs at h k inv =
    let e : N - i ≡ 0 = omega arith in
    ap (λ (l : List ℤ). numbers l at) (sym (append-nil xs)) ∙ (rw (e, take_all i xs k) at inv)

-- ---- the ends of `edition_at`
module _ (s : List ℕ) (at : ℕ) where
  -- no second byte stands there
  pub edition_short : length s ≤ at + 1 → First ≡ edition_at s at
  unfolding edition_at
  edition_short h =
      let z : get_or s (at + 1) 0 ≡ 0 = get_or-eq_default s 0 {n = at + 1} h in
      rw (z, and_no (eqb (get_or s at 0) 0))
    where
      and_no : (b : Bool) → (b && false) ≡ false
      and_no true = refl
      and_no false = refl

  pub edition_second : (eqb (get_or s at 0) 0 && eqb (get_or s (at + 1) 0) 2) ≡ true → Second ≡ edition_at s at
  unfolding edition_at
  edition_second t = rw t

  pub edition_first : (eqb (get_or s at 0) 0 && eqb (get_or s (at + 1) 0) 2) ≡ false → First ≡ edition_at s at
  unfolding edition_at
  edition_first t = rw t

-- ---- a reading by what was answered
pub as_taken :
    (q : Reading) (p : Params) (n : ℕ) → ◌≡◌ {A = Result (Params × ℕ) ReadError} (Ok (p, n)) (told q) →
    record { verdict = Ok n; params = p } ≡ q
as_taken q p n e = go q.verdict e
  where
    go :
        (v : Result ℕ ReadError) → ◌≡◌ {A = Result (Params × ℕ) ReadError} (Ok (p, n)) (told_with q.params v) →
        ◌≡◌ {A = Reading} (record { verdict = Ok n; params = p }) (record { verdict = v; params = q.params })
    go (Ok m) e =
        let d : ◌≡◌ {A = Params × ℕ} (p, n) (q.params, m) = cc in
        λ i. record { verdict = Ok (d i).1; params = (d i).0 }
    go (Err f) e = let z : ◌≡◌ {A = ℕ} 0 1 = cc in absurd (omega arith)

pub as_refused : (q : Reading) (f : ReadError) → Err f ≡ told q → q.verdict ≡ Err f
as_refused q f e = go q.verdict e
  where
    go : (v : Result ℕ ReadError) → Err f ≡ told_with q.params v → v ≡ Err f
    go (Ok m) e = let z : ◌≡◌ {A = ℕ} 0 1 = cc in absurd (omega arith)
    go (Err g) e = let d : f ≡ g = cc in ap Err (sym d)

-- ---- the ends of `judged`
pub judged_broken : (p : Params) (next i : ℕ) (f : Option ℕ) → f ≡ first_broken p → f ≡ Some i → Err (Broken i)
    ≡ told (judged_by (first_broken p) p next)
judged_broken p next i f e t = rw (← e, t)

pub judged_kept : (p : Params) (next : ℕ) (f : Option ℕ) → f ≡ first_broken p → f ≡ None →
    ◌≡◌ {A = Result (Params × ℕ) ReadError} (Ok (p, next)) (told (judged_by (first_broken p) p next))
judged_kept p next f e t = rw (← e, t)

-- ---- the ends of `read_front`, from the edition and what was parsed
module _
    (s : List ℕ) (at : ℕ) (d : Edition) (is : d ≡ edition_at s at) (from : ℕ) (start : from ≡ at + length (front_bytes d))
    (xs : List ℤ) where
  all : parse_from param_count s from ≡ parse_at s at
  unfolding parse_at
  all = ap (parse_from param_count s) (start ∙ ap (λ (c : Edition). at + length (front_bytes c)) is)

  pub front_bad : (e : ReadError) → Parses (Err e) xs (parse_from param_count s from) → Err e ≡ told (front_at s at)
  unfolding front_at
  front_bad e p =
      let q : malformed p.0 ≡ parse_at s at = p.1.1 ∙ all in
      rw (← q, p.1.0)

  pub front_good :
      (place : ℕ) → Parses (Ok place) xs (parse_from param_count s from) → (r : Result (Params × ℕ) ReadError) →
      r ≡ told (judged_by (first_broken (sheet d xs)) (sheet d xs) place) → r ≡ told (front_at s at)
  unfolding front_at
  front_good place p r q =
      let n : numbers xs place ≡ parse_at s at = p ∙ all in
      q ∙ rw (← n, is)

-- parameters at the start of the bytes
pub parse_start : (s : List ℕ) → parse_at s 0 ≡ parse_from param_count s (length (front_bytes (edition_at s 0)))
unfolding parse_at
parse_start s = ap (parse_from param_count s) (zero-add (length (front_bytes (edition_at s 0))))

-- ---- the ends of `read`, from the start of the bytes
module _
    (s : List ℕ) (d : Edition) (is : d ≡ edition_at s 0) (from : ℕ) (start : from ≡ length (front_bytes d)) (xs : List ℤ) where
  whole : parse_from param_count s from ≡ parse_at s 0
  whole = all s 0 d is from (start ∙ sym (zero-add (length (front_bytes d)))) xs

  pub read_bad : (e : ReadError) → Parses (Err e) xs (parse_from param_count s from) → Err e ≡ told (read_of s)
  unfolding read_of
  read_bad e p =
      let q : malformed p.0 ≡ parse_at s 0 = p.1.1 ∙ whole in
      rw (← q, p.1.0)

  module _ (place : ℕ) (p : Parses (Ok place) xs (parse_from param_count s from)) where
    parsed : numbers xs place ≡ parse_at s 0
    parsed = p ∙ whole

    pub read_left : place < length s → Err (Malformed place) ≡ told (read_of s)
    unfolding read_of
    read_left h = rw (← parsed, lt-ltb place (length s) h)

    pub read_good :
        (r : Result (Params × ℕ) ReadError) →
        length s ≤ place →
        r ≡ told (judged_by (first_broken (sheet d xs)) (sheet d xs) place) →
        r ≡ told (read_of s)
    unfolding read_of
    read_good r h q = q ∙ rw (← parsed, le-ltb place (length s) h, is)
