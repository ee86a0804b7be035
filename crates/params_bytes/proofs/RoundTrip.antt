-- Reading what was written, and writing what was read (specs/RoundTrip.antt).
-- Assumes nothing.
use Rattle.std.proofs.Common.{Option, Some, None, Result, Ok, Err}
use Rattle.params_bytes.specs.declared.ReadError.TheVariants.{Malformed}
use Rattle.params_bytes.specs.declared.WriteError.{WriteError}
use Rattle.params_bytes.specs.declared.WriteError.TheVariants.{Short}
use Prim.Native.Nat.{ℕ, zero, suc, ◌+◌, ◌*◌, ◌<◌, ◌≤◌, suc-le-suc}
use mathlib.Core.Path.{◌≡◌, refl, sym, ap, ◌∙◌}
use mathlib.Core.Bool.{true, false, ◌&&◌}
use mathlib.Core.List.{List, [], ◌∷◌, ◌++◌, append_assoc, append-nil}
use native.Mathlib.Omega.{arith}
use native.Mathlib.Nat.{le_refl, zero-add}
use borrow.Author.Tests.{le-ltb, ltb-false, eqb-true, ne_eqb}
use lib.Dec.{T, eqb, ltb, leb→le, lit<}
use lib.ListN.{length, drop, get_or, length-append, drop_of_length-le}
use lib.Seq.{sets-eq, take-append_seam}
use lib.IntN.{ℤ, pos, negsuc}
use lib.Signed.{le_z}
use Rattle.index.proofs.Index.{both}
use Rattle.index.proofs.Flags.{by_test}
use Rattle.varint.specs.Groups.{read_at, encode}
use Rattle.varint.specs.Codes.{code_of, number_of}
use Rattle.varint.proofs.GroupLaws.{encode_last, read_at_encode, read_at_written, Front, length_le}
use Rattle.varint.proofs.CodeLaws.{number_code, code_number}
use Rattle.limits.specs.Limits.{at}
use Rattle.limits.specs.Limits.{limits, limit_at, in_limits}
use Rattle.limits.proofs.LimitLaws.{sides}
use Rattle.params.specs.declared.Edition.{Edition}
use Rattle.params.specs.declared.Edition.TheVariants.{First, Second}
use Rattle.params.specs.Editions.{sheet}
use Rattle.params.specs.Check.{first_broken}
use Rattle.params.proofs.CheckLaws.{accepted_in_lem}
use Rattle.records.specs.Records.{param_count}
use Rattle.params_bytes.specs.Read.{Parse, numbers, malformed, then, step, parse_from, edition_at, edition_in, front_bytes, parse_all}
use Rattle.params_bytes.specs.Read.{judged_by, read_of, front_at}
use Rattle.params_bytes.specs.Write.{room_for, bytes_of, form_of, Writing, write_by, write_of}
use Rattle.params_bytes.specs.RoundTrip.{ReadsBack, WritesBack}
use Rattle.params.specs.declared.Params.{Params}
use Rattle.params_bytes.proofs.ReadLaws.{parse_start}
use Rattle.params_bytes.proofs.WriteLaws.{accepted_few, room_is}

-- ---- numbers whose codes take at most five groups
abbrev Small : List ℤ → Type 0
Small xs = (i : ℕ) → i < length xs → code_of (at xs i) < 34359738368

bytes_few : (xs : List ℤ) → Small xs → length (bytes_of xs) ≤ 5 * length xs
unfolding bytes_of
bytes_few [] h = omega arith
bytes_few (x ∷ xs) h =
    rw (length-append (encode (code_of x)) (bytes_of xs))
    (omega (arith, length_le 4 (code_of x) (h 0 (omega arith)), bytes_few xs (λ i l. h (suc i) (suc-le-suc l))))

-- ---- what was written is read, whatever stands before and after it
read_back :
    (xs : List ℤ) (front rest : List ℕ) →
    Small xs →
    parse_from (length xs) (front ++ (bytes_of xs ++ rest)) (length front) ≡ numbers xs (length front + length (bytes_of xs))
unfolding parse_from bytes_of
read_back [] front rest c = ap (numbers []) (omega arith)
read_back (x ∷ xs) front rest c =
    rw (
      append_assoc (encode (code_of x)) (bytes_of xs) rest,
      read_at_encode 18446744073709551615 (code_of x) front (bytes_of xs ++ rest) (omega (arith, c 0 (omega arith))),
      ← length-append front (encode (code_of x)),
      ← append_assoc front (encode (code_of x)) (bytes_of xs ++ rest),
      read_back xs (front ++ encode (code_of x)) rest (λ i l. c (suc i) (suc-le-suc l)),
      number_code x,
    )
    (ap (numbers (x ∷ xs)) (omega (arith, length-append front (encode (code_of x)), length-append (encode (code_of x)) (bytes_of xs))))

-- ---- what was read is what would be written
then_numbers : (v : ℤ) (p : Parse) (xs : List ℤ) (next : ℕ) → then (v ∷ []) p ≡ numbers xs next → (ys : List ℤ)
    × ((p ≡ numbers ys next) × (v ∷ ys ≡ xs))
then_numbers v (numbers ys m) xs next e =
    let q : m ≡ next = cc in
    (ys, (ap (numbers ys) q, cc))
then_numbers v (malformed p) xs next e = let z : ◌≡◌ {A = ℕ} 0 1 = cc in absurd (omega arith)

record Rest (s : List ℕ) (at : ℕ) (xs : List ℤ) (next n : ℕ) : Type 0 where
  bytes : drop at s ≡ bytes_of xs ++ drop next s
  count : length xs ≡ n

step_written :
    (s : List ℕ) (at : ℕ) (rest : ℕ → Parse) (xs : List ℤ) (end n : ℕ) (r : Option (ℕ × ℕ)) →
    ((k : ℕ) → get_or s k 0 < 256) →
    read_at 18446744073709551615 s at ≡ r →
    ((next : ℕ) (ys : List ℤ) → rest next ≡ numbers ys end → Rest s next ys end n) →
    step rest at r ≡ numbers xs end →
    Rest s at xs end (suc n)
unfolding bytes_of
step_written s at rest xs end n None h e ih f = let z : ◌≡◌ {A = ℕ} 0 1 = cc in absurd (omega arith)
step_written s at rest xs end n (Some (u, next)) h e ih f =
    let t = then_numbers (number_of u) (rest next) xs end f in
    let w : Front 18446744073709551615 s at u next = read_at_written 18446744073709551615 s at u next h e in
    let i = ih next t.0 t.1.0 in
    rw (← t.1.1)
    (record {
      bytes = w.bytes
          ∙ rw (code_number u, append_assoc (encode u) (bytes_of t.0) (drop end s)) (ap (λ (l : List ℕ). encode u ++ l) i.bytes);
      count = ap suc i.count;
    })

written_from :
    (n : ℕ) (s : List ℕ) (at : ℕ) (xs : List ℤ) (end : ℕ) →
    ((k : ℕ) → get_or s k 0 < 256) →
    parse_from n s at ≡ numbers xs end →
    Rest s at xs end n
unfolding parse_from bytes_of
written_from zero s at xs end h e =
    let q : [] ≡ xs = cc in
    let r : at ≡ end = cc in
    rw (← q, ← r) (record { bytes = refl; count = refl })
written_from (suc n) s at xs end h e =
    step_written s at (λ next. parse_from n s next) xs end n (read_at 18446744073709551615 s at) h refl
    (λ next ys f. written_from n s next ys end h f) e

-- ---- the front
-- a number from 1 to 63 is written as one byte that is not 0
first_byte : (x : ℤ) (rest : List ℕ) → T (le_z (pos 1) x) → T (le_z x (pos 48)) → eqb (get_or (encode (code_of x) ++ rest) 0 0) 0 ≡ false
first_byte (pos n) rest a b =
    let l : 1 ≤ n = leb→le 1 n a in
    let h : n ≤ 48 = leb→le n 48 b in
    rw (encode_last (2 * n) (omega arith)) (ne_eqb (2 * n) 0 (λ q. omega arith))
first_byte (negsuc n) rest a b = absurd a

-- parameters of the first edition that pass the check do not begin as those of the second, since D_lo is at least 1
first_front : (xs : List ℤ) (rest : List ℕ) → length xs ≡ param_count → in_limits xs 0 ≡ true → edition_in (bytes_of xs ++ rest) ≡ First
unfolding edition_at bytes_of limit_at limits
first_front [] rest l h = absurd (omega arith)
first_front (x ∷ xs) rest l h =
    let b = sides (x ∷ xs) 0 h in
    rw (append_assoc (encode (code_of x)) (bytes_of xs) rest, first_byte x (bytes_of xs ++ rest) b.0 b.1)

form_front : (p : Params) (rest : List ℕ) → length p.numbers ≡ param_count → in_limits p.numbers 0 ≡ true → edition_in (form_of p ++ rest)
    ≡ p.edition
unfolding edition_at
form_front p rest l h = go p.edition
  where
    go : (e : Edition) → edition_in ((front_bytes e ++ bytes_of p.numbers) ++ rest) ≡ e
    go First = first_front p.numbers rest l h
    go Second = refl

-- bytes that are read as an edition's begin with its front
second_front : (s : List ℕ) → eqb (get_or s 0 0) 0 && eqb (get_or s 1 0) 2 ≡ true → s ≡ 0 ∷ 2 ∷ drop 2 s
second_front s t =
    let b = both (eqb (get_or s 0 0) 0) (eqb (get_or s 1 0) 2) t in
    go s (eqb-true (get_or s 0 0) 0 b.0) (eqb-true (get_or s 1 0) 2 b.1)
  where
    go : (s : List ℕ) → get_or s 0 0 ≡ 0 → get_or s 1 0 ≡ 2 → s ≡ 0 ∷ 2 ∷ drop 2 s
    go [] a c = absurd (omega arith)
    go (x ∷ []) a c = absurd (omega arith)
    go (x ∷ (y ∷ r)) a c = λ i. a i ∷ c i ∷ r

front_is : (s : List ℕ) → s ≡ front_bytes (edition_in s) ++ drop (length (front_bytes (edition_in s))) s
unfolding edition_at
front_is s =
    by_test
    (s ≡ front_bytes (edition_in s) ++ drop (length (front_bytes (edition_in s))) s)
    (eqb (get_or s 0 0) 0 && eqb (get_or s 1 0) 2)
    (λ t. rw t (second_front s t))
    (λ t. rw t refl)

-- ---- accepted parameters
module _ (p : Params) (n147 : length p.numbers ≡ param_count) (ok : first_broken p ≡ None) where
  small : Small p.numbers
  small i h = accepted_few p ok i (omega arith)

  pub form_most : length (form_of p) ≤ room_for p.edition
  form_most =
      omega (arith, bytes_few p.numbers small, room_is p.edition, length-append (front_bytes p.edition) (bytes_of p.numbers))

  -- what was written is parsed, whatever follows it
  parse_written : (rest : List ℕ) → parse_all (form_of p ++ rest) ≡ numbers p.numbers (length (form_of p))
  parse_written rest =
      let front = front_bytes p.edition in
      let b = bytes_of p.numbers in
      rw (
        parse_start (form_of p ++ rest),
        form_front p rest n147 (accepted_in_lem p ok 0 (lit< tt)),
        append_assoc front b rest,
        length-append front b,
      )
      (rw n147 at (read_back p.numbers front rest small))

  edition_written : (rest : List ℕ) → edition_in (form_of p ++ rest) ≡ p.edition
  edition_written rest = form_front p rest n147 (accepted_in_lem p ok 0 (lit< tt))

  pub read_written : read_of (form_of p) ≡ record { verdict = Ok (length (form_of p)); params = p }
  unfolding read_of
  read_written =
      let f = form_of p in
      let s : f ++ [] ≡ f = append-nil f in
      let q : parse_all f ≡ numbers p.numbers (length f) = rw s at (parse_written []) in
      let d : edition_in f ≡ p.edition = rw s at (edition_written []) in
      rw (d, q, le-ltb (length f) (length f) (le_refl (length f)), ok)

  -- the same where other bytes follow
  pub front_written : (rest : List ℕ) → front_at (form_of p ++ rest) 0 ≡ record { verdict = Ok (length (form_of p)); params = p }
  unfolding front_at
  front_written rest = rw (edition_written rest, parse_written rest, ok)

  -- the buffer holds the bytes, and past them what it held
  pub written_is : (buf : List ℕ) → room_for p.edition ≤ length buf → write_of p buf
      ≡ record { answer = Ok (length (form_of p)); bytes = form_of p ++ drop (length (form_of p)) buf }
  unfolding write_of
  written_is buf h =
      rw (le-ltb (length buf) (room_for p.edition) h, ok)
      (ap (λ (l : List ℕ). record { answer = Ok (length (form_of p)); bytes = l })
      (sets-eq (form_of p) buf 0 (omega (arith, form_most)) ∙ rw (zero-add (length (form_of p)))))

-- what a write that was done had before it
done_is : (p : Params) (buf : List ℕ) (n : ℕ) → (write_of p buf).answer ≡ Ok n → (room_for p.edition ≤ length buf)
    × (first_broken p ≡ None)
unfolding write_of
done_is p buf n e =
    by_test ((room_for p.edition ≤ length buf) × (first_broken p ≡ None)) (ltb (length buf) (room_for p.edition))
    (λ t. let e' : Err Short ≡ Ok n = rw t at e in
    let z : ◌≡◌ {A = ℕ} 0 1 = cc in absurd (omega arith))
    (λ t. let e' : (write_by (first_broken p) p buf).answer ≡ Ok n = rw t at e in
    (ltb-false (length buf) (room_for p.edition) t, nothing (first_broken p) e'))
  where
    nothing : (f : Option ℕ) → (write_by f p buf).answer ≡ Ok n → f ≡ None
    nothing (Some i) q = let z : ◌≡◌ {A = ℕ} 0 1 = cc in absurd (omega arith)
    nothing None q = refl

pub reads_back : ReadsBack
reads_back p buf n h e =
    let d = done_is p buf n e in
    let w = written_is p h d.1 buf d.0 in
    let m : n ≡ length (form_of p) = count (sym e ∙ ap (λ (x : Writing). x.answer) w) in
    rw (w, m, take-append_seam (form_of p) (drop (length (form_of p)) buf)) (read_written p h d.1)
  where
    count : {a b : ℕ} → ◌≡◌ {A = Result ℕ WriteError} (Ok a) (Ok b) → a ≡ b
    count q = cc

-- what a reading that was accepted had before it
record Took (s : List ℕ) (n : ℕ) : Type 0 where
  edition : (read_of s).params.edition ≡ edition_in s
  parsed : parse_all s ≡ numbers (read_of s).params.numbers n
  ended : length s ≤ n
  passed : first_broken (read_of s).params ≡ None

took : (s : List ℕ) (n : ℕ) → (read_of s).verdict ≡ Ok n → Took s n
unfolding read_of
took s n e = go (parse_all s) refl
  where
    kept : (p : Params) (m : ℕ) (f : Option ℕ) → (judged_by f p m).verdict ≡ Ok n → (f ≡ None) × (m ≡ n)
    kept p m (Some i) q = let z : ◌≡◌ {A = ℕ} 0 1 = cc in absurd (omega arith)
    kept p m None q = (refl, cc)

    go : (q : Parse) → parse_all s ≡ q → Took s n
    go (malformed m) q =
        let e' : Err (Malformed m) ≡ Ok n = rw q at e in
        let z : ◌≡◌ {A = ℕ} 0 1 = cc in absurd (omega arith)
    go (numbers xs m) q =
        let p = sheet (edition_in s) xs in
        by_test (Took s n) (ltb m (length s))
        (λ t. let e' : Err (Malformed m) ≡ Ok n = rw (q, t) at e in
        let z : ◌≡◌ {A = ℕ} 0 1 = cc in absurd (omega arith))
        (λ t. let e' : (judged_by (first_broken p) p m).verdict ≡ Ok n = rw (q, t) at e in
        let k = kept p m (first_broken p) e' in
        record {
          edition = rw (q, t, k.0);
          parsed = rw (q, t, k.0) (ap (numbers xs) k.1);
          ended = omega (arith, k.1, ltb-false m (length s) t);
          passed = rw (q, t, k.0) k.0;
        })

written_back :
    (s buf : List ℕ) (p : Params) (n : ℕ) →
    length p.numbers ≡ param_count →
    first_broken p ≡ None →
    room_for p.edition ≤ length buf →
    s ≡ form_of p →
    parse_all s ≡ numbers p.numbers n →
    (n ≡ length s) × (write_of p buf ≡ record { answer = Ok n; bytes = s ++ drop n buf })
written_back s buf p n c ok l b q =
    let r : parse_all (form_of p) ≡ numbers p.numbers (length (form_of p)) = rw (append-nil (form_of p)) at (parse_written p c ok []) in
    let t : numbers p.numbers n ≡ numbers p.numbers (length (form_of p)) = sym q ∙ ap parse_all b ∙ r in
    let m : n ≡ length (form_of p) = cc in
    (m ∙ ap length (sym b), rw (m, b) (written_is p c ok buf l))

pub writes_back : WritesBack
writes_back s buf n h l e =
    let k = took s n e in
    let p = (read_of s).params in
    let front = front_bytes (edition_in s) in
    let w = written_from param_count s (length front) p.numbers n h (sym (parse_start s) ∙ k.parsed) in
    let b : s ≡ form_of p =
    front_is s
    ∙ ap (λ (r : List ℕ). front ++ r) (w.bytes ∙ rw (drop_of_length-le s k.ended, append-nil (bytes_of p.numbers)))
    ∙ ap (λ (d : Edition). front_bytes d ++ bytes_of p.numbers) (sym k.edition) in
    written_back s buf p n w.count k.passed l b k.parsed
