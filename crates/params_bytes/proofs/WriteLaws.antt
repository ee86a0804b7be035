-- Laws of writing: the front, what is known after i numbers, and the ends of `put` and `write`.
-- Assumes nothing.
use Rattle.std.proofs.Common.{Option, Some, None, Result, Ok, Err}
use Rattle.params_bytes.specs.declared.WriteError.{WriteError}
use Rattle.params_bytes.specs.declared.WriteError.TheVariants.{Outside, Short}
use Prim.Native.Nat.{ℕ, ◌+◌, ◌*◌, ◌<◌, ◌≤◌}
use mathlib.Core.Path.{◌≡◌, refl, sym, ap, ◌∙◌}
use mathlib.Core.Bool.{false}
use mathlib.Core.List.{List, [], ◌∷◌, ◌++◌, append_assoc, append-nil}
use native.Mathlib.Omega.{arith}
use native.Mathlib.Nat.{zero-add}
use native.Mathlib.Numerals.{add-one}
use borrow.Author.Tests.{lt-ltb, le-ltb}
use lib.Dec.{ltb}
use lib.ListN.{length, take, length-append}
use lib.Seq.{sets, take-suc, take_all}
use lib.IntN.{ℤ, pos}
use mir.Syntax.{w64}
use mir.Val.{SFits, to_z, of_z}
use Rattle.index.proofs.Lists.{sets_append}
use Rattle.varint.specs.Groups.{encode}
use Rattle.varint.specs.Codes.{code_of}
use Rattle.varint.proofs.GroupLaws.{length_le, Left, put_fits, put_next, put_full}
use Rattle.limits.specs.Limits.{at}
use Rattle.params.specs.declared.Edition.{Edition}
use Rattle.params.specs.declared.Edition.TheVariants.{First, Second}
use Rattle.params.specs.declared.Params.{Params}
use Rattle.params.specs.Check.{first_broken}
use Rattle.records.specs.Records.{param_count}
use Rattle.params_bytes.specs.Read.{front_bytes}
use Rattle.params_bytes.specs.Write.{room_for, bytes_of, form_of, write_of}
use Rattle.limits.proofs.LimitLaws.{code_of_given, code_few}
use Rattle.params.proofs.CheckLaws.{accepted_in_lem}

pub bytes_append : (xs ys : List ℤ) → bytes_of (xs ++ ys) ≡ bytes_of xs ++ bytes_of ys
unfolding bytes_of
bytes_append [] ys = refl
bytes_append (x ∷ xs) ys =
    rw (bytes_append xs ys, append_assoc (encode (code_of x)) (bytes_of xs) (bytes_of ys))

bytes_more : (xs : List ℤ) (i : ℕ) → i < length xs → bytes_of (take (i + 1) xs) ≡ bytes_of (take i xs) ++ encode (code_of (at xs i))
unfolding bytes_of
bytes_more xs i h =
    rw (add-one i, take-suc xs i (pos 0) h, bytes_append (take i xs) (at xs i ∷ []), append-nil (encode (code_of (at xs i))))

-- every code takes at most five groups
abbrev pub Few : List ℤ → Type 0
Few xs = (i : ℕ) → i < param_count → code_of (at xs i) < 34359738368

pub accepted_few : (p : Params) → first_broken p ≡ None → Few p.numbers
accepted_few p ok i h = code_few p.numbers i (accepted_in_lem p ok i h)

-- the room is the front's and five bytes for each number
pub room_is : (e : Edition) → room_for e ≡ length (front_bytes e) + 5 * param_count
room_is First = refl
room_is Second = refl

pub front_short : (e : Edition) → length (front_bytes e) ≤ 2
front_short First = omega arith
front_short Second = omega arith

-- what the front's functions answer, by the edition that was told
pub length_in : {e d : Edition} (n : ℕ) → e ≡ d → n ≡ length (front_bytes d) → n ≡ length (front_bytes e)
length_in n q f = f ∙ ap (λ (d : Edition). length (front_bytes d)) (sym q)

pub room_in : {e d : Edition} (n : ℕ) → e ≡ d → n ≡ room_for d → n ≡ room_for e
room_in n q f = f ∙ ap room_for (sym q)

pub front_in :
    {e d : Edition} (buf out : List ℕ) (n : ℕ) →
    e ≡ d →
    (n ≡ length (front_bytes d)) × (out ≡ sets buf 0 (front_bytes d)) →
    (n ≡ length (front_bytes e)) × (out ≡ sets buf 0 (front_bytes e))
front_in buf out n q f = (length_in n q f.0, f.1 ∙ ap (λ (d : Edition). sets buf 0 (front_bytes d)) (sym q))

pub room_second : {e : Edition} → e ≡ Second → (n : ℕ) → room_for e ≤ n → 737 ≤ n
room_second q n h = rw q at h

-- ---- what is known after i numbers, the first of which stands at a place
pub record Stands (xs : List ℤ) (from i : ℕ) (buf : List ℕ) (place : ℕ) (out : List ℕ) : Type 0 where
  pub place_is : place ≡ from + length (bytes_of (take i xs))
  pub bytes_are : out ≡ sets buf from (bytes_of (take i xs))
  pub few : place ≤ from + 5 * i
  pub same : length out ≡ length buf

pub stands_none : (xs : List ℤ) (from : ℕ) (buf : List ℕ) → Stands xs from 0 buf from buf
unfolding bytes_of
stands_none xs from buf = record { place_is = omega arith; bytes_are = refl; few = omega arith; same = refl }

module _
    (xs : List ℤ) (from i : ℕ) (buf : List ℕ) (place : ℕ) (out : List ℕ) (u : ℕ) (r : Option ℕ) (out' : List ℕ)
    (h : i < param_count) (few : Few xs) (s : Stands xs from i buf place out) (fits : SFits w64 (at xs i))
    (code : u ≡ code_of (to_z w64 (of_z w64 (at xs i)))) (w : Left out place u r out') where
  u_is : u ≡ code_of (at xs i)
  u_is = code_of_given (at xs i) u fits code

  short : length (encode u) ≤ 5
  short = length_le 4 u (omega (arith, u_is, few i h))

  -- the next number never lacks room
  pub stands_full : {A : Type 0} → from + 5 * param_count ≤ length buf → r ≡ None → A
  stands_full l e = absurd (omega (arith, short, s.few, s.same, put_full out place u (sym e ∙ w.0)))

  pub stands_more : (next : ℕ) → i < length xs → length out' ≡ length out → r ≡ Some next → Stands xs from (i + 1) buf next out'
  stands_more next l k e =
      let n = put_next out place u next (sym e ∙ w.0) in
      let b : out' ≡ sets out place (encode u) = w.1 ∙ sym (put_fits out place u (omega arith)).1 in
      let more = bytes_more xs i l in
      record {
        place_is = omega (
          arith,
          n.0,
          s.place_is,
          ap length more,
          length-append (bytes_of (take i xs)) (encode (code_of (at xs i))),
          ap (λ (v : ℕ). length (encode v)) u_is,
        );
        bytes_are = b
            ∙ rw (more, sets_append buf from (bytes_of (take i xs)) (encode (code_of (at xs i))), ← s.bytes_are, ← s.place_is, u_is);
        few = omega (arith, short, s.few);
        same = k ∙ s.same;
      }

pub stands_all :
    (xs : List ℤ) (from i : ℕ) (buf : List ℕ) (place : ℕ) (out : List ℕ) →
    length xs ≤ i →
    Stands xs from i buf place out →
    (place ≡ from + length (bytes_of xs)) × (out ≡ sets buf from (bytes_of xs))
stands_all xs from i buf place out h s =
    let e = take_all i xs h in
    (rw e at s.place_is, rw e at s.bytes_are)

-- ---- the ends of `write`
abbrev pub Wrote : Params → List ℕ → Result ℕ WriteError → List ℕ → Type 0
Wrote p buf r out = (r ≡ (write_of p buf).answer) × (out ≡ (write_of p buf).bytes)

module _ (p : Params) (buf : List ℕ) (room : ℕ) (q : room ≡ room_for p.edition) where
  pub write_short : length buf < room → Wrote p buf (Err Short) buf
  unfolding write_of
  write_short h = let t = lt-ltb (length buf) (room_for p.edition) (rw q at h) in (rw t, rw t)

  module _ (f : Option ℕ) (h : room ≤ length buf) (e : f ≡ first_broken p) where
    wide : ltb (length buf) (room_for p.edition) ≡ false
    wide = le-ltb (length buf) (room_for p.edition) (rw q at h)

    pub write_outside : (i : ℕ) → f ≡ Some i → Wrote p buf (Err (Outside i)) buf
    unfolding write_of
    write_outside i g = (rw (wide, ← e, g), rw (wide, ← e, g))

    -- there is room for the numbers behind the front
    pub write_room : (from : ℕ) (out : List ℕ) → from ≡ length (front_bytes p.edition) → length out ≡ length buf →
        from + 5 * param_count ≤ length out
    write_room from out n l = omega (arith, n, l, h, q, room_is p.edition)

    -- the front, then the numbers
    pub write_done :
        (from : ℕ) (mid : List ℕ) (n : ℕ) (out : List ℕ) →
        f ≡ None →
        (from ≡ length (front_bytes p.edition)) × (mid ≡ sets buf 0 (front_bytes p.edition)) →
        (n ≡ from + length (bytes_of p.numbers)) × (out ≡ sets mid from (bytes_of p.numbers)) →
        Wrote p buf (Ok n) out
    unfolding write_of
    write_done from mid n out g a w =
        let l : n ≡ length (form_of p) = omega (arith, w.0, a.0, length-append (front_bytes p.edition) (bytes_of p.numbers)) in
        let b : out ≡ sets buf 0 (form_of p) =
        w.1
        ∙ rw (
          a.1,
          a.0,
          sets_append buf 0 (front_bytes p.edition) (bytes_of p.numbers),
          zero-add (length (front_bytes p.edition)),
        ) in
        (rw (wide, ← e, g, l), rw (wide, ← e, g, b))
