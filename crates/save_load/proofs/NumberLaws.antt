-- The reader of a save's numbers: going back from a number's last byte, what was read is the number from the place on.
-- Assumes nothing.
use Rattle.std.proofs.Common.{Some, None}
use Prim.Native.Nat.{ℕ, ◌+◌, ◌-◌, ◌*◌, ◌/◌, ◌<◌, ◌≤◌}
use native.Mathlib.Omega.{arith}
use mathlib.Core.Path.{◌≡◌, sym, ap, ◌∙◌}
use mathlib.Core.List.{List}
use mathlib.Core.Bool.{false, not, ◌&&◌}
use borrow.Author.Tests.{le-leb, ltb-true, not-false}
use lib.Dec.{leb, ltb}
use lib.ListN.{length, get_or, drop}
use Rattle.index.proofs.Index.{both}
use Rattle.index.proofs.Flags.{by_test, by_order}
use Rattle.varint.specs.Groups.{Got, got, none, decode, up_to, as_read, read_at}
use Rattle.varint.proofs.GroupLaws.{read_at_last, read_at_more, after_more_near}
use Rattle.save_load.specs.Numbers.{Reaches}
use Rattle.saves.proofs.Parsing.{top}

-- ---- the reader by its bytes
-- a byte with its top bit clear is itself
pub one_byte : (s : List ℕ) (at low : ℕ) → low ≡ get_or s at 0 → at < length s → low < 128 → Some (low, at + 1) ≡ read_at top s at
one_byte s at low e h l =
    let b : get_or s at 0 < 128 = omega arith in
    rw e (sym (read_at_last top s at h b ∙ rw (le-leb (get_or s at 0) top (omega arith))))

-- a number that a smaller limit has room for is read up to that limit too
narrow_got : (top' at v next : ℕ) (g : Got) → v ≤ top' → as_read at (up_to top g) ≡ Some (v, next) → as_read at (up_to top' g) ≡ Some (v, next)
narrow_got top' at v next none h e = let z : ◌≡◌ {A = ℕ} 0 1 = cc in absurd (omega arith)
narrow_got top' at v next (got u n) h e =
    by_test (as_read at (up_to top' (got u n)) ≡ Some (v, next)) (leb u top)
    (λ t.
    let f : Some (u, at + n) ≡ Some (v, next) = rw t at e in
    let p : (u, at + n) ≡ (v, next) = cc in
    let q : u ≡ v = ap (λ (w : ℕ × ℕ). w.0) p in
    rw (le-leb u top' (omega arith)) f)
    (λ t. let f : None ≡ Some (v, next) = rw t at e in let z : ◌≡◌ {A = ℕ} 0 1 = cc in absurd (omega arith))

narrow : (top' : ℕ) (s : List ℕ) (at v next : ℕ) → v ≤ top' → read_at top s at ≡ Some (v, next) → read_at top' s at ≡ Some (v, next)
unfolding read_at
narrow top' s at v next h e = narrow_got top' at v next (decode (drop at s)) h e

-- ---- the walk back: the number from `place` on is `value`, and ends after place `last`
pub record Joining (s : List ℕ) (at last place value : ℕ) : Type 0 where
  pub bytes : Reaches s at last
  pub low : at ≤ place
  pub high : place ≤ last
  pub some : 0 < value
  pub read : read_at top s place ≡ Some (value, last + 1)

pub joining_start :
    (s : List ℕ) (at last value : ℕ) → Reaches s at last → value ≡ get_or s last 0 → not (ltb 0 value && ltb value 128) ≡ false →
    Joining s at last last value
joining_start s at last value r e t =
    let b = both (ltb 0 value) (ltb value 128) (not-false (ltb 0 value && ltb value 128) t) in
    record {
      bytes = r;
      low = r.low;
      high = omega arith;
      some = ltb-true 0 value b.0;
      read = sym (one_byte s last value e r.high (ltb-true value 128 b.1));
    }

module _ (s : List ℕ) (at last place value : ℕ) (w : Joining s at last place value) where
  pub joining_byte : at < place → 128 ≤ get_or s (place - 1) 0
  joining_byte h = let u = w.high in w.bytes.before (place - 1) (omega arith) (omega arith)

  pub joining_more :
      at < place → value ≤ top / 128 → (low : ℕ) → low ≡ get_or s (place - 1) 0 → low < 256 →
      Joining s at last (place - 1) (value * 128 + (low - 128))
  joining_more h room low e b =
      let u = w.high in
      let v = w.bytes.high in
      let p = w.some in
      let big : 128 ≤ get_or s (place - 1) 0 = joining_byte h in
      let z : place - 1 + 1 ≡ place = omega arith in
      record {
        bytes = w.bytes;
        low = omega arith;
        high = omega arith;
        some = omega arith;
        read =
            read_at_more top s (place - 1) (omega arith) big
            ∙ sym (after_more_near top (get_or s (place - 1) 0) value (last + 1) (read_at (top / 128) s (place - 1 + 1))
            (rw z (narrow (top / 128) s place value (last + 1) room w.read))
            (λ q. omega arith)
            (omega arith))
            ∙ rw e;
      }

  pub joining_all : place ≤ at → Some (value, last + 1) ≡ read_at top s at
  joining_all h = let l = w.low in let z : place ≡ at = omega arith in sym (ap (read_at top s) (sym z) ∙ w.read)

-- ---- the walk to the last byte
pub reach_start : (s : List ℕ) (at : ℕ) → at < length s → Reaches s at at
reach_start s at h = record { low = omega arith; high = h; before = λ j a b. absurd (omega arith) }

pub reach_more : (s : List ℕ) (at place low : ℕ) → Reaches s at place → place + 1 < length s → low ≡ get_or s place 0 → 128 ≤ low →
    Reaches s at (place + 1)
reach_more s at place low r h e b =
    let l = r.low in
    record {
      low = omega arith;
      high = h;
      before = λ j x y.
          by_order (128 ≤ get_or s j 0) j place
          (λ k. r.before j x k)
          (λ k. let z : j ≡ place = omega arith in rw z (omega arith));
    }

pub reach_end : (s : List ℕ) (at place limit : ℕ) → Reaches s at place → place ≡ limit → Reaches s at limit
reach_end s at place limit r e = rw e at r
