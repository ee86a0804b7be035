-- The laws of seven-bit groups, once for every width: what was written is read back with any bytes after it (`read_at_encode`), and what is
-- read was written exactly so (`read_at_written`).
-- Assumes nothing.
use Rattle.std.proofs.Common.{Option, Some, None}
use Rattle.index.proofs.Kit.{ℕ, ◌+◌, ◌-◌, ◌*◌, ◌<◌, ◌≤◌, ◌≡◌, refl, sym, ap, ◌∙◌, arith, by_test}
use Prim.Native.Nat.{zero, suc, ◌/◌, ◌%◌, ◌^◌, zero-le}
use mathlib.Core.Bool.{cond}
use mathlib.Core.Path.{ap₂}
use mathlib.Core.List.{List, [], ◌∷◌, ◌++◌}
use native.Mathlib.Nat.{le_refl, pow-suc}
use native.Mathlib.Numerals.{add-one}
use borrow.Author.Tests.{lt-ltb, le-ltb, ltb-true, ltb-false, le-leb, lt-leb, leb-true, leb-false, eqb-false, ne_eqb}
use lib.Dec.{ltb, leb, eqb, eqb-suc-zero}
use lib.ListN.{length, set, drop, get_or, drop_of_length-le}
use lib.Seq.{drop-cons, sets, set_comm, drop-append_seam, get_or-drop, drop-drop}
use Rattle.varint.specs.Groups.{groups, encode, Got, got, none, before, decode, up_to, as_read, read_at, after_more, last_group, put_of}

-- more room changes nothing
groups_room : (k m n : ℕ) → n ≤ k → n ≤ m → groups k n ≡ groups m n
unfolding groups
groups_room zero zero n h l = refl
groups_room zero (suc m) n h l = rw (lt-ltb n 128 (omega arith))
groups_room (suc k) zero n h l = rw (lt-ltb n 128 (omega arith))
groups_room (suc k) (suc m) n h l =
    by_test (groups (suc k) n ≡ groups (suc m) n) (ltb n 128)
    (λ t. rw t)
    (λ t. let big : 128 ≤ n = ltb-false n 128 t in
    ap (λ (l : List ℕ). cond (ltb n 128) (n ∷ []) ((n % 128 + 128) ∷ l)) (groups_room k m (n / 128) (omega arith) (omega arith)))

-- the two rules of `encode`
pub encode_last : (n : ℕ) → n < 128 → encode n ≡ n ∷ []
unfolding encode groups
encode_last zero h = refl
encode_last (suc n) h = rw (lt-ltb (suc n) 128 h)

pub encode_more : (n : ℕ) → 128 ≤ n → encode n ≡ (n % 128 + 128) ∷ encode (n / 128)
unfolding encode groups
encode_more zero h = absurd (omega arith)
encode_more (suc n) h =
    rw (le-ltb (suc n) 128 h)
    (ap (λ (l : List ℕ). (suc n % 128 + 128) ∷ l) (groups_room n (suc n / 128) (suc n / 128) (omega arith) (omega arith)))

-- ---- what is written is read

before_pos : (b v n : ℕ) → 0 < v → before b (got v n) ≡ got (v * 128 + (b - 128)) (suc n)
before_pos b zero n h = absurd (omega arith)
before_pos b (suc v) n h = refl

pub decode_last : (b : ℕ) (s : List ℕ) → b < 128 → decode (b ∷ s) ≡ got b 1
unfolding decode
decode_last b s h = rw (lt-ltb b 128 h)

pub decode_more : (b : ℕ) (s : List ℕ) → 128 ≤ b → decode (b ∷ s) ≡ before b (decode s)
unfolding decode
decode_more b s h = rw (le-ltb b 128 h)

-- what `encode` writes, `decode` reads, whatever follows. By induction on a bound of n
decode_encode_to : (k n : ℕ) (rest : List ℕ) → n ≤ k → decode (encode n ++ rest) ≡ got n (length (encode n))
decode_encode_to zero n rest h = let small : n < 128 = omega arith in rw (encode_last n small, decode_last n rest small)
decode_encode_to (suc k) n rest h =
    by_test (decode (encode n ++ rest) ≡ got n (length (encode n))) (ltb n 128)
    (λ t. let small : n < 128 = ltb-true n 128 t in rw (encode_last n small, decode_last n rest small))
    (λ t. let big : 128 ≤ n = ltb-false n 128 t in
    rw (
      encode_more n big,
      decode_more (n % 128 + 128) (encode (n / 128) ++ rest) (omega arith),
      decode_encode_to k (n / 128) rest (omega arith),
      before_pos (n % 128 + 128) (n / 128) (length (encode (n / 128))) (omega arith),
    )
    (ap (λ (v : ℕ). got v (suc (length (encode (n / 128))))) (omega arith)))

pub decode_encode : (n : ℕ) (rest : List ℕ) → decode (encode n ++ rest) ≡ got n (length (encode n))
decode_encode n rest = decode_encode_to n n rest (le_refl n)

-- ---- what is read was so written
pub record Written (s : List ℕ) (v n : ℕ) : Type 0 where
  pub bytes : s ≡ encode v ++ drop n s
  pub count : n ≡ length (encode v)

written_before : (b : ℕ) (s : List ℕ) (v n : ℕ) → 128 ≤ b → b < 256 → 0 < v → Written s v n → Written (b ∷ s) (v * 128 + (b - 128)) (suc n)
written_before b s v n h l p w =
    let e : encode (v * 128 + (b - 128)) ≡ b ∷ encode v =
    encode_more (v * 128 + (b - 128)) (omega arith)
    ∙ ap₂ (λ (x y : ℕ). x ∷ encode y) (omega arith) (omega arith) in
    record { bytes = rw (e, ← w.bytes); count = rw (e, ← w.count) }

written_by : (b : ℕ) (s : List ℕ) (g : Got) (v n : ℕ) → 128 ≤ b → b < 256 → ((v n : ℕ) → g ≡ got v n → Written s v n) → before b g
    ≡ got v n → Written (b ∷ s) v n
written_by b s none v n h l ih e = let z : ◌≡◌ {A = ℕ} 0 1 = cc in absurd (omega arith)
written_by b s (got zero m) v n h l ih e = let z : ◌≡◌ {A = ℕ} 0 1 = cc in absurd (omega arith)
written_by b s (got (suc u) m) v n h l ih e =
    let ev : suc u * 128 + (b - 128) ≡ v = cc in
    let en : suc m ≡ n = cc in
    rw (← ev, ← en) (written_before b s (suc u) m h l (omega arith) (ih (suc u) m refl))

pub written : (s : List ℕ) (v n : ℕ) → ((k : ℕ) → get_or s k 0 < 256) → decode s ≡ got v n → Written s v n
unfolding decode
written [] v n h e = let z : ◌≡◌ {A = ℕ} 0 1 = cc in absurd (omega arith)
written (b ∷ s) v n h e =
    by_test (Written (b ∷ s) v n) (ltb b 128)
    (λ t. let small : b < 128 = ltb-true b 128 t in
    let g : got b 1 ≡ got v n = sym (decode_last b s small) ∙ e in
    let ev : b ≡ v = cc in
    let en : 1 ≡ n = cc in
    rw (← ev, ← en) (record { bytes = rw (encode_last b small); count = rw (encode_last b small) }))
    (λ t. let big : 128 ≤ b = ltb-false b 128 t in
    written_by b s (decode s) v n big (h 0) (λ v n q. written s v n (λ k. h (suc k)) q) (sym (decode_more b s big) ∙ e))

-- ---- the reader's answer at a place, by the byte that stands there
pub read_at_end : (top : ℕ) (s : List ℕ) (at : ℕ) → length s ≤ at → read_at top s at ≡ None
unfolding read_at decode
read_at_end top s at h = rw (drop_of_length-le s h)

pub read_at_last : (top : ℕ) (s : List ℕ) (at : ℕ) → at < length s → get_or s at 0 < 128 → read_at top s at
    ≡ cond (leb (get_or s at 0) top) (Some (get_or s at 0, at + 1)) None
unfolding read_at
read_at_last top s at h l =
    rw (drop-cons s at 0 h, decode_last (get_or s at 0) (drop (suc at) s) l)
    (by_test (as_read at (up_to top (got (get_or s at 0) 1)) ≡ cond (leb (get_or s at 0) top) (Some (get_or s at 0, at + 1)) None)
    (leb (get_or s at 0) top) (λ t. rw t) (λ t. rw t))

more_by : (top at b : ℕ) (g : Got) → 128 ≤ b → as_read at (up_to top (before b g)) ≡ after_more top b (as_read (suc at) (up_to (top / 128) g))
more_by top at b none h = refl
more_by top at b (got zero n) h = rw (le-leb 0 (top / 128) zero-le)
more_by top at b (got (suc v) n) h =
    by_test (as_read at (up_to top (before b (got (suc v) n))) ≡ after_more top b (as_read (suc at) (up_to (top / 128) (got (suc v) n))))
    (leb (suc v) (top / 128))
    (λ t. rw (t, eqb-suc-zero v)
    (by_test (as_read at (cond (leb (suc v * 128 + (b - 128)) top) (got (suc v * 128 + (b - 128)) (suc n)) none)
    ≡ cond (leb (suc v * 128 + (b - 128)) top) (Some (suc v * 128 + (b - 128), suc at + n)) None) (leb (suc v * 128 + (b - 128)) top)
    (λ u. rw u (ap (λ (k : ℕ). Some (suc v * 128 + (b - 128), k)) (omega arith)))
    (λ u. rw u)))
    (λ t. let far : top / 128 < suc v = leb-false (suc v) (top / 128) t in rw (t, lt-leb (suc v * 128 + (b - 128)) top (omega arith)))

pub read_at_more : (top : ℕ) (s : List ℕ) (at : ℕ) → at < length s → 128 ≤ get_or s at 0 → read_at top s at
    ≡ after_more top (get_or s at 0) (read_at (top / 128) s (at + 1))
unfolding read_at
read_at_more top s at h l =
    rw (drop-cons s at 0 h, decode_more (get_or s at 0) (drop (suc at) s) l, add-one at)
    (more_by top at (get_or s at 0) (decode (drop (suc at) s)) l)

-- the two ends of `after_more`, by the tests that lead there
pub after_more_far : (top b v next : ℕ) (r : Option (ℕ × ℕ)) → r ≡ Some (v, next) → (v ≡ 0 → ⊥) → top < v * 128 + (b - 128) → None ≡ after_more top b r
after_more_far top b v next r e z h = rw (e, ne_eqb v 0 z, lt-leb (v * 128 + (b - 128)) top h)

pub after_more_near : (top b v next : ℕ) (r : Option (ℕ × ℕ)) → r ≡ Some (v, next) → (v ≡ 0 → ⊥) → v * 128 + (b - 128) ≤ top →
    Some (v * 128 + (b - 128), next) ≡ after_more top b r
after_more_near top b v next r e z h = rw (e, ne_eqb v 0 z, le-leb (v * 128 + (b - 128)) top h)

-- the two ends of `read_up_to`
-- a byte with its top bit set begins no number below 128
pub after_small : (top b : ℕ) (r : Option (ℕ × ℕ)) → top < 128 → after_more top b r ≡ None
after_small top b None h = refl
after_small top b (Some (v, next)) h =
    by_test (after_more top b (Some (v, next)) ≡ None) (eqb v 0)
    (λ t. rw t)
    (λ t. let n : v ≡ 0 → ⊥ = eqb-false v 0 t in sym (after_more_far top b v next (Some (v, next)) refl n (omega arith)))

pub small_is : (top at low : ℕ) (s : List ℕ) → low ≡ get_or s at 0 → at < length s → 128 ≤ low → top < 128 → None ≡ read_at top s at
small_is top at low s e i h k =
    let b : 128 ≤ get_or s at 0 = omega arith in
    sym (read_at_more top s at i b ∙ after_small top (get_or s at 0) (read_at (top / 128) s (at + 1)) k)

pub last_is : (top at low : ℕ) (s : List ℕ) (r : Option (ℕ × ℕ)) → r ≡ last_group top low (at + 1) → low ≡ get_or s at 0 → at < length s → low < 128 → r
    ≡ read_at top s at
last_is top at low s r e b h l = e ∙ ap (λ (x : ℕ). last_group top x (at + 1)) b ∙ sym (read_at_last top s at h (omega arith))

pub more_is : (top at low : ℕ) (s : List ℕ) (r q : Option (ℕ × ℕ)) → r ≡ after_more top low q → q ≡ read_at (top / 128) s (at + 1) → low ≡ get_or s at 0 →
    at < length s → 128 ≤ low → r ≡ read_at top s at
more_is top at low s r q e f b h l = e ∙ ap₂ (λ (x : ℕ) (y : Option (ℕ × ℕ)). after_more top x y) b f ∙ sym (read_at_more top s at h (omega arith))

-- ---- the two ends of the writer
pub length_last : (n : ℕ) → n < 128 → length (encode n) ≡ 1
length_last n h = ap length (encode_last n h)

pub length_more : (n : ℕ) → 128 ≤ n → length (encode n) ≡ suc (length (encode (n / 128)))
length_more n h = ap length (encode_more n h)

pub length_pos : (n : ℕ) → 0 < length (encode n)
length_pos n =
    by_test (0 < length (encode n)) (ltb n 128) (λ t. omega (arith, length_last n (ltb-true n 128 t)))
    (λ t. omega (arith, length_more n (ltb-false n 128 t)))

-- a store and a run of stores behind it, in the other order
sets_set : (vs l : List ℕ) (i j a : ℕ) → i < j → sets (set l i a) j vs ≡ set (sets l j vs) i a
sets_set [] l i j a h = refl
sets_set (v ∷ vs) l i j a h =
    ap (λ (m : List ℕ). sets m (suc j) vs) (set_comm l i j a v (λ e. omega arith))
    ∙ sets_set vs (set l j v) i (suc j) a (omega arith)

-- what a call of the writer leaves: its answer and the buffer
abbrev pub Left : List ℕ → ℕ → ℕ → Option ℕ → List ℕ → Type 0
Left buf at n r out = (r ≡ (put_of buf at n).answer) × (out ≡ (put_of buf at n).bytes)

module _ (buf : List ℕ) (at n : ℕ) where
  pub put_fits : at + length (encode n) ≤ length buf → Left buf at n (Some (at + length (encode n))) (sets buf at (encode n))
  unfolding put_of
  put_fits h = let t = le-leb (at + length (encode n)) (length buf) h in (rw t, rw t)

  pub put_over : length buf < at + length (encode n) → Left buf at n None buf
  unfolding put_of
  put_over h = let t = lt-leb (at + length (encode n)) (length buf) h in (rw t, rw t)

  -- which of the two it was, from the answer
  pub put_next : (next : ℕ) → Some next ≡ (put_of buf at n).answer → (next ≡ at + length (encode n)) × (next ≤ length buf)
  unfolding put_of
  put_next next e =
      by_test ((next ≡ at + length (encode n)) × (next ≤ length buf)) (leb (at + length (encode n)) (length buf))
      (λ t. let h = leb-true (at + length (encode n)) (length buf) t in
      let e' : Some next ≡ Some (at + length (encode n)) = rw t at e in
      let q : next ≡ at + length (encode n) = cc in
      (q, omega arith))
      (λ t. let e' : Some next ≡ None = rw t at e in let z : ◌≡◌ {A = ℕ} 0 1 = cc in absurd (omega arith))

  pub put_full : None ≡ (put_of buf at n).answer → length buf < at + length (encode n)
  unfolding put_of
  put_full e =
      by_test (length buf < at + length (encode n)) (leb (at + length (encode n)) (length buf))
      (λ t. let e' : None ≡ Some (at + length (encode n)) = rw t at e in let z : ◌≡◌ {A = ℕ} 0 1 = cc in absurd (omega arith))
      (λ t. leb-false (at + length (encode n)) (length buf) t)

-- the four ends of `write_u64`
module _ (buf : List ℕ) (at n : ℕ) where
  pub left_end : length buf ≤ at → Left buf at n None buf
  left_end h = put_over buf at n (omega (arith, length_pos n))

  pub left_last : at < length buf → n < 128 → Left buf at n (Some (at + 1)) (set buf at n)
  left_last h l =
      let e = encode_last n l in
      let p : at + 1 ≤ length buf = omega arith in
      rw e at (put_fits buf at n (rw e p))

  pub left_full : (r : Option ℕ) (out : List ℕ) → 128 ≤ n → Left buf (at + 1) (n / 128) r out → r ≡ None → Left buf at n None out
  left_full r out h w e =
      let o : length buf < at + 1 + length (encode (n / 128)) = put_full buf (at + 1) (n / 128) (sym e ∙ w.0) in
      let q : out ≡ buf = w.1 ∙ sym (put_over buf (at + 1) (n / 128) o).1 in
      rw q (put_over buf at n (omega (arith, length_more n h)))

  pub left_more :
      (r : Option ℕ) (out : List ℕ) (next : ℕ) → 128 ≤ n → Left buf (at + 1) (n / 128) r out → r ≡ Some next →
      Left buf at n (Some next) (set out at (n % 128 + 128))
  left_more r out next h w e =
      let o = put_next buf (at + 1) (n / 128) next (sym e ∙ w.0) in
      let f : at + length (encode n) ≤ length buf = omega (arith, length_more n h) in
      let i : next ≡ at + length (encode n) = omega (arith, length_more n h) in
      let p = put_fits buf at n f in
      let b : out ≡ sets buf (at + 1) (encode (n / 128)) = w.1 ∙ sym (put_fits buf (at + 1) (n / 128) (omega arith)).1 in
      (rw i p.0, ap (λ (l : List ℕ). set l at (n % 128 + 128)) b ∙ front ∙ p.1)
    where
      front : set (sets buf (at + 1) (encode (n / 128))) at (n % 128 + 128) ≡ sets buf at (encode n)
      front = rw (add-one at, encode_more n h) (sym (sets_set (encode (n / 128)) buf at (suc at) (n % 128 + 128) (omega arith)))

-- ---- the document's examples
vector_300 : encode 300 ≡ 0xac ∷ 0x02 ∷ []
unfolding encode groups
vector_300 = refl

vector_largest : encode 18446744073709551615 ≡ 255 ∷ 255 ∷ 255 ∷ 255 ∷ 255 ∷ 255 ∷ 255 ∷ 255 ∷ 255 ∷ 1 ∷ []
unfolding encode groups
vector_largest = refl

vector_overlong : decode (0x80 ∷ 0x00 ∷ []) ≡ none
unfolding decode
vector_overlong = refl

-- ---- a number among other bytes
pub read_at_encode : (top n : ℕ) (front rest : List ℕ) → n ≤ top → read_at top (front ++ (encode n ++ rest)) (length front)
    ≡ Some (n, length front + length (encode n))
unfolding read_at
read_at_encode top n front rest h = rw (drop-append_seam front (encode n ++ rest), decode_encode n rest, le-leb n top h)

-- what was accepted at a place is the shortest form of the number
record Accepted (top at u next : ℕ) (g : Got) : Type 0 where
  n : ℕ
  is : g ≡ got u n
  ends : next ≡ at + n
  small : u ≤ top

accepted : (top at u next : ℕ) (g : Got) → as_read at (up_to top g) ≡ Some (u, next) → Accepted top at u next g
accepted top at u next none e = let z : ◌≡◌ {A = ℕ} 0 1 = cc in absurd (omega arith)
accepted top at u next (got v n) e =
    by_test (Accepted top at u next (got v n)) (leb v top)
    (λ t. let e' : Some (v, at + n) ≡ Some (u, next) = rw t at e in
    let p : (v, at + n) ≡ (u, next) = cc in
    let ev : v ≡ u = ap (λ (q : ℕ × ℕ). q.0) p in
    let en : at + n ≡ next = ap (λ (q : ℕ × ℕ). q.1) p in
    record { n = n; is = rw ev; ends = sym en; small = omega (arith, leb-true v top t) })
    (λ t. let e' : None ≡ Some (u, next) = rw t at e in let z : ◌≡◌ {A = ℕ} 0 1 = cc in absurd (omega arith))

pub record Front (top : ℕ) (s : List ℕ) (at u next : ℕ) : Type 0 where
  pub bytes : drop at s ≡ encode u ++ drop next s
  pub small : u ≤ top

bytes_drop : (s : List ℕ) (at : ℕ) → ((k : ℕ) → get_or s k 0 < 256) → (k : ℕ) → get_or (drop at s) k 0 < 256
bytes_drop s at h k = rw (get_or-drop at s k 0) (h (at + k))

pub read_at_written : (top : ℕ) (s : List ℕ) (at u next : ℕ) → ((k : ℕ) → get_or s k 0 < 256) → read_at top s at ≡ Some (u, next) →
    Front top s at u next
unfolding read_at
read_at_written top s at u next h e =
    let a = accepted top at u next (decode (drop at s)) e in
    let w = written (drop at s) u a.n (bytes_drop s at h) a.is in
    record {
      bytes = w.bytes ∙ ap (λ (l : List ℕ). encode u ++ l) (drop-drop a.n at s ∙ ap (λ (k : ℕ). drop k s) (sym a.ends));
      small = a.small;
    }

-- ---- how long the groups are
pub length_le : (k n : ℕ) → n < 128 ^ suc k → length (encode n) ≤ suc k
length_le zero n h = omega (arith, length_last n h)
length_le (suc k) n h =
    by_test (length (encode n) ≤ suc (suc k)) (ltb n 128)
    (λ t. omega (arith, length_last n (ltb-true n 128 t)))
    (λ t. omega (arith, length_more n (ltb-false n 128 t), length_le k (n / 128) (omega (arith, pow-suc 128 (suc k)))))
