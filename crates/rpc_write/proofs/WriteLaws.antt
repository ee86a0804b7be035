-- Laws of writing: bytes stored one after the other, and the ends of the functions that store them.
-- Assumes nothing.
use Rattle.std.proofs.Common.{Result, Ok, Err}
use Rattle.rpc_write.specs.declared.WriteError.{WriteError}
use Rattle.rpc_write.specs.declared.WriteError.TheVariants.{NotList, Short}
use Rattle.std.proofs.Common.{Option, Some, None}
use Rattle.std.specs.Prelude.{is_some}
use Rattle.index.proofs.Kit.{ℕ, ◌+◌, ◌-◌, ◌*◌, ◌<◌, ◌≤◌, ◌≡◌, refl, sym, ap, ◌∙◌, Bool, true, false, arith, every, every_fails}
use Rattle.index.specs.Index.{gather}
use Rattle.index.proofs.Kit.{every_done, by_order}
use Prim.Native.Nat.{zero, suc, ◌/◌, ◌%◌}
use mathlib.Core.Bool.{◌&&◌, ◌||◌}
use mathlib.Core.List.{List, [], ◌∷◌, ◌++◌, append_assoc, append-nil}
use native.Mathlib.Numerals.{add-one}
use borrow.Author.Tests.{lt-ltb, le-ltb, ltb-true, le-leb, lt-leb, leb-true, eq-eqb, ne_eqb, eqb-true}
use lib.Dec.{ltb, leb, eqb}
use lib.ListN.{length, get_or, set, length-append, length-set}
use lib.Seq.{sets, length-sets, set_out}
use Rattle.index.proofs.Index.{both, every_at, gather_none, gather_more}
use Rattle.index.proofs.Lists.{sets_append}
use Rattle.varint.specs.Groups.{encode}
use Rattle.varint.proofs.GroupLaws.{encode_last, encode_more}
use Rattle.message_ids.specs.Ids.{id_size, id_start, number_row, table_ok}
use Rattle.message_ids.proofs.TableLaws.{table_parts, good_ids}
use Rattle.message_ids.proofs.FindLaws.{row_below}
use Rattle.rpc.specs.Reading.{row_bytes, name_bytes, Known}
use Rattle.rpc_write.specs.Writing.{Stored, Fitting, part_size, value_field, head_bytes, part_field, name_size, run, name_of, id_of, early}
use Rattle.rpc_write.specs.Writing.{late, name_number, named_bytes, entry_bytes, one_bytes, kind_bytes, control_bytes, inner_field}
use Rattle.rpc_write.specs.Writing.{message_of, named_ok, is_found, notice_ok, entry_ok, list_ok, write_of}

-- ---- one after the other
pub stored_none : (b : List ℕ) (at : ℕ) → Stored b at [] at b
stored_none b at = (omega arith, refl)

pub stored_then :
    (b : List ℕ) (at p : ℕ) (xs c : List ℕ) (q : ℕ) (ys d : List ℕ) → Stored b at xs p c → Stored c p ys q d → Stored b at (xs ++ ys) q d
stored_then b at p xs c q ys d s t = (omega (arith, s.0, t.0, length-append xs ys), t.1 ∙ rw (s.1, s.0) (sym (sets_append b at xs ys)))

pub stored_same : (b : List ℕ) (at p : ℕ) (xs ys c : List ℕ) → xs ≡ ys → Stored b at xs p c → Stored b at ys p c
stored_same b at p xs ys c e s = rw e at s

-- ---- numbers
pub number_one : (b : List ℕ) (at n : ℕ) (out : List ℕ) → n < 128 → out ≡ set b at n → Stored b at (encode n) (at + 1) out ×
    (at + 1 ≤ at + 2)
number_one b at n out h e = let q = encode_last n h in (rw q (refl, e), omega arith)

two_bytes : (n : ℕ) → 128 ≤ n → n < 16384 → encode n ≡ (n % 128 + 128) ∷ (n / 128) ∷ []
two_bytes n h l = encode_more n h ∙ ap (λ (x : List ℕ). (n % 128 + 128) ∷ x) (encode_last (n / 128) (omega arith))

pub number_two :
    (b : List ℕ) (at n : ℕ) (a out : List ℕ) → 128 ≤ n → n < 16384 → a ≡ set b at (n % 128 + 128) → out ≡ set a (at + 1) (n / 128) →
    Stored b at (encode n) (at + 2) out × (at + 2 ≤ at + 2)
number_two b at n a out h l e f = let q = two_bytes n h l in (rw q (refl, f ∙ rw (e, add-one at)), omega arith)

pub size_one : (n : ℕ) → n < 128 → (1 ≡ length (encode n)) × (1 ≤ 2)
size_one n h = (rw (encode_last n h), omega arith)

pub size_two : (n : ℕ) → 128 ≤ n → n < 16384 → (2 ≡ length (encode n)) × (2 ≤ 2)
size_two n h l = (rw (two_bytes n h l), omega arith)

-- ---- bytes past the end are not stored
-- one byte for each index: as many as there are, and those past the end are not stored
pub singles : (f : ℕ → ℕ) (n : ℕ) → length (gather n (λ i. f i ∷ [])) ≡ n
unfolding gather
singles f zero = refl
singles f (suc n) = omega (arith, length-append (gather n (λ i. f i ∷ [])) (f n ∷ []), singles f n)

module _ (f : ℕ → ℕ) (b : List ℕ) (at : ℕ) where
  pub one_more : (i : ℕ) (c d : List ℕ) → c ≡ sets b at (gather i (λ k. f k ∷ [])) → d ≡ set c (at + i) (f i) → d ≡ sets b at
      (gather (i + 1) (λ k. f k ∷ []))
  one_more i c d e g =
      let l = gather i (λ k. f k ∷ []) in
      g ∙ rw (gather_more (λ k. f k ∷ []) i, sets_append b at l (f i ∷ []), singles f i, ← e)

  no_more : (n d : ℕ) → length b ≤ at + n → sets b at (gather (d + n) (λ k. f k ∷ [])) ≡ sets b at (gather n (λ k. f k ∷ []))
  no_more n zero h = let k : 0 + n ≡ n = omega arith in ap (λ (x : ℕ). sets b at (gather x (λ k. f k ∷ []))) k
  no_more n (suc d) h =
      let c = sets b at (gather (d + n) (λ k. f k ∷ [])) in
      let past : length c ≤ at + (d + n) = omega (arith, length-sets b at (gather (d + n) (λ k. f k ∷ []))) in
      let k : suc d + n ≡ d + n + 1 = omega arith in
      ap (λ (x : ℕ). sets b at (gather x (λ k. f k ∷ []))) k
      ∙ sym (one_more (d + n) c (set c (at + (d + n)) (f (d + n))) refl refl)
      ∙ set_out c (at + (d + n)) (f (d + n)) past
      ∙ no_more n d h

  fitted : (n size : ℕ) → Fitting (length b) at size n → sets b at (gather n (λ k. f k ∷ [])) ≡ sets b at (gather size (λ k. f k ∷ []))
  fitted n size t =
      by_order (sets b at (gather n (λ k. f k ∷ [])) ≡ sets b at (gather size (λ k. f k ∷ []))) n size
      (λ less.
      let k : size - n + n ≡ size = omega arith in
      sym (no_more n (size - n) (t.most less)) ∙ ap (λ (x : ℕ). sets b at (gather x (λ k. f k ∷ []))) k)
      (λ more. let e : n ≡ size = omega (arith, t.some) in ap (λ (x : ℕ). sets b at (gather x (λ k. f k ∷ []))) e)

pub fits_none : (end at size : ℕ) → end ≤ at → Fitting end at size 0
fits_none end at size h = record { some = omega arith; room = omega arith; most = λ l. omega arith }

pub fits_all : (end at size : ℕ) → size ≤ end - at → Fitting end at size size
fits_all end at size h = record { some = omega arith; room = h; most = λ l. absurd (omega arith) }

pub fits_some : (end at size : ℕ) → at < end → end - at < size → Fitting end at size (end - at)
fits_some end at size h l = record { some = omega arith; room = omega arith; most = λ k. omega arith }

-- ---- names
module _ (names : List ℕ) (topic : ℕ) where
  module _ (h : topic < 8) where
    pub size_is : (size : ℕ) → size ≡ get_or names (row_bytes * topic) 0 → size ≤ name_bytes → (size ≡ name_size names topic)
        × (size ≤ name_bytes)
    unfolding name_size
    size_is size e l =
        let m : get_or names (row_bytes * topic) 0 ≤ name_bytes = omega arith in
        (e ∙ rw (lt-ltb topic 8 h, le-leb (get_or names (row_bytes * topic) 0) name_bytes m), l)

    pub size_long : (size : ℕ) → size ≡ get_or names (row_bytes * topic) 0 → name_bytes < size → (0 ≡ name_size names topic) × (0 ≤ name_bytes)
    unfolding name_size
    size_long size e l =
        let m : name_bytes < get_or names (row_bytes * topic) 0 = omega arith in
        (rw (lt-ltb topic 8 h, lt-leb (get_or names (row_bytes * topic) 0) name_bytes m), omega arith)

  pub size_far : 8 ≤ topic → (0 ≡ name_size names topic) × (0 ≤ name_bytes)
  unfolding name_size
  size_far h = (rw (le-ltb topic 8 h), omega arith)

  pub name_far : (b : List ℕ) (at : ℕ) → 8 ≤ topic → Stored b at (name_of names topic) at b × (at ≤ at + name_bytes)
  unfolding name_of
  name_far b at h = rw (← (size_far h).0, gather_none (λ i. get_or names (row_bytes * topic + 1 + i) 0 ∷ [])) (stored_none b at, omega arith)

  -- how long a name is
  pub name_length : name_size names topic ≡ length (name_of names topic)
  unfolding name_of
  name_length = sym (singles (λ i. get_or names (row_bytes * topic + 1 + i) 0) (name_size names topic))

  pub name_run :
      (b : List ℕ) (at size q : ℕ) (out : List ℕ) → (size ≡ name_size names topic) × (size ≤ name_bytes) →
      Stored b at (run names (row_bytes * topic + 1) size) q out × (q ≤ at + name_bytes) →
      Stored b at (name_of names topic) q out × (q ≤ at + name_bytes)
  unfolding name_of
  name_run b at size q out z s = rw z.0 at s

-- ---- a copy: none of its bytes, one more, all
module _ (src : List ℕ) (start : ℕ) (b : List ℕ) (at : ℕ) where
  abbrev pub Copied : ℕ → List ℕ → Type 0
  Copied i out = (length out ≡ length b) × (out ≡ sets b at (run src start i))

  pub copy_none : Copied 0 b
  copy_none = (refl, rw (gather_none (λ i. get_or src (start + i) 0 ∷ [])))

  pub copy_more : (i : ℕ) (out : List ℕ) → Copied i out → Copied (i + 1) (set out (at + i) (get_or src (start + i) 0))
  copy_more i out e =
      let x = get_or src (start + i) 0 in
      (length-set out (at + i) x ∙ e.0, one_more (λ k. get_or src (start + k) 0) b at i out (set out (at + i) x) e.1 refl)

  pub copy_all :
      (i n size : ℕ) (out : List ℕ) → size ≤ name_bytes → Fitting (length b) at size n → i ≤ n → n ≤ i → Copied i out →
      Stored b at (run src start size) (at + size) out × (at + size ≤ at + name_bytes)
  copy_all i n size out z t l h q =
      let j : i ≡ n = omega arith in
      let k : at + size ≡ at + length (run src start size) = omega (arith, singles (λ k. get_or src (start + k) 0) size) in
      let e : out ≡ sets b at (run src start size) =
      q.1 ∙ ap (λ (x : ℕ). sets b at (run src start x)) j ∙ fitted (λ k. get_or src (start + k) 0) b at n size t in
      ((k, e), omega arith)

-- ---- ids
module _ (ids numbers order : List ℕ) (ok : table_ok ids numbers order ≡ true) (v : ℕ) (row : Option ℕ) (r : row ≡ number_row numbers v) where
  module _ (k : ℕ) (e : row ≡ Some k) where
    -- the row is in the table
    pub record Row : Type 0 where
      pub low : k < length numbers
      pub long : length ids ≡ 65 * length numbers
      pub short : id_size ids k ≤ name_bytes
      pub is : id_of ids numbers v ≡ run ids (id_start k) (id_size ids k)

    pub id_row : Row
    unfolding id_of
    id_row =
        let g = good_ids ids (length numbers) (table_parts ids numbers order ok).0 in
        let l = row_below numbers v k (sym r ∙ e) in
        record { low = l; long = g.long; short = (g.each k l).short; is = rw (← r, e) }

    pub id_size_is : (size : ℕ) → size ≡ id_size ids k → (size ≡ length (id_of ids numbers v)) × (size ≤ name_bytes)
    id_size_is size z =
        let q = id_row in
        let s = q.short in
        (rw q.is (z ∙ sym (singles (λ i. get_or ids (id_start k + i) 0) (id_size ids k))), omega arith)

    pub id_stored :
        (b : List ℕ) (at size q : ℕ) (out : List ℕ) → size ≡ id_size ids k →
        Stored b at (run ids (id_start k) size) q out × (q ≤ at + name_bytes) → Stored b at (id_of ids numbers v) q out × (q ≤ at + name_bytes)
    id_stored b at size q out z s = rw (id_row.is, ← z) s

  pub no_id : row ≡ None → (0 ≡ length (id_of ids numbers v)) × (0 ≤ name_bytes)
  unfolding id_of
  no_id e = (rw (← r, e), omega arith)

  pub no_id_stored : (b : List ℕ) (at : ℕ) → row ≡ None → Stored b at (id_of ids numbers v) at b × (at ≤ at + name_bytes)
  unfolding id_of
  no_id_stored b at e = rw (← r, e) (stored_none b at, omega arith)

-- ---- fields
pub value_none : (b : List ℕ) (at number v : ℕ) → v ≡ 0 → Stored b at (value_field number v) at b × (at ≤ at + 4)
unfolding value_field
value_none b at number v e = rw (eq-eqb v 0 e) (stored_none b at, omega arith)

pub value_some :
    (b : List ℕ) (at number v p : ℕ) (a : List ℕ) (q : ℕ) (out : List ℕ) → (v ≡ 0 → ⊥) →
    Stored b at (encode (8 * number)) p a × (p ≤ at + 2) → Stored a p (encode v) q out × (q ≤ p + 2) →
    Stored b at (value_field number v) q out × (q ≤ at + 4)
unfolding value_field
value_some b at number v p a q out n s t =
    rw (ne_eqb v 0 n) (stored_then b at p (encode (8 * number)) a q (encode v) out s.0 t.0, omega (arith, s.1, t.1))

pub value_size : (number v a b : ℕ) → (v ≡ 0 → ⊥) → (a ≡ length (encode (8 * number))) × (a ≤ 2) → (b ≡ length (encode v)) ×
    (b ≤ 2) → (a + b ≡ length (value_field number v)) × (a + b ≤ 4)
unfolding value_field
value_size number v a b n s t =
    (rw (ne_eqb v 0 n) (omega (arith, s.0, t.0, length-append (encode (8 * number)) (encode v))), omega (arith, s.1, t.1))

pub value_zero : (number v : ℕ) → v ≡ 0 → (0 ≡ length (value_field number v)) × (0 ≤ 4)
unfolding value_field
value_zero number v e = (rw (eq-eqb v 0 e), omega arith)

pub part_length : (number : ℕ) (content : List ℕ) → length (part_field number content) ≡ part_size number (length content)
unfolding part_field
part_length number content =
    let t = encode (8 * number + 2) in
    let l = encode (length content) in
    omega (arith, length-append t (l ++ content), length-append l content)

pub head_stored :
    (b : List ℕ) (at number size p : ℕ) (a : List ℕ) (q : ℕ) (c : List ℕ) → Stored b at (encode (8 * number + 2)) p a × (p ≤ at + 2) →
    Stored a p (encode size) q c × (q ≤ p + 2) → Stored b at (head_bytes number size) q c × (q ≤ at + 4)
unfolding head_bytes
head_stored b at number size p a q c s t =
    (stored_then b at p (encode (8 * number + 2)) a q (encode size) c s.0 t.0, omega (arith, s.1, t.1))

pub part_stored :
    (b : List ℕ) (at number size : ℕ) (content : List ℕ) (p : ℕ) (a : List ℕ) (q : ℕ) (out : List ℕ) → size ≡ length content →
    Stored b at (head_bytes number size) p a → Stored a p content q out → Stored b at (part_field number content) q out
unfolding part_field head_bytes
part_stored b at number size content p a q out e s t =
    let s' : Stored b at (encode (8 * number + 2) ++ encode (length content)) p a = rw e at s in
    stored_same b at q ((encode (8 * number + 2) ++ encode (length content)) ++ content)
    (encode (8 * number + 2) ++ (encode (length content) ++ content)) out
    (append_assoc (encode (8 * number + 2)) (encode (length content)) content)
    (stored_then b at p (encode (8 * number + 2) ++ encode (length content)) a q content out s' t)

-- ---- an entry
pub named_stored :
    (names b : List ℕ) (at kind topic v e m l p : ℕ) (a : List ℕ) (q : ℕ) (c : List ℕ) (r : ℕ) (out : List ℕ) → e ≡ early kind v →
    m ≡ name_number kind → l ≡ late kind v → Stored b at (value_field 1 e) p a × (p ≤ at + 4) →
    Stored a p (part_field m (name_of names topic)) q c × (q ≤ p + 68) → Stored c q (value_field 3 l) r out × (r ≤ q + 4) →
    Stored b at (named_bytes names kind topic v) r out × (r ≤ at + 76)
unfolding named_bytes
named_stored names b at kind topic v e m l p a q c r out ee em el s t u =
    rw (← ee, ← em, ← el) (
      stored_then b at p (value_field 1 e) a r (part_field m (name_of names topic) ++ value_field 3 l) out s.0
          (stored_then a p q (part_field m (name_of names topic)) c r (value_field 3 l) out t.0 u.0),
      omega (arith, s.1, t.1, u.1),
    )

pub named_length :
    (names : List ℕ) (kind topic v e m l size a b d : ℕ) → (e ≡ early kind v) × (e ≤ v) → m ≡ name_number kind →
    (l ≡ late kind v) × (l ≤ v) → (size ≡ name_size names topic) × (size ≤ name_bytes) → (a ≡ length (value_field 1 e)) × (a ≤ 4) →
    (b ≡ part_size m size) × (b ≤ size + 4) → (d ≡ length (value_field 3 l)) × (d ≤ 4) →
    (a + b + d ≡ length (named_bytes names kind topic v)) × (a + b + d ≤ 76)
unfolding named_bytes
named_length names kind topic v e m l size a b d ee em el z s t u =
    let N = name_of names topic in
    let U = value_field 1 e in
    let P = part_field m N in
    let W = value_field 3 l in
    let n : size ≡ length N = z.0 ∙ name_length names topic in
    let p : b ≡ length P = t.0 ∙ rw n (sym (part_length m N)) in (
      rw (← ee.0, ← em, ← el.0) (omega (arith, s.0, u.0, length-append U (P ++ W), length-append P W)),
      omega (arith, s.1, t.1, u.1, z.1),
    )

module _ (lent : Known) (kind topic v : ℕ) where
  -- an IDONTWANT, and any other
  module _ (e : kind ≡ 3) where
    pub entry_id : (size : ℕ) → (size ≡ length (id_of lent.ids lent.numbers v)) × (size ≤ name_bytes) →
        (size ≡ length (entry_bytes lent kind topic v)) × (size ≤ 76)
    unfolding entry_bytes
    entry_id size z = (rw (eq-eqb kind 3 e) z.0, omega (arith, z.1))

    pub entry_id_stored :
        (b : List ℕ) (at q : ℕ) (out : List ℕ) → Stored b at (id_of lent.ids lent.numbers v) q out × (q ≤ at + name_bytes) →
        Stored b at (entry_bytes lent kind topic v) q out × (q ≤ at + 76)
    unfolding entry_bytes
    entry_id_stored b at q out s = (rw (eq-eqb kind 3 e) s.0, omega (arith, s.1))

  module _ (n : kind ≡ 3 → ⊥) where
    pub entry_named : (size : ℕ) → (size ≡ length (named_bytes lent.names kind topic v)) × (size ≤ 76) →
        (size ≡ length (entry_bytes lent kind topic v)) × (size ≤ 76)
    unfolding entry_bytes
    entry_named size z = rw (ne_eqb kind 3 n) z

    pub entry_named_stored :
        (b : List ℕ) (at q : ℕ) (out : List ℕ) → Stored b at (named_bytes lent.names kind topic v) q out × (q ≤ at + 76) →
        Stored b at (entry_bytes lent kind topic v) q out × (q ≤ at + 76)
    unfolding entry_bytes
    entry_named_stored b at q out s = rw (ne_eqb kind 3 n) s

pub one_none : (lent : Known) (own topic v kind number : ℕ) → (own ≡ kind → ⊥) →
    (0 ≡ length (one_bytes lent own topic v kind number)) × (0 ≤ 80)
unfolding one_bytes
one_none lent own topic v kind number n = (rw (ne_eqb own kind n), omega arith)

pub one_length :
    (lent : Known) (own topic v kind number size r : ℕ) → own ≡ kind → (size ≡ length (entry_bytes lent own topic v)) × (size ≤ 76) →
    (r ≡ part_size number size) × (r ≤ size + 4) → (r ≡ length (one_bytes lent own topic v kind number)) × (r ≤ 80)
unfolding one_bytes
one_length lent own topic v kind number size r e z t = (
  t.0 ∙ rw (z.0, eq-eqb own kind e) (sym (part_length number (entry_bytes lent own topic v))),
  omega (arith, z.1, t.1),
)

pub one_other : (lent : Known) (b : List ℕ) (at own topic v kind number : ℕ) → (own ≡ kind → ⊥) → Stored b at
    (one_bytes lent own topic v kind number) at b × (at ≤ at + 80)
unfolding one_bytes
one_other lent b at own topic v kind number n = rw (ne_eqb own kind n) (stored_none b at, omega arith)

pub one_stored :
    (lent : Known) (b : List ℕ) (at own topic v kind number size p : ℕ) (a : List ℕ) (q : ℕ) (out : List ℕ) → own ≡ kind →
    (size ≡ length (entry_bytes lent own topic v)) × (size ≤ 76) → Stored b at (head_bytes number size) p a × (p ≤ at + 4) →
    Stored a p (entry_bytes lent own topic v) q out × (q ≤ p + 76) →
    Stored b at (one_bytes lent own topic v kind number) q out × (q ≤ at + 80)
unfolding one_bytes
one_stored lent b at own topic v kind number size p a q out e z s t =
    rw (eq-eqb own kind e) (
      part_stored b at number size (entry_bytes lent own topic v) p a q out z.0 s.0 t.0,
      omega (arith, s.1, t.1),
    )

-- ---- the entries of a kind
abbrev pub bytes_at : Known → List ℕ → ℕ → ℕ → ℕ → List ℕ
bytes_at lent list kind number i = one_bytes lent (get_or list (3 * i) 0) (get_or list (3 * i + 1) 0) (get_or list (3 * i + 2) 0) kind number

module _ (lent : Known) (list : List ℕ) (kind number : ℕ) (b : List ℕ) (at : ℕ) where
  pub kind_none : Stored b at (gather 0 (bytes_at lent list kind number)) at b
  kind_none = rw (gather_none (bytes_at lent list kind number)) (stored_none b at)

  pub kind_more :
      (i p : ℕ) (c : List ℕ) (q : ℕ) (d : List ℕ) → Stored b at (gather i (bytes_at lent list kind number)) p c →
      Stored c p (bytes_at lent list kind number i) q d → Stored b at (gather (i + 1) (bytes_at lent list kind number)) q d
  kind_more i p c q d s t =
      rw (gather_more (bytes_at lent list kind number) i)
      (stored_then b at p (gather i (bytes_at lent list kind number)) c q (bytes_at lent list kind number i) d s t)

  pub kind_all :
      (n i p : ℕ) (c : List ℕ) → i ≤ n → n ≤ i → n ≤ 72 → p ≤ at + 80 * i → Stored b at (gather i (bytes_at lent list kind number)) p c →
      Stored b at (kind_bytes lent list n kind number) p c × (p ≤ at + 5760)
  unfolding kind_bytes
  kind_all n i p c l h m k s =
      let e : i ≡ n = omega arith in
      ((rw e at s), omega arith)

-- ---- how long they are
module _ (lent : Known) (list : List ℕ) (kind number : ℕ) where
  pub length_none : 0 ≡ length (gather 0 (bytes_at lent list kind number))
  length_none = rw (gather_none (bytes_at lent list kind number))

  pub length_more :
      (i size a : ℕ) → size ≡ length (gather i (bytes_at lent list kind number)) → a ≡ length (bytes_at lent list kind number i) →
      size + a ≡ length (gather (i + 1) (bytes_at lent list kind number))
  length_more i size a e f =
      let g = gather i (bytes_at lent list kind number) in
      let x = bytes_at lent list kind number i in
      rw (gather_more (bytes_at lent list kind number) i) (omega (arith, length-append g x))

  pub length_all :
      (n i size : ℕ) → i ≤ n → n ≤ i → n ≤ 72 → size ≤ 80 * i → size ≡ length (gather i (bytes_at lent list kind number)) →
      (size ≡ length (kind_bytes lent list n kind number)) × (size ≤ 5760)
  unfolding kind_bytes
  length_all n i size l h m k e =
      let z : i ≡ n = omega arith in
      ((rw z at e), omega arith)

-- ---- a field with a content or none
pub inner_none : (b : List ℕ) (at number size most : ℕ) (content : List ℕ) → size ≡ length content → size ≡ 0 →
    Stored b at (inner_field number content) at b × (at ≤ at + (most + 4))
unfolding inner_field
inner_none b at number size most content z e = rw (eq-eqb (length content) 0 (sym z ∙ e)) (stored_none b at, omega arith)

pub inner_some :
    (b : List ℕ) (at number size most : ℕ) (content : List ℕ) (p : ℕ) (a : List ℕ) (q : ℕ) (out : List ℕ) → size ≡ length content →
    (size ≡ 0 → ⊥) → Stored b at (head_bytes number size) p a × (p ≤ at + 4) → Stored a p content q out × (q ≤ p + most) →
    Stored b at (inner_field number content) q out × (q ≤ at + (most + 4))
unfolding inner_field
inner_some b at number size most content p a q out z n s t =
    rw (ne_eqb (length content) 0 (λ e. n (z ∙ e)))
    (part_stored b at number size content p a q out z s.0 t.0, omega (arith, s.1, t.1))

pub inner_empty : (number size : ℕ) (content : List ℕ) → size ≡ length content → size ≡ 0 → 0 ≡ length (inner_field number content)
unfolding inner_field
inner_empty number size content z e = rw (eq-eqb (length content) 0 (sym z ∙ e))

pub inner_length :
    (number size r : ℕ) (content : List ℕ) → size ≡ length content → (size ≡ 0 → ⊥) → r ≡ part_size number size →
    r ≡ length (inner_field number content)
unfolding inner_field
inner_length number size r content z n t =
    t ∙ rw (ne_eqb (length content) 0 (λ e. n (z ∙ e)), z) (sym (part_length number content))

-- ---- the control message, the message
module _ (lent : Known) (list : List ℕ) (n : ℕ) where
  abbrev subs : List ℕ
  subs = kind_bytes lent list n 0 1

  abbrev control : List ℕ
  control = control_bytes lent list n

  abbrev notices : List ℕ
  notices = inner_field 5 (kind_bytes lent list n 3 1)

  pub control_length :
      (a b c : ℕ) → a ≡ length (kind_bytes lent list n 1 3) → b ≡ length (kind_bytes lent list n 2 4) →
      c ≡ length (inner_field 5 (kind_bytes lent list n 3 1)) → a + b + c ≡ length (control_bytes lent list n)
  unfolding control_bytes
  control_length a b c s t u =
      let G = kind_bytes lent list n 1 3 in
      let P = kind_bytes lent list n 2 4 in
      omega (arith, length-append G (P ++ notices), length-append P notices)

  pub control_stored :
      (b : List ℕ) (at : ℕ) (p : ℕ) (a : List ℕ) (q : ℕ) (c : List ℕ) (r : ℕ) (out : List ℕ) →
      Stored b at (kind_bytes lent list n 1 3) p a × (p ≤ at + 5760) → Stored a p (kind_bytes lent list n 2 4) q c × (q ≤ p + 5760) →
      Stored c q (inner_field 5 (kind_bytes lent list n 3 1)) r out × (r ≤ q + 5764) →
      Stored b at (control_bytes lent list n) r out × (r ≤ at + 17284)
  unfolding control_bytes
  control_stored b at p a q c r out s t u =
      let G = kind_bytes lent list n 1 3 in
      let P = kind_bytes lent list n 2 4 in (
        stored_then b at p G a r (P ++ notices) out s.0 (stored_then a p q P c r notices out t.0 u.0),
        omega (arith, s.1, t.1, u.1),
      )

  pub message_stored :
      (b : List ℕ) (p : ℕ) (a : List ℕ) (q : ℕ) (out : List ℕ) → Stored b 0 (kind_bytes lent list n 0 1) p a × (p ≤ 0 + 5760) →
      Stored a p (inner_field 3 (control_bytes lent list n)) q out × (q ≤ p + 17288) → Stored b 0 (message_of lent list n) q out
  unfolding message_of
  message_stored b p a q out s t = stored_then b 0 p subs a q (inner_field 3 control) out s.0 t.0

  module _ (size a : ℕ) (z : size ≡ length (control_bytes lent list n)) (s : (a ≡ length (kind_bytes lent list n 0 1)) × (a ≤ 5760)) where
    pub no_control : size ≡ 0 → a ≡ length (message_of lent list n)
    unfolding message_of inner_field
    no_control e = s.0 ∙ rw (eq-eqb (length control) 0 (sym z ∙ e), append-nil subs)

    pub with_control : (size ≡ 0 → ⊥) → (b : ℕ) → (b ≡ part_size 3 size) × (b ≤ size + 4) → a + b ≡ length (message_of lent list n)
    unfolding message_of inner_field
    with_control k b t =
        let P = part_field 3 control in
        let p : b ≡ length P = t.0 ∙ rw z (sym (part_length 3 control)) in
        rw (ne_eqb (length control) 0 (λ e. k (z ∙ e))) (omega (arith, s.0, length-append subs P))

-- ---- what an accepted list is
abbrev pub ok_at : Known → List ℕ → ℕ → Bool
ok_at lent list i = entry_ok lent (get_or list (3 * i) 0) (get_or list (3 * i + 1) 0) (get_or list (3 * i + 2) 0)

-- the kinds, and the values that go with them
pub data Fits (lent : Known) : ℕ → ℕ → ℕ → Type 0 where
  sub : {t v : ℕ} → 0 < name_size lent.names t → v ≤ 1 → Fits lent 0 t v
  graft : {t : ℕ} → 0 < name_size lent.names t → Fits lent 1 t 0
  prune : {t v : ℕ} → 0 < name_size lent.names t → v ≤ 3600 → Fits lent 2 t v
  notice : {v : ℕ} → is_found (number_row lent.numbers v) ≡ true → Fits lent 3 0 v

either : {P : Type 0} (a b : Bool) → (a ≡ true → P) → (b ≡ true → P) → (a || b) ≡ true → P
either true b f g e = f refl
either false b f g e = g e

fits_named : (lent : Known) (kind topic v : ℕ) → named_ok lent.names kind topic v ≡ true → Fits lent kind topic v
unfolding named_ok
fits_named lent kind topic v e =
    let s = name_size lent.names topic in
    let h = both (ltb 0 s) ((eqb kind 0 && leb v 1) || (eqb kind 1 && eqb v 0) || (eqb kind 2 && leb v 3600)) e in
    let n = ltb-true 0 s h.0 in
    either ((eqb kind 0 && leb v 1) || (eqb kind 1 && eqb v 0)) (eqb kind 2 && leb v 3600)
    (either (eqb kind 0 && leb v 1) (eqb kind 1 && eqb v 0)
    (λ a. let b = both (eqb kind 0) (leb v 1) a in rw (eqb-true kind 0 b.0) (sub n (leb-true v 1 b.1)))
    (λ a. let b = both (eqb kind 1) (eqb v 0) a in rw (eqb-true kind 1 b.0, eqb-true v 0 b.1) (graft n)))
    (λ a. let b = both (eqb kind 2) (leb v 3600) a in rw (eqb-true kind 2 b.0) (prune n (leb-true v 3600 b.1)))
    h.1

fits_notice : (lent : Known) (kind topic v : ℕ) → notice_ok lent.numbers kind topic v ≡ true → Fits lent kind topic v
unfolding notice_ok
fits_notice lent kind topic v e =
    let f = is_found (number_row lent.numbers v) in
    let h = both (eqb kind 3) (eqb topic 0 && f) e in
    let k = both (eqb topic 0) f h.1 in
    rw (eqb-true kind 3 h.0, eqb-true topic 0 k.0) (notice k.1)

pub fits : (lent : Known) (kind topic v : ℕ) → entry_ok lent kind topic v ≡ true → Fits lent kind topic v
unfolding entry_ok
fits lent kind topic v e =
    either (named_ok lent.names kind topic v) (notice_ok lent.numbers kind topic v) (fits_named lent kind topic v)
    (fits_notice lent kind topic v) e

small : (lent : Known) (kind topic v : ℕ) → Fits lent kind topic v → (kind ≡ 3 → ⊥) → v < 16384
small lent kind topic v (sub n h) k = omega arith
small lent kind topic v (graft n) k = omega arith
small lent kind topic v (prune n h) k = omega arith
small lent kind topic v (notice h) k = absurd (k refl)

pub record Good (lent : Known) (list : List ℕ) (n : ℕ) : Type 0 where
  pub few : n ≤ 72
  pub room : 3 * n ≤ length list
  pub each : (i : ℕ) → i < n → ok_at lent list i ≡ true
  pub little : (i : ℕ) → i < n → (get_or list (3 * i) 0 ≡ 3 → ⊥) → get_or list (3 * i + 2) 0 < 16384

pub good : (lent : Known) (list : List ℕ) (n : ℕ) → list_ok lent list n ≡ true → Good lent list n
unfolding list_ok
good lent list n e =
    let p = both (leb n 72) (leb (3 * n) (length list) && every n (ok_at lent list)) e in
    let q = both (leb (3 * n) (length list)) (every n (ok_at lent list)) p.1 in
    record {
      few = leb-true n 72 p.0;
      room = leb-true (3 * n) (length list) q.0;
      each = λ i h. every_at (ok_at lent list) n i q.1 h;
      little =
          λ i h.
          small lent (get_or list (3 * i) 0) (get_or list (3 * i + 1) 0) (get_or list (3 * i + 2) 0)
          (fits lent (get_or list (3 * i) 0) (get_or list (3 * i + 1) 0) (get_or list (3 * i + 2) 0) (every_at (ok_at lent list) n i q.1 h));
    }

-- ---- the ends of `list_ok`
module _ (lent : Known) (list : List ℕ) (n : ℕ) where
  pub list_many : 72 < n → false ≡ list_ok lent list n
  unfolding list_ok
  list_many h = rw (lt-leb n 72 h)

  module _ (h : n ≤ 72) where
    pub list_short : length list < 3 * n → false ≡ list_ok lent list n
    unfolding list_ok
    list_short l = rw (le-leb n 72 h, lt-leb (3 * n) (length list) l)

    module _ (l : 3 * n ≤ length list) where
      pub list_bad : (i : ℕ) → i < n → ok_at lent list i ≡ false → false ≡ list_ok lent list n
      unfolding list_ok
      list_bad i k e = rw (le-leb n 72 h, le-leb (3 * n) (length list) l, every_fails (ok_at lent list) n i k e)

      pub list_good : (i : ℕ) → i ≤ n → n ≤ i → every i (ok_at lent list) ≡ true → true ≡ list_ok lent list n
      unfolding list_ok
      list_good i j k e = rw (le-leb n 72 h, le-leb (3 * n) (length list) l, every_done (ok_at lent list) n i j k e)

-- ---- the ends of `write`
abbrev pub Writes : Known → List ℕ → List ℕ → ℕ → List ℕ → Result ℕ WriteError → List ℕ → Type 0
Writes lent order list n buf r out = (r ≡ (write_of lent order list n buf).answer) × (out ≡ (write_of lent order list n buf).bytes)

module _ (lent : Known) (order list : List ℕ) (n : ℕ) (buf : List ℕ) where
  pub writes_no_table : table_ok lent.ids lent.numbers order ≡ false → Writes lent order list n buf (Err NotList) buf
  unfolding write_of
  writes_no_table e = (rw e, rw e)

  module _ (k : table_ok lent.ids lent.numbers order ≡ true) where
    pub writes_not : list_ok lent list n ≡ false → Writes lent order list n buf (Err NotList) buf
    unfolding write_of
    writes_not e = (rw (k, e), rw (k, e))

    module _ (e : list_ok lent list n ≡ true) where
      pub writes_short : length buf < length (message_of lent list n) → Writes lent order list n buf (Err Short) buf
      unfolding write_of
      writes_short h = let t = lt-ltb (length buf) (length (message_of lent list n)) h in (rw (k, e, t), rw (k, e, t))

      pub writes_done :
          (size : ℕ) (out : List ℕ) → length (message_of lent list n) ≤ length buf → Stored buf 0 (message_of lent list n) size out →
          Writes lent order list n buf (Ok size) out
      unfolding write_of
      writes_done size out h s =
          let t = le-ltb (length buf) (length (message_of lent list n)) h in
          let z : size ≡ length (message_of lent list n) = omega (arith, s.0) in
          (rw (k, e, t, z), rw (k, e, t) s.1)

-- ---- the ends of `named_ok`, `notice_ok` and `entry_ok`
pub named_is : (names : List ℕ) (kind topic v size : ℕ) → size ≡ name_size names topic → ltb 0 size &&
    ((eqb kind 0 && leb v 1) || (eqb kind 1 && eqb v 0) || (eqb kind 2 && leb v 3600)) ≡ named_ok names kind topic v
unfolding named_ok
named_is names kind topic v size e = rw e

module _ (numbers : List ℕ) (kind topic v : ℕ) where
  pub notice_other : (kind ≡ 3 → ⊥) → false ≡ notice_ok numbers kind topic v
  unfolding notice_ok
  notice_other n = rw (ne_eqb kind 3 n)

  module _ (e : kind ≡ 3) where
    pub notice_topic : (topic ≡ 0 → ⊥) → false ≡ notice_ok numbers kind topic v
    unfolding notice_ok
    notice_topic n = rw (eq-eqb kind 3 e, ne_eqb topic 0 n)

    module _ (f : topic ≡ 0) (row : Option ℕ) (r : row ≡ number_row numbers v) where
      notice_found : (k : ℕ) → row ≡ Some k → true ≡ notice_ok numbers kind topic v
      unfolding notice_ok
      notice_found k h = rw (eq-eqb kind 3 e, eq-eqb topic 0 f, ← r, h)

      notice_none : row ≡ None → false ≡ notice_ok numbers kind topic v
      unfolding notice_ok
      notice_none h = rw (eq-eqb kind 3 e, eq-eqb topic 0 f, ← r, h)

      pub notice_is : (b : Bool) → b ≡ is_some row → b ≡ notice_ok numbers kind topic v
      notice_is b q = q ∙ go row refl
        where
          go : (o : Option ℕ) → row ≡ o → is_some o ≡ notice_ok numbers kind topic v
          go (Some k) h = notice_found k h
          go None h = notice_none h

pub entry_is :
    (names numbers : List ℕ) (kind topic v : ℕ) (a b : Bool) → a ≡ named_ok names kind topic v → b ≡ notice_ok numbers kind topic v →
    (ids : List ℕ) → (a || b) ≡ entry_ok (record { names = names; ids = ids; numbers = numbers }) kind topic v
unfolding entry_ok
entry_is names numbers kind topic v a b e f ids = rw (e, f)
