-- What stood in bytes that a load accepted.
-- Assumes nothing.
use Rattle.std.proofs.Common.{Option, Some, None}
use Prim.Native.Nat.{ℕ, ◌*◌, ◌<◌, ◌≤◌}
use native.Mathlib.Omega.{arith}
use mathlib.Core.Path.{◌≡◌, refl, sym, ap, ◌∙◌}
use mathlib.Core.Bool.{Bool, true, false, cond}
use mathlib.Core.List.{List, [], ◌++◌, append-nil}
use borrow.Author.Tests.{leb-true, ltb-false}
use lib.Dec.{leb, ltb, eqb}
use Rattle.params.specs.declared.Params.{Params}
use lib.ListN.{length, get_or, drop, drop_of_length-le}
use Rattle.index.specs.Index.{first}
use Rattle.index.proofs.Flags.{by_test}
use Rattle.varint.specs.Groups.{encode, read_at}
use Rattle.varint.proofs.GroupLaws.{read_at_written}
use Rattle.params.specs.Check.{first_broken}
use Rattle.records.specs.Records.{State, slot_count}
use Rattle.validity.specs.Valid.{max_time}
use Rattle.lookup.specs.Fresh.{fresh_state}
use Rattle.saves.specs.Save.{edition, row_size, bytes_of}
use Rattle.saves.specs.Load.{most_of, Parse, numbers, malformed, parse_from, ending, outside, loaded_state, loaded}
use Rattle.saves.specs.Load.{out_of_range, broken, bad, slots_of, judged_by, judged, records, counted, of_edition, opened, timed}
use Rattle.saves.specs.Load.{sheeted, load_of}
use Rattle.saves.proofs.Parsing.{top, Rest, written_from}

-- no edition has more records than there are slots
pub slots_most : (v most : ℕ) → slots_of v ≡ Some most → most ≤ slot_count
unfolding slots_of
slots_most v most h =
    by_test (most ≤ slot_count) (eqb v 1)
    (λ t. let q : Some 64 ≡ Some most = rw t at h in let z : 64 ≡ most = cc in omega arith)
    (λ t.
    let q : cond (eqb v edition) (Some slot_count) None ≡ Some most = rw t at h in
    by_test (most ≤ slot_count) (eqb v edition)
    (λ u. let w : Some slot_count ≡ Some most = rw u at q in let z : slot_count ≡ most = cc in omega arith)
    (λ u. let w : None ≡ Some most = rw u at q in let z : ◌≡◌ {A = ℕ} 0 1 = cc in absurd (omega arith)))

pub record Opened (params : Params) (clock : ℕ) (s : List ℕ) (st : State) : Type 0 where
  pub edition : ℕ
  pub next : ℕ
  pub read : read_at top s 0 ≡ Some (edition, next)
  pub n : ℕ
  pub numbers : List ℕ
  pub ok : first_broken params ≡ None
  pub early : clock ≤ max_time
  pub few : n ≤ slot_count
  pub pass : first (n * row_size) (outside (most_of (fresh_state params)) numbers) ≡ None
  pub count : length numbers ≡ n * row_size
  pub bytes : s ≡ encode edition ++ (encode n ++ bytes_of numbers)
  pub state : st ≡ loaded_state params clock n numbers

module _ (params : Params) (clock : ℕ) (s : List ℕ) (byte : (k : ℕ) → get_or s k 0 < 256) (st : State) where
  record Body (n at : ℕ) : Type 0 where
    numbers : List ℕ
    pass : first (n * row_size) (outside (most_of (fresh_state params)) numbers) ≡ None
    count : length numbers ≡ n * row_size
    bytes : drop at s ≡ bytes_of numbers
    state : st ≡ loaded_state params clock n numbers

  body_judged :
      (n at : ℕ) (l : List ℕ) →
      length l ≡ n * row_size →
      drop at s ≡ bytes_of l →
      (r : Option ℕ) →
      first (n * row_size) (outside (most_of (fresh_state params)) l) ≡ r →
      judged_by params clock s r n at l ≡ loaded st →
      Body n at
  body_judged n at l c b (Some i) f e = let z : ◌≡◌ {A = ℕ} 0 1 = cc in absurd (omega arith)
  body_judged n at l c b None f e =
      let q : loaded_state params clock n l ≡ st = cc in
      record { numbers = l; pass = f; count = c; bytes = b; state = sym q }

  body_parsed :
      (n at : ℕ) (p : Parse) →
      parse_from (n * row_size) s at ≡ p →
      judged params clock s n at (ending s p) ≡ loaded st →
      Body n at
  body_parsed n at (malformed q) f e = let z : ◌≡◌ {A = ℕ} 0 1 = cc in absurd (omega arith)
  body_parsed n at (numbers l next) f e =
      let w : Rest s at l next (n * row_size) = written_from (n * row_size) s at l next byte f in
      by_test (Body n at) (ltb next (length s))
      (λ t.
      let e' : bad next ≡ loaded st = rw t at e in
      let z : ◌≡◌ {A = ℕ} 0 1 = cc in
      absurd (omega arith))
      (λ t.
      let e' : judged params clock s n at (numbers l next) ≡ loaded st = rw t at e in
      let d : drop next s ≡ [] = drop_of_length-le s (ltb-false next (length s) t) in
      let b : drop at s ≡ bytes_of l = w.bytes ∙ ap (λ (m : List ℕ). bytes_of l ++ m) d ∙ append-nil (bytes_of l) in
      body_judged n at l w.count b (first (n * row_size) (outside (most_of (fresh_state params)) l)) refl e')

  record Counted (at : ℕ) : Type 0 where
    n : ℕ
    next : ℕ
    few : n ≤ slot_count
    bytes : drop at s ≡ encode n ++ drop next s
    body : Body n next

  counted_is :
      (most at : ℕ) (r : Option (ℕ × ℕ)) → most ≤ slot_count → read_at top s at ≡ r → counted params clock s most at r ≡ loaded st → Counted at
  unfolding records
  counted_is most at None h f e = let z : ◌≡◌ {A = ℕ} 0 1 = cc in absurd (omega arith)
  counted_is most at (Some (n, next)) h f e =
      by_test (Counted at) (leb n most)
      (λ t.
      let e' : records params clock s n next ≡ loaded st = rw t at e in
      record {
        n = n;
        next = next;
        few = let l = leb-true n most t in omega arith;
        bytes = (read_at_written top s at n next byte f).bytes;
        body = body_parsed n next (parse_from (n * row_size) s next) refl e';
      })
      (λ t.
      let e' : broken at ≡ loaded st = rw t at e in
      let z : ◌≡◌ {A = ℕ} 0 1 = cc in
      absurd (omega arith))

  record Begun : Type 0 where
    edition : ℕ
    next : ℕ
    read : read_at top s 0 ≡ Some (edition, next)
    bytes : s ≡ encode edition ++ drop next s
    rest : Counted next

  begun_known :
      (v next : ℕ) (r : Option ℕ) → read_at top s 0 ≡ Some (v, next) → slots_of v ≡ r → of_edition params clock s r next ≡ loaded st → Begun
  begun_known v next None f h e = let z : ◌≡◌ {A = ℕ} 0 1 = cc in absurd (omega arith)
  begun_known v next (Some most) f h e =
      record {
        edition = v;
        next = next;
        read = f;
        bytes = (read_at_written top s 0 v next byte f).bytes;
        rest = counted_is most next (read_at top s next) (slots_most v most h) refl e;
      }

  begun_is : (r : Option (ℕ × ℕ)) → read_at top s 0 ≡ r → opened params clock s r ≡ loaded st → Begun
  begun_is None f e = let z : ◌≡◌ {A = ℕ} 0 1 = cc in absurd (omega arith)
  begun_is (Some (v, next)) f e = begun_known v next (slots_of v) f refl e

  opened_timed : first_broken params ≡ None → timed params clock s (leb clock max_time) ≡ loaded st → Opened params clock s st
  opened_timed ok e =
      by_test (Opened params clock s st) (leb clock max_time)
      (λ t.
      let e' : opened params clock s (read_at top s 0) ≡ loaded st = rw t at e in
      let b = begun_is (read_at top s 0) refl e' in
      let c = b.rest in
      record {
        edition = b.edition;
        next = b.next;
        read = b.read;
        n = c.n;
        numbers = c.body.numbers;
        ok = ok;
        early = leb-true clock max_time t;
        few = c.few;
        pass = c.body.pass;
        count = c.body.count;
        bytes =
            b.bytes
            ∙ ap (λ (m : List ℕ). encode b.edition ++ m) c.bytes
            ∙ ap (λ (m : List ℕ). encode b.edition ++ (encode c.n ++ m)) c.body.bytes;
        state = c.body.state;
      })
      (λ t.
      let e' : out_of_range ≡ loaded st = rw t at e in
      let z : ◌≡◌ {A = ℕ} 0 1 = cc in
      absurd (omega arith))

  opened_sheet : (r : Option ℕ) → first_broken params ≡ r → sheeted params clock s r ≡ loaded st → Opened params clock s st
  opened_sheet (Some i) f e = let z : ◌≡◌ {A = ℕ} 0 1 = cc in absurd (omega arith)
  opened_sheet None f e = opened_timed f e

  pub opened_is : (fine : Bool) → load_of fine params clock s ≡ loaded st → Opened params clock s st
  unfolding load_of
  opened_is true e = opened_sheet (first_broken params) refl e
  opened_is false e = let z : ◌≡◌ {A = ℕ} 0 1 = cc in absurd (omega arith)
