-- The third pass of a load: the numbers that stand in each record, and what storing all records leaves.
-- Assumes nothing.
use Rattle.std.proofs.Common.{Option, Some, None}
use Prim.Native.Nat.{ℕ, zero, suc, ◌+◌, ◌*◌, ◌%◌, ◌<◌, ◌≤◌}
use native.Mathlib.Omega.{arith}
use native.Mathlib.Numerals.{add-one}
use mathlib.Core.Path.{◌≡◌, refl, sym, ap, ◌∙◌}
use mathlib.Core.Bool.{true}
use mathlib.Core.List.{List, [], ◌∷◌, ◌++◌}
use borrow.Author.Tests.{eq-eqb, ne_eqb}
use lib.ListN.{length, get_or, take, drop, set, length-set, length-drop}
use lib.Seq.{get_or-append-add, take-suc, take-suc-set, take_all, take-add, length-take-le, drop_at, get_or-take, get_or-drop, ext_get_or}
use Rattle.index.specs.Index.{gather}
use Rattle.index.proofs.Index.{iter_more}
use Rattle.varint.specs.Groups.{read_at}
use Rattle.records.specs.Records.{State}
use Rattle.layout.specs.Rows.{tab}
use Rattle.rows.specs.Rows.{span}
use Rattle.layout.proofs.RowLaws.{length_tab, get_or_tab}
use Rattle.rows.proofs.RowLaws.{get_or_span}
use Rattle.validity.specs.Valid.{max_id}
use Rattle.saves.specs.Load.{most_retain, most_backoff, Parse, numbers, malformed, parse_from, end_from, loaded_peer, loaded_topic, row_at}
use Rattle.saves.proofs.Lists.{get_or_gather}
use Rattle.saves.proofs.Parsing.{top, after, parse_split, parse_count, Next, next_is}
use Rattle.save_load.specs.Judge.{is_read}
use Rattle.records.specs.declared.Peer.{Peer}
use Rattle.records.specs.declared.TopicRecord.{TopicRecord}
use Rattle.layout.specs.View.{TopicFits, PeerFits}
use Rattle.save_load.specs.Store.{widest, RowFits, stored, stored_all}

-- ---- the ranges of a row
wide_topic : (t i : ℕ) → t < 8 → i < 5 →
    get_or widest (4 + (t * 5 + i)) 0 ≡ get_or (1000000 ∷ 1000000 ∷ 1000000000000 ∷ 1000000 ∷ most_backoff ∷ []) i 0
unfolding widest
wide_topic t i h b =
    get_or-append-add (max_id ∷ most_retain ∷ 2000000000 ∷ 1000000 ∷ [])
    (gather 8 (λ k. 1000000 ∷ 1000000 ∷ 1000000000000 ∷ 1000000 ∷ most_backoff ∷ [])) (t * 5 + i) 0
    ∙ get_or_gather (λ k. 1000000 ∷ 1000000 ∷ 1000000000000 ∷ 1000000 ∷ most_backoff ∷ []) 5 (λ k. refl) 8 t i h b

module _ (row : List ℕ) (f : RowFits row) where
  pub end_fits : (t : ℕ) → t < 8 → get_or row (8 + t * 5) 0 ≤ 86400000
  end_fits t h =
      let j : 8 + t * 5 ≡ 4 + (t * 5 + 4) = omega arith in
      let a : get_or row (8 + t * 5) 0 ≤ get_or widest (8 + t * 5) 0 = f.most (8 + t * 5) (omega arith) in
      let b : get_or widest (8 + t * 5) 0 ≡ 3600000 = ap (λ (k : ℕ). get_or widest k 0) j ∙ wide_topic t 4 h (omega arith) in
      omega arith

  pub retain_fits : get_or row 1 0 ≤ 86400000
  unfolding widest
  retain_fits = f.most 1 (omega arith)

  -- number i of topic t is at most its widest
  within : (t i most : ℕ) → t < 8 → i < 5 → get_or (1000000 ∷ 1000000 ∷ 1000000000000 ∷ 1000000 ∷ most_backoff ∷ []) i 0 ≡ most →
      get_or row (4 + i + t * 5) 0 ≤ most
  within t i most h b e =
      let j : 4 + i + t * 5 ≡ 4 + (t * 5 + i) = omega arith in
      let a : get_or row (4 + i + t * 5) 0 ≤ get_or widest (4 + i + t * 5) 0 = f.most (4 + i + t * 5) (omega arith) in
      let w : get_or widest (4 + i + t * 5) 0 ≡ most = ap (λ (k : ℕ). get_or widest k 0) j ∙ wide_topic t i h b ∙ e in
      omega arith

  -- what is loaded fits where it is stored
  pub topic_fits : (r : TopicRecord) (t : ℕ) → t < 8 → r ≡ loaded_topic row t → TopicFits r
  unfolding loaded_topic
  topic_fits r t h e =
      let a = within t 0 1000000 h (omega arith) refl in
      let b = within t 1 1000000 h (omega arith) refl in
      let d = within t 3 1000000 h (omega arith) refl in
      rw e (record {
        p2 = omega (arith, a);
        p3 = omega (arith, b);
        p4 = omega (arith, d);
        subscribed = omega arith;
        member = omega arith;
        graft = λ n. refl;
        mesh = λ n. refl;
      })

  p5_most : get_or row 2 0 ≤ 2000000000
  unfolding widest
  p5_most = f.most 2 (omega arith)

  p7_most : get_or row 3 0 ≤ 1000000
  unfolding widest
  p7_most = f.most 3 (omega arith)

  pub peer_fits : (clock : ℕ) (p : Peer) → p ≡ loaded_peer clock row → PeerFits p
  unfolding loaded_peer
  peer_fits clock p e =
      rw e (record {
        status = omega arith;
        outbound = omega arith;
        explicit = omega arith;
        version = omega arith;
        p5 = omega (arith, p5_most);
        p7 = omega (arith, p7_most);
      })

-- ---- the ends of `end_from`
pub end_none : (clock left : ℕ) → left ≡ 0 → 0 ≡ end_from clock left
unfolding end_from
end_none clock left e = rw (eq-eqb left 0 e)

pub end_some : (clock left : ℕ) → (left ≡ 0 → ⊥) → clock + left ≡ end_from clock left
unfolding end_from
end_some clock left n = rw (ne_eqb left 0 n)

-- ---- the numbers of a record, read again
pub record Reading (s : List ℕ) (at i place : ℕ) (row : List ℕ) : Type 0 where
  pub l : List ℕ
  pub end : ℕ
  pub whole : parse_from 44 s at ≡ numbers l end
  pub low : i ≤ 44
  pub long : length row ≡ 44
  pub front : parse_from i s at ≡ numbers (take i l) place
  pub same : take i row ≡ take i l

pub reading_none : (s : List ℕ) (at : ℕ) (row : List ℕ) → is_read (parse_from 44 s at) ≡ true → length row ≡ 44 → Reading s at 0 at row
unfolding parse_from
reading_none s at row e n = go (parse_from 44 s at) refl e
  where
    go : (p : Parse) → parse_from 44 s at ≡ p → is_read p ≡ true → Reading s at 0 at row
    go (malformed p) f g = let z : ◌≡◌ {A = ℕ} 0 1 = cc in absurd (omega arith)
    go (numbers l end) f g = record { l = l; end = end; whole = f; low = omega arith; long = n; front = refl; same = refl }

module _ (s : List ℕ) (at i place : ℕ) (row : List ℕ) (g : Reading s at i place row) where
  pub reading_done : 44 ≤ i → parse_from 44 s at ≡ numbers row place
  reading_done h =
      let e : i ≡ 44 = let l = g.low in omega arith in
      let a : take 44 row ≡ take 44 g.l = rw e at g.same in
      let b : parse_from 44 s at ≡ numbers (take 44 g.l) place = rw e at g.front in
      b ∙ ap (λ (m : List ℕ). numbers m place) (sym a ∙ take_all 44 row (let n = g.long in omega arith))

  module _ (below : i < 44) (r : Option (ℕ × ℕ)) (e : r ≡ read_at top s place) where
    here : Next 44 i s at g.l place
    here = next_is 44 i s at g.l g.end place g.whole below g.front

    pub reading_read : {A : Type 0} → r ≡ None → A
    reading_read q =
        let f : ◌≡◌ {A = Option (ℕ × ℕ)} (Some (get_or g.l i 0, here.next)) None = sym here.read ∙ sym e ∙ q in
        let z : ◌≡◌ {A = ℕ} 0 1 = cc in
        absurd (omega arith)

    pub reading_more : (v next : ℕ) → r ≡ Some (v, next) → Reading s at (i + 1) next (set row i v)
    reading_more v next q =
        let f : ◌≡◌ {A = Option (ℕ × ℕ)} (Some (get_or g.l i 0, here.next)) (Some (v, next)) = sym here.read ∙ sym e ∙ q in
        let p : ◌≡◌ {A = ℕ × ℕ} (get_or g.l i 0, here.next) (v, next) = cc in
        let value : get_or g.l i 0 ≡ v = ap (λ (w : ℕ × ℕ). w.0) p in
        let place_is : here.next ≡ next = ap (λ (w : ℕ × ℕ). w.1) p in
        let n = g.long in
        let c = parse_count 44 s at g.l g.end g.whole in
        record {
          l = g.l;
          end = g.end;
          whole = g.whole;
          low = omega arith;
          long = length-set row i v ∙ n;
          front = rw (add-one i, ← place_is) here.more;
          same =
              rw (add-one i)
              (take-suc-set row i v (omega arith)
              ∙ ap (λ (m : List ℕ). m ++ (v ∷ [])) g.same
              ∙ ap (λ (x : ℕ). take i g.l ++ (x ∷ [])) (sym value)
              ∙ sym (take-suc g.l i 0 (omega arith)));
        }

-- ---- record by record
-- a run of a list that is long enough
span_is : (l : List ℕ) (o w : ℕ) → o + w ≤ length l → span l o w ≡ take w (drop o l)
unfolding span
span_is l o w h =
    let n : length (take w (drop o l)) ≡ w = length-take-le w (drop o l) (omega (arith, length-drop o l)) in
    let m : length (tab w (λ k. get_or l (o + k) 0)) ≡ w = length_tab w (λ k. get_or l (o + k) 0) in
    ext_get_or 0 (tab w (λ k. get_or l (o + k) 0)) (take w (drop o l)) (m ∙ sym n) (λ i b.
    get_or_tab w (λ k. get_or l (o + k) 0) i 0 (omega arith)
    ∙ sym (get_or-take w (drop o l) i 0 (omega arith) ∙ get_or-drop o l i 0))

module _ (n : ℕ) (s : List ℕ) (at : ℕ) (l : List ℕ) (end : ℕ) (whole : parse_from n s at ≡ numbers l end) where
  -- every front of the numbers stands there
  fronts : (i : ℕ) → i ≤ n → (place : ℕ) × (parse_from i s at ≡ numbers (take i l) place)
  unfolding parse_from
  fronts zero h = (at, refl)
  fronts (suc i) h =
      let f = fronts i (omega arith) in
      let x = next_is n i s at l end f.0 whole h f.1 in
      (x.next, x.more)

after_numbers : (a : List ℕ) (p : Parse) (b : List ℕ) (next : ℕ) → after a p ≡ numbers b next →
    (m : List ℕ) × ((p ≡ numbers m next) × (a ++ m ≡ b))
after_numbers a (numbers m e) b next f =
    let q : e ≡ next = cc in
    (m, (ap (numbers m) q, cc))
after_numbers a (malformed e) b next f = let z : ◌≡◌ {A = ℕ} 0 1 = cc in absurd (omega arith)

pub record Record (s : List ℕ) (at : ℕ) (l : List ℕ) (k place : ℕ) : Type 0 where
  pub next : ℕ
  pub here : parse_from 44 s place ≡ numbers (row_at l k) next
  pub more : parse_from (suc k * 44) s at ≡ numbers (take (suc k * 44) l) next

pub record_at :
    (n : ℕ) (s : List ℕ) (at : ℕ) (l : List ℕ) (end : ℕ) → parse_from (n * 44) s at ≡ numbers l end → (k place : ℕ) → k < n →
    parse_from (k * 44) s at ≡ numbers (take (k * 44) l) place → Record s at l k place
record_at n s at l end whole k place h front =
    let f = fronts (n * 44) s at l end whole (suc k * 44) (omega arith) in
    let c = parse_count (n * 44) s at l end whole in
    let z : suc k * 44 ≡ k * 44 + 44 = omega arith in
    let g : after (take (k * 44) l) (parse_from 44 s place) ≡ numbers (take (suc k * 44) l) f.0 =
    sym (parse_split (k * 44) 44 s at (take (k * 44) l) place front) ∙ ap (λ (m : ℕ). parse_from m s at) (sym z) ∙ f.1 in
    let r = after_numbers (take (k * 44) l) (parse_from 44 s place) (take (suc k * 44) l) f.0 g in
    let long : length (take (k * 44) l) ≡ k * 44 = length-take-le (k * 44) l (omega arith) in
    let e : r.0 ≡ row_at l k =
    sym (drop_at (take (k * 44) l) r.0 (k * 44) long)
    ∙ ap (drop (k * 44)) (r.1.1 ∙ ap (λ (m : ℕ). take m l) z ∙ take-add (k * 44) 44 l)
    ∙ drop_at (take (k * 44) l) (take 44 (drop (k * 44) l)) (k * 44) long
    ∙ sym (span_is l (k * 44) 44 (omega arith)) in
    record { next = f.0; here = r.1.0 ∙ ap (λ (m : List ℕ). numbers m f.0) e; more = f.1 }

-- such a record is read again, and its numbers are in their ranges
pub record_read : (s : List ℕ) (at : ℕ) (l : List ℕ) (k place : ℕ) → Record s at l k place → is_read (parse_from 44 s place) ≡ true
record_read s at l k place r = ap is_read r.here

pub record_row :
    (s : List ℕ) (at : ℕ) (l : List ℕ) (k place : ℕ) (r : Record s at l k place) (row : List ℕ) (next : ℕ) →
    parse_from 44 s place ≡ numbers row next →
    (row ≡ row_at l k) × (r.next ≡ next)
record_row s at l k place r row next e =
    let q : numbers (row_at l k) r.next ≡ numbers row next = sym r.here ∙ e in
    let a : row_at l k ≡ row = cc in
    let b : r.next ≡ next = cc in
    (sym a, b)

pub row_fits_lem :
    (n : ℕ) (l : List ℕ) → ((i : ℕ) → i < n * 44 → get_or l i 0 ≤ get_or widest (i % 44) 0) → (k : ℕ) → k < n → (row : List ℕ) →
    row ≡ row_at l k →
    RowFits row
unfolding span
row_fits_lem n l f k h row e =
    rw e
    (record {
      long = length_tab 44 (λ j. get_or l (k * 44 + j) 0);
      most = λ j b.
          let m : (k * 44 + j) % 44 ≡ j = omega arith in
          rw (get_or_span l (k * 44) 44 j b) (rw m at (f (k * 44 + j) (omega arith)));
    })

-- the record of a row, by its ends
pub peer_is :
    (clock : ℕ) (row ends : List ℕ) → ends ≡ tab 8 (λ t. end_from clock (get_or row (8 + t * 5) 0)) →
    record {
      status = 2;
      id = get_or row 0 0;
      groups = record { first = 1; second = 0; third = 0; fourth = 0 };
      outbound = 0;
      explicit = 0;
      version = 0;
      p5 = get_or row 2 0;
      p7 = get_or row 3 0;
      retain = clock + get_or row 1 0;
      backoff = ends;
    }
    ≡ loaded_peer clock row
unfolding loaded_peer
peer_is clock row ends e = λ i. record {
  status = 2;
  id = get_or row 0 0;
  groups = record { first = 1; second = 0; third = 0; fourth = 0 };
  outbound = 0;
  explicit = 0;
  version = 0;
  p5 = get_or row 2 0;
  p7 = get_or row 3 0;
  retain = clock + get_or row 1 0;
  backoff = e i;
}

-- ---- the turns of `store_rows`
pub store_none : (s : List ℕ) (at : ℕ) (l : List ℕ) → parse_from (0 * 44) s at ≡ numbers (take (0 * 44) l) at
unfolding parse_from
store_none s at l = refl

pub store_more :
    (n : ℕ) (s : List ℕ) (at clock : ℕ) (l : List ℕ) (end : ℕ) → parse_from (n * 44) s at ≡ numbers l end → (k place : ℕ) → k < n →
    parse_from (k * 44) s at ≡ numbers (take (k * 44) l) place → (row : List ℕ) (next : ℕ) → parse_from 44 s place ≡ numbers row next →
    (st₀ st st' : State) → st ≡ stored_all clock k l st₀ → st' ≡ stored clock row k st →
    (parse_from ((k + 1) * 44) s at ≡ numbers (take ((k + 1) * 44) l) next) × (st' ≡ stored_all clock (k + 1) l st₀)
store_more n s at clock l end whole k place h front row next e st₀ st st' a b =
    let r = record_at n s at l end whole k place h front in
    let q = record_row s at l k place r row next e in (
      rw (add-one k, ← q.1) r.more,
      iter_more (λ j. stored clock (row_at l j) j) st₀ k st st' a (b ∙ ap (λ (m : List ℕ). stored clock m k st) q.0),
    )
