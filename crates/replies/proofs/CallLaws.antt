-- The steps of the calls: what each turn of a loop keeps, and how the rows that are left are those that the definitions say.
-- Assumes nothing.
use Prim.Native.Nat.{ℕ, zero, suc, ◌+◌, ◌*◌, ◌-◌, ◌/◌, ◌≤◌, ◌<◌}
use mathlib.Core.Path.{◌≡◌, refl, sym, ap, ◌∙◌}
use mathlib.Core.Bool.{Bool, true, false, not}
use mathlib.Core.List.{List, [], ◌∷◌, ◌++◌, map, append-nil}
use native.Mathlib.Nat.{not-suc-le-zero, le_antisymm, add-zero, zero-mul, suc-mul, le_of_suc-le-suc}
use native.Mathlib.Numerals.{add-one}
use native.Mathlib.Omega.{arith}
use lib.Dec.{eqb, leb, ltb}
use lib.ListN.{length, get_or, set, take, drop, replicate, get_or-replicate, length-map, length-drop}
use lib.Seq.{get_or-take, get_or-drop, drop-drop, length-take-le}
use Rattle.std.specs.Simd.{first_chunks}
use Rattle.std.specs.List.Sorted.{IsPartitionedBy, IsPartitionPoint}
use borrow.Author.Tests.{lt-ltb, le-ltb, ltb-true, ltb-false, eqb-true, eqb-false, leb-true}
use borrow.Author.Count.{below_more}
use Rattle.index.specs.Index.{gather}
use Rattle.index.proofs.Index.{gather_none, gather_more}
use Rattle.index.proofs.Flags.{by_order}
use Rattle.records.specs.Records.{slot_count}
use Rattle.layout.specs.Rows.{tab}
use Rattle.layout.proofs.RowLaws.{tab_same}
use Rattle.layout.proofs.BitLaws.{by_same}
use Rattle.gossip.specs.Notes.{Row, rows_most, count_in, first_reply, one_more, replied, ended_row, ended, also, keep}
use Rattle.gossip.specs.Cells.{Run}
use Rattle.gossip.specs.Valid.{rises, row_number}
use Rattle.replies.specs.View.{replies_cells, rows_in, start_of, row_at, replies_of, RowSet, Opened, blank, inserted}
use Rattle.replies.specs.Asked.{FlagsSay, Passed, Placed, Searched, is_row}
use Rattle.replies.proofs.ListLaws.{number_at, replied_here, replied_new, count_here, count_none, set_inserted, get_or_inserted}
use Rattle.replies.proofs.ListLaws.{length_inserted, tab_inserted, ended_tab, kept_of, keep_tab, gather_below, tab_end, rises_at}
use Rattle.replies.proofs.RowLaws.{rows_length, row_load, number_load, number_is, row_cong, row_set_rows, used_same}
use Rattle.replies.proofs.RowLaws.{used_is}

-- ---- no row

pub no_rows : (c : List ℕ) → length c ≡ replies_cells → replies_of (set c 0 0) ≡ []
unfolding replies_of
no_rows c e = ap (λ (u : ℕ). tab u (row_at (set c 0 0))) (used_is c 0 e)

-- ---- a place opened

pub opened_run :
    (c d : List ℕ) (p u : ℕ) → p ≤ u → Run c d (start_of p + 28) ((u - p) * 28) (λ k. get_or c (start_of p + k) 0) → Opened c d p u
unfolding row_at
opened_run c d p u h r =
    record {
      size = r.size;
      rows = r.before 0 (omega arith);
      low = λ k l.
          row_cong c d (start_of k) (start_of k) (r.before (start_of k) (omega arith))
          (λ j b. r.before (start_of k + (2 + j)) (omega arith));
      high = λ k l m.
          let moved : (j : ℕ) → j < 28 → get_or d (start_of (k + 1) + j) 0 ≡ get_or c (start_of k + j) 0 =
          λ j b.
          let x = (k - p) * 28 + j in
          let e : start_of (k + 1) + j ≡ start_of p + 28 + x = omega arith in
          let f : start_of p + x ≡ start_of k + j = omega arith in
          ap (λ (i : ℕ). get_or d i 0) e ∙ r.within x (omega arith) ∙ ap (λ (i : ℕ). get_or c i 0) f in
          row_cong c d (start_of k) (start_of (k + 1))
          (ap (λ (i : ℕ). get_or d i 0) (sym (add-zero (start_of (k + 1)))) ∙ moved 0 (omega arith)
          ∙ ap (λ (i : ℕ). get_or c i 0) (add-zero (start_of k)))
          (λ j b. moved (2 + j) (omega arith));
    }

pub insert_rows :
    (c d e : List ℕ) (p u n : ℕ) →
    length c ≡ replies_cells →
    u ≡ rows_in c →
    p ≤ u →
    Opened c d p u →
    RowSet d e p (blank n) →
    replies_of (set e 0 (u + 1)) ≡ inserted p (blank n) (replies_of c)
unfolding replies_of
insert_rows c d e p u n size h l o r =
    let x : List ℕ = set e 0 (u + 1) in
    ap (λ (k : ℕ). tab k (row_at x)) (used_is e (u + 1) (r.size ∙ o.size ∙ size) ∙ add-one u)
    ∙ tab_inserted p u (blank n) (row_at c) (row_at x) l
    (λ k b. used_same e (u + 1) k ∙ r.others k (λ q. omega arith) ∙ o.low k b)
    (used_same e (u + 1) p ∙ r.here)
    (λ k b m.
    used_same e (u + 1) (suc k) ∙ r.others (suc k) (λ q. omega arith) ∙ ap (row_at d) (sym (add-one k)) ∙ o.high k b m)
    ∙ ap (λ (k : ℕ). inserted p (blank n) (tab k (row_at c))) h

-- ---- a search among the rows

-- chunk j of n numbers each
chunk_at : (n k j : ℕ) (xs d : List ℕ) → j < k → get_or (first_chunks n k xs) j d ≡ take n (drop (j * n) xs)
chunk_at n zero j xs d h = absurd (not-suc-le-zero h)
chunk_at n (suc k) zero xs d h = ap (λ (m : ℕ). take n (drop m xs)) (sym (zero-mul n))
chunk_at n (suc k) (suc j) xs d h =
    let m = suc-mul j n in
    let e : n + j * n ≡ suc j * n = omega arith in
    chunk_at n k j (drop n xs) d (le_of_suc-le-suc h)
    ∙ ap (take n) (drop-drop (j * n) n xs ∙ ap (λ (i : ℕ). drop i xs) e)

-- the cells behind the first
abbrev behind : List ℕ → List ℕ
behind c = take (length c - 1) (drop 1 c)

length_behind : (c : List ℕ) → length (behind c) ≡ length c - 1
length_behind c = length-take-le (length c - 1) (drop 1 c) (let l = length-drop 1 c in omega arith)

pub rows_fit :
    (c : List ℕ) (rows : List (List ℕ)) → Searched c → length rows ≡ length (behind c) / 28 → rows_in c ≡ length (take (rows_in c) rows)
rows_fit c rows s e =
    let z = s.size in
    let f = s.few in
    let u = rows_length c in
    let l = length_behind c in
    sym (length-take-le (rows_in c) rows (omega arith))

-- the rows in use, as arrays: what a search by halves looks at, and what it tells
module _ (c : List ℕ) (rows : List (List ℕ)) (n : ℕ) (s : Searched c) (is : rows ≡ first_chunks 28 (length (behind c) / 28) (behind c)) where
  number_chunk : (k : ℕ) (d : List ℕ) → k < rows_in c → get_or (get_or (take (rows_in c) rows) k d) 0 0 ≡ number_at (replies_of c) k
  number_chunk k d h =
      let z = s.size in
      let f = s.few in
      let u = rows_length c in
      let l = length_behind c in
      let xs = behind c in
      let m = length (behind c) / 28 in
      let e : 1 + (k * 28 + 0) ≡ start_of k = omega arith in
      ap (λ (x : List ℕ). get_or x 0 0)
      (get_or-take (rows_in c) rows k d h
      ∙ ap (λ (x : List (List ℕ)). get_or x k d) is
      ∙ chunk_at 28 m k xs d (omega arith))
      ∙ get_or-take 28 (drop (k * 28) xs) 0 0 (omega arith)
      ∙ get_or-drop (k * 28) xs 0 0
      ∙ get_or-take (length c - 1) (drop 1 c) (k * 28 + 0) 0 (omega arith)
      ∙ get_or-drop 1 c (k * 28 + 0) 0
      ∙ ap (λ (i : ℕ). get_or c i 0) e
      ∙ sym (number_load c k h)

  module _ (size : length (take (rows_in c) rows) ≡ rows_in c) where
    pub parted_rows : IsPartitionedBy (λ y. ltb (get_or y 0 0) n) (take (rows_in c) rows)
    parted_rows i j d a b t =
        let u = rows_length c in
        let x = number_chunk i d (omega arith) in
        let y = number_chunk j d (omega arith) in
        let q : get_or (get_or (take (rows_in c) rows) j d) 0 0 < n = ltb-true (get_or (get_or (take (rows_in c) rows) j d) 0 0) n t in
        by_order (ltb (get_or (get_or (take (rows_in c) rows) i d) 0 0) n ≡ true) i j
        (λ l.
        let o = rises_at (map row_number (replies_of c)) i j s.rise l (rw (length-map (replies_of c) row_number) (omega arith)) in
        lt-ltb (get_or (get_or (take (rows_in c) rows) i d) 0 0) n (omega arith))
        (λ l. let e : i ≡ j = omega arith in rw e t)

    pub placed_point :
        (p : ℕ) → p ≤ length (take (rows_in c) rows)
        → IsPartitionPoint (λ y. ltb (get_or y 0 0) n ≡ true) (λ y. ltb (get_or y 0 0) n ≡ false) (take (rows_in c) rows) p
        → Placed (replies_of c) n p
    placed_point p b t =
        let u = rows_length c in
        let d : List ℕ = [] in
        record {
          low = omega arith;
          less = λ k h.
              let e = number_chunk k d (omega arith) in
              let q = ltb-true (get_or (get_or (take (rows_in c) rows) k d) 0 0) n (t.0 k d (omega arith) h) in
              omega arith;
          more = λ k h l.
              let e = number_chunk k d (omega arith) in
              let q = ltb-false (get_or (get_or (take (rows_in c) rows) k d) 0 0) n (t.1 k d h (omega arith)) in
              omega arith;
        }

-- ---- the row of a number

module _ (l : List Row) (p n : ℕ) where
  pub row_in : p < length l → is_row l p n ≡ eqb (number_at l p) n
  unfolding is_row
  row_in h = rw (lt-ltb p (length l) h)

  pub row_out : length l ≤ p → is_row l p n ≡ false
  unfolding is_row
  row_out h = rw (le-ltb p (length l) h)

  pub row_found : is_row l p n ≡ true → (p < length l) × (number_at l p ≡ n)
  row_found t =
      by_order ((p < length l) × (number_at l p ≡ n)) p (length l)
      (λ h. (h, eqb-true (number_at l p) n (sym (row_in h) ∙ t)))
      (λ h. let f : false ≡ true = sym (row_out h) ∙ t in let z : ◌≡◌ {A = ℕ} 0 1 = cc in absurd (omega arith))

  pub row_missed : is_row l p n ≡ false → p < length l → number_at l p ≡ n → ⊥
  row_missed t h = eqb-false (number_at l p) n (sym (row_in h) ∙ t)

-- ---- a count

module _ (c : List ℕ) (n s p : ℕ) (at : Placed (replies_of c) n p) where
  pub found_here :
      is_row (replies_of c) p n ≡ true → (p < rows_in c) × (count_in (replies_of c) n s ≡ get_or (row_at c p).counts s 0)
  found_here t =
      let f = row_found (replies_of c) p n t in
      let z = rows_length c in
      let h : p < rows_in c = let a = f.0 in omega arith in (
        h,
        count_here n s p (replies_of c) (row_at c p) f.0 at.less f.1
            ∙ ap (λ (r : Row). get_or r.counts s 0) (row_load c p (row_at c p) h),
      )

  missed : is_row (replies_of c) p n ≡ false → p < length (replies_of c) → n < number_at (replies_of c) p
  missed t h =
      let m = row_missed (replies_of c) p n t h in
      let g = at.more p (omega arith) h in
      by_order (n < number_at (replies_of c) p) n (number_at (replies_of c) p) (λ q. q) (λ q. absurd (m (omega arith)))

  pub not_found : rises (map row_number (replies_of c)) ≡ true → is_row (replies_of c) p n ≡ false → count_in (replies_of c) n s ≡ 0
  not_found rise t =
      count_none n s (replies_of c)
      (λ k h e.
      by_order ⊥ k p
      (λ q. let g = at.less k q in omega arith)
      (λ q.
      by_same ⊥ k p
      (λ i. row_missed (replies_of c) p n t (rw (sym i) h) (ap (number_at (replies_of c)) (sym i) ∙ e))
      (λ o.
      let m : p < length (replies_of c) = omega arith in
      let a = missed t m in
      let b = rises_at (map row_number (replies_of c)) p k rise (omega arith) (rw (length-map (replies_of c) row_number) h) in
      omega arith)))

  -- ---- a reply

  pub reply_here :
      (d : List ℕ) →
      is_row (replies_of c) p n ≡ true →
      RowSet c d p (one_more (row_at c p) s) →
      replies_of d ≡ replied n s (replies_of c)
  reply_here d t r =
      let f = row_found (replies_of c) p n t in
      let z = rows_length c in
      let h : p < rows_in c = let a = f.0 in omega arith in
      row_set_rows c d p (one_more (row_at c p) s) r
      ∙ ap (λ (x : Row). set (replies_of c) p (one_more x s)) (sym (row_load c p (row_at c p) h))
      ∙ sym (replied_here n s p (replies_of c) (row_at c p) f.0 at.less f.1)

  new_rows : is_row (replies_of c) p n ≡ false → replied n s (replies_of c) ≡ inserted p (first_reply n s) (replies_of c)
  new_rows t = replied_new n s p (replies_of c) at.low at.less (missed t)

  -- there is room for its row
  pub new_room : is_row (replies_of c) p n ≡ false → leb (length (replied n s (replies_of c))) rows_most ≡ true → rows_in c < rows_most
  new_room t h =
      let a = leb-true (length (replied n s (replies_of c))) rows_most h in
      let b = ap length (new_rows t) ∙ length_inserted p (first_reply n s) (replies_of c) in
      let z = rows_length c in
      omega arith

  module _ (d : List ℕ) (ins : replies_of d ≡ inserted p (blank n) (replies_of c)) where
    new_used : p < rows_in d
    new_used =
        let a = ap length ins ∙ length_inserted p (blank n) (replies_of c) in
        let z = rows_length d in
        let y = at.low in
        omega arith

    pub new_row : row_at d p ≡ blank n
    new_row =
        sym (row_load d p (blank n) new_used) ∙ ap (λ (l : List Row). get_or l p (blank n)) ins
        ∙ get_or_inserted p (blank n) (blank n) (replies_of c) at.low

    pub new_small : s < slot_count → get_or (row_at d p).counts s 0 < 63
    new_small l =
        let e = ap (λ (r : Row). get_or r.counts s 0) new_row ∙ get_or-replicate slot_count s 0 0 l in
        omega arith

    pub reply_new :
        (e : List ℕ) →
        is_row (replies_of c) p n ≡ false →
        RowSet d e p (one_more (row_at d p) s) →
        s < slot_count →
        replies_of e ≡ replied n s (replies_of c)
    reply_new e t r l =
        row_set_rows d e p (one_more (row_at d p) s) r
        ∙ ap (λ (x : Row). set (replies_of d) p (one_more x s)) new_row
        ∙ ap (λ (x : List Row). set x p (one_more (blank n) s)) ins
        ∙ set_inserted p (blank n) (one_more (blank n) s) (replies_of c) at.low
        ∙ ap (λ (x : Row). inserted p x (replies_of c)) (first_is n s l)
        ∙ sym (new_rows t)
      where
        first_is : (n s : ℕ) → s < slot_count → one_more (blank n) s ≡ first_reply n s
        first_is n s l =
            ap (λ (v : ℕ). record { number = n; counts = set (replicate slot_count 0) s (v + 1) }) (get_or-replicate slot_count s 0 0 l)

-- ---- a connection's end

pub record Ending (c d : List ℕ) (s r : ℕ) : Type 0 where
  pub size : length d ≡ length c
  pub rows : rows_in d ≡ rows_in c
  pub done : (k : ℕ) → k < r → row_at d k ≡ ended_row s (row_at c k)
  pub rest : (k : ℕ) → r ≤ k → row_at d k ≡ row_at c k

pub ending_none : (c : List ℕ) (s : ℕ) → Ending c c s 0
ending_none c s = record { size = refl; rows = refl; done = λ k h. absurd (not-suc-le-zero h); rest = λ k h. refl }

pub ending_more :
    (c d e : List ℕ) (s r : ℕ) → Ending c d s r → RowSet d e r (ended_row s (row_at d r)) → Ending c e s (r + 1)
ending_more c d e s r g t =
    record {
      size = t.size ∙ g.size;
      rows = t.rows ∙ g.rows;
      done =
          below_more (λ (k : ℕ). row_at e k ≡ ended_row s (row_at c k)) r
          (λ k h. t.others k (λ q. omega arith) ∙ g.done k h)
          (t.here ∙ ap (ended_row s) (g.rest r (omega arith)));
      rest = λ k h. t.others k (λ q. omega arith) ∙ g.rest k (omega arith);
    }

pub ending_done : (c d : List ℕ) (s r : ℕ) → rows_in c ≤ r → Ending c d s r → replies_of d ≡ ended s (replies_of c)
unfolding replies_of
ending_done c d s r h g =
    ap (λ (u : ℕ). tab u (row_at d)) g.rows
    ∙ tab_same (rows_in c) (row_at d) (λ k. ended_row s (row_at c k)) (λ k l. g.done k (omega arith))
    ∙ sym (ended_tab s (rows_in c) (row_at c))

-- ---- rows that are kept

module _ (c : List ℕ) (from to : ℕ) (l : to ≤ from) where
  pub passed_over : (kept : Bool) → not kept ≡ true → Passed c c kept from to to
  passed_over true e = let z : ◌≡◌ {A = ℕ} 0 1 = cc in absurd (omega arith)
  passed_over false e =
      record {
        size = refl;
        rows = refl;
        low = omega arith;
        below = sym (append-nil (tab to (row_at c)));
        above = λ k h. refl;
      }

  pub passed_stay : (kept : Bool) → not kept ≡ false → from ≤ to → Passed c c kept from to (to + 1)
  passed_stay false e h = let z : ◌≡◌ {A = ℕ} 0 1 = cc in absurd (omega arith)
  passed_stay true e h =
      let q : to ≡ from = omega arith in
      record {
        size = refl;
        rows = refl;
        low = omega arith;
        below =
            ap (λ (u : ℕ). tab u (row_at c)) (add-one to) ∙ tab_end to (row_at c)
            ∙ ap (λ (k : ℕ). tab to (row_at c) ++ (row_at c k ∷ [])) q;
        above = λ k h. refl;
      }

  pub passed_down :
      (d : List ℕ) (kept : Bool) →
      not kept ≡ false →
      to < from →
      RowSet c d to (row_at c from) →
      Passed c d kept from to (to + 1)
  passed_down d false e h t = let z : ◌≡◌ {A = ℕ} 0 1 = cc in absurd (omega arith)
  passed_down d true e h t =
      record {
        size = t.size;
        rows = t.rows;
        low = omega arith;
        below =
            ap (λ (u : ℕ). tab u (row_at d)) (add-one to) ∙ tab_end to (row_at d)
            ∙ (let a = tab_same to (row_at d) (row_at c) (λ k b. t.others k (λ q. omega arith)) in
            λ i. a i ++ (t.here i ∷ []));
        above = λ k b. t.others k (λ q. omega arith);
      }

pub record Keeping (c d : List ℕ) (flags : List Bool) (r w : ℕ) : Type 0 where
  pub low : w ≤ r
  pub size : length d ≡ length c
  pub rows : rows_in d ≡ rows_in c
  pub done : tab w (row_at d) ≡ gather r (kept_of (λ k. get_or flags k false) (row_at c))
  pub rest : (k : ℕ) → r ≤ k → row_at d k ≡ row_at c k

module _ (c : List ℕ) (flags : List Bool) where
  abbrev kept : ℕ → List Row
  kept = kept_of (λ k. get_or flags k false) (row_at c)

  pub keeping_none : Keeping c c flags 0 0
  keeping_none =
      record { low = omega arith; size = refl; rows = refl; done = sym (gather_none kept); rest = λ k h. refl }

  pub keeping_more :
      (d e : List ℕ) (r w x : ℕ) →
      Keeping c d flags r w →
      Passed d e (get_or flags r false) r w x →
      Keeping c e flags (r + 1) x
  keeping_more d e r w x g p =
      record {
        low = p.low;
        size = p.size ∙ g.size;
        rows = p.rows ∙ g.rows;
        done =
            p.below
            ∙ (let a = g.done in let b = g.rest r (omega arith) in λ i. a i ++ also (get_or flags r false) (b i) [])
            ∙ sym (gather_more kept r);
        rest = λ k h. p.above k (omega arith) ∙ g.rest k (omega arith);
      }

  pub keeping_done :
      (d : List ℕ) (r w : ℕ) (f : ℕ → Bool) →
      length c ≡ replies_cells →
      rows_in c ≤ r →
      r ≤ rows_in c →
      Keeping c d flags r w →
      FlagsSay f flags (replies_of c) →
      replies_of (set d 0 w) ≡ keep f (replies_of c)
  unfolding replies_of
  keeping_done d r w f size a b g say =
      let e : r ≡ rows_in c = le_antisymm b a in
      let x : List ℕ = set d 0 w in
      ap (λ (u : ℕ). tab u (row_at x)) (used_is d w (g.size ∙ size))
      ∙ tab_same w (row_at x) (row_at d) (λ k h. used_same d w k)
      ∙ g.done
      ∙ ap (λ (u : ℕ). gather u kept) e
      ∙ gather_below (rows_in c) kept (kept_of (λ k. f (row_at c k).number) (row_at c))
      (λ k h.
      ap (λ (t : Bool). also t (row_at c k) [])
      (say k (rw (rows_length c) h) ∙ ap f (number_load c k h ∙ sym (number_is c k))))
      ∙ sym (keep_tab f (rows_in c) (row_at c))
