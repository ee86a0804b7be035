-- The notes that the cells hold: what each depends on, and what a store into the column or a row changes.
-- Assumes nothing.
use Prim.Native.Nat.{ℕ, ◌+◌, ◌*◌, ◌/◌, ◌%◌, ◌≤◌, ◌<◌}
use mathlib.Core.Path.{◌≡◌, refl, sym, ap, subst, ◌∙◌}
use mathlib.Core.Bool.{Bool, true, false, not, ◌&&◌, ◌||◌}
use mathlib.Core.Logic.{◌≢◌}
use mathlib.Core.List.{List, [], map}
use native.Mathlib.Omega.{arith}
use lib.Dec.{eqb, leb, ltb, leb-zero}
use lib.ListN.{length, get_or, set, replicate}
use lib.Seq.{get_or-set_same, get_or-set_other}
use borrow.Author.Tests.{le-leb, lt-leb, le-ltb}
use Rattle.index.specs.Index.{every}
use Rattle.index.proofs.Flags.{by_order}
use Rattle.records.specs.declared.Peer.{Peer}
use Rattle.records.specs.Records.{slot_count, is_connected, is_empty}
use Rattle.layout.specs.View.{table}
use Rattle.layout.proofs.RowLaws.{tab_same, tab_const, length_tab}
use Rattle.layout.proofs.ViewLaws.{table_same, table_set, get_or_table}
use Rattle.gossip.specs.Notes.{Entry, Note, Setup, no_note, has, holds, number_of, put_in, aged}
use Rattle.gossip.specs.Valid.{all, none, rises, entry_ok, set_ok, note_ok}
use Rattle.gossip.specs.Step.{with_put, with_ihave, beaten, parted}
use Rattle.notes.specs.View.{notes_cells, row_at, head_of, digit, entry_of, entry_at, few, set_in, numbers_in, note_from, note_of, notes_of}
use Rattle.notes.specs.View.{note_at, counts_fit}
use Rattle.notes.specs.Lent.{SetFits, AllFit, PutRow, AgedRow}
use Rattle.notes.proofs.SetLaws.{map_tab, none_tab, all_tab}

-- ---- lengths

pub few_is : (n : ℕ) → n ≤ 32 → few n ≡ n
unfolding few
few_is n h = rw (le-leb n 32 h)

pub few_over : (n : ℕ) → 32 < n → few n ≡ 33
unfolding few
few_over n h = rw (lt-leb n 32 h)

few_most : (n : ℕ) → few n ≤ 33
few_most n =
    by_order (few n ≤ 33) 32 n
    (λ h. let e = few_over n h in omega arith)
    (λ h. let e = few_is n h in omega arith)

few_back : (n : ℕ) → few n ≤ 32 → n ≤ 32
few_back n h = by_order (n ≤ 32) 32 n (λ l. let e = few_over n l in omega arith) (λ l. l)

few_room : (n : ℕ) → ltb n 32 ≡ ltb (few n) 32
few_room n =
    by_order (ltb n 32 ≡ ltb (few n) 32) 32 n
    (λ h. let e = few_over n h in le-ltb n 32 (omega arith) ∙ sym (ap (λ (m : ℕ). ltb m 32) e))
    (λ h. ap (λ (m : ℕ). ltb m 32) (sym (few_is n h)))

-- ---- one note among all

pub notes_length : (c : List ℕ) → length (notes_of c) ≡ slot_count
unfolding notes_of table
notes_length c = length_tab slot_count (note_of c)

pub note_at_lem : (c : List ℕ) (s : ℕ) → s < slot_count → note_at c s ≡ note_of c s
unfolding note_at notes_of
note_at_lem c s h = get_or_table slot_count (note_of c) s no_note h

-- a slot's note, field by field
module _ (c : List ℕ) (s : ℕ) (h : s < slot_count) where
  pub puts_at : (note_at c s).puts ≡ head_of c s % 64
  unfolding note_of note_from
  puts_at = ap (λ (n : Note). n.puts) (note_at_lem c s h)

  pub ihaves_at : (note_at c s).ihaves ≡ head_of c s / 64 % 64
  unfolding note_of note_from
  ihaves_at = ap (λ (n : Note). n.ihaves) (note_at_lem c s h)

  pub held_at : (note_at c s).held ≡ set_in c (row_at s) (few (head_of c s / 4096))
  unfolding note_of note_from
  held_at = ap (λ (n : Note). n.held) (note_at_lem c s h)

  pub length_at : length (note_at c s).held ≡ few (head_of c s / 4096)
  unfolding set_in
  length_at = ap length held_at ∙ length_tab (few (head_of c s / 4096)) (entry_at c (row_at s))

  pub size_at : length (note_at c s).held ≤ 32 → head_of c s / 4096 ≤ 32
  size_at l = few_back (head_of c s / 4096) (let e = length_at in omega arith)

  pub size_under : length (note_at c s).held < 32 → head_of c s / 4096 < 32
  size_under l =
      let a = size_at (omega arith) in
      let b = few_is (head_of c s / 4096) a in
      let e = length_at in
      omega arith

  pub held_is : head_of c s / 4096 ≤ 32 → (note_at c s).held ≡ set_in c (row_at s) (head_of c s / 4096)
  held_is l = held_at ∙ ap (set_in c (row_at s)) (few_is (head_of c s / 4096) l)

  pub still_at : head_of c s ≡ 0 → note_at c s ≡ no_note
  unfolding note_of note_from set_in few
  still_at e =
      note_at_lem c s h
      ∙ ap (λ (x : ℕ). note_from x (set_in c (row_at s) (few (x / 4096)))) e

-- ---- what the sets of two runs of cells have in common

set_same :
    (c d : List ℕ) (at n : ℕ) → n ≤ 33 → ((k : ℕ) → k < 33 → get_or d (at + k) 0 ≡ get_or c (at + k) 0) → set_in d at n ≡ set_in c at n
unfolding set_in entry_at entry_of
set_same c d at n h e =
    tab_same n (entry_at d at) (entry_at c at)
    (λ k l. λ i. record { number = e k (omega arith) i; age = digit (e 32 (omega arith) i) k })

note_same :
    (c d : List ℕ) (s : ℕ) → head_of d s ≡ head_of c s → ((k : ℕ) → k < 33 → get_or d (row_at s + k) 0 ≡ get_or c (row_at s + k) 0)
    → note_of d s ≡ note_of c s
unfolding note_of
note_same c d s e r =
    ap (λ (x : ℕ). note_from x (set_in d (row_at s) (few (x / 4096)))) e
    ∙ ap (note_from (head_of c s)) (set_same c d (row_at s) (few (head_of c s / 4096)) (few_most (head_of c s / 4096)) r)

-- ---- a store: of a slot's row nothing but the new set matters, and no other note changes

module _ (c e : List ℕ) (s x : ℕ) (h : s < slot_count) (size : length e ≡ notes_cells)
    (below : (k : ℕ) → k < row_at s → get_or e k 0 ≡ get_or c k 0) (above : (k : ℕ) → row_at s + 33 ≤ k → get_or e k 0 ≡ get_or c k 0) where
  row_same : (k : ℕ) → get_or (set e s x) (row_at s + k) 0 ≡ get_or e (row_at s + k) 0
  row_same k = get_or-set_other e s (row_at s + k) x 0 (λ z. omega arith)

  note_here : note_of (set e s x) s ≡ note_from x (set_in e (row_at s) (few (x / 4096)))
  unfolding note_of
  note_here =
      ap (λ (y : ℕ). note_from y (set_in (set e s x) (row_at s) (few (y / 4096)))) (get_or-set_same e s x 0 (omega arith))
      ∙ ap (note_from x) (set_same e (set e s x) (row_at s) (few (x / 4096)) (few_most (x / 4096)) (λ k l. row_same k))

  note_there : (j : ℕ) → j < slot_count → j ≢ s → note_of (set e s x) j ≡ note_of c j
  note_there j l n =
      note_same c (set e s x) j (get_or-set_other e s j x 0 n ∙ below j (omega arith))
      (λ k b.
      get_or-set_other e s (row_at j + k) x 0 (λ z. omega arith)
      ∙ by_order (get_or e (row_at j + k) 0 ≡ get_or c (row_at j + k) 0) j s
      (λ lt. below (row_at j + k) (omega arith))
      (λ le. above (row_at j + k) (let z : s < j = order le n in omega arith)))
    where
      order : s ≤ j → j ≢ s → s < j
      order le n = by_order (s < j) s j (λ lt. lt) (λ ge. absurd (n (omega arith)))

  pub notes_stored : (v : Note) → note_from x (set_in e (row_at s) (few (x / 4096))) ≡ v → notes_of (set e s x) ≡ set (notes_of c) s v
  unfolding notes_of
  notes_stored v q =
      table_set slot_count (note_of c) (note_of (set e s x)) s v (note_here ∙ q) note_there

-- ---- stores into the column alone

module _ (c : List ℕ) (s : ℕ) (h : s < slot_count) (size : length c ≡ notes_cells) where
  head_stored : (x : ℕ) (v : Note) → note_from x (set_in c (row_at s) (few (x / 4096))) ≡ v → notes_of (set c s x) ≡ set (notes_of c) s v
  head_stored x v q = notes_stored c c s x h size (λ k l. refl) (λ k l. refl) v q

  pub notes_cleared : notes_of (set c s 0) ≡ set (notes_of c) s no_note
  unfolding note_from set_in few
  notes_cleared = head_stored 0 no_note refl

  pub notes_parted : notes_of (set c s (head_of c s % 4096)) ≡ set (notes_of c) s (parted (note_at c s))
  unfolding note_from set_in few
  notes_parted =
      let x = head_of c s in
      let z : x % 4096 / 4096 ≡ 0 = omega arith in
      let p : x % 4096 % 64 ≡ (note_at c s).puts = let e = puts_at c s h in omega arith in
      let q : x % 4096 / 64 % 64 ≡ (note_at c s).ihaves = let e = ihaves_at c s h in omega arith in
      head_stored (x % 4096) (parted (note_at c s))
      ((λ i. record { held = set_in c (row_at s) (few (z i)); puts = p i; ihaves = q i }))

  pub notes_counted : (note_at c s).ihaves < 63 → notes_of (set c s (head_of c s + 64)) ≡ set (notes_of c) s (with_ihave (note_at c s))
  unfolding note_from
  notes_counted l =
      let x = head_of c s in
      let e = ihaves_at c s h in
      let z : (x + 64) / 4096 ≡ x / 4096 = omega arith in
      let g : set_in c (row_at s) (few ((x + 64) / 4096)) ≡ (note_at c s).held =
      ap (λ (n : ℕ). set_in c (row_at s) (few n)) z ∙ sym (held_at c s h) in
      let p : (x + 64) % 64 ≡ (note_at c s).puts = let e = puts_at c s h in omega arith in
      let q : (x + 64) / 64 % 64 ≡ (note_at c s).ihaves + 1 = omega arith in
      head_stored (x + 64) (with_ihave (note_at c s)) (λ i. record { held = g i; puts = p i; ihaves = q i })

-- a count below its most can rise in its cell
pub ihave_fits : (x : ℕ) → x < 18446744073709551616 → x / 64 % 64 < 63 → x + 64 < 18446744073709551616
ihave_fits x a b =
    let q : x / 64 + 1 < 288230376151711744 = omega arith in
    omega arith

-- ---- a number more

pub notes_put :
    (c e : List ℕ) (s n at : ℕ) → s < slot_count → length c ≡ notes_cells → length (note_at c s).held < 32 → (note_at c s).puts < 63
    → at ≡ row_at s → PutRow c e at (head_of c s / 4096) n
    → notes_of (set e s (head_of c s + 4097)) ≡ set (notes_of c) s (with_put n (note_at c s))
unfolding note_from
notes_put c e s n at h size room free there r' =
    let x = head_of c s in
    let r : PutRow c e (row_at s) (x / 4096) n = subst (λ (a : ℕ). PutRow c e a (x / 4096) n) there r' in
    let l : x / 4096 ≤ 32 = size_at c s h (omega arith) in
    let m : few (x / 4096) ≡ x / 4096 = few_is (x / 4096) l in
    let b = length_at c s h in
    let u = puts_at c s h in
    let z : (x + 4097) / 4096 ≡ x / 4096 + 1 = omega arith in
    let g : set_in e (row_at s) (few ((x + 4097) / 4096)) ≡ put_in n (note_at c s).held =
    ap (λ (k : ℕ). set_in e (row_at s) (few k)) z
    ∙ ap (set_in e (row_at s)) (few_is (x / 4096 + 1) (omega arith))
    ∙ r.held
    ∙ ap (put_in n) (sym (held_is c s h l)) in
    let p : (x + 4097) % 64 ≡ (note_at c s).puts + 1 = omega arith in
    let y : (x + 4097) / 64 ≡ x / 64 + 64 = omega arith in
    let w : (x / 64 + 64) % 64 ≡ x / 64 % 64 = omega arith in
    let q : (x + 4097) / 64 % 64 ≡ (note_at c s).ihaves = ap (λ (k : ℕ). k % 64) y ∙ w ∙ sym (ihaves_at c s h) in
    notes_stored c e s (x + 4097) h (r.size ∙ size) r.below r.above (with_put n (note_at c s))
    (λ i. record { held = g i; puts = p i; ihaves = q i })

-- ---- a heartbeat

pub notes_beaten :
    (c e : List ℕ) (s m at : ℕ) → s < slot_count → length c ≡ notes_cells → length (note_at c s).held ≤ 32
    → at ≡ row_at s → AgedRow c e at (head_of c s / 4096) m → notes_of (set e s (m * 4096)) ≡ set (notes_of c) s (beaten (note_at c s))
unfolding note_from
notes_beaten c e s m at h size room there r' =
    let x = head_of c s in
    let r : AgedRow c e (row_at s) (x / 4096) m = subst (λ (a : ℕ). AgedRow c e a (x / 4096) m) there r' in
    let l : x / 4096 ≤ 32 = size_at c s h room in
    let b = r.few in
    let z : m * 4096 / 4096 ≡ m = omega arith in
    let g : set_in e (row_at s) (few (m * 4096 / 4096)) ≡ aged (note_at c s).held =
    ap (λ (k : ℕ). set_in e (row_at s) (few k)) z
    ∙ ap (set_in e (row_at s)) (few_is m (omega arith))
    ∙ r.held
    ∙ ap aged (sym (held_is c s h l)) in
    let p : m * 4096 % 64 ≡ 0 = omega arith in
    let y : m * 4096 / 64 ≡ m * 64 = omega arith in
    let w : m * 64 % 64 ≡ 0 = omega arith in
    let q : m * 4096 / 64 % 64 ≡ 0 = ap (λ (k : ℕ). k % 64) y ∙ w in
    notes_stored c e s (m * 4096) h (r.size ∙ size) r.below r.above (beaten (note_at c s))
    (λ i. record { held = g i; puts = p i; ihaves = q i })

-- the notes below s are beaten, the others as they were
pub record Beating (c d : List ℕ) (s : ℕ) : Type 0 where
  pub within : s ≤ slot_count
  pub size : length d ≡ notes_cells
  pub done : (k : ℕ) → k < s → note_at d k ≡ beaten (note_at c k)
  pub rest : (k : ℕ) → s ≤ k → k < slot_count → note_at d k ≡ note_at c k

pub beating_start : (c : List ℕ) → length c ≡ notes_cells → Beating c c 0
beating_start c size =
    record { within = omega arith; size = size; done = λ k l. absurd (omega arith); rest = λ k l b. refl }

beating_more :
    (c d e : List ℕ) (s : ℕ) → s < slot_count → Beating c d s → length e ≡ notes_cells
    → notes_of e ≡ set (notes_of d) s (beaten (note_at d s)) → Beating c e (s + 1)
unfolding note_at
beating_more c d e s h b size q =
    record {
      within = omega arith;
      size = size;
      done = λ k l.
          by_order (note_at e k ≡ beaten (note_at c k)) k s
          (λ lt.
          ap (λ (n : List Note). get_or n k no_note) q
          ∙ get_or-set_other (notes_of d) s k (beaten (note_at d s)) no_note (λ z. omega arith)
          ∙ b.done k lt)
          (λ ge.
          let z : k ≡ s = omega arith in
          ap (λ (j : ℕ). note_at e j) z
          ∙ ap (λ (n : List Note). get_or n s no_note) q
          ∙ get_or-set_same (notes_of d) s (beaten (note_at d s)) no_note (let m = notes_length d in omega arith)
          ∙ ap beaten (b.rest s (omega arith) h)
          ∙ ap (λ (j : ℕ). beaten (note_at c j)) (sym z));
      rest = λ k l m.
          ap (λ (n : List Note). get_or n k no_note) q
          ∙ get_or-set_other (notes_of d) s k (beaten (note_at d s)) no_note (λ z. omega arith)
          ∙ b.rest k (omega arith) m;
    }

-- nothing is held of the slot
beating_still : (c d : List ℕ) (s : ℕ) → s < slot_count → Beating c d s → head_of d s ≡ 0 → Beating c d (s + 1)
unfolding aged
beating_still c d s h b e =
    let n : note_at c s ≡ no_note = sym (b.rest s (omega arith) h) ∙ still_at d s h e in
    record {
      within = omega arith;
      size = b.size;
      done = λ k l.
          by_order (note_at d k ≡ beaten (note_at c k)) k s
          (λ lt. b.done k lt)
          (λ ge.
          let z : k ≡ s = omega arith in
          ap (λ (j : ℕ). note_at d j) z ∙ still_at d s h e ∙ ap beaten (sym n) ∙ ap (λ (j : ℕ). beaten (note_at c j)) (sym z));
      rest = λ k l m. b.rest k (omega arith) m;
    }

-- the two ways of a turn
pub beating_in :
    (c d d' e : List ℕ) (s : ℕ) → s < slot_count → Beating c d s → d' ≡ e → length e ≡ length d
    → notes_of e ≡ set (notes_of d) s (beaten (note_at d s)) → Beating c d' (s + 1)
beating_in c d d' e s h b p l q = rw p (beating_more c d e s h b (l ∙ b.size) q)

pub beating_out : (c d d' : List ℕ) (s : ℕ) → s < slot_count → Beating c d s → d' ≡ d → head_of d s ≡ 0 → Beating c d' (s + 1)
beating_out c d d' s h b p e = rw p (beating_still c d s h b e)

-- the set of the next slot is as long as it was
pub beating_fits : (c d : List ℕ) (s : ℕ) → s < slot_count → AllFit c → Beating c d s → SetFits d s
beating_fits c d s h f b =
    let e = ap (λ (n : Note). length n.held) (b.rest s (omega arith) h) in
    let l = f.held s h in
    record { size = b.size; slot = h; held = omega arith }

map_table : {A B : Type 0} (f : A → B) (n : ℕ) (g : ℕ → A) → map f (table n g) ≡ table n (λ k. f (g k))
unfolding table
map_table f n g = map_tab f n g

pub beating_done : (c d : List ℕ) (s : ℕ) → slot_count ≤ s → Beating c d s → notes_of d ≡ map beaten (notes_of c)
unfolding notes_of
beating_done c d s h b =
    table_same slot_count (note_of d) (λ k. beaten (note_of c k))
    (λ k l. sym (note_at_lem d k l) ∙ b.done k (omega arith) ∙ ap beaten (note_at_lem c k l))
    ∙ sym (map_table beaten slot_count (note_of c))

-- ---- a column of zeros

-- the first n cells are 0
abbrev pub Zeros : List ℕ → ℕ → Type 0
Zeros c n = (k : ℕ) → k < n → head_of c k ≡ 0

table_const : {A : Type 0} (n : ℕ) (x : A) → table n (λ k. x) ≡ replicate n x
unfolding table
table_const n x = tab_const n x

pub notes_made : (c : List ℕ) (n : ℕ) → slot_count ≤ n → Zeros c n → notes_of c ≡ replicate slot_count no_note
unfolding notes_of
notes_made c n h z =
    table_same slot_count (note_of c) (λ k. no_note) (λ k l. sym (note_at_lem c k l) ∙ still_at c k l (z k (omega arith)))
    ∙ table_const slot_count no_note

-- ---- the tests

numbers_are : (c : List ℕ) (at n : ℕ) → map number_of (set_in c at n) ≡ numbers_in c at n
unfolding set_in numbers_in entry_at entry_of
numbers_are c at n = map_tab number_of n (entry_at c at)

ages_are : (c : List ℕ) (at n : ℕ) → all entry_ok (set_in c at n) ≡ every n (λ k. leb (digit (get_or c (at + 32) 0) k) 2)
unfolding set_in entry_at entry_of
ages_are c at n = all_tab entry_ok n (entry_at c at)

none_are : (c : List ℕ) (at n : ℕ) → none (set_in c at n) ≡ eqb n 0
unfolding set_in
none_are c at n = none_tab n (entry_at c at)

module _ (c : List ℕ) (s : ℕ) (h : s < slot_count) (b : Bool) where
  pub set_over : 32 < head_of c s / 4096 → false ≡ set_ok b (note_at c s).held
  unfolding set_ok
  set_over l =
      let e : length (note_at c s).held ≡ 33 = length_at c s h ∙ few_over (head_of c s / 4096) l in
      let t : leb (length (note_at c s).held) 32 ≡ false = lt-leb (length (note_at c s).held) 32 (omega arith) in
      rw t refl

  pub set_tested :
      (at : ℕ) (t u : Bool) → head_of c s / 4096 ≤ 32 → at ≡ row_at s → t ≡ rises (numbers_in c at (head_of c s / 4096))
      → u ≡ every (head_of c s / 4096) (λ k. leb (digit (get_or c (at + 32) 0) k) 2)
      → (t && u && (b || eqb (head_of c s / 4096) 0)) ≡ set_ok b (note_at c s).held
  unfolding set_ok
  set_tested at t u l there te ue =
      let n = head_of c s / 4096 in
      let e : length (note_at c s).held ≤ 32 = let z = length_at c s h in let y = few_is n l in omega arith in
      let f : leb (length (note_at c s).held) 32 ≡ true = le-leb (length (note_at c s).held) 32 e in
      let q : set_in c at n ≡ (note_at c s).held = ap (λ (a : ℕ). set_in c a n) there ∙ sym (held_is c s h l) in
      let r : t ≡ rises (map number_of (note_at c s).held) =
      te ∙ ap rises (sym (numbers_are c at n)) ∙ ap (λ (m : List Entry). rises (map number_of m)) q in
      let a : u ≡ all entry_ok (note_at c s).held = ue ∙ sym (ages_are c at n) ∙ ap (all entry_ok) q in
      let o : eqb n 0 ≡ none (note_at c s).held = sym (none_are c at n) ∙ ap none q in
      λ i. (sym f i && r i) && a i && (b || o i)

  pub note_tested :
      (e : Bool) (limit most : ℕ) (t u : Bool) → t ≡ set_ok b (note_at c s).held
      → u ≡ counts_fit limit most e (note_from (head_of c s) [])
      → (t && u) ≡ (set_ok b (note_at c s).held && counts_fit limit most e (note_at c s))
  unfolding note_from
  note_tested e limit most t u te ue =
      let p = sym (puts_at c s h) in
      let q = sym (ihaves_at c s h) in
      ap (λ v. t && v) ue
      ∙ (λ i. te i && (leb (p i) limit && leb (q i) most && (not e || (eqb (p i) 0 && eqb (q i) 0))))

pub holds_at :
    (c : List ℕ) (s n at : ℕ) (r : Bool) → s < slot_count → head_of c s / 4096 ≤ 32 → at ≡ row_at s
    → r ≡ has n (numbers_in c at (head_of c s / 4096)) → r ≡ holds (note_at c s) n
unfolding holds
holds_at c s n at r h l there e =
    let m = head_of c s / 4096 in
    e
    ∙ ap (has n)
    (sym (numbers_are c at m)
    ∙ ap (map number_of) (ap (λ (a : ℕ). set_in c a m) there ∙ sym (held_is c s h l)))

pub room_at : (c : List ℕ) (s limit : ℕ) → s < slot_count
    → (ltb (head_of c s % 64) limit && ltb (head_of c s / 4096) 32) ≡ (ltb (note_at c s).puts limit && ltb (length (note_at c s).held) 32)
room_at c s limit h =
    let p = sym (puts_at c s h) in
    let q : ltb (head_of c s / 4096) 32 ≡ ltb (length (note_at c s).held) 32 =
    few_room (head_of c s / 4096) ∙ ap (λ (m : ℕ). ltb m 32) (sym (length_at c s h)) in
    λ i. ltb (p i) limit && q i

-- ---- test 12 of a record's note

-- no note passes, whatever the record
pub nothing_passes : (p : Setup) (peer : Peer) → note_ok p peer no_note ≡ true
unfolding note_ok set_ok rises all
nothing_passes p peer =
    rw (leb-zero p.limit, leb-zero p.ihaves, either (is_connected peer), either (not (is_empty peer))) refl
  where
    either : (b : Bool) → (b || true) ≡ true
    either true = refl
    either false = refl
