-- What stands in a row after a number was put in, and while a heartbeat goes through it.
-- Assumes nothing.
use Prim.Native.Nat.{ℕ, suc, ◌+◌, ◌*◌, ◌-◌, ◌%◌, ◌^◌, ◌≤◌, ◌<◌}
use mathlib.Core.Path.{◌≡◌, refl, sym, ap, ◌∙◌}
use mathlib.Core.Bool.{true, false}
use mathlib.Core.Logic.{◌≢◌}
use mathlib.Core.List.{List, [], ◌∷◌, ◌++◌, append-nil}
use native.Mathlib.Omega.{arith}
use native.Mathlib.Numerals.{add-one}
use lib.Dec.{ltb}
use lib.ListN.{length, get_or, set, length-set}
use lib.Seq.{get_or-set_same, get_or-set_other}
use borrow.Author.Tests.{lt-ltb, le-ltb}
use Rattle.layout.specs.Rows.{tab}
use Rattle.layout.proofs.RowLaws.{tab_same}
use Rattle.gossip.specs.Notes.{Entry, aged}
use Rattle.notes.specs.View.{digit, entry_of, entry_at, set_in}
use Rattle.notes.specs.Moves.{MovedUp, Placed}
use Rattle.notes.specs.Lent.{PutRow, AgedRow}
use Rattle.notes.proofs.DigitLaws.{gapped, Gapped, top_lt, top_other, top_here}
use Rattle.notes.proofs.SetLaws.{PutAt, put_tab, tab_more, aged_more}

abbrev entry : ℕ → ℕ → Entry
entry n a = record { number = n; age = a }

-- ---- a number put in

module _ (c e : List ℕ) (at n x p y : ℕ) (fits : at + 33 ≤ length c) (room : n < 32) (placed : Placed c at n x p)
    (moved : MovedUp c e (at + p) (at + n) 1)
    (ages : y ≡ 4 * (get_or c (at + 32) 0 % 4 ^ n) - 3 * (get_or c (at + 32) 0 % 4 ^ n % 4 ^ p)) where
  stored : List ℕ
  stored = set (set e (at + p) x) (at + 32) y

  long : length e ≡ length c
  long = moved.size

  ages_now : get_or stored (at + 32) 0 ≡ y
  unfolding stored
  ages_now = get_or-set_same (set e (at + p) x) (at + 32) y 0 (simp length-set (let l = long in omega arith))

  other : (k : ℕ) → k ≢ at + p → k ≢ at + 32 → get_or stored k 0 ≡ get_or e k 0
  unfolding stored
  other k a b = get_or-set_other (set e (at + p) x) (at + 32) k y 0 b ∙ get_or-set_other e (at + p) k x 0 a

  gaps : Gapped (get_or c (at + 32) 0) y n p
  gaps = gapped (get_or c (at + 32) 0) n p y placed.within ages

  entry_now : (k m a : ℕ) → get_or stored (at + k) 0 ≡ m → digit y k ≡ a → entry_at stored at k ≡ entry m a
  unfolding entry_at entry_of
  entry_now k m a d e = λ i. entry (d i) ((ap (λ (z : ℕ). digit z k) ages_now ∙ e) i)

  put_at : PutAt (entry_at c at) (entry_at stored at) n p x
  unfolding entry_at entry_of stored
  put_at =
      let w = placed.within in
      record {
        before = λ k l.
            entry_now k (get_or c (at + k) 0) (digit (get_or c (at + 32) 0) k)
            (other (at + k) (λ z. omega arith) (λ z. omega arith) ∙ moved.below (at + k) (omega arith))
            (gaps.before k l);
        here =
            entry_now p x 0
            (get_or-set_other (set e (at + p) x) (at + 32) (at + p) y 0 (λ z. omega arith)
            ∙ get_or-set_same e (at + p) x 0 (let l = long in omega arith))
            gaps.here;
        after = λ k l b.
            let q : at + suc k ≡ at + k + 1 = omega arith in
            entry_now (suc k) (get_or c (at + k) 0) (digit (get_or c (at + 32) 0) k)
            (other (at + suc k) (λ z. omega arith) (λ z. omega arith)
            ∙ ap (λ (z : ℕ). get_or e z 0) q
            ∙ moved.moved (at + k) (omega arith) (omega arith))
            (gaps.after k l b);
        low = placed.before;
        high = placed.after;
      }

  pub row_put : PutRow c (set (set e (at + p) x) (at + 32) y) at n x
  unfolding set_in stored
  row_put =
      let w = placed.within in
      record {
        size = length-set (set e (at + p) x) (at + 32) y ∙ length-set e (at + p) x ∙ long;
        held = rw add-one (put_tab n p x (entry_at c at) (entry_at stored at) placed.within put_at);
        below = λ k l. other k (λ z. omega arith) (λ z. omega arith) ∙ moved.below k (omega arith);
        above = λ k l. other k (λ z. omega arith) (λ z. omega arith) ∙ moved.above k (omega arith);
      }

-- ---- a heartbeat

-- the first i of the n entries are gone through, m of them are left, with these ages
pub record Aging (c d : List ℕ) (at ages n i m left : ℕ) : Type 0 where
  pub few : m ≤ i
  pub within : i ≤ n
  pub size : length d ≡ length c
  pub small : left < 4 ^ m
  pub below : (k : ℕ) → k < at → get_or d k 0 ≡ get_or c k 0
  pub rest : (k : ℕ) → at + i ≤ k → get_or d k 0 ≡ get_or c k 0
  pub form : tab m (entry_of d at left) ≡ aged (tab i (entry_of c at ages))

pub aging_start : (c : List ℕ) (at ages n : ℕ) → Aging c c at ages n 0 0 0
unfolding aged
aging_start c at ages n =
    record {
      few = omega arith;
      within = omega arith;
      size = refl;
      small = omega arith;
      below = λ k l. refl;
      rest = λ k l. refl;
      form = refl;
    }

module _ (c d : List ℕ) (at ages n i m left : ℕ) (inside : i < n) (fits : at + n ≤ length c) (a : Aging c d at ages n i m left) where
  gone_form : 2 ≤ digit ages i → tab m (entry_of d at left) ≡ aged (tab (suc i) (entry_of c at ages))
  unfolding entry_of
  gone_form h =
      let t : ltb (digit ages i) 2 ≡ false = le-ltb (digit ages i) 2 h in
      a.form
      ∙ sym (append-nil (aged (tab i (entry_of c at ages))))
      ∙ sym (aged_more i (entry_of c at ages) ∙ (rw t refl))

  pub aging_gone : 2 ≤ digit ages i → Aging c d at ages n (i + 1) m left
  aging_gone h =
      let f = a.few in
      record {
        few = omega arith;
        within = omega arith;
        size = a.size;
        small = a.small;
        below = a.below;
        rest = λ k l. a.rest k (omega arith);
        form = rw add-one (gone_form h);
      }

  module _ (x y : ℕ) (young : digit ages i < 2) (same : x ≡ get_or d (at + i) 0) (more : y ≡ left + (digit ages i + 1) * 4 ^ m) where
    kept_cells : (k : ℕ) → k ≢ at + m → get_or (set d (at + m) x) k 0 ≡ get_or d k 0
    kept_cells k h = get_or-set_other d (at + m) k x 0 h

    kept_old : (k : ℕ) → k < m → entry_of (set d (at + m) x) at y k ≡ entry_of d at left k
    unfolding entry_of
    kept_old k l =
        let e = kept_cells (at + k) (λ z. omega arith) in
        let g = ap (λ (z : ℕ). digit z k) more ∙ top_other m k left (digit ages i + 1) l in
        λ j. entry (e j) (g j)

    kept_new : entry_of (set d (at + m) x) at y m ≡ entry (get_or c (at + i) 0) (digit ages i + 1)
    unfolding entry_of
    kept_new =
        let f = a.few in
        let s = a.size in
        let e : get_or (set d (at + m) x) (at + m) 0 ≡ get_or c (at + i) 0 =
        get_or-set_same d (at + m) x 0 (omega arith) ∙ same ∙ a.rest (at + i) (omega arith) in
        let g : digit y m ≡ digit ages i + 1 =
        ap (λ (z : ℕ). digit z m) more ∙ top_here m left (digit ages i + 1) a.small (omega arith) in
        λ j. entry (e j) (g j)

    kept_form : tab (suc m) (entry_of (set d (at + m) x) at y) ≡ aged (tab (suc i) (entry_of c at ages))
    unfolding entry_of
    kept_form =
        let t : ltb (digit ages i) 2 ≡ true = lt-ltb (digit ages i) 2 young in
        tab_more m (entry_of (set d (at + m) x) at y)
        ∙ (λ j. tab_same m (entry_of (set d (at + m) x) at y) (entry_of d at left) kept_old j ++ (kept_new j ∷ []))
        ∙ ap (λ l. l ++ (entry (get_or c (at + i) 0) (digit ages i + 1) ∷ [])) a.form
        ∙ sym (aged_more i (entry_of c at ages) ∙ (rw t refl))

    pub aging_kept : Aging c (set d (at + m) x) at ages n (i + 1) (m + 1) y
    aging_kept =
        let f = a.few in
        record {
          few = omega arith;
          within = omega arith;
          size = length-set d (at + m) x ∙ a.size;
          small = rw (add-one, more) (top_lt left m (digit ages i + 1) a.small (omega arith));
          below = λ k l. kept_cells k (λ z. omega arith) ∙ a.below k l;
          rest = λ k l. kept_cells k (λ z. omega arith) ∙ a.rest k (omega arith);
          form = rw (add-one m, add-one i) kept_form;
        }

-- the two ways of a turn, r being the age that it found
module _ (c d d' : List ℕ) (at ages n i m m' left left' r : ℕ) (inside : i < n) (fits : at + n ≤ length c)
    (a : Aging c d at ages n i m left) (found : r ≡ digit ages i) where
  pub aging_in : r < 2 → d' ≡ set d (at + m) (get_or d (at + i) 0) → left' ≡ left + (r + 1) * 4 ^ m → m' ≡ m + 1
      → Aging c d' at ages n (i + 1) m' left'
  aging_in h p q e =
      rw (p, e)
      (aging_kept c d at ages n i m left inside fits a (get_or d (at + i) 0) left' (omega arith) refl
      (q ∙ ap (λ (x : ℕ). left + (x + 1) * 4 ^ m) found))

  pub aging_out : 2 ≤ r → d' ≡ d → left' ≡ left → m' ≡ m → Aging c d' at ages n (i + 1) m' left'
  aging_out h p q e = rw (p, q, e) (aging_gone c d at ages n i m left inside fits a (omega arith))

pub aging_done :
    (c d : List ℕ) (at n i m left : ℕ) → at + 33 ≤ length c → n ≤ 32 → n ≤ i → Aging c d at (get_or c (at + 32) 0) n i m left
    → AgedRow c (set d (at + 32) left) at n m
unfolding set_in entry_at entry_of
aging_done c d at n i m left fits h l a =
    let f = a.few in
    let w = a.within in
    let s = a.size in
    let q : i ≡ n = omega arith in
    let y : get_or (set d (at + 32) left) (at + 32) 0 ≡ left = get_or-set_same d (at + 32) left 0 (omega arith) in
    record {
      size = length-set d (at + 32) left ∙ a.size;
      few = omega arith;
      held =
          tab_same m (entry_at (set d (at + 32) left) at) (entry_of d at left)
          (λ k b.
          let e : get_or (set d (at + 32) left) (at + k) 0 ≡ get_or d (at + k) 0 =
          get_or-set_other d (at + 32) (at + k) left 0 (λ z. omega arith) in
          λ j. entry (e j) (digit (y j) k))
          ∙ a.form
          ∙ ap (λ (z : ℕ). aged (tab z (entry_of c at (get_or c (at + 32) 0)))) q;
      below = λ k b. get_or-set_other d (at + 32) k left 0 (λ z. omega arith) ∙ a.below k b;
      above = λ k b. get_or-set_other d (at + 32) k left 0 (λ z. omega arith) ∙ a.rest k (omega arith);
    }
