-- The ends of the tests of a load.
-- Assumes nothing.
use Rattle.std.proofs.Common.{Ok, Err}
use Rattle.saves.specs.declared.LoadError.{LoadError}
use Rattle.saves.specs.declared.LoadError.TheVariants.{Broken, Malformed, OutOfRange}
use Rattle.std.proofs.Common.{Option, Some, None, Result}
use Rattle.lookup.specs.declared.FreshError.{FreshError}
use Prim.Native.Nat.{ℕ, ◌*◌, ◌%◌, ◌<◌, ◌≤◌}
use native.Mathlib.Omega.{arith}
use mathlib.Core.Path.{◌≡◌, refl, sym, ap, ◌∙◌}
use mathlib.Core.Bool.{true}
use mathlib.Core.List.{List}
use borrow.Author.Tests.{lt-ltb, le-ltb, le-leb, lt-leb, ne_eqb, leb-true, not-false}
use lib.Dec.{leb}
use lib.ListN.{length, get_or}
use Rattle.index.specs.Index.{first}
use Rattle.index.proofs.Index.{both, first_passed}
use Rattle.varint.specs.Groups.{read_at}
use Rattle.params.specs.declared.Params.{Params}
use Rattle.params.specs.Check.{first_broken}
use Rattle.records.specs.Records.{State, slot_count, set_clock}
use Rattle.layout.specs.View.{state_of}
use Rattle.validity.specs.Valid.{max_time}
use Rattle.lookup.specs.Fresh.{fresh_state, Makes}
use Rattle.lookup.proofs.FreshLaws.{fresh_valid}
use Rattle.saves.specs.Load.{Parse, numbers, malformed, parse_from, most_of, ascends, outside, loaded_state, Loading, loaded}
use Rattle.saves.specs.Load.{out_of_range}
use Rattle.saves.specs.Load.{broken, bad, slots_of, judged_by, records, counted, opened, sheeted, load_of, answer_of}
use Rattle.saves.specs.Load.{Loads}
use Rattle.saves.proofs.Parsing.{top}
use Rattle.save_load.specs.Skim.{skim_of}
use Rattle.save_load.specs.Judge.{place_by, judge_of}
use Rattle.save_load.specs.Store.{Loadable, stored_all}
use Rattle.save_load.specs.Checked.{Coded, Says, Checks}
use Rattle.save_load.proofs.RangeLaws.{most_wide}
use Rattle.save_load.proofs.LoadLaws.{all_stored}

-- ---- the ends of `slots_of`
pub slots_one : (e : ℕ) → e ≡ 1 → Some 64 ≡ slots_of e
unfolding slots_of
slots_one e q = rw q refl

pub slots_two : (e : ℕ) → e ≡ 2 → Some 256 ≡ slots_of e
unfolding slots_of
slots_two e q = rw q refl

pub slots_none : (e : ℕ) → (e ≡ 1 → ⊥) → (e ≡ 2 → ⊥) → None ≡ slots_of e
unfolding slots_of
slots_none e a b = rw (ne_eqb e 1 a, ne_eqb e 2 b)

-- ---- the ends of `check_records`
skim_broken : (q : Parse) (x : LoadError) → skim_of q ≡ Err x → (place : ℕ) × ((q ≡ malformed place) × (Malformed place ≡ x))
skim_broken (numbers l next) x e = let z : ◌≡◌ {A = ℕ} 0 1 = cc in absurd (omega arith)
skim_broken (malformed p) x e = let z : Malformed p ≡ x = cc in (p, (refl, z))

skim_end : (q : Parse) (next : ℕ) → skim_of q ≡ Ok next → (l : List ℕ) × (q ≡ numbers l next)
skim_end (numbers l n) next e = let z : n ≡ next = cc in (l, ap (numbers l) z)
skim_end (malformed p) next e = let z : ◌≡◌ {A = ℕ} 0 1 = cc in absurd (omega arith)

module _ (p : Params) (clock : ℕ) (s codes : List ℕ) (n at : ℕ) (c : Coded p codes) (few : n ≤ slot_count) (k : Result ℕ LoadError)
    (e : k ≡ skim_of (parse_from (n * 44) s at)) where
  pub records_broken : (x : LoadError) → k ≡ Err x → Says p clock s (records p clock s n at) (Err x)
  unfolding records
  records_broken x q =
      let r = skim_broken (parse_from (n * 44) s at) x (sym e ∙ q) in
      rw (r.1.0) (ap Err (sym r.1.1))

  module _ (next : ℕ) (q : k ≡ Ok next) where
    read : (l : List ℕ) × (parse_from (n * 44) s at ≡ numbers l next)
    read = skim_end (parse_from (n * 44) s at) next (sym e ∙ q)

    pub records_over : next < length s → Says p clock s (records p clock s n at) (Err (Malformed next))
    unfolding records
    records_over h = rw (read.1, lt-ltb next (length s) h)

    module _ (h : length s ≤ next) (f : Option ℕ) (j : f ≡ judge_of (most_of (fresh_state p)) s at (n * 44) (parse_from (n * 44) s at)) where
      abbrev l : List ℕ
      l = read.0

      place_found : (g : Option ℕ) (place : ℕ) → place_by s at g ≡ Some place → judged_by p clock s g n at l ≡ broken place
      place_found (Some i) place t = let z : Rattle.saves.specs.Load.place_of s at i ≡ place = cc in ap broken z
      place_found None place t = let z : ◌≡◌ {A = ℕ} 0 1 = cc in absurd (omega arith)

      none_found : (g : Option ℕ) → place_by s at g ≡ None → g ≡ None
      none_found (Some i) t = let z : ◌≡◌ {A = ℕ} 0 1 = cc in absurd (omega arith)
      none_found None t = refl

      judge_is : f ≡ place_by s at (first (n * 44) (outside (most_of (fresh_state p)) l))
      judge_is = j ∙ ap (judge_of (most_of (fresh_state p)) s at (n * 44)) read.1

      record_is : records p clock s n at ≡ judged_by p clock s (first (n * 44) (outside (most_of (fresh_state p)) l)) n at l
      unfolding records
      record_is = rw (read.1, le-ltb next (length s) h)

      pub records_outside : (place : ℕ) → f ≡ Some place → Says p clock s (records p clock s n at) (Err (Broken place))
      records_outside place t =
          let b = place_found (first (n * 44) (outside (most_of (fresh_state p)) l)) place (sym judge_is ∙ t) in
          sym (ap answer_of (record_is ∙ b))

      pub records_fine : f ≡ None → Says p clock s (records p clock s n at) (Ok (n, at))
      unfolding outside
      records_fine t =
          let none = none_found (first (n * 44) (outside (most_of (fresh_state p)) l)) (sym judge_is ∙ t) in
          let v = fresh_valid p c.size c.passes in
          record {
            few = few;
            fits = record {
              l = l;
              end = next;
              whole = read.1;
              fits = λ i b.
                  let w =
                  both (ascends l i) (leb (get_or l i 0) (get_or (most_of (fresh_state p)) (i % 44) 0))
                  (not-false _ (first_passed (outside (most_of (fresh_state p)) l) (n * 44) none i b)) in
                  let x = leb-true (get_or l i 0) (get_or (most_of (fresh_state p)) (i % 44) 0) w.1 in
                  let y = most_wide (fresh_state p) v (i % 44) (omega arith) in
                  omega arith;
            };
            gives = λ m end w.
                let q : numbers l next ≡ numbers m end = sym read.1 ∙ w in
                let z : l ≡ m = cc in
                record_is ∙ ap (λ (g : Option ℕ). judged_by p clock s g n at l) none ∙ ap (λ (x : List ℕ). loaded (loaded_state p clock n x)) z;
          }

-- ---- the ends of `check_count`
module _ (p : Params) (clock : ℕ) (s : List ℕ) (most at : ℕ) (r : Option (ℕ × ℕ)) (e : r ≡ read_at top s at) where
  pub count_bad : r ≡ None → Says p clock s (counted p clock s most at (read_at top s at)) (Err (Malformed at))
  count_bad q = rw (sym e ∙ q)

  module _ (n next : ℕ) (q : r ≡ Some (n, next)) where
    pub count_over : most < n → Says p clock s (counted p clock s most at (read_at top s at)) (Err (Broken at))
    count_over h = rw (sym e ∙ q, lt-leb n most h)

    pub count_fine : n ≤ most → (a : Result (ℕ × ℕ) LoadError) → Says p clock s (records p clock s n next) a →
        Says p clock s (counted p clock s most at (read_at top s at)) a
    count_fine h a g =
        let z : counted p clock s most at (read_at top s at) ≡ records p clock s n next = rw (sym e ∙ q, le-leb n most h) in
        rw z g

-- ---- the ends of `check_edition`
module _ (p : Params) (clock : ℕ) (s : List ℕ) (r : Option (ℕ × ℕ)) (e : r ≡ read_at top s 0) where
  pub edition_bad : r ≡ None → Says p clock s (opened p clock s (read_at top s 0)) (Err (Malformed 0))
  edition_bad q = rw (sym e ∙ q)

  module _ (v next : ℕ) (q : r ≡ Some (v, next)) (f : Option ℕ) (d : f ≡ slots_of v) where
    pub edition_none : f ≡ None → Says p clock s (opened p clock s (read_at top s 0)) (Err (Broken 0))
    edition_none t = rw (sym e ∙ q, sym d ∙ t)

    pub edition_fine : (most : ℕ) → f ≡ Some most → (a : Result (ℕ × ℕ) LoadError) → Says p clock s (counted p clock s most next (read_at top s next)) a →
        Says p clock s (opened p clock s (read_at top s 0)) a
    edition_fine most t a g =
        let z : opened p clock s (read_at top s 0) ≡ counted p clock s most next (read_at top s next) = rw (sym e ∙ q, sym d ∙ t) in
        rw z g

-- ---- the ends of `check_all`
module _ (p : Params) (clock : ℕ) (s : List ℕ) (f : Option ℕ) (e : f ≡ first_broken p) where
  pub check_sheet : (i : ℕ) → f ≡ Some i → Checks p clock s (load_of true p clock s) (Err (Broken i))
  unfolding load_of
  check_sheet i q = rw (sym e ∙ q)

  module _ (q : f ≡ None) where
    pub check_clock : max_time < clock → Checks p clock s (load_of true p clock s) (Err OutOfRange)
    unfolding load_of
    check_clock h = rw (sym e ∙ q, lt-leb clock max_time h)

    pub check_fine : clock ≤ max_time → (a : Result (ℕ × ℕ) LoadError) → Says p clock s (opened p clock s (read_at top s 0)) a →
        Checks p clock s (load_of true p clock s) a
    unfolding load_of
    check_fine h a g = go a g
      where
        z : sheeted p clock s (first_broken p) ≡ opened p clock s (read_at top s 0)
        z = rw (sym e ∙ q, le-leb clock max_time h)

        go : (a : Result (ℕ × ℕ) LoadError) → Says p clock s (opened p clock s (read_at top s 0)) a → Checks p clock s (sheeted p clock s (first_broken p)) a
        go (Err b) g = rw z g
        go (Ok (n, at)) g = (rw z g, record { passes = sym e ∙ q; early = h })

-- ---- the ends of `load`
pub load_refused :
    (p : Params) (clock : ℕ) (s table : List ℕ) (k : Result (ℕ × ℕ) LoadError) (x : LoadError) → Checks p clock s (load_of true p clock s) k → k ≡ Err x →
    Loads (load_of true p clock s) (Err x) table table
load_refused p clock s table (Err y) x g q =
    let z : y ≡ x = cc in
    let e : answer_of (load_of true p clock s) ≡ Err x = sym g ∙ ap Err z in
    record { answer = sym e; state = go (load_of true p clock s) e; kept = λ e. refl }
  where
    go : (o : Loading) → answer_of o ≡ Err x → state_of table ≡ Rattle.saves.specs.Load.left_by o (state_of table)
    go (loaded st) e = let z : ◌≡◌ {A = ℕ} 0 1 = cc in absurd (omega arith)
    go out_of_range e = refl
    go (broken i) e = refl
    go (bad i) e = refl
load_refused p clock s table (Ok a) x g q = let z : ◌≡◌ {A = ℕ} 0 1 = cc in absurd (omega arith)

-- ---- the ends of `make`

pub make_is :
    (p : Params) (clock n : ℕ) (l : List ℕ) → n ≤ slot_count → first_broken p ≡ None → (r : Result (Unit {0}) FreshError) (t₀ t₁ t₂ t₃ : List ℕ) →
    Makes p r t₀ t₁ →
    state_of t₂ ≡ set_clock (state_of t₁) clock → state_of t₃ ≡ stored_all clock n l (state_of t₂) → state_of t₃ ≡ loaded_state p clock n l
make_is p clock n l few ok r t₀ t₁ t₂ t₃ m b c =
    let a : state_of t₁ ≡ fresh_state p = let s = m.state in rw ok at s in
    c
    ∙ ap (stored_all clock n l) (b ∙ ap (λ (v : State). set_clock v clock) a)
    ∙ all_stored p clock l n few

-- what was found fit to be stored
fine : (p : Params) (clock : ℕ) (s : List ℕ) (k : Result (ℕ × ℕ) LoadError) (n at : ℕ) → Checks p clock s (load_of true p clock s) k →
    k ≡ Ok (n, at) → Checks p clock s (load_of true p clock s) (Ok (n, at))
fine p clock s k n at g q = rw q at g

pub load_made :
    (p : Params) (clock : ℕ) (s table table' : List ℕ) (k : Result (ℕ × ℕ) LoadError) (n at : ℕ) (r : Result (Unit {0}) LoadError) →
    Checks p clock s (load_of true p clock s) k → k ≡ Ok (n, at) → r ≡ Ok tt →
    ((l : List ℕ) (end : ℕ) → parse_from (n * 44) s at ≡ numbers l end → state_of table' ≡ loaded_state p clock n l) →
    Loads (load_of true p clock s) r table table'
load_made p clock s table table' k n at r g q o f =
    let h = (fine p clock s k n at g q).0 in
    let d = h.fits in
    let e = h.gives d.l d.end d.whole in
    record {
      answer = o ∙ sym (ap answer_of e);
      state = f d.l d.end d.whole ∙ sym (ap (λ (o : Loading). Rattle.saves.specs.Load.left_by o (state_of table)) e);
      kept = λ t. let z : ◌≡◌ {A = ℕ} 0 1 = cc in absurd (omega arith);
    }

pub fine_parts :
    (p : Params) (clock : ℕ) (s : List ℕ) (k : Result (ℕ × ℕ) LoadError) (n at : ℕ) → Checks p clock s (load_of true p clock s) k → k ≡ Ok (n, at) →
    (n ≤ slot_count) × ((clock ≤ max_time) × ((first_broken p ≡ None) × Loadable s at n))
fine_parts p clock s k n at g q =
    let h = fine p clock s k n at g q in
    (h.0.few, (h.1.early, (h.1.passes, h.0.fits)))

-- the fresh router of the parameters has their codes
pub fresh_coded : (p : Params) (codes : List ℕ) → Coded p codes → (fresh_state p).codes ≡ codes
unfolding fresh_state
fresh_coded p codes c = sym c.same
