-- The second pass of a load, number by number.
-- Assumes nothing.
use Rattle.std.proofs.Common.{Option, Some, None}
use Prim.Native.Nat.{ℕ, ◌+◌, ◌*◌, ◌-◌, ◌/◌, ◌%◌, ◌<◌, ◌≤◌}
use native.Mathlib.Omega.{arith}
use native.Mathlib.Numerals.{add-one}
use mathlib.Core.Path.{◌≡◌, refl, sym, ap, ◌∙◌}
use mathlib.Core.Bool.{true, false, cond}
use mathlib.Core.List.{List}
use borrow.Author.Tests.{eq-eqb, ne_eqb, eqb-true, eqb-false, lt-ltb, le-ltb}
use lib.Dec.{eqb}
use lib.ListN.{get_or, take}
use Rattle.index.specs.Index.{first}
use Rattle.index.proofs.Index.{first_none, first_more, first_done, first_hit}
use Rattle.index.proofs.Flags.{by_test}
use Rattle.varint.specs.Groups.{read_at}
use Rattle.saves.specs.Load.{Parse, numbers, malformed, parse_from, place_of, prior, ascends, outside}
use Rattle.save_load.specs.Judge.{is_read, judge_of, outside_now}
use Rattle.saves.proofs.Parsing.{top, Next, next_is}

-- the id that was read last before number i
abbrev last_at : List ℕ → ℕ → ℕ
last_at l i = cond (eqb i 0) 0 (get_or l ((i - 1) / 44 * 44) 0)

-- i numbers were read and are inside, and number i stands at `place`
pub record Going (most s : List ℕ) (at n i place last : ℕ) : Type 0 where
  pub l : List ℕ
  pub end : ℕ
  pub whole : parse_from n s at ≡ numbers l end
  pub low : i ≤ n
  pub front : parse_from i s at ≡ numbers (take i l) place
  pub none : first i (outside most l) ≡ None
  pub id : last ≡ last_at l i

pub going_none : (most s : List ℕ) (at n : ℕ) → is_read (parse_from n s at) ≡ true → Going most s at n 0 at 0
unfolding parse_from
going_none most s at n e = go (parse_from n s at) refl e
  where
    go : (p : Parse) → parse_from n s at ≡ p → is_read p ≡ true → Going most s at n 0 at 0
    go (malformed p) f g = let z : ◌≡◌ {A = ℕ} 0 1 = cc in absurd (omega arith)
    go (numbers l end) f g =
        record {
          l = l;
          end = end;
          whole = f;
          low = omega arith;
          front = start;
          none = first_none (outside most l);
          id = refl;
        }
      where
        start : parse_from 0 s at ≡ numbers (take 0 l) at
        start = refl

module _ (most s : List ℕ) (at n i place last : ℕ) (g : Going most s at n i place last) where
  -- the end
  pub going_done : i ≡ n → None ≡ judge_of most s at n (parse_from n s at)
  going_done h =
      let f : first n (outside most g.l) ≡ None = first_done (outside most g.l) n i g.low (omega (arith, h)) g.none in
      rw (g.whole, f)

  module _ (below : i < n) (r : Option (ℕ × ℕ)) (e : r ≡ read_at top s place) where
    here : Next n i s at g.l place
    here = next_is n i s at g.l g.end place g.whole below g.front

    -- a number stands there
    pub going_read : r ≡ None → ⊥
    going_read q =
        let f : ◌≡◌ {A = Option (ℕ × ℕ)} (Some (get_or g.l i 0, here.next)) None = sym here.read ∙ sym e ∙ q in
        let z : ◌≡◌ {A = ℕ} 0 1 = cc in
        omega arith

    module _ (v next : ℕ) (q : r ≡ Some (v, next)) where
      same : ◌≡◌ {A = ℕ × ℕ} (get_or g.l i 0, here.next) (v, next)
      same = let f : ◌≡◌ {A = Option (ℕ × ℕ)} (Some (get_or g.l i 0, here.next)) (Some (v, next)) = sym here.read ∙ sym e ∙ q in cc

      value : get_or g.l i 0 ≡ v
      value = ap (λ (w : ℕ × ℕ). w.0) same

      place_is : here.next ≡ next
      place_is = ap (λ (w : ℕ × ℕ). w.1) same

      -- the id to pass
      last_prior : i % 44 ≡ 0 → last ≡ prior g.l i
      unfolding prior
      last_prior z =
          g.id
          ∙ by_test (last_at g.l i ≡ prior g.l i) (eqb i 0)
          (λ t. let y : i ≡ 0 = eqb-true i 0 t in rw (t, lt-ltb i 44 (omega arith)))
          (λ t.
          let y : i ≡ 0 → ⊥ = eqb-false i 0 t in
          let big : 44 ≤ i = omega (arith, y) in
          let m : (i - 1) / 44 * 44 ≡ i - 44 = omega (arith, y) in
          rw (t, le-ltb i 44 big, m))

      told : outside_now (get_or most (i % 44) 0) last (i % 44) v ≡ outside most g.l i
      unfolding outside ascends
      told =
          rw value
          (by_test _ (eqb (i % 44) 0)
          (λ t. rw (t, ← last_prior (eqb-true (i % 44) 0 t)))
          (λ t. rw t))

      pub going_out : outside_now (get_or most (i % 44) 0) last (i % 44) v ≡ true → Some place ≡ judge_of most s at n (parse_from n s at)
      unfolding place_of
      going_out t =
          let f : first n (outside most g.l) ≡ Some i =
          first_hit (outside most g.l) n i below g.none (sym told ∙ t) in
          rw (g.whole, f, g.front)

      -- the id read last, after number i
      last_next : cond (eqb (i % 44) 0) v last ≡ last_at g.l (i + 1)
      last_next =
          let f : eqb (i + 1) 0 ≡ false = ne_eqb (i + 1) 0 (λ y. omega arith) in
          let m : (i + 1 - 1) / 44 * 44 ≡ i / 44 * 44 = omega arith in
          by_test (cond (eqb (i % 44) 0) v last ≡ last_at g.l (i + 1)) (eqb (i % 44) 0)
          (λ t.
          let y : i % 44 ≡ 0 = eqb-true (i % 44) 0 t in
          let k : i / 44 * 44 ≡ i = omega arith in
          rw (t, f, m, k) (sym value))
          (λ t.
          let y : i % 44 ≡ 0 → ⊥ = eqb-false (i % 44) 0 t in
          let x : eqb i 0 ≡ false = ne_eqb i 0 (λ z. y (omega arith)) in
          let k : (i - 1) / 44 * 44 ≡ i / 44 * 44 = omega (arith, y) in
          rw (t, f, m) (g.id ∙ rw (x, k)))

      pub going_more :
          outside_now (get_or most (i % 44) 0) last (i % 44) v ≡ false →
          (last' : ℕ) →
          last' ≡ cond (eqb (i % 44) 0) v last →
          Going most s at n (i + 1) next last'
      going_more t last' el =
          record {
            l = g.l;
            end = g.end;
            whole = g.whole;
            low = omega arith;
            front = rw (add-one i, ← place_is) here.more;
            none = first_more (outside most g.l) i g.none (sym told ∙ t);
            id = el ∙ last_next;
          }

-- the two ends of `id_after`
pub id_here : (last j v : ℕ) → j ≡ 0 → v ≡ cond (eqb j 0) v last
id_here last j v e = rw (eq-eqb j 0 e)

pub id_kept : (last j v : ℕ) → (j ≡ 0 → ⊥) → last ≡ cond (eqb j 0) v last
id_kept last j v n = rw (ne_eqb j 0 n)
