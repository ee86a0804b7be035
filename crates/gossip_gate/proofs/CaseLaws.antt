-- The number of the tests 12, 2, 8 and 1, case by case, in the form in which a search finds it.
-- Assumes nothing.
use Rattle.index.proofs.Kit.{ℕ, ◌≤◌, ◌<◌, ◌≡◌, refl, sym, ap, ◌∙◌, Bool, true, false, arith}
use mathlib.Core.Bool.{cond, ◌&&◌}
use mathlib.Core.List.{List}
use lib.Dec.{leb}
use borrow.Author.Tests.{le-leb, lt-leb}
use Rattle.layout.specs.View.{state_of}
use Rattle.validity.specs.Valid.{valid}
use Rattle.gossip.specs.Valid.{gossip_ok, valid_all}
use Rattle.gossip_table.specs.View.{gossip_of, extended_of}
use Rattle.gossip_table.specs.Fine.{Both, Beside}
use Rattle.gossip_gate.specs.Promise.{gate_all}

module _ (table gossip : List ℕ) (fine fits : Bool) (time : ℕ) where
  abbrev answer : ℕ
  answer = gate_all (extended_of table gossip) fine fits time

  by : (a b : Bool) → valid (state_of table) ≡ a → gossip_ok (state_of table) (gossip_of gossip) ≡ b →
      answer ≡ cond (a && b) (cond fine (cond fits (cond (leb (state_of table).clock time) 0 1) 8) 2) 12
  unfolding gate_all valid_all
  by a b e f = rw (e, f)

  pub gate_base : valid (state_of table) ≡ false → 12 ≡ answer
  gate_base e = sym (by false _ e refl)

  pub gate_beside : Both table gossip → valid (state_of table) ≡ true → Beside table gossip
  gate_beside h e = record { size = h.size; router = e; sizes = h.sizes }

  module _ (v : valid (state_of table) ≡ true) where
    pub gate_array : gossip_ok (state_of table) (gossip_of gossip) ≡ false → 12 ≡ answer
    gate_array e = sym (by true false v e)

    module _ (g : gossip_ok (state_of table) (gossip_of gossip) ≡ true) where
      pub gate_range : fine ≡ false → 2 ≡ answer
      gate_range e = sym (by true true v g ∙ ap (λ (k : Bool). cond k (cond fits (cond (leb (state_of table).clock time) 0 1) 8) 2) e)

      pub gate_short : fine ≡ true → fits ≡ false → 8 ≡ answer
      gate_short e f =
          sym (by true true v g
          ∙ ap (λ (k : Bool). cond k (cond fits (cond (leb (state_of table).clock time) 0 1) 8) 2) e
          ∙ ap (λ (k : Bool). cond k (cond (leb (state_of table).clock time) 0 1) 8) f)

      module _ (e : fine ≡ true) (f : fits ≡ true) where
        last : answer ≡ cond (leb (state_of table).clock time) 0 1
        last =
            by true true v g
            ∙ ap (λ (k : Bool). cond k (cond fits (cond (leb (state_of table).clock time) 0 1) 8) 2) e
            ∙ ap (λ (k : Bool). cond k (cond (leb (state_of table).clock time) 0 1) 8) f

        pub gate_early : (clock : ℕ) → clock ≡ (state_of table).clock → time < clock → 1 ≡ answer
        gate_early clock q h = sym (last ∙ ap (λ (k : Bool). cond k 0 1) (lt-leb (state_of table).clock time (omega (arith, q, h))))

        pub gate_open : (clock : ℕ) → clock ≡ (state_of table).clock → clock ≤ time → 0 ≡ answer
        gate_open clock q h = sym (last ∙ ap (λ (k : Bool). cond k 0 1) (le-leb (state_of table).clock time (omega (arith, q, h))))

pub ruleset gate-cases = (gate_base, gate_beside, gate_array, gate_range, gate_short, gate_early, gate_open)
