-- The groups of a connect, as the code tests them and makes them a record's.
-- Assumes nothing.
use Rattle.std.proofs.Common.{Result, Ok}
use Rattle.rules.specs.declared.Answer.{Answer}
use Prim.Native.Nat.{ℕ, ◌+◌, ◌-◌, ◌<◌, ◌≤◌}
use native.Mathlib.Omega.{arith}
use mathlib.Core.Path.{◌≡◌, refl, sym, ◌∙◌}
use mathlib.Core.Bool.{Bool, true, false, ◌&&◌}
use mathlib.Core.List.{List}
use lib.Dec.{leb, ltb}
use lib.ListN.{length, get_or}
use borrow.Author.Tests.{eq-eqb, ne_eqb, lt-ltb, le-ltb}
use Rattle.index.specs.Index.{every}
use Rattle.index.proofs.Index.{both}
use Rattle.validity.specs.Valid.{max_id}
use Rattle.layout.specs.View.{state_of}
use Rattle.rules.specs.Calls.{group_ok, groups_ok, group_at}
use Rattle.rules.specs.Step.{gate_of}
use Rattle.rules.proofs.GroupLaws.{group_most}
use Rattle.gate.proofs.CallLaws.{gate_fine}

and_true : (a : Bool) → a ≡ a && true
and_true true = refl
and_true false = refl

module _ (groups : List ℕ) where
  -- one group: the first, or a later one
  pub group_first : (k : ℕ) → k ≡ 0 → leb (get_or groups k 0) max_id ≡ group_ok groups k
  group_first k e = rw (eq-eqb k 0 e) (and_true (leb (get_or groups k 0) max_id))

  pub group_later :
      (k : ℕ) → (k ≡ 0 → ⊥) → leb (get_or groups k 0) max_id && ltb (get_or groups (k - 1) 0) (get_or groups k 0) ≡ group_ok groups k
  group_later k e = rw (ne_eqb k 0 e) refl

  -- all: how many, then each
  pub count_fails : leb 1 (length groups) && leb (length groups) 4 ≡ false → false ≡ groups_ok groups
  unfolding groups_ok
  count_fails e = rw e refl

  pub each_are :
      (r : Bool) →
      leb 1 (length groups) && leb (length groups) 4 ≡ true →
      r ≡ every (length groups) (group_ok groups) →
      r ≡ groups_ok groups
  unfolding groups_ok
  each_are r e p = rw e p

  -- as a record holds them
  pub at_fits : (k : ℕ) → groups_ok groups ≡ true → k < length groups → get_or groups k 0 + 1 ≤ max_id + 1
  at_fits k ok h = let m = group_most groups ok k h in omega arith

  pub at_held : (k : ℕ) → k < length groups → get_or groups k 0 + 1 ≡ group_at groups k
  at_held k h = rw (lt-ltb k (length groups) h) refl

  pub at_none : (k : ℕ) → length groups ≤ k → 0 ≡ group_at groups k
  at_none k h = rw (le-ltb k (length groups) h) refl

-- behind the gate: what is asked of the groups stands between the id and the flags
pub gate_groups :
    (table : List ℕ) (a b d f : Bool) (room time : ℕ) (g : Result (Unit {0}) Answer) →
    g ≡ gate_of (state_of table) (a && (b && (d && f))) room time →
    g ≡ Ok tt →
    (groups : List ℕ) →
    d ≡ groups_ok groups →
    groups_ok groups ≡ true
gate_groups table a b d f room time g eg e groups ed =
    sym ed ∙ (both d f (both b (d && f) (gate_fine table a (b && (d && f)) room time g eg e)).1).0
