-- Each form turned into the other and back; and the calls, from their promise alone.
-- Assumes nothing.
use Rattle.std.proofs.Common.{Result, Ok, Err}
use Rattle.forms.specs.declared.TurnError.{TurnError}
use Rattle.forms.specs.declared.TurnError.TheVariants.{NotRouter}
use Prim.Native.Nat.{ℕ}
use mathlib.Core.Path.{◌≡◌, refl, sym, ap, ◌∙◌}
use mathlib.Core.Bool.{Bool, true, false, not}
use mathlib.Core.List.{List}
use native.Mathlib.Omega.{arith}
use lib.ListN.{length}
use Rattle.records.specs.Records.{State}
use Rattle.effects.specs.Actions.{numbers_of}
use lib.Seq.{sets}
use Rattle.index.proofs.Flags.{failed, passed}
use Rattle.layout.specs.View.{state_of}
use Rattle.rows.specs.View.{state_of_rows}
use Rattle.layout.proofs.StateLaws.{sized_of}
use Rattle.rows.proofs.Whole.{determined, back, cells_length}
use Rattle.validity.specs.Valid.{valid}
use Rattle.rules.specs.Step.{step}
use Rattle.forms.specs.Turns.{turned_of, FromRows, ToRows, RowsReturn, TableReturns}
use Rattle.forms.specs.Same.{SameCalls, HasRows, SameBetween}
use Rattle.rules.proofs.Keeps.{keeps}
use Rattle.forms.proofs.CellLaws.{same_cells}

-- ---- the ends of the two functions
other : (P : Type 0) → ◌≡◌ {A = Result (Unit {0}) TurnError} (Ok tt) (Err NotRouter) → P
other P e = let z : ◌≡◌ {A = ℕ} 0 1 = cc in absurd (omega arith)

module _ (rows table : List ℕ) (b : Bool) (e : b ≡ valid (state_of_rows rows)) where
  pub from_none : not b ≡ true → FromRows (Err NotRouter) rows table table
  from_none t =
      record { answer = rw (failed e t); state = λ z. other (state_of table ≡ state_of_rows rows) (sym z); kept = λ z. refl }

  pub from_done : (table' : List ℕ) → not b ≡ false → state_of table' ≡ state_of_rows rows → FromRows (Ok tt) rows table table'
  from_done table' t s = record { answer = rw (passed e t); state = λ z. s; kept = λ z. other (table' ≡ table) z }

module _ (table rows : List ℕ) (b : Bool) (e : b ≡ valid (state_of table)) where
  pub to_none : not b ≡ true → ToRows (Err NotRouter) table rows rows
  to_none t =
      record { answer = rw (failed e t); state = λ z. other (state_of_rows rows ≡ state_of table) (sym z); kept = λ z. refl }

  pub to_done : (rows' : List ℕ) → not b ≡ false → state_of_rows rows' ≡ state_of table → ToRows (Ok tt) table rows rows'
  to_done rows' t s = record { answer = rw (passed e t); state = λ z. s; kept = λ z. other (rows' ≡ rows) z }

-- ---- there and back
pub rows_return : RowsReturn
rows_return r q rows table table' out rows' l l' v f t =
    let a = f.state (f.answer ∙ ap turned_of v) in
    let b = t.state (t.answer ∙ ap turned_of (ap valid a ∙ v)) in
    determined rows' rows l' l (b ∙ a)

pub table_returns : TableReturns
table_returns r q table rows rows' out table' v t f =
    let a = t.state (t.answer ∙ ap turned_of v) in
    let b = f.state (f.answer ∙ ap turned_of (ap valid a ∙ v)) in
    (b ∙ a, same_cells table' table (b ∙ a))

-- ---- the calls
pub same_calls : SameCalls
same_calls c r table table' rows rows' list list' l l' e e' f =
    record {
      answer = f.leaves.answer ∙ ap (λ (u : State). (step u c (length list)).answer) (sym e);
      state = e' ∙ f.leaves.state ∙ ap (λ (u : State). (step u c (length list)).state) (sym e);
      kept = λ h. determined rows' rows l' l (e' ∙ ap state_of (f.leaves.kept h) ∙ sym e);
      actions = f.actions ∙ ap (λ (u : State). sets list 0 (numbers_of (step u c (length list)).actions)) (sym e);
    }

pub has_rows : HasRows
has_rows table = (cells_length (state_of table) (sized_of table), back (state_of table) (sized_of table))

pub same_between : SameBetween
same_between c r p q rows rows' table table₁ table₂ out list list' l l' v f g t =
    let a = f.state (f.answer ∙ ap turned_of v) in
    let k = keeps (state_of table₁) c (length list) (sized_of table₁) (ap valid a ∙ v) in
    let b = t.state (t.answer ∙ ap turned_of (ap valid g.leaves.state ∙ k)) in
    same_calls c r table₁ table₂ rows rows' list list' l l' (sym a) b g
