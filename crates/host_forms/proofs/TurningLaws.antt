-- From what the turning of a table promises to what a host gets: the answer as one number; and there and back again.
-- Assumes nothing.
use Rattle.std.proofs.Common.{Result}
use Rattle.forms.specs.declared.TurnError.{TurnError}
use Prim.Native.Nat.{ℕ}
use mathlib.Core.Path.{◌≡◌, refl, sym, ap, ◌∙◌}
use mathlib.Core.Bool.{Bool, true, false}
use mathlib.Core.List.{List}
use native.Mathlib.Omega.{arith}
use Rattle.answers.specs.Answers.{packed}
use Rattle.layout.specs.View.{state_of}
use Rattle.rows.specs.View.{state_of_rows}
use Rattle.rows.proofs.Whole.{determined}
use Rattle.validity.specs.Valid.{valid}
use Rattle.forms.specs.Turns.{turned_of, turned_number, FromRows, ToRows}
use Rattle.forms.proofs.CellLaws.{same_cells}
use Rattle.host_forms.specs.Turning.{turned_code, HostsFromOld, HostsToOld, OldReturns, TodayReturns}

pub hosts_from_old :
    (old table table' : List ℕ) (t : Result (Unit {0}) TurnError) (r : ℕ) →
    FromRows t old table table' →
    r ≡ packed (turned_number t) 0 →
    HostsFromOld old r table table'
hosts_from_old old table table' t r f e =
    record {
      answer = e ∙ ap (λ (x : Result (Unit {0}) TurnError). packed (turned_number x) 0) f.answer;
      state = λ v. f.state (f.answer ∙ ap turned_of v);
      kept = λ v. f.kept (f.answer ∙ ap turned_of v);
    }

pub hosts_to_old :
    (table old old' : List ℕ) (t : Result (Unit {0}) TurnError) (r : ℕ) →
    ToRows t table old old' →
    r ≡ packed (turned_number t) 0 →
    HostsToOld table r old old'
hosts_to_old table old old' t r f e =
    record {
      answer = e ∙ ap (λ (x : Result (Unit {0}) TurnError). packed (turned_number x) 0) f.answer;
      state = λ v. f.state (f.answer ∙ ap turned_of v);
      kept = λ v. f.kept (f.answer ∙ ap turned_of v);
    }

-- 0 is answered for a router's tables alone
zero_router : (b : Bool) → turned_code b ≡ 0 → b ≡ true
zero_router true e = refl
zero_router false e = absurd (omega arith)

pub old_returns : OldReturns
old_returns r q old old' table table' out l l' f t z =
    let v = zero_router (valid (state_of_rows old)) (sym f.answer ∙ z) in
    let a = f.state v in
    let w : valid (state_of table') ≡ true = ap valid a ∙ v in
    (t.answer ∙ ap turned_code w, determined old' old l' l (t.state w ∙ a))

pub today_returns : TodayReturns
today_returns r q old old' table table' out t f z =
    let v = zero_router (valid (state_of table)) (sym t.answer ∙ z) in
    let a = t.state v in
    let w : valid (state_of_rows old') ≡ true = ap valid a ∙ v in
    let e = f.state w ∙ a in
    (f.answer ∙ ap turned_code w, e, same_cells table' table e)
