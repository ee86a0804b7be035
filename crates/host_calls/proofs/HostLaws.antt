-- From what the crates below promise to what a host gets: the answer as one number.
-- Assumes nothing.
use Rattle.std.proofs.Common.{Option, Some, None, Result}
use Rattle.lookup.specs.declared.FreshError.{FreshError}
use Rattle.std.specs.Int.{from_bool}
use Rattle.index.proofs.Kit.{ℕ, ◌≤◌, ◌≡◌, refl, sym, ap, ◌∙◌, Bool, true, false, one, arith}
use mathlib.Core.List.{List}
use lib.ListN.{length}
use lib.IntN.{ℤ}
use Rattle.layout.specs.View.{state_of}
use Rattle.params.specs.declared.Edition.{Edition}
use Rattle.params.specs.declared.Params.{Params}
use Rattle.params.specs.Editions.{edition_of}
use Rattle.params.specs.Check.{first_broken, is_nothing}
use Rattle.params.proofs.CheckLaws.{broken_most}
use Rattle.lookup.specs.Fresh.{made_of, made_number, made_value, Makes}
use Rattle.rules.specs.declared.Answer.{Answer}
use Rattle.rules.specs.Reply.{refuses}
use Rattle.rules.specs.Calls.{Call}
use Rattle.rules.specs.Step.{step}
use Rattle.rules.specs.Promise.{Follows}
use Rattle.answers.specs.Answers.{packed, answer_code, why_or}
use Rattle.host_calls.specs.Host.{Hosts, HostsFresh}

-- ---- the thirteen calls
module _ (c : Call) {a : Answer} {table table' list list' : List ℕ} (f : Follows c a table table' list list') where
  pub hosts : (r : ℕ) → r ≡ answer_code a → Hosts c r table table' list list'
  hosts r e =
      record {
        answer = e ∙ ap answer_code f.leaves.answer;
        state = f.leaves.state;
        kept = λ q. f.leaves.kept (ap refuses f.leaves.answer ∙ q);
        actions = f.actions;
      }

  pub scored : (l l' : List ℤ) → l' ≡ why_or a l → l' ≡ why_or (step (state_of table) c (length list)).answer l
  scored l l' e = e ∙ ap (λ (b : Answer). why_or b l) f.leaves.answer

-- ---- a fresh router
module _ (p : Params) (m v : Result (Unit {0}) FreshError) (table table' : List ℕ) (k : Makes p m table table') (t : m ≡ v) where
  made_is : v ≡ made_of (first_broken p)
  made_is = sym t ∙ k.answer

  pub fresh_fits : made_value v ≤ 4294967295
  fresh_fits = omega (arith, ap made_value made_is, small (first_broken p) refl)
    where
      small : (f : Option ℕ) → first_broken p ≡ f → made_value (made_of f) ≤ 207
      small (Some i) e = broken_most p i e
      small None e = omega arith

  pub hosts_fresh : (r : ℕ) → r ≡ packed (made_number v) (made_value v) → HostsFresh (Some p.edition) p.numbers r table table'
  hosts_fresh r q =
      record {
        answer = q ∙ ap (λ (x : Result (Unit {0}) FreshError). packed (made_number x) (made_value x)) made_is;
        state = k.state;
        kept = λ f. stood (first_broken p) f refl;
      }
    where
      stood : (f : Option ℕ) → is_nothing f ≡ false → first_broken p ≡ f → table' ≡ table
      stood (Some i) h e = k.kept i (k.answer ∙ ap made_of e)
      stood None h e = let z : ◌≡◌ {A = ℕ} 0 1 = cc in absurd (omega arith)

-- of the edition that a number told, or of none
module _ (n : ℕ) (m : Option Edition) (e : m ≡ edition_of n) (xs : List ℤ) where
  pub fresh_known : (d : Edition) (r : ℕ) (table table' : List ℕ) → m ≡ Some d → HostsFresh (Some d) xs r table table' →
      HostsFresh (edition_of n) xs r table table'
  fresh_known d r table table' t h = rw (← e, t) h

  pub fresh_unknown : (r : ℕ) (table : List ℕ) → m ≡ None → r ≡ packed 2 0 → HostsFresh (edition_of n) xs r table table
  fresh_unknown r table t q = rw (← e, t) (record { answer = q; state = refl; kept = λ f. refl })

-- ---- test 12, as a number
pub told_flag : (a b : Bool) (n : ℕ) → a ≡ b → n ≡ from_bool a → n ≡ one b
told_flag true b n e h = h ∙ ap one e
told_flag false b n e h = h ∙ ap one e
