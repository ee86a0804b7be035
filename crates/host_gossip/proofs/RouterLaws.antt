-- From what making a router with its array promises to what a host gets: the answer as one number.
-- Assumes nothing.
use Rattle.std.proofs.Common.{Result}
use Rattle.saves.specs.declared.LoadError.{LoadError}
use Rattle.gossip_old.specs.declared.MakeError.{MakeError}
use Rattle.std.proofs.Common.{Option, Some, None}
use Rattle.index.proofs.Kit.{ℕ, ◌≤◌, ◌≡◌, refl, sym, ap, ◌∙◌, by_test, arith}
use mathlib.Core.List.{List}
use lib.IntN.{ℤ}
use Rattle.params.specs.declared.Edition.{Edition}
use Rattle.params.specs.declared.Params.{Params}
use Rattle.params.specs.Editions.{edition_of}
use Rattle.params.specs.Check.{first_broken}
use Rattle.params.proofs.CheckLaws.{broken_most}
use Rattle.saves.specs.Load.{load_of, answer_of, refuses, loaded_number, loaded_value}
use Rattle.host_saves.proofs.LoadPlaces.{farthest, load_most}
use Rattle.answers.specs.Answers.{packed}
use Rattle.gossip.specs.Notes.{Setup}
use Rattle.gossip.specs.Valid.{setup_ok}
use Rattle.gossip_table.specs.View.{setup_of, extended_of}
use Rattle.gossip_old.specs.Made.{sheeted, making_of, made_by, is_made, making_number, making_value, MakesAll, LoadsAll}
use Rattle.host_gossip.specs.Routers.{OrdinaryPasses, making_code, HostsMade, HostsLoadAll}

pub ordinary_passes : OrdinaryPasses
unfolding setup_ok setup_of
ordinary_passes = refl

-- ---- a fresh router
sheeted_most : (p : Params) (f : Option ℕ) → first_broken p ≡ f → making_value (sheeted f) ≤ 207
sheeted_most p (Some i) e = broken_most p i e
sheeted_most p None e = omega arith

making_most : (q : Setup) (p : Params) → making_value (making_of q p) ≤ 207
unfolding making_of
making_most q p =
    by_test (making_value (making_of q p) ≤ 207) (setup_ok q)
    (λ t. rw t (sheeted_most p (first_broken p) refl))
    (λ t. rw t (omega arith))

module _
    (q : Setup)
    (p : Params)
    (m v : Result (Unit {0}) MakeError)
    (table table' gossip gossip' : List ℕ)
    (k : MakesAll q p m table table' gossip gossip')
    (t : m ≡ v)
  where
    making_is : v ≡ making_of q p
    making_is = sym t ∙ k.answer

    pub making_fits : making_value v ≤ 4294967295
    making_fits = omega (arith, ap making_value making_is, making_most q p)

    pub hosts_made : (r : ℕ) → r ≡ packed (making_number v) (making_value v) →
        HostsMade q (Some p.edition) p.numbers r table table' gossip gossip'
    hosts_made r e =
        record {
          answer = e ∙ ap making_code making_is;
          state = k.state ∙ ap (λ (x : Result (Unit {0}) MakeError). made_by x q p (extended_of table gossip)) k.answer;
          kept = λ f. k.kept (ap is_made k.answer ∙ f);
        }

-- of the edition that a number told, or of none
module _ (n : ℕ) (m : Option Edition) (e : m ≡ edition_of n) (q : Setup) (xs : List ℤ) where
  pub made_known : (d : Edition) (r : ℕ) (table table' gossip gossip' : List ℕ) → m ≡ Some d →
      HostsMade q (Some d) xs r table table' gossip gossip' → HostsMade q (edition_of n) xs r table table' gossip gossip'
  made_known d r table table' gossip gossip' t h = rw (← e, t) h

  pub made_unknown : (r : ℕ) (table gossip : List ℕ) → m ≡ None → r ≡ packed 2 0 →
      HostsMade q (edition_of n) xs r table table gossip gossip
  made_unknown r table gossip t h = rw (← e, t) (record { answer = h; state = refl; kept = λ f. (refl, refl) })

-- ---- a router of a save
load_all_most : (q : Setup) (p : Params) (clock : ℕ) (s : List ℕ) → loaded_value (answer_of (load_of (setup_ok q) p clock s)) ≤ farthest
unfolding load_of
load_all_most q p clock s =
    by_test (loaded_value (answer_of (load_of (setup_ok q) p clock s)) ≤ farthest) (setup_ok q)
    (λ t. rw t (load_most p clock s))
    (λ t. rw t (omega arith))

module _
    (q : Setup)
    (p : Params)
    (clock : ℕ)
    (s table table' gossip gossip' : List ℕ)
    (w v : Result (Unit {0}) LoadError)
    (k : LoadsAll (load_of (setup_ok q) p clock s) q w table table' gossip gossip')
    (t : w ≡ v)
  where
    loaded_is : v ≡ answer_of (load_of (setup_ok q) p clock s)
    loaded_is = sym t ∙ k.answer

    pub load_fits : loaded_value v ≤ 4294967295
    load_fits = omega (arith, ap loaded_value loaded_is, load_all_most q p clock s)

    pub hosts_load_all : (r : ℕ) → r ≡ packed (loaded_number v) (loaded_value v) →
        HostsLoadAll q (Some p.edition) p.numbers clock s r table table' gossip gossip'
    hosts_load_all r e =
        record {
          answer = e ∙ ap (λ (x : Result (Unit {0}) LoadError). packed (loaded_number x) (loaded_value x)) loaded_is;
          state = k.state;
          kept = λ f. k.kept (ap refuses k.answer ∙ f);
        }

module _ (n : ℕ) (m : Option Edition) (e : m ≡ edition_of n) (q : Setup) (xs : List ℤ) (clock : ℕ) (s : List ℕ) where
  pub load_known : (d : Edition) (r : ℕ) (table table' gossip gossip' : List ℕ) → m ≡ Some d →
      HostsLoadAll q (Some d) xs clock s r table table' gossip gossip' →
      HostsLoadAll q (edition_of n) xs clock s r table table' gossip gossip'
  load_known d r table table' gossip gossip' t h = rw (← e, t) h

  pub load_unknown : (r : ℕ) (table gossip : List ℕ) → m ≡ None → r ≡ packed 2 0 →
      HostsLoadAll q (edition_of n) xs clock s r table table gossip gossip
  load_unknown r table gossip t h = rw (← e, t) (record { answer = h; state = refl; kept = λ f. (refl, refl) })
