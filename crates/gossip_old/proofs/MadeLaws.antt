-- Making a router with an array: from what making the table promises, and the array made behind it.
-- Assumes nothing.
use Rattle.saves.specs.declared.LoadError.{LoadError}
use Rattle.saves.specs.declared.LoadError.TheVariants.{OutOfRange as LoadedOutOfRange, Broken as LoadedBroken, Malformed as LoadedMalformed}
use Rattle.gossip_old.specs.declared.MakeError.TheVariants.{OutOfRange, Broken}
use Rattle.std.proofs.Common.{Option, Some, None, Result, Ok, Err}
use Rattle.lookup.specs.declared.FreshError.{FreshError}
use Rattle.lookup.specs.declared.FreshError.TheVariants.{Broken as MadeBroken}
use Rattle.index.proofs.Kit.{ℕ, ◌≡◌, refl, sym, ap, ◌∙◌, Bool, true, false, arith}
use mathlib.Core.Bool.{cond, false≢true}
use mathlib.Core.List.{List}
use Rattle.records.specs.Records.{State}
use Rattle.layout.specs.View.{state_of}
use Rattle.params.specs.declared.Params.{Params}
use Rattle.params.specs.Check.{first_broken}
use Rattle.lookup.specs.Fresh.{made_of, left_by as fresh_left, Makes}
use Rattle.saves.specs.Load.{Loading, loaded, out_of_range, broken, bad, load_of, answer_of, left_by, refuses, Loads}
use Rattle.gossip.specs.Notes.{Setup, Gossip, Extended, fresh_gossip}
use Rattle.gossip.specs.Valid.{setup_ok}
use Rattle.gossip_table.specs.View.{gossip_of, extended_of}
use Rattle.gossip_old.specs.Made.{of_fresh, sheeted, making_of, MakesAll, loaded_by, LoadsAll}

-- both are made
abbrev pair : State → Gossip → Extended
pair st g = record { base = st; gossip = g }

both_are : {s st : State} {g h : Gossip} → s ≡ st → g ≡ h → pair s g ≡ pair st h
both_are e f = cc

module _ (p : Setup) (all : Params) (table gossip : List ℕ) where
  pub fresh_range : setup_ok p ≡ false → MakesAll p all (Err OutOfRange) table table gossip gossip
  unfolding making_of
  fresh_range e =
      record {
        answer = sym (ap (λ (b : Bool). cond b (sheeted (first_broken all)) (Err OutOfRange)) e);
        state = refl;
        kept = λ z. (refl, refl);
      }

  making : setup_ok p ≡ true → making_of p all ≡ sheeted (first_broken all)
  unfolding making_of
  making e = ap (λ (b : Bool). cond b (sheeted (first_broken all)) (Err OutOfRange)) e

  module _ (table' : List ℕ) (r : Result (Unit {0}) FreshError) (fine : setup_ok p ≡ true) (m : Makes all r table table') where
    fresh_broken : (i : ℕ) → r ≡ Err (MadeBroken i) → MakesAll p all (Err (Broken i)) table table' gossip gossip
    fresh_broken i e = go (first_broken all) refl
      where
        go : (f : Option ℕ) → first_broken all ≡ f → MakesAll p all (Err (Broken i)) table table' gossip gossip
        go (Some k) z =
            let a : Err (MadeBroken i) ≡ Err (MadeBroken k) = sym e ∙ m.answer ∙ ap made_of z in
            let n : i ≡ k = cc in
            record {
              answer = ap (λ (j : ℕ). Err (Broken j)) n ∙ sym (making fine ∙ ap sheeted z);
              state = both_are (ap state_of (m.kept i e)) refl;
              kept = λ w. (m.kept i e, refl);
            }
        go None z =
            let a : Err (MadeBroken i) ≡ (Ok tt) = sym e ∙ m.answer ∙ ap made_of z in
            let n : ◌≡◌ {A = ℕ} 0 1 = cc in
            absurd (omega arith)

    -- what broke the table is handed on
    pub fresh_fails :
        (e : FreshError) → r ≡ Err e → MakesAll p all (Err (of_fresh e)) table table' gossip gossip
    fresh_fails (MadeBroken i) er = fresh_broken i er

    pub fresh_done :
        (gossip' : List ℕ) → r ≡ Ok tt → gossip_of gossip' ≡ fresh_gossip p → MakesAll p all (Ok tt) table table' gossip gossip'
    fresh_done gossip' e g = go (first_broken all) refl
      where
        go : (f : Option ℕ) → first_broken all ≡ f → MakesAll p all (Ok tt) table table' gossip gossip'
        go (Some k) z =
            let a : Ok tt ≡ Err (MadeBroken k) = sym e ∙ m.answer ∙ ap made_of z in
            let n : ◌≡◌ {A = ℕ} 0 1 = cc in
            absurd (omega arith)
        go None z =
            record {
              answer = sym (making fine ∙ ap sheeted z);
              state = both_are (m.state ∙ ap (λ (f : Option ℕ). fresh_left f all (state_of table)) z) g;
              kept = λ w. absurd (false≢true (sym w));
            }

-- ---- a load
module _ (p : Setup) (all : Params) (clock : ℕ) (s : List ℕ) (table gossip : List ℕ) where
  abbrev o : Loading
  o = load_of (setup_ok p) all clock s

  pub load_range : setup_ok p ≡ false → LoadsAll o p (Err LoadedOutOfRange) table table gossip gossip
  unfolding load_of
  load_range e = rw e (record { answer = refl; state = refl; kept = λ z. (refl, refl) })

  module _ (table' : List ℕ) (r : Result (Unit {0}) LoadError) (fine : setup_ok p ≡ true) (m : Loads (load_of true all clock s) r table table') where
    same : load_of true all clock s ≡ o
    same = ap (λ (b : Bool). load_of b all clock s) (sym fine)

    stands : (q : Loading) → refuses (answer_of q) ≡ true → loaded_by q p (extended_of table gossip) ≡ extended_of table gossip
    stands (loaded st) e = absurd (false≢true e)
    stands out_of_range e = refl
    stands (broken i) e = refl
    stands (bad i) e = refl

    left : (q : Loading) → refuses (answer_of q) ≡ false → (g : Gossip) → g ≡ fresh_gossip p →
        pair (left_by q (state_of table)) g ≡ loaded_by q p (extended_of table gossip)
    left (loaded st) e g f = both_are refl f
    left out_of_range e g f = absurd (false≢true (sym e))
    left (broken i) e g f = absurd (false≢true (sym e))
    left (bad i) e g f = absurd (false≢true (sym e))

    -- a refusal of the table's load is one of both
    load_refused : (a : Result (Unit {0}) LoadError) → r ≡ a → refuses a ≡ true → LoadsAll o p a table table' gossip gossip
    load_refused a e f =
        let t : table' ≡ table = m.kept (ap refuses e ∙ f) in
        let w : a ≡ answer_of (load_of true all clock s) = sym e ∙ m.answer in
        rw (sym same)
        (record {
          answer = w;
          state = both_are (ap state_of t) refl ∙ sym (stands (load_of true all clock s) (sym (ap refuses w) ∙ f));
          kept = λ z. (t, refl);
        })

    pub load_fails : (e : LoadError) → r ≡ Err e → LoadsAll o p (Err e) table table' gossip gossip
    load_fails e er = load_refused (Err e) er (refused e)
      where
        refused : (e : LoadError) → refuses (Err e) ≡ true
        refused LoadedOutOfRange = refl
        refused (LoadedBroken i) = refl
        refused (LoadedMalformed i) = refl

    pub load_done :
        (gossip' : List ℕ) → r ≡ Ok tt → gossip_of gossip' ≡ fresh_gossip p → LoadsAll o p (Ok tt) table table' gossip gossip'
    load_done gossip' e g =
        let w : Ok tt ≡ answer_of (load_of true all clock s) = sym e ∙ m.answer in
        rw (sym same)
        (record {
          answer = w;
          state = both_are m.state refl ∙ left (load_of true all clock s) (sym (ap refuses w)) (gossip_of gossip') g;
          kept = λ z. absurd (false≢true z);
        })
