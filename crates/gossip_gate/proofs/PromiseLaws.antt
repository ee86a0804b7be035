-- Whatever a call answers, its promise is one of three: a refusal that changes nothing, an answer that moves the clock alone, an answer 0.
-- Assumes nothing.
use Rattle.index.proofs.Kit.{ℕ, ◌+◌, ◌*◌, ◌≡◌, refl, sym, ap, ◌∙◌, Bool, true, false, arith}
use mathlib.Core.Bool.{cond}
use mathlib.Core.List.{List, []}
use lib.Dec.{leb}
use lib.ListN.{length, set}
use Rattle.records.specs.Records.{set_clock}
use Rattle.layout.specs.View.{clock_at, state_of}
use Rattle.layout.proofs.ViewLaws.{clock_again}
use lib.Seq.{sets}
use Rattle.effects.specs.Actions.{Action, numbers_of}
use Rattle.gossip.specs.Notes.{Gossip, Extended}
use Rattle.gossip.specs.Valid.{valid_all}
use Rattle.gossip.specs.Step.{FullReply, refused_all, ignored_all, done_all, gated}
use Rattle.gossip_table.specs.View.{gossip_of, extended_of}
use Rattle.gossip_gate.specs.Promise.{LeavesAll, GivesAll, gate_all}

-- what `gated` gives where the tests are passed, and where one is not
pub gated_passes :
    (x : Extended) (fine fits : Bool) (time : ℕ) (r : FullReply) → gate_all x fine fits time ≡ 0 → gated x fine fits time r ≡ r
unfolding gated gate_all
gated_passes x fine fits time r e =
    go (valid_all x) fine fits (leb x.base.clock time) e
  where
    go : (a b d f : Bool) → ◌≡◌ {A = ℕ} (cond a (cond b (cond d (cond f 0 1) 8) 2) 12) 0 →
        cond a (cond b (cond d (cond f r (refused_all 1 x)) (refused_all 8 x)) (refused_all 2 x)) (refused_all 12 x) ≡ r
    go true true true true e = refl
    go true true true false e = absurd (omega arith)
    go true true false f e = absurd (omega arith)
    go true false d f e = absurd (omega arith)
    go false b d f e = absurd (omega arith)

pub gated_refuses :
    (x : Extended) (fine fits : Bool) (time : ℕ) (r : FullReply) (n : ℕ) →
    gate_all x fine fits time ≡ n →
    (n ≡ 0 → ⊥) →
    gated x fine fits time r ≡ refused_all n x
unfolding gated gate_all
gated_refuses x fine fits time r n e ne =
    go (valid_all x) fine fits (leb x.base.clock time) e
  where
    go : (a b d f : Bool) → ◌≡◌ {A = ℕ} (cond a (cond b (cond d (cond f 0 1) 8) 2) 12) n →
        cond a (cond b (cond d (cond f r (refused_all 1 x)) (refused_all 8 x)) (refused_all 2 x)) (refused_all 12 x) ≡ refused_all n x
    go true true true true e = absurd (ne (sym e))
    go true true true false e = ap (λ (k : ℕ). refused_all k x) e
    go true true false f e = ap (λ (k : ℕ). refused_all k x) e
    go true false d f e = ap (λ (k : ℕ). refused_all k x) e
    go false b d f e = ap (λ (k : ℕ). refused_all k x) e

-- a refusal
pub leaves_refused : (n : ℕ) (table gossip : List ℕ) → LeavesAll (refused_all n (extended_of table gossip)) n table table gossip gossip
leaves_refused n table gossip =
    record { answer = omega arith; base = refl; others = refl; kept = λ e. (refl, refl); clock = λ e. (sym (clock_again table), refl) }

-- 11: the clock moves and nothing else
pub leaves_ignored :
    (time : ℕ) (table table' gossip : List ℕ) →
    state_of table' ≡ set_clock (state_of table) time →
    table' ≡ set table clock_at time →
    LeavesAll (ignored_all (extended_of table gossip) time) 11 table table' gossip gossip
unfolding set_clock
leaves_ignored time table table' gossip e f =
    record { answer = refl; base = e; others = refl; kept = λ z. absurd (false_true z); clock = λ z. (f, refl) }
  where
    false_true : ◌≡◌ {A = Bool} false true → ⊥
    false_true z = let k : ◌≡◌ {A = ℕ} 0 1 = ap (λ (b : Bool). cond b 1 0) z in omega arith

-- 0
pub leaves_done :
    (time r : ℕ) (g : Gossip) (acts : List Action) (numbers : List ℕ) (table table' gossip gossip' : List ℕ) →
    r ≡ 256 * length acts + 16777216 * length numbers →
    state_of table' ≡ set_clock (state_of table) time →
    gossip_of gossip' ≡ g →
    LeavesAll (done_all (extended_of table gossip) time g acts numbers) r table table' gossip gossip'
leaves_done time r g acts numbers table table' gossip gossip' q e f =
    record { answer = q ∙ omega arith; base = e; others = f; kept = λ z. absurd (false_true z); clock = λ z. absurd (omega (arith, z)) }
  where
    false_true : ◌≡◌ {A = Bool} false true → ⊥
    false_true z = let k : ◌≡◌ {A = ℕ} 0 1 = ap (λ (b : Bool). cond b 1 0) z in omega arith

-- ---- the same with the lent action list: as it was, or with the actions in front
pub gives_quiet :
    (o : FullReply) (r : ℕ) (table table' gossip gossip' list : List ℕ) →
    o.actions ≡ [] →
    LeavesAll o r table table' gossip gossip' →
    GivesAll o r table table' gossip gossip' list list
unfolding numbers_of
gives_quiet o r table table' gossip gossip' list e h =
    record { leaves = h; actions = sym (ap (λ (l : List Action). sets list 0 (numbers_of l)) e) }

pub gives_refused :
    (n : ℕ) (table gossip list : List ℕ) → GivesAll (refused_all n (extended_of table gossip)) n table table gossip gossip list list
gives_refused n table gossip list =
    gives_quiet (refused_all n (extended_of table gossip)) n table table gossip gossip list refl (leaves_refused n table gossip)

pub gives_done :
    (time r : ℕ) (g : Gossip) (acts : List Action) (numbers : List ℕ) (table table' gossip gossip' list list' : List ℕ) →
    r ≡ 256 * length acts + 16777216 * length numbers →
    state_of table' ≡ set_clock (state_of table) time →
    gossip_of gossip' ≡ g →
    list' ≡ sets list 0 (numbers_of acts) →
    GivesAll (done_all (extended_of table gossip) time g acts numbers) r table table' gossip gossip' list list'
gives_done time r g acts numbers table table' gossip gossip' list list' q e f l =
    record { leaves = leaves_done time r g acts numbers table table' gossip gossip' q e f; actions = l }
