-- What a list of calls answers, computed without test 12: every call keeps the tables a router's (crate gossip_lists). One of 01's calls
-- that is in range and not early passes 2, 8 and 1 too, and its reply is its effect; a new call is computed with these.
-- Assumes nothing.
use Rattle.std.proofs.Common.{Result}
use Rattle.rules.specs.declared.Answer.{Answer}
use Prim.Native.Nat.{ℕ}
use native.Mathlib.Omega.{arith}
use mathlib.Core.Path.{◌≡◌, refl, sym, ap, ap₂, ◌∙◌}
use mathlib.Core.Bool.{Bool, true, cond, not, ◌&&◌}
use mathlib.Core.List.{List, [], ◌∷◌, map}
use lib.Dec.{leb}
use borrow.Author.Tests.{leb-true}
use Rattle.index.proofs.Index.{both}
use Rattle.params.specs.Ordinary.{ordinary_params}
use Rattle.params.proofs.OrdinaryLaws.{ordinary_accepted, ordinary_length}
use Rattle.rules.specs.Calls.{Call, time_of, in_range}
use Rattle.rules.specs.Step.{action_room, through, effect, step}
use Rattle.rules.proofs.GateLaws.{gate_0}
use Rattle.validity.specs.Valid.{valid}
use Rattle.call_lists.specs.Lists.{fresh, from_fresh}
use Rattle.gossip.specs.Notes.{Setup, Extended}
use Rattle.gossip.specs.Valid.{setup_ok, gossip_ok, valid_all}
use Rattle.gossip.specs.Calls.{New, Any, old, new, time_of_new, new_in_range, list_ok}
use Rattle.gossip.specs.Step.{FullReply, refused_all, gated, new_effect, handed, extended, old_step, new_step, step_all}
use Rattle.gossip.proofs.ListLaws.{or_true}
use Rattle.gossip_lists.specs.Lists.{Start, after_all}
use Rattle.gossip_lists.specs.Kept.{Whole}
use Rattle.gossip_lists.proofs.Keeps.{keeps_all}
use Rattle.gossip_lists.proofs.Fresh.{whole_after}
use Rattle.gossip_examples.specs.Worked.{Seen, seen_of, run, begin}

abbrev effect_of : Extended → Any → FullReply
effect_of x (old c) = extended x c (effect x.base c)
effect_of x (new c) =
    cond (new_in_range c)
    (cond (list_ok c) (cond (leb x.base.clock (time_of_new c)) (new_effect x c) (refused_all 1 x)) (refused_all 8 x))
    (refused_all 2 x)

abbrev passes : Extended → Any → Bool
passes x (old c) = in_range c && leb x.base.clock (time_of c)
passes x (new c) = true

-- whether a call passes, and what is seen of its effect
pub record Checked : Type 0 where
  pub ok : Bool
  pub seen : Seen

abbrev pub sure : Seen → Checked
sure s = record { ok = true; seen = s }

unfoldable pub checked : List Any → Extended → List Checked
checked [] x = []
checked (c ∷ rest) x =
    let r : FullReply = effect_of x c in
    record { ok = passes x c; seen = seen_of r } ∷ checked rest r.state

-- ---- one call
module _ (x : Extended) (w : Whole x) where
  parts : (valid x.base ≡ true) × (gossip_ok x.base x.gossip ≡ true)
  unfolding valid_all
  parts = both (valid x.base) (gossip_ok x.base x.gossip) w.router

  old_effect : (c : Call) → passes x (old c) ≡ true → old_step x c action_room ≡ effect_of x (old c)
  unfolding old_step step
  old_effect c e =
      let q = both (in_range c) (leb x.base.clock (time_of c)) e in
      rw (parts.1, or_true (not (handed c)))
      (ap (λ (g : Result (Unit {0}) Answer). extended x c (through g x.base (effect x.base c)))
      (sym
      (gate_0 x.base (in_range c) action_room (time_of c) x.base.clock parts.0 q.0 (omega arith) refl
      (leb-true x.base.clock (time_of c) q.1))))

  new_effect_lem : (c : New) → new_step x c action_room ≡ effect_of x (new c)
  unfolding new_step gated
  new_effect_lem c = rw w.router

  is_effect : (c : Any) → passes x c ≡ true → step_all x c action_room ≡ effect_of x c
  unfolding step_all
  is_effect (old c) e = old_effect c e
  is_effect (new c) e = new_effect_lem c

-- ---- every list
run_is : (calls : List Any) (x : Extended) → Whole x → (l : List Seen) → checked calls x ≡ map sure l → run calls x ≡ l
unfolding run checked
run_is [] x w [] e = refl
run_is [] x w (s ∷ l) e = let z : ◌≡◌ {A = ℕ} 0 1 = cc in absurd (omega arith)
run_is (c ∷ rest) x w [] e = let z : ◌≡◌ {A = ℕ} 0 1 = cc in absurd (omega arith)
run_is (c ∷ rest) x w (s ∷ l) e =
    let first : record { ok = passes x c; seen = seen_of (effect_of x c) } ≡ sure s = cc in
    let a : passes x c ≡ true = ap (λ (k : Checked). k.ok) first in
    let b : seen_of (effect_of x c) ≡ s = ap (λ (k : Checked). k.seen) first in
    let d : checked rest (effect_of x c).state ≡ map sure l = cc in
    let i = is_effect x w c a in
    let v : Whole (effect_of x c).state = rw i at (keeps_all x c action_room w) in
    ap (λ (r : FullReply). seen_of r ∷ run rest r.state) i ∙ ap₂ ◌∷◌ b (run_is rest (effect_of x c).state v l d)

-- ---- from a fresh router with the ordinary parameters
module _ (p : Setup) (fine : setup_ok p ≡ true) where
  abbrev start : Start
  start = record { router = fresh ordinary_params; setup = p }

  whole_begin : Whole (begin p)
  unfolding begin after_all
  whole_begin =
      whole_after start []
      (record {
        router = record { size = ordinary_length; passes = ordinary_accepted; begins = from_fresh refl };
        setup = fine;
      })

  pub begun : (calls : List Any) (l : List Seen) → checked calls (begin p) ≡ map sure l → run calls (begin p) ≡ l
  begun calls l e = run_is calls (begin p) whole_begin l e
