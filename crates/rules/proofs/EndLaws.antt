-- The ends of a call in which only the clock moves, or which are 0 with no action; and which replies have no action.
-- Assumes nothing.
use Rattle.std.proofs.Common.{Option, Some, None}
use Prim.Native.Nat.{ℕ}
use mathlib.Core.Path.{◌≡◌, refl, sym, ap, ◌∙◌}
use mathlib.Core.Bool.{Bool, cond, false≢true}
use mathlib.Core.List.{List, []}
use Rattle.index.proofs.Flags.{cond_case}
use Rattle.records.specs.Records.{State, set_clock}
use lib.ListN.{set}
use Rattle.layout.specs.View.{clock_at, state_of}
use Rattle.lookup.specs.Find.{find_connected}
use Rattle.rules.specs.declared.Answer.{Answer}
use Rattle.rules.specs.declared.Answer.TheVariants.{Done, Ignored}
use Rattle.rules.specs.Reply.{Reply, refuses, ignored, done}
use Rattle.rules.specs.Step.{of_peer, on_found}
use Rattle.rules.specs.Promise.{Leaves, Gives}
use Rattle.rules.proofs.PromiseLaws.{leaves_moved, gives_quiet}

-- 11
pub leaves_ignored :
    (table table' : List ℕ) (time : ℕ) (a : Answer) →
    (a ≡ Ignored) × (state_of table' ≡ set_clock (state_of table) time) × (table' ≡ set table clock_at time) →
    Leaves (ignored (state_of table) time) a table table'
unfolding set_clock
leaves_ignored table table' time a h =
    record {
      answer = h.0;
      state = h.1;
      kept = λ e. absurd (false≢true (sym (ap refuses h.0) ∙ e));
      clock = λ e. h.2;
    }

-- 0: the state is u, in the table `mid`, and then the clock moved
pub leaves_done :
    (table mid table' : List ℕ) (u : State) (time : ℕ) (a : Answer) →
    state_of mid ≡ u →
    (a ≡ Done 0) × (state_of table' ≡ set_clock (state_of mid) time) →
    Leaves (done u time []) a table table'
leaves_done table mid table' u time a e h =
    leaves_moved (done u time []) a table table' h.0 refl (h.1 ∙ ap (λ (v : State). set_clock v time) e)

-- the same with the lent list
pub gives_ignored :
    (table table' list : List ℕ) (time : ℕ) (a : Answer) →
    (a ≡ Ignored) × (state_of table' ≡ set_clock (state_of table) time) × (table' ≡ set table clock_at time) →
    Gives (ignored (state_of table) time) a table table' list list
gives_ignored table table' list time a h = gives_quiet _ a table table' list refl (leaves_ignored table table' time a h)

pub gives_done :
    (table mid table' list : List ℕ) (u : State) (time : ℕ) (a : Answer) →
    state_of mid ≡ u →
    (a ≡ Done 0) × (state_of table' ≡ set_clock (state_of mid) time) →
    Gives (done u time []) a table table' list list
gives_done table mid table' list u time a e h =
    gives_quiet (done u time []) a table table' list refl (leaves_done table mid table' u time a e h)

pub gives_still :
    (table table' list : List ℕ) (time : ℕ) (a : Answer) →
    (a ≡ Done 0) × (state_of table' ≡ set_clock (state_of table) time) →
    Gives (done (state_of table) time []) a table table' list list
gives_still table table' list time a h = gives_done table table table' list (state_of table) time a refl h

-- no action, if neither way has one
pub quiet_cond : (t : Bool) (o q : Reply) → o.actions ≡ [] → q.actions ≡ [] → (cond t o q).actions ≡ []
quiet_cond t o q h k = cond_case (λ (r : Reply). r.actions ≡ []) t o q (λ e. h) (λ e. k)

-- a reply that goes by a search has no action if neither way has
pub quiet_found :
    (r : Option ℕ) (f : ℕ → Reply) (o : Reply) →
    ((s : ℕ) → (f s).actions ≡ []) →
    o.actions ≡ [] →
    (on_found r f o).actions ≡ []
quiet_found (Some s) f o h k = h s
quiet_found None f o h k = k

pub quiet_peer : (st : State) (id : ℕ) (f : ℕ → Reply) → ((s : ℕ) → (f s).actions ≡ []) → (of_peer st id f).actions ≡ []
quiet_peer st id f h = quiet_found (find_connected st id) f _ h refl
