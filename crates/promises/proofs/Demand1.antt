-- Demand 1: every reply behind the gate is a refusal, an `ignored` or a `done`, and each of the three is so by its definition; of the
-- program, a promise says it of every cell.
-- Assumes nothing.
use Rattle.std.proofs.Common.{Option, Some, None, Ok, Err}
use Rattle.rules.proofs.ConnectLaws.{by_connect}
use Rattle.records.specs.declared.Peer.{Peer}
use Prim.Native.Nat.{ℕ}
use native.Mathlib.Omega.{arith}
use mathlib.Core.Path.{◌≡◌, refl, sym, ap, ◌∙◌}
use mathlib.Core.Logic.{◌≢◌}
use mathlib.Core.Bool.{Bool, true, false, cond}
use mathlib.Core.List.{List, []}
use lib.Dec.{leb}
use lib.ListN.{length, set}
use lib.Seq.{sets}
use Rattle.index.proofs.Flags.{cond_case}
use Rattle.records.specs.declared.Groups.{Groups}
use Rattle.records.specs.Records.{State, slot_count, set_clock}
use Rattle.layout.specs.View.{clock_at, state_of}
use Rattle.validity.specs.Valid.{valid}
use Rattle.lookup.specs.Find.{find_connected}
use Rattle.sets.specs.Sets.{is_permutation}
use Rattle.effects.specs.Actions.{Action, numbers_of}
use Rattle.effects.specs.Effects.{is_joined}
use Rattle.rules.specs.declared.Answer.{Answer}
use Rattle.rules.specs.declared.Answer.TheVariants.{Done, Scored, Early, OutOfRange, NotConnected, AlreadyConnected, NoSlot}
use Rattle.rules.specs.declared.Answer.TheVariants.{UnknownProtocol, NotPermutation, ListShort, Ignored, NotRouter}
use Rattle.rules.specs.Reply.{Reply, number_of, refuses, refused, ignored, done}
use Rattle.rules.specs.Calls.{Call, connect, disconnect, join, leave, subscribe, unsubscribe, graft, prune, deliver, rate, heartbeat, decay}
use Rattle.rules.specs.Calls.{groups_of, score, time_of, in_range}
use Rattle.rules.proofs.GraftLaws.{by_graft}
use Rattle.rules.specs.Step.{action_room, is_graylisted, is_heard, gate_of, through, on_found, of_peer, connect_at}
use Rattle.rules.specs.Step.{connect_reply, join_reply, leave_actions, leave_reply, subscribe_reply, unsubscribe_reply, graft_refused}
use Rattle.rules.specs.Step.{graft_reply, prune_reply, deliver_reply, maintained_reply, heartbeat_reply}
use Rattle.rules.specs.Step.{decay_reply, effect, step}
use Rattle.promises.specs.Demand1.{Untouched, Demand1, ProgramDemand1}

module _ (st : State) (time : ℕ) where
  abbrev Un : Reply → Type 0
  Un r = Untouched st time r

  -- ---- the shapes of replies
  un_refused : (a : Answer) → number_of a ≢ 11 → Un (refused a st)
  un_refused a n = record { refused = λ x y. (refl, refl); ignored = λ e. absurd (n e) }

  un_ignored : Un (ignored st time)
  un_ignored = record { refused = λ x y. absurd (y refl); ignored = λ e. (refl, refl) }

  un_done : (u : State) (acts : List Action) → Un (done u time acts)
  un_done u acts = record { refused = λ x y. absurd (x refl); ignored = λ e. absurd (omega arith) }

  un_cond : (b : Bool) (o q : Reply) → Un o → Un q → Un (cond b o q)
  un_cond b o q h k = cond_case Un b o q (λ e. h) (λ e. k)

  un_found : (r : Option ℕ) (f : ℕ → Reply) (q : Reply) → ((s : ℕ) → Un (f s)) → Un q → Un (on_found r f q)
  un_found (Some s) f q h k = h s
  un_found None f q h k = k

  un_peer : (id : ℕ) (f : ℕ → Reply) → ((s : ℕ) → Un (f s)) → Un (of_peer st id f)
  un_peer id f h = un_found (find_connected st id) f _ h (un_refused NotConnected (λ e. omega arith))

  -- ---- the replies
  un_connect : (id : ℕ) (groups : Groups) (flags : ℕ) (name : List ℕ) → Un (connect_reply st time id groups flags name)
  unfolding connect_at
  un_connect id groups flags name =
      by_connect Un st time id groups flags name
      (λ n. un_refused UnknownProtocol (λ e. omega arith))
      (λ v s n c. un_refused AlreadyConnected (λ e. omega arith))
      (λ v s n c r. un_done _ [])
      (λ v s n c r e. un_done _ [])
      (λ v n c r e. un_refused NoSlot (λ e. omega arith))

  un_back : (t s : ℕ) (p : Peer) → Un (graft_refused st time t s p)
  unfolding graft_refused
  un_back t s p = un_done _ _

  un_graft : (t s : ℕ) → Un (graft_reply st time t s)
  un_graft t s =
      by_graft Un st time t s (λ e. un_ignored) (λ e m. un_done st []) (λ e. un_back t s _) (λ e. un_back t s _) (λ e. un_done _ [])

  un_maintained : (t ask : ℕ) (order : List ℕ) → Un (maintained_reply st time t ask order)
  unfolding maintained_reply
  un_maintained t ask order = un_done _ _

  un_heartbeat : (t ask : ℕ) (order : List ℕ) → Un (heartbeat_reply st time t ask order)
  unfolding heartbeat_reply
  un_heartbeat t ask order =
      un_cond (is_permutation slot_count order) _ _
      (un_cond (is_joined st t) _ _ (un_maintained t ask order) un_ignored)
      (un_refused NotPermutation (λ e. omega arith))

un_effect : (st : State) (c : Call) → Untouched st (time_of c) (effect st c)
unfolding effect join_reply leave_reply subscribe_reply unsubscribe_reply prune_reply deliver_reply decay_reply
un_effect st (connect time id groups flags name) = un_connect st time id (groups_of groups) flags name
un_effect st (disconnect time id) = un_peer st time id _ (λ s. un_done st time _ [])
un_effect st (join time t) = un_cond st time (is_joined st t) _ _ (un_ignored st time) (un_done st time _ [])
un_effect st (leave time t) = un_cond st time (is_joined st t) _ _ (un_done st time _ (leave_actions st t slot_count)) (un_ignored st time)
un_effect st (subscribe time id t) =
    un_peer st time id _ (λ s. un_cond st time (is_graylisted st s) _ _ (un_ignored st time) (un_done st time _ []))
un_effect st (unsubscribe time id t) =
    un_peer st time id _ (λ s. un_cond st time (is_graylisted st s) _ _ (un_ignored st time) (un_done st time _ []))
un_effect st (graft time id t) = un_peer st time id _ (λ s. un_graft st time t s)
un_effect st (prune time id t seconds) =
    un_peer st time id _ (λ s. un_cond st time (is_heard st t s) _ _ (un_done st time _ []) (un_ignored st time))
un_effect st (deliver time id t kind) =
    un_peer st time id _ (λ s. un_cond st time (is_heard st t s) _ _ (un_done st time _ []) (un_ignored st time))
un_effect st (rate time id p5) = un_peer st time id _ (λ s. un_done st time _ [])
un_effect st (heartbeat time t ask order) = un_heartbeat st time t ask order
un_effect st (decay time) = un_done st time _ []
un_effect st (score time id) =
    un_peer st time id _ (λ s. record { refused = λ x y. absurd (x refl); ignored = λ e. absurd (omega arith) })

-- ---- 12, 2, 8, 1
un_gate :
    (v f r k : Bool) (st : State) (time : ℕ) (o : Reply) → Untouched st time o →
    Untouched st time
    (through (cond v (cond f (cond r (cond k (Ok tt) (Err Early)) (Err ListShort)) (Err OutOfRange)) (Err NotRouter)) st o)
un_gate false f r k st time o h = un_refused st time NotRouter (λ e. omega arith)
un_gate true false r k st time o h = un_refused st time OutOfRange (λ e. omega arith)
un_gate true true false k st time o h = un_refused st time ListShort (λ e. omega arith)
un_gate true true true false st time o h = un_refused st time Early (λ e. omega arith)
un_gate true true true true st time o h = h

pub demand1 : Demand1
unfolding step gate_of
demand1 st c room =
    un_gate (valid st) (in_range c) (leb action_room room) (leb st.clock (time_of c)) st (time_of c) (effect st c) (un_effect st c)

-- ---- the program
refuses_by : (r : Answer) → number_of r ≢ 0 → number_of r ≢ 11 → refuses r ≡ true
refuses_by (Done n) x y = absurd (x refl)
refuses_by (Scored z) x y = absurd (x refl)
refuses_by Early x y = refl
refuses_by OutOfRange x y = refl
refuses_by NotConnected x y = refl
refuses_by AlreadyConnected x y = refl
refuses_by NoSlot x y = refl
refuses_by UnknownProtocol x y = refl
refuses_by NotPermutation x y = refl
refuses_by ListShort x y = refl
refuses_by Ignored x y = absurd (y refl)
refuses_by NotRouter x y = refl

is_ignored : (r : Answer) → number_of r ≡ 11 → r ≡ Ignored
is_ignored (Done n) e = absurd (omega arith)
is_ignored (Scored w) e = absurd (omega arith)
is_ignored Early e = absurd (omega arith)
is_ignored OutOfRange e = absurd (omega arith)
is_ignored NotConnected e = absurd (omega arith)
is_ignored AlreadyConnected e = absurd (omega arith)
is_ignored NoSlot e = absurd (omega arith)
is_ignored UnknownProtocol e = absurd (omega arith)
is_ignored NotPermutation e = absurd (omega arith)
is_ignored ListShort e = absurd (omega arith)
is_ignored Ignored e = refl
is_ignored NotRouter e = absurd (omega arith)

clock_set : (st : State) (time : ℕ) → (set_clock st time).clock ≡ time
unfolding set_clock
clock_set st time = refl

same_list : (list list' : List ℕ) (acts : List Action) → list' ≡ sets list 0 (numbers_of acts) → acts ≡ [] → list' ≡ list
unfolding numbers_of
same_list list list' acts e z = e ∙ rw z

pub program_demand1 : ProgramDemand1
program_demand1 c r table table' list list' f =
    let o = step (state_of table) c (length list) in
    let u = demand1 (state_of table) c (length list) in
    let n : number_of r ≡ number_of o.answer = ap number_of f.leaves.answer in
    record {
      refused = λ x y.
          let w = u.refused (λ e. x (n ∙ e)) (λ e. y (n ∙ e)) in
          (f.leaves.kept (refuses_by r x y), same_list list list' o.actions f.actions w.1);
      ignored = λ e.
          let w = u.ignored (sym n ∙ e) in
          (moved w.0 e, same_list list list' o.actions f.actions w.1);
    }
  where
    moved :
        (step (state_of table) c (length list)).state ≡ set_clock (state_of table) (time_of c) →
        number_of r ≡ 11 →
        table' ≡ set table clock_at (time_of c)
    moved e n =
        f.leaves.clock (is_ignored r n)
        ∙ ap (set table clock_at) (ap (λ (u : State). u.clock) e ∙ clock_set (state_of table) (time_of c))
