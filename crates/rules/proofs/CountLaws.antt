-- Every reply counts its actions, and gives at most one for each slot; so they fit the lent list.
-- Assumes nothing.
use Rattle.std.proofs.Common.{Option, Some, None, Ok, Err}
use Rattle.rules.proofs.ConnectLaws.{by_connect}
use Prim.Native.Nat.{ℕ, ◌+◌, ◌*◌, ◌≤◌}
use mathlib.Core.Path.{◌≡◌, refl, ap, ◌∙◌}
use mathlib.Core.Bool.{Bool, true, false, cond}
use mathlib.Core.List.{List, [], ◌∷◌, ◌++◌}
use native.Mathlib.Omega.{arith}
use lib.Dec.{leb}
use lib.ListN.{length, length-map, drop}
use lib.Seq.{sets-eq}
use Rattle.index.proofs.Index.{gather_short}
use Rattle.index.proofs.Flags.{cond_case}
use Rattle.layout.specs.View.{state_of}
use Rattle.records.specs.declared.Peer.{Peer}
use Rattle.records.specs.declared.Groups.{Groups}
use Rattle.records.specs.Records.{State, slot_count, peer_in}
use Rattle.sets.specs.Sets.{by_slot, is_permutation}
use Rattle.mesh.specs.Maintenance.{changes_of, actions_of as toldActions}
use Rattle.validity.specs.Valid.{valid}
use Rattle.lookup.specs.Find.{find_connected}
use Rattle.effects.specs.Actions.{Action, numbers_of}
use Rattle.effects.proofs.ActionLaws.{numbers_length}
use Rattle.effects.specs.Effects.{is_joined, is_member}
use Rattle.rules.specs.declared.Answer.{Answer}
use Rattle.rules.specs.declared.Answer.TheVariants.{Early, OutOfRange, NotConnected, AlreadyConnected, NoSlot, UnknownProtocol}
use Rattle.rules.specs.declared.Answer.TheVariants.{NotPermutation, ListShort, NotRouter}
use Rattle.rules.specs.Reply.{Reply, actions_of, refused, ignored, done}
use Rattle.rules.specs.Calls.{Call, connect, disconnect, join, leave, subscribe, unsubscribe, graft, prune, deliver, rate, heartbeat}
use Rattle.rules.specs.Calls.{groups_of, decay, score, time_of, in_range}
use Rattle.rules.proofs.GraftLaws.{by_graft}
use Rattle.rules.specs.Step.{action_room, is_graylisted, is_heard, raised_p7, gate_of, through, on_found, of_peer, connect_at}
use Rattle.rules.specs.Step.{connect_reply, join_reply, leave_actions, leave_reply, subscribe_reply, unsubscribe_reply}
use Rattle.rules.specs.Step.{graft_refused, graft_reply, prune_reply, deliver_reply, view_in, meshes_in, action_in, heartbeat_actions}
use Rattle.rules.specs.Step.{maintained_reply, heartbeat_reply, decay_reply, effect, step}
use Rattle.rules.specs.Promise.{Follows}
use Rattle.rules.specs.Kept.{FitsList, WritesAll}
use Rattle.rules.proofs.CaseLaws.{by_gate}
use Rattle.rules.proofs.HeartbeatLaws.{told_few}

pub record Counted (o : Reply) : Type 0 where
  pub counts : actions_of o.answer ≡ length o.actions
  pub few : length o.actions ≤ slot_count

-- ---- the shapes of replies
counted_refused : (a : Answer) (st : State) → actions_of a ≡ 0 → Counted (refused a st)
counted_refused a st e = record { counts = e; few = omega arith }

counted_ignored : (st : State) (time : ℕ) → Counted (ignored st time)
counted_ignored st time = record { counts = refl; few = omega arith }

counted_done : (st : State) (time : ℕ) (acts : List Action) → length acts ≤ slot_count → Counted (done st time acts)
counted_done st time acts h = record { counts = refl; few = h }

counted_quiet : (st : State) (time : ℕ) → Counted (done st time [])
counted_quiet st time = counted_done st time [] (omega arith)

counted_cond : (b : Bool) (o q : Reply) → Counted o → Counted q → Counted (cond b o q)
counted_cond b o q h k = cond_case Counted b o q (λ e. h) (λ e. k)

counted_found :
    (r : Option ℕ) (f : ℕ → Reply) (q : Reply) → ((s : ℕ) → Counted (f s)) → Counted q → Counted (on_found r f q)
counted_found (Some s) f q h k = h s
counted_found None f q h k = k

counted_peer : (st : State) (id : ℕ) (f : ℕ → Reply) → ((s : ℕ) → Counted (f s)) → Counted (of_peer st id f)
counted_peer st id f h = counted_found (find_connected st id) f _ h (counted_refused NotConnected st refl)

-- ---- the replies
counted_connect : (st : State) (time id : ℕ) (groups : Groups) (flags : ℕ) (name : List ℕ) →
    Counted (connect_reply st time id groups flags name)
unfolding connect_at
counted_connect st time id groups flags name =
    by_connect Counted st time id groups flags name
    (λ n. counted_refused UnknownProtocol st refl)
    (λ v s n c. counted_refused AlreadyConnected st refl)
    (λ v s n c r. counted_quiet _ time)
    (λ v s n c r e. counted_quiet _ time)
    (λ v n c r e. counted_refused NoSlot st refl)

one_or_none : (b : Bool) (a : Action) → length (cond b (a ∷ []) []) ≤ 1
one_or_none true a = omega arith
one_or_none false a = omega arith

-- a leave has at most one action a slot
pub actions_short : (st : State) (t n : ℕ) → length (leave_actions st t n) ≤ n
unfolding leave_actions
actions_short st t n =
    gather_short _ n
    (λ i. search one_or_none)

counted_leave : (st : State) (time t : ℕ) → Counted (leave_reply st time t)
unfolding leave_reply
counted_leave st time t =
    counted_cond (is_joined st t) _ _ (counted_done _ time (leave_actions st t slot_count) (actions_short st t slot_count))
    (counted_ignored st time)

counted_prune_back : (st : State) (time t s : ℕ) (p : Peer) → Counted (graft_refused st time t s p)
unfolding graft_refused
counted_prune_back st time t s p = counted_done _ time _ (omega arith)

counted_graft : (st : State) (time t s : ℕ) → Counted (graft_reply st time t s)
counted_graft st time t s =
    by_graft Counted st time t s
    (λ e. counted_ignored st time)
    (λ e m. counted_quiet st time)
    (λ e. counted_prune_back st time t s (peer_in st s))
    (λ e. counted_prune_back st time t s (raised_p7 (peer_in st s)))
    (λ e. counted_quiet _ time)

-- at most one action a slot, of a state that is a router's
heartbeat_few :
    (st : State) (time t ask : ℕ) (order : List ℕ) →
    valid st ≡ true →
    is_permutation slot_count order ≡ true →
    length (heartbeat_actions st t order (meshes_in st time t ask order)) ≤ slot_count
unfolding heartbeat_actions view_in
heartbeat_few st time t ask order ok right =
    let acts = toldActions slot_count order (changes_of (by_slot slot_count (is_member st t)) (meshes_in st time t ask order)) in
    omega (arith, length-map acts (action_in st), told_few st time t ask order ok right)

counted_heartbeat : (st : State) (time t ask : ℕ) (order : List ℕ) → valid st ≡ true → Counted (heartbeat_reply st time t ask order)
unfolding heartbeat_reply maintained_reply
counted_heartbeat st time t ask order ok =
    cond_case Counted (is_permutation slot_count order) _ _
    (λ right.
    counted_cond (is_joined st t) _ _
    (counted_done _ time (heartbeat_actions st t order (meshes_in st time t ask order)) (heartbeat_few st time t ask order ok right))
    (counted_ignored st time))
    (λ wrong. counted_refused NotPermutation st refl)

counted_effect : (st : State) (c : Call) → valid st ≡ true → Counted (effect st c)
unfolding effect join_reply subscribe_reply unsubscribe_reply prune_reply deliver_reply decay_reply
counted_effect st (connect time id groups flags name) ok = counted_connect st time id (groups_of groups) flags name
counted_effect st (disconnect time id) ok = counted_peer st id _ (λ s. counted_quiet _ time)
counted_effect st (join time t) ok = counted_cond (is_joined st t) _ _ (counted_ignored st time) (counted_quiet _ time)
counted_effect st (leave time t) ok = counted_leave st time t
counted_effect st (subscribe time id t) ok =
    counted_peer st id _ (λ s. counted_cond (is_graylisted st s) _ _ (counted_ignored st time) (counted_quiet _ time))
counted_effect st (unsubscribe time id t) ok =
    counted_peer st id _ (λ s. counted_cond (is_graylisted st s) _ _ (counted_ignored st time) (counted_quiet _ time))
counted_effect st (graft time id t) ok = counted_peer st id _ (λ s. counted_graft st time t s)
counted_effect st (prune time id t seconds) ok =
    counted_peer st id _ (λ s. counted_cond (is_heard st t s) _ _ (counted_quiet _ time) (counted_ignored st time))
counted_effect st (deliver time id t kind) ok =
    counted_peer st id _ (λ s. counted_cond (is_heard st t s) _ _ (counted_quiet _ time) (counted_ignored st time))
counted_effect st (rate time id p5) ok = counted_peer st id _ (λ s. counted_quiet _ time)
counted_effect st (heartbeat time t ask order) ok = counted_heartbeat st time t ask order ok
counted_effect st (decay time) ok = counted_quiet _ time
counted_effect st (score time id) ok = counted_peer st id _ (λ s. record { counts = refl; few = omega arith })

-- the gate's answers have no action, and it lets a router's state pass alone
counted_gate :
    (v f r t : Bool) (st : State) (o : Reply) →
    (v ≡ true → Counted o) →
    Counted
    (through
    (cond v (cond f (cond r (cond t (Ok tt) (Err Early)) (Err ListShort)) (Err OutOfRange)) (Err NotRouter))
    st
    o)
counted_gate false f r t st o h = counted_refused NotRouter st refl
counted_gate true false r t st o h = counted_refused OutOfRange st refl
counted_gate true true false t st o h = counted_refused ListShort st refl
counted_gate true true true false st o h = counted_refused Early st refl
counted_gate true true true true st o h = h refl

pub counted : (st : State) (c : Call) (room : ℕ) → Counted (step st c room)
unfolding step gate_of
counted st c room =
    counted_gate (valid st) (in_range c) (leb action_room room) (leb st.clock (time_of c)) st (effect st c) (counted_effect st c)

-- of a call that keeps its promise
pub few_actions :
    (c : Call) (r : Answer) (table table' list list' : List ℕ) → Follows c r table table' list list' → actions_of r ≤ slot_count
few_actions c r table table' list list' f =
    let k = counted (state_of table) c (length list) in
    let e : actions_of r ≡ actions_of (step (state_of table) c (length list)).answer = ap actions_of f.leaves.answer in
    omega (arith, e, k.counts, k.few)

-- ---- behind test 8 the list has room for 64 actions; before it there is none
pub fits : FitsList
unfolding numbers_of
fits st c room =
    by_gate (λ (r : Reply). Counted r → length (numbers_of r.actions) ≤ room) st c room
    (λ a e k. omega arith)
    (λ p k. omega (arith, p.size, k.few, numbers_length (effect st c).actions))
    (counted st c room)

pub writes_all : WritesAll
writes_all c r table table' list list' f =
    let o = step (state_of table) c (length list) in
    let k = counted (state_of table) c (length list) in
    let e : actions_of r ≡ actions_of o.answer = ap actions_of f.leaves.answer in
    let n : 0 + length (numbers_of o.actions) ≡ 3 * actions_of r = omega (arith, numbers_length o.actions, k.counts) in
    f.actions
    ∙ sets-eq (numbers_of o.actions) list 0 (omega (arith, fits (state_of table) c (length list)))
    ∙ ap (λ (i : ℕ). numbers_of o.actions ++ drop i list) n
