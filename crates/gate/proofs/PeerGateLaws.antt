-- From the gate's word on a peer to what a public call of a peer promises, and what it may rely on behind the gate.
-- Assumes nothing.
use Rattle.std.proofs.Common.{Option, Some, None, Result, Ok, Err}
use Prim.Native.Nat.{ℕ, ◌≤◌, ◌<◌}
use mathlib.Core.Path.{◌≡◌, refl, sym, ap, ◌∙◌}
use mathlib.Core.Bool.{Bool, true, ◌&&◌}
use mathlib.Core.List.{List, []}
use lib.ListN.{length}
use lib.IntN.{ℤ}
use Rattle.std.specs.Prelude.{ok_or}
use Rattle.index.proofs.Index.{both}
use Rattle.varint.specs.Codes.{code_of}
use Rattle.records.specs.Records.{State, slot_count, set_clock}
use Rattle.score.specs.Score.{why_in}
use Rattle.effects.specs.Effects.{on_peer, with_p5, departed}
use Rattle.layout.specs.View.{cell_count, state_of}
use Rattle.lookup.specs.Find.{find_connected}
use Rattle.rules.specs.declared.Answer.{Answer}
use Rattle.rules.specs.declared.Answer.TheVariants.{Scored, NotConnected}
use Rattle.rules.specs.Reply.{Reply, refused, done}
use Rattle.rules.specs.Calls.{Call, disconnect, graft, prune, deliver, rate, score, time_of, time_ok, topic_ok, arguments_ok, in_range}
use Rattle.rules.specs.Step.{gate_of, through, on_found, of_peer, graft_reply, prune_reply, deliver_reply, effect, step, action_room}
use Rattle.rules.specs.Promise.{Leaves, Gives, Follows}
use Rattle.rules.proofs.CaseLaws.{topic_in_lem}
use Rattle.rules.proofs.PromiseLaws.{gives_quiet, gives_refused}
use Rattle.rules.proofs.StepLaws.{found_below}
use Rattle.gate.specs.Ready.{Ready}
use Rattle.gate.specs.PeerGate.{slot_behind, peer_gate}
use Rattle.gate.proofs.CallLaws.{gate_ready, gate_room, gate_fine, ids_topics}

-- both tests were passed
passed_both :
    (w : Result (Unit {0}) Answer) (r : Option ℕ) (s : ℕ) → slot_behind w r ≡ Ok s → (w ≡ Ok tt) × (r ≡ Some s)
passed_both (Err a) r s e = absurd cc
passed_both (Ok tt) None s e = absurd cc
passed_both (Ok tt) (Some t) s e = let z : t ≡ s = cc in (refl, ap (λ (n : ℕ). Some n) z)

-- the one that failed is the reply
refused_by :
    (w : Result (Unit {0}) Answer) (r : Option ℕ) (st : State) (f : ℕ → Reply) (x : Answer) →
    slot_behind w r ≡ Err x → through w st (on_found r f (refused NotConnected st)) ≡ refused x st
refused_by (Err a) r st f x e = let z : a ≡ x = cc in ap (λ (y : Answer). refused y st) z
refused_by (Ok tt) None st f x e = let z : NotConnected ≡ x = cc in ap (λ (y : Answer). refused y st) z
refused_by (Ok tt) (Some s) st f x e = absurd cc

-- ---- the one test and then the other, as the code makes them
pub behind_refused :
    (st : State) (fine : Bool) (room time id : ℕ) (w : Result (Unit {0}) Answer) (x : Answer) (q : Result ℕ Answer) →
    w ≡ gate_of st fine room time → w ≡ Err x → q ≡ Err x → q ≡ peer_gate st fine room time id
unfolding peer_gate
behind_refused st fine room time id w x q e f g = rw (← e, f) g

pub behind_passed :
    (st : State) (fine : Bool) (room time id : ℕ) (w : Result (Unit {0}) Answer) (r : Option ℕ) (q : Result ℕ Answer) →
    w ≡ gate_of st fine room time → w ≡ Ok tt → r ≡ find_connected st id → q ≡ ok_or r NotConnected → q ≡ peer_gate st fine room time id
unfolding peer_gate
behind_passed st fine room time id w r q e f h g = rw (← e, f, ← h) (g ∙ found r)
  where
    found : (r : Option ℕ) → ok_or r NotConnected ≡ slot_behind (Ok tt) r
    found (Some s) = refl
    found None = refl

-- ---- in the form in which a search finds it: the call is one of a peer, f is the reply of its slot, and a and b are what the code
-- computes of the call's time and of its other arguments
module _
    (c : Call)
    (id : ℕ)
    (f : ℕ → Reply)
    (table list : List ℕ)
    (a b : Bool)
    (g : Result ℕ Answer)
    (ef : effect (state_of table) c ≡ of_peer (state_of table) id f)
    (ea : a ≡ time_ok (time_of c))
    (eb : b ≡ arguments_ok c)
    (eg : g ≡ peer_gate (state_of table) (a && b) (length list) (time_of c) id)
  where
    asked :
        step (state_of table) c (length list) ≡ through (gate_of (state_of table) (a && b) (length list) (time_of c)) (state_of table)
        (of_peer (state_of table) id f)
    unfolding step in_range
    asked = rw (ea, eb, ef) refl

    pub peer_refusal : (x : Answer) → g ≡ Err x → Follows c x table table list list
    unfolding peer_gate
    peer_refusal x e =
        let q = refused_by (gate_of (state_of table) (a && b) (length list) (time_of c)) (find_connected (state_of table) id) (state_of table) f x
        (sym eg ∙ e) in
        let z : step (state_of table) c (length list) ≡ refused x (state_of table) = asked ∙ q in
        rw z (gives_refused x table list)

    module _ (s : ℕ) (e : g ≡ Ok s) (r : Answer) (table' : List ℕ) where
      pub peer_gives : (list' : List ℕ) → Gives (f s) r table table' list list' → Follows c r table table' list list'
      unfolding peer_gate
      peer_gives list' h =
          let p = passed_both (gate_of (state_of table) (a && b) (length list) (time_of c)) (find_connected (state_of table) id) s (sym eg ∙ e) in
          rw (asked, p.0, p.1) h

      -- a call that gives no action
      pub peer_quiet : (effect (state_of table) c).actions ≡ [] → Leaves (f s) r table table' → Follows c r table table' list list
      unfolding peer_gate
      peer_quiet q h =
          let p = passed_both (gate_of (state_of table) (a && b) (length list) (time_of c)) (find_connected (state_of table) id) s (sym eg ∙ e) in
          let k : (f s).actions ≡ [] = rw (ef, p.1) at q in
          peer_gives list (gives_quiet (f s) r table table' list k h)

-- ---- what the call may rely on behind the gate
module _
    (table : List ℕ)
    (a b : Bool)
    (room time id : ℕ)
    (g : Result ℕ Answer)
    (eg : g ≡ peer_gate (state_of table) (a && b) room time id)
    (s : ℕ)
    (e : g ≡ Ok s)
  where
    behind : (gate_of (state_of table) (a && b) room time ≡ Ok tt) × (find_connected (state_of table) id ≡ Some s)
    unfolding peer_gate
    behind = passed_both (gate_of (state_of table) (a && b) room time) (find_connected (state_of table) id) s (sym eg ∙ e)

    pub peer_slot : s < slot_count
    peer_slot = found_below (state_of table) id s (find_connected (state_of table) id) refl behind.1

    pub peer_room : action_room ≤ room
    peer_room = gate_room table a b room time _ refl behind.0

    pub peer_fine : b ≡ true
    peer_fine = gate_fine table a b room time _ refl behind.0

    pub peer_ready : a ≡ time_ok time → length table ≡ cell_count → Ready table time
    peer_ready ea l = gate_ready table a b room time _ refl behind.0 ea l

-- a topic behind the id
pub peer_topic :
    (table : List ℕ) (a b d : Bool) (room time id : ℕ) (g : Result ℕ Answer) → g ≡ peer_gate (state_of table) (a && (b && d)) room time id →
    (s : ℕ) → g ≡ Ok s → (t : ℕ) → d ≡ topic_ok t → t < 8
peer_topic table a b d room time id g eg s e t ed =
    topic_in_lem t (sym ed ∙ (both b d (peer_fine table a (b && d) room time id g eg s e)).1)

-- ---- the calls of a peer, each with the reply of its slot
module _ (st : State) (time id : ℕ) where
  pub of_disconnect : effect st (disconnect time id) ≡ of_peer st id (λ s. done (departed st s time) time [])
  unfolding effect
  of_disconnect = refl

  pub of_graft : (t : ℕ) → effect st (graft time id t) ≡ of_peer st id (graft_reply st time t)
  unfolding effect
  of_graft t = refl

  pub of_prune : (t seconds : ℕ) → effect st (prune time id t seconds) ≡ of_peer st id (prune_reply st time t seconds)
  unfolding effect
  of_prune t seconds = refl

  pub of_deliver : (t kind : ℕ) → effect st (deliver time id t kind) ≡ of_peer st id (deliver_reply st time t kind)
  unfolding effect
  of_deliver t kind = refl

  pub of_rate : (p5 : ℤ) → effect st (rate time id p5) ≡ of_peer st id (λ s. done (on_peer st s (λ p. with_p5 p (code_of p5))) time [])
  unfolding effect
  of_rate p5 = refl

  pub of_score :
      effect st (score time id) ≡ of_peer st id (λ s. record { answer = Scored (why_in st s); state = set_clock st time; actions = [] })
  unfolding effect
  of_score = refl

pub ruleset peer_ends = (peer_refusal, peer_gives, peer_quiet, peer_slot, peer_room, peer_ready, peer_topic, ids_topics)
