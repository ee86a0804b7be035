-- The reply of a heartbeat: the maintained mesh and its actions as the rules have them, and the call's three ends.
-- Assumes nothing.
use Rattle.std.proofs.Common.{Result, Ok}
use Prim.Native.Nat.{ℕ, ◌≤◌, ◌<◌}
use native.Mathlib.Omega.{arith}
use mathlib.Core.Path.{◌≡◌, refl, sym, ap, ap₂, ◌∙◌}
use mathlib.Core.Bool.{Bool, true, false, cond, ◌&&◌}
use mathlib.Core.List.{List, [], ◌∷◌, map}
use lib.ListN.{length, get_or, length-map, get_or-eq_default}
use lib.Seq.{sets}
use lib.Dec.{eqb, leb}
use Rattle.index.specs.Index.{iter}
use Rattle.index.proofs.Index.{both}
use Rattle.index.proofs.Flags.{by_order, cond_case}
use Rattle.records.specs.declared.Peer.{Peer}
use Rattle.records.specs.Records.{State, slot_count, no_peer, peer_in, set_clock}
use Rattle.layout.specs.View.{state_of, Sized}
use Rattle.validity.specs.Valid.{valid}
use Rattle.validity.proofs.ValidLaws.{valid_facts}
use Rattle.sets.specs.Sets.{by_slot, is_permutation}
use Rattle.sets.proofs.SlotLaws.{slots_at, slots_past, slots_all}
use Rattle.mesh.specs.Maintenance.{
  Meshes,
  Changes,
  Action as Told,
  changes_of,
  actions_of,
  numbers_of as numbers_in,
  Writable,
  Written,
}
use Rattle.effects.specs.Actions.{numbers_of}
use Rattle.effects.specs.Effects.{is_member, end_after, prune_backoff}
use Rattle.rules.specs.declared.Answer.{Answer}
use Rattle.rules.specs.declared.Answer.TheVariants.{Done}
use Rattle.rules.specs.Calls.{topic_ok}
use Rattle.rules.specs.Reply.{done}
use Rattle.rules.specs.Step.{gate_of, view_in, meshes_in, settle_slot, told_in, action_in, heartbeat_actions, maintained_reply}
use Rattle.rules.specs.Step.{action_room}
use Rattle.rules.specs.Promise.{Gives}
use Rattle.rules.proofs.CaseLaws.{topic_in_lem}
use Rattle.rules.proofs.PromiseLaws.{leaves_moved}
use Rattle.rules.proofs.HeartbeatLaws.{told_few}
use Rattle.peer_score.specs.Standing.{Standing}
use Rattle.gate.proofs.CallLaws.{gate_fine}
use Rattle.gate.proofs.StandingLaws.{sizes}
use Rattle.heartbeat.specs.Heights.{HeightsOn}
use Rattle.heartbeat.specs.Settle.{Settle}

-- ---- the numbers of the actions

-- past the last slot no peer stands
none_past : (st : State) → Sized st → (s : ℕ) → slot_count ≤ s → peer_in st s ≡ no_peer
unfolding peer_in
none_past st size s h = let l = size.peers in get_or-eq_default st.peers no_peer (omega arith)

module _ (st : State) (size : Sized st) where
  id_at : (s : ℕ) → get_or (by_slot slot_count (λ k. (peer_in st k).id)) s 0 ≡ (peer_in st s).id
  id_at = slots_all 0 (λ k. (peer_in st k).id) slot_count (λ s h. ap (λ (p : Peer). p.id) (none_past st size s h))

  told_at : (s : ℕ) → get_or (by_slot slot_count (told_in st)) s 0 ≡ told_in st s
  told_at =
      slots_all 0 (told_in st) slot_count
      (λ s h. ap (λ (p : Peer). cond (eqb p.version 0) 0 (prune_backoff st)) (none_past st size s h))

  numbers_same :
      (x : List Told) →
      numbers_in (by_slot slot_count (λ k. (peer_in st k).id)) (by_slot slot_count (told_in st)) x ≡ numbers_of (map (action_in st) x)
  unfolding numbers_in numbers_of
  numbers_same [] = refl
  numbers_same (a ∷ x) = rw (id_at a.slot, told_at a.slot, numbers_same x)

-- a bound of what stands in each slot
slots_most : (f : ℕ → ℕ) (b : ℕ) → ((s : ℕ) → s < slot_count → f s ≤ b) → (s : ℕ) → get_or (by_slot slot_count f) s 0 ≤ b
slots_most f b h s =
    by_order (get_or (by_slot slot_count f) s 0 ≤ b) s slot_count
    (λ k. rw (slots_at 0 f slot_count s k) (h s k))
    (λ k. rw (slots_past 0 f slot_count s k) (omega arith))

-- ---- a joined topic

-- what is computed of the state st before anything is written
pub record Computed
    (st : State) (time t ask : ℕ) (order : List ℕ) (members : List Bool) (m : Meshes) (c : Changes) (ids told : List ℕ) (seconds : ℕ)
    : Type 0 where
  pub was : members ≡ by_slot slot_count (is_member st t)
  pub steps : m ≡ meshes_in st time t ask order
  pub changes : c ≡ changes_of members m
  pub backoff : seconds ≡ prune_backoff st
  pub id : ids ≡ by_slot slot_count (λ s. (peer_in st s).id)
  pub wait : told ≡ by_slot slot_count (λ s. cond (eqb (peer_in st s).version 0) 0 seconds)

module _
    (st : State) (time t ask : ℕ) (order : List ℕ) (members : List Bool) (m : Meshes) (c : Changes) (ids told : List ℕ) (seconds : ℕ)
    (k : Computed st time t ask order members m c ids told seconds)
  where
    changes_are : c ≡ changes_of (by_slot slot_count (is_member st t)) (meshes_in st time t ask order)
    changes_are = k.changes ∙ ap₂ changes_of k.was k.steps

    told_are : told ≡ by_slot slot_count (told_in st)
    told_are =
        k.wait
        ∙ ap (λ (n : ℕ). by_slot slot_count (λ s. cond (eqb (peer_in st s).version 0) 0 n)) k.backoff

    few : valid st ≡ true → is_permutation slot_count order ≡ true → length (actions_of slot_count order c) ≤ slot_count
    unfolding view_in
    few ok right = rw changes_are (told_few st time t ask order ok right)

    -- the actions fit the lent list, and their numbers its width
    pub writable :
        (list : List ℕ) →
        valid st ≡ true →
        is_permutation slot_count order ≡ true →
        action_room ≤ length list →
        Writable list ids told (length (actions_of slot_count order c))
    writable list ok right room =
        let n = few ok right in
        let b : seconds ≤ 3600 = rw k.backoff (sizes st ok).prune in
        record {
          room = omega arith;
          narrow_ids = rw k.id (slots_most (λ s. (peer_in st s).id) 4294967295 (λ s h. ((valid_facts st ok).peer s h).id));
          narrow_seconds =
              rw k.wait
              (slots_most (λ s. cond (eqb (peer_in st s).version 0) 0 seconds) 4294967295
              (λ s h.
              cond_case (λ (x : ℕ). x ≤ 4294967295) (eqb (peer_in st s).version 0) 0 seconds
              (λ e. omega arith)
              (λ e. omega arith)));
        }

    -- the same numbers as the rules'
    written_numbers :
        Sized st →
        numbers_in ids told (actions_of slot_count order c)
        ≡ numbers_of (heartbeat_actions st t order (meshes_in st time t ask order))
    unfolding heartbeat_actions
    written_numbers size =
        rw (k.id, told_are, changes_are)
        (numbers_same st size
        (actions_of slot_count order (changes_of (by_slot slot_count (is_member st t)) (meshes_in st time t ask order))))

    written_count :
        length (actions_of slot_count order c) ≡ length (heartbeat_actions st t order (meshes_in st time t ask order))
    unfolding heartbeat_actions
    written_count =
        ap (λ (x : Changes). length (actions_of slot_count order x)) changes_are
        ∙ sym
        (length-map
        (actions_of slot_count order (changes_of (by_slot slot_count (is_member st t)) (meshes_in st time t ask order)))
        (action_in st))

    -- what the walk relies on
    pub settles :
        (table : List ℕ) (end : ℕ) →
        st ≡ state_of table →
        Standing table →
        t < 8 →
        end ≡ end_after time seconds →
        (heights : List ℕ) →
        HeightsOn st (by_slot slot_count (is_member st t)) heights →
        Settle table t time end members heights
    settles table end e standing topic ends heights on =
        record {
          standing = standing;
          topic = topic;
          backoff = rw (← e) (ends ∙ ap (end_after time) k.backoff);
          was = rw (← e) k.was;
          heights = rw (← e) (λ s h q. on s h (ap (λ (x : List Bool). get_or x s false) (sym k.was) ∙ q));
        }

    -- `mid` is the table after the walk
    pub maintained_gives :
        (table mid table' list list' : List ℕ) (n : ℕ) →
        Sized st →
        Written ids told (actions_of slot_count order c) list 0 list' n →
        state_of mid ≡ iter slot_count (settle_slot st time t m.fifth) st →
        state_of table' ≡ set_clock (state_of mid) time →
        Gives (maintained_reply st time t ask order) (Done n) table table' list list'
    unfolding maintained_reply
    maintained_gives table mid table' list list' n size w em et =
        let f = meshes_in st time t ask order in
        let acts = heartbeat_actions st t order f in
        let o = done (iter slot_count (settle_slot st time t f.fifth) st) time acts in
        let q : n ≡ length (actions_of slot_count order c) = omega (arith, w.many) in
        record {
          leaves =
              leaves_moved o (Done n) table table' (ap Done (q ∙ written_count)) refl
              (et
              ∙ ap
              (λ (u : State). set_clock u time)
              (em ∙ ap (λ (x : Meshes). iter slot_count (settle_slot st time t x.fifth) st) k.steps));
          actions = w.list ∙ ap (sets list 0) (written_numbers size);
        }

-- ---- the ranges that the call asks: of the topic, and of opportunism
pub heartbeat_range : (t ask : ℕ) (b d : Bool) → b ≡ topic_ok t → d ≡ leb ask 1 → b && d ≡ topic_ok t && leb ask 1
heartbeat_range t ask b d eb ed = ap₂ ◌&&◌ eb ed

pub heartbeat_topic :
    (table : List ℕ) (a b d : Bool) (room time : ℕ) (g : Result (Unit {0}) Answer) →
    g ≡ gate_of (state_of table) (a && (b && d)) room time →
    g ≡ Ok tt →
    (t : ℕ) →
    b ≡ topic_ok t →
    t < 8
heartbeat_topic table a b d room time g eg e t eb =
    topic_in_lem t (sym eb ∙ (both b d (gate_fine table a (b && d) room time g eg e)).0)
