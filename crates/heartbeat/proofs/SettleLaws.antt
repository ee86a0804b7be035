-- The walk that writes a mesh back: a turn from the state as it stands is the rules' turn, which goes by the state at the start.
-- Assumes nothing.
use Prim.Native.Nat.{ℕ, ◌+◌, ◌≤◌, ◌<◌}
use native.Mathlib.Omega.{arith}
use mathlib.Core.Path.{◌≡◌, refl, sym, ap, ◌∙◌}
use mathlib.Core.Bool.{Bool, true, false, not, cond, false≢true}
use mathlib.Core.List.{List}
use lib.ListN.{length, get_or}
use lib.Dec.{leb, ltb}
use borrow.Author.Tests.{lt-ltb, le-ltb, leb-true, leb-false}
use Rattle.index.specs.Index.{iter}
use Rattle.index.proofs.Index.{iter_more}
use Rattle.records.specs.declared.Peer.{Peer}
use Rattle.records.specs.Records.{State, slot_count, peer_in}
use Rattle.layout.specs.View.{cell_count, state_of}
use Rattle.validity.proofs.ValidLaws.{valid_facts}
use Rattle.score.specs.declared.TopicParams.{TopicParams}
use Rattle.score.specs.Score.{topic_params_in}
use Rattle.score.specs.Counters.{grown_of}
use Rattle.score.proofs.InputLaws.{params_in}
use Rattle.words.specs.Words.{bits_of, differs, Next}
use Rattle.words.proofs.SlotWalk.{iter_sparse}
use Rattle.sets.specs.Sets.{at}
use Rattle.sets.proofs.SlotLaws.{slots_at}
use Rattle.mesh.specs.Maintenance.{zero_score}
use Rattle.effects.specs.Effects.{with_end, on_topic, into_mesh, is_member, pruned, end_after, prune_backoff}
use Rattle.rules.specs.Step.{is_negative, punished, settle_slot}
use Rattle.rules.proofs.HeartbeatLaws.{height_good, settled_peer, settled_kept}
use Rattle.leaving.specs.Slots.{grown_if, Turn}
use Rattle.leaving.proofs.LeaveLaws.{params_same}
use Rattle.heartbeat.specs.Settle.{settled_if, Settle}

-- ---- the four ways of a turn

module _ (was stays negative : Bool) (t time end s : ℕ) (u : State) where
  pub settled_out :
      (v w : State) →
      was ≡ true →
      stays ≡ false →
      v ≡ grown_if negative t s u →
      w ≡ pruned v s t end →
      w ≡ settled_if was stays negative t time end s u
  unfolding settled_if
  settled_out v w a b ev ew = rw (a, b) (ew ∙ ap (λ (x : State). pruned x s t end) ev)

  pub settled_stays : was ≡ true → stays ≡ true → u ≡ settled_if was stays negative t time end s u
  unfolding settled_if
  settled_stays a b = rw (a, b)

  pub settled_in :
      (w : State) →
      was ≡ false →
      stays ≡ true →
      w ≡ on_topic u s t (λ r. into_mesh r time) →
      w ≡ settled_if was stays negative t time end s u
  unfolding settled_if
  settled_in w a b ew = rw (a, b) ew

  pub settled_past : was ≡ false → stays ≡ false → u ≡ settled_if was stays negative t time end s u
  unfolding settled_if
  settled_past a b = rw (a, b)

-- ---- a turn as the rules have it

same_settled :
    (u : State) (s t time end last : ℕ) (w x m n f g : Bool) (p q : TopicParams) →
    w ≡ x →
    m ≡ n →
    (w ≡ true → f ≡ g) →
    p ≡ q →
    end ≡ last →
    cond w
    (cond m u (pruned (cond f (on_topic u s t (grown_of p)) u) s t end))
    (cond m (on_topic u s t (λ r. into_mesh r time)) u)
    ≡ cond x
    (cond n u (pruned (cond g (on_topic u s t (grown_of q)) u) s t last))
    (cond n (on_topic u s t (λ r. into_mesh r time)) u)
same_settled u s t time end last true x m n f g p q a b c d e = rw (← a, b, c refl, d, e)
same_settled u s t time end last false x m n f g p q a b c d e = rw (← a, b)

as_settled :
    (st u : State) (t time end i : ℕ) (mesh : List Bool) (was stays negative : Bool) →
    was ≡ is_member st t i →
    stays ≡ at mesh i →
    (was ≡ true → negative ≡ is_negative st i) →
    topic_params_in u t ≡ topic_params_in st t →
    end ≡ end_after time (prune_backoff st) →
    settled_if was stays negative t time end i u ≡ settle_slot st time t mesh i u
unfolding settled_if grown_if settle_slot punished
as_settled st u t time end i mesh was stays negative a b c d e =
    same_settled u i t time end (end_after time (prune_backoff st)) was (is_member st t i) stays (at mesh i) negative (is_negative st i)
    (topic_params_in u t) (topic_params_in st t) a b c d e

-- a score below the number that stands for 0 is negative
below_zero : (height : ℕ) (b : Bool) → leb zero_score height ≡ not b → ltb height zero_score ≡ b
below_zero height true e = lt-ltb height zero_score (leb-false zero_score height e)
below_zero height false e = le-ltb height zero_score (leb-true zero_score height e)

-- ---- the walk

-- before turn i; st is the state at the start
pub record Settling (st : State) (time t : ℕ) (mesh : List Bool) (i : ℕ) (table : List ℕ) : Type 0 where
  pub low : i ≤ slot_count
  pub size : length table ≡ cell_count
  pub state : state_of table ≡ iter i (settle_slot st time t mesh) st

pub settling_none :
    (table : List ℕ) (time t : ℕ) (mesh : List Bool) →
    length table ≡ cell_count →
    Settling (state_of table) time t mesh 0 table
unfolding iter
settling_none table time t mesh l = record { low = omega arith; size = l; state = refl }

-- no turn changes an id
same_id : (p : Peer) (t end : ℕ) → (with_end p t end).id ≡ p.id
unfolding with_end
same_id p t end = refl

module _
    (table₀ : List ℕ) (t time end : ℕ) (members : List Bool) (scores : List ℕ)
    (walk : Settle table₀ t time end members scores)
    (mesh : List Bool) (i : ℕ) (h : i < slot_count) (table : List ℕ)
    (now : Settling (state_of table₀) time t mesh i table)
  where
    as_params : topic_params_in (state_of table) t ≡ topic_params_in (state_of table₀) t
    as_params =
        params_same (state_of table₀) (state_of table) t
        (ap (λ (v : State). v.codes) now.state ∙ (settled_kept (state_of table₀) time t mesh i).codes)

    as_id : (peer_in (state_of table) i).id ≡ (peer_in (state_of table₀) i).id
    as_id =
        ap (λ (v : State). (peer_in v i).id) now.state
        ∙ settled_peer (state_of table₀) time t mesh (λ p. p.id) same_id i i

    -- what turn i relies on
    pub settling_ready : Turn table t i
    settling_ready =
        let v = walk.standing.router in
        record {
          size = now.size;
          topic = walk.topic;
          slot = h;
          threshold = rw as_params (params_in (state_of table₀) v t walk.topic).threshold;
          id = rw as_id ((valid_facts (state_of table₀) v).peer i h).id;
        }

    as_negative : at members i ≡ true → ltb (get_or scores i 0) zero_score ≡ is_negative (state_of table₀) i
    as_negative e =
        let st = state_of table₀ in
        below_zero (get_or scores i 0) (is_negative st i)
        (ap (leb zero_score) (walk.heights i h e) ∙ height_good st walk.standing.router i h)

    as_was : get_or members i false ≡ is_member (state_of table₀) t i
    as_was =
        ap (λ (l : List Bool). get_or l i false) walk.was
        ∙ slots_at false (is_member (state_of table₀) t) slot_count i h

    -- what it leaves
    pub settling_more :
        (table' : List ℕ) (was stays negative : Bool) →
        was ≡ get_or members i false →
        stays ≡ get_or mesh i false →
        negative ≡ ltb (get_or scores i 0) zero_score →
        length table' ≡ length table →
        state_of table' ≡ settled_if was stays negative t time end i (state_of table) →
        Settling (state_of table₀) time t mesh (i + 1) table'
    settling_more table' was stays negative ew es en l e =
        let st = state_of table₀ in
        record {
          low = omega arith;
          size = l ∙ now.size;
          state =
              iter_more (settle_slot st time t mesh) st i (state_of table) (state_of table') now.state
              (e ∙ as_settled st (state_of table) t time end i mesh was stays negative (ew ∙ as_was) es (λ q. en ∙ as_negative (sym ew ∙ q))
              as_params
              walk.backoff);
        }

-- ---- a slot that stays as it is takes no turn

idle : (was stays : Bool) (u out come : State) → was ≡ stays → cond was (cond stays u out) (cond stays come u) ≡ u
idle true true u out come e = refl
idle false false u out come e = refl
idle true false u out come e = absurd (false≢true (sym e))
idle false true u out come e = absurd (false≢true e)

settle_idle :
    (st u : State) (time t s : ℕ) (mesh : List Bool) → is_member st t s ≡ at mesh s → settle_slot st time t mesh s u ≡ u
unfolding settle_slot
settle_idle st u time t s mesh e = idle (is_member st t s) (at mesh s) u _ _ e

same_flags : (x y : Bool) → differs x y ≡ false → x ≡ y
same_flags true true e = refl
same_flags false false e = refl
same_flags true false e = absurd (false≢true (sym e))
same_flags false true e = absurd (false≢true (sym e))

module _
    (table₀ : List ℕ) (t time end : ℕ) (members : List Bool) (scores : List ℕ)
    (walk : Settle table₀ t time end members scores)
    (mesh : List Bool)
  where
    skip :
        (table : List ℕ) (i j : ℕ) →
        i ≤ j →
        j ≤ slot_count →
        Settling (state_of table₀) time t mesh i table →
        ((s : ℕ) → i ≤ s → s < j → at members s ≡ at mesh s) →
        Settling (state_of table₀) time t mesh j table
    skip table i j h l now same =
        record {
          low = l;
          size = now.size;
          state =
              now.state
              ∙ iter_sparse (settle_slot (state_of table₀) time t mesh) (state_of table₀) i j h
              (λ s v a b.
              settle_idle (state_of table₀) v time t s mesh
              (sym
              (ap (λ (m : List Bool). at m s) walk.was
              ∙ slots_at false (is_member (state_of table₀) t) slot_count s (omega arith))
              ∙ same s a b));
        }

    -- the slots up to the next that changed stay as they are
    pub settling_next :
        (changed : List ℕ) →
        ((s : ℕ) → at (bits_of changed) s ≡ differs (at members s) (at mesh s)) →
        (i j : ℕ) (table : List ℕ) →
        Next (bits_of changed) i j →
        Settling (state_of table₀) time t mesh i table →
        Settling (state_of table₀) time t mesh j table
    settling_next changed d i j table n now =
        skip table i j n.later n.most now (λ s a b. same_flags (at members s) (at mesh s) (sym (d s) ∙ n.none s a b))

pub settling_done :
    (st : State) (time t : ℕ) (mesh : List Bool) (table : List ℕ) →
    Settling st time t mesh slot_count table →
    state_of table ≡ iter slot_count (settle_slot st time t mesh) st
settling_done st time t mesh table now = now.state
