-- Laws of the effects: what each leaves alone, and what stands in each slot after it.
-- Assumes nothing.
use Rattle.std.proofs.Common.{None}
use Prim.Native.Nat.{ℕ, ◌≤◌, ◌<◌, max}
use native.Mathlib.Omega.{arith}
use mathlib.Core.Path.{◌≡◌, refl, sym, ap, ◌∙◌}
use mathlib.Core.Logic.{◌≢◌}
use mathlib.Core.Bool.{true, false, cond, not, ◌&&◌}
use mathlib.Core.List.{List}
use lib.ListN.{length, get_or, length-set}
use lib.Seq.{get_or-set_same, get_or-set_other, set-set}
use lib.Dec.{eqb, leb}
use borrow.Author.Tests.{leb-true, ltb-false, eqb-true, not-true, ne_eqb}
use Rattle.index.specs.Index.{every, first, iter}
use Rattle.index.proofs.Index.{both, every_at, iter_keeps, first_passed}
use Rattle.index.proofs.Flags.{by_test, cond_case}
use Rattle.index.proofs.Lists.{set_case}
use Rattle.records.specs.declared.Groups.{Groups}
use Rattle.records.specs.declared.Peer.{Peer}
use Rattle.records.specs.declared.TopicRecord.{TopicRecord}
use Rattle.records.specs.Records.{State, slot_count, no_peer, no_topic, place, joined_in, peer_in, topic_in, set_peer, set_topic, is_empty}
use Rattle.records.specs.Records.{is_connected, is_retained}
use Rattle.layout.specs.View.{Sized, set_end, without_member, with_member, with_subscription, PeerFits, TopicFits}
use Rattle.layout.proofs.StateLaws.{peer_same, peer_other, peer_case, topic_same, topic_other, topic_case, peer_after_topic}
use Rattle.layout.proofs.StateLaws.{topic_after_peer, sized_peer, sized_topic}
use Rattle.effects.specs.Effects.{with_end, with_p5, connected_as, retained_to, out_of_mesh, into_mesh, with_subscribed, on_peer, on_topic}
use Rattle.effects.specs.Lent.{ConnectFits}
use Rattle.effects.specs.Effects.{is_member, backoff_runs, pruned, left_topic, departed, reclaimable, emptied}
use Rattle.effects.specs.Effects.{reclaim_slot, reclaimed, NoneReclaimable}
use Rattle.effects.proofs.Walks.{iter_kept, iter_before, iter_once, iter_still}

-- ---- places of topic records

-- topic records of two slots, and of two topics of a slot, stand apart
pub place_slot : (s t u v : ℕ) → t < 8 → v < 8 → u ≢ s → place u v ≢ place s t
place_slot s t u v h k n e = n (omega arith)

pub place_topic : (s t v : ℕ) → v ≢ t → place s v ≢ place s t
place_topic s t v n e = n (omega arith)

-- ---- what stays: `Kept a b` says that b has a's clock, joined flags, codes and set-up

pub record Kept (a b : State) : Type 0 where
  pub clock : b.clock ≡ a.clock
  pub joined : b.joined ≡ a.joined
  pub codes : b.codes ≡ a.codes
  pub setup : b.setup ≡ a.setup

pub kept_joined : {a b : State} → Kept a b → (t : ℕ) → joined_in b t ≡ joined_in a t
unfolding joined_in
kept_joined k t = ap (λ (l : List ℕ). get_or l t 0) k.joined

pub kept_self : (st : State) → Kept st st
kept_self st = record { clock = refl; joined = refl; codes = refl; setup = refl }

pub kept_then : {a b c : State} → Kept a b → Kept b c → Kept a c
kept_then p q =
    record {
      clock = q.clock ∙ p.clock;
      joined = q.joined ∙ p.joined;
      codes = q.codes ∙ p.codes;
      setup = q.setup ∙ p.setup;
    }

pub kept_peer : (st : State) (s : ℕ) (p : Peer) → Kept st (set_peer st s p)
unfolding set_peer
kept_peer st s p = record { clock = refl; joined = refl; codes = refl; setup = refl }

pub kept_topic : (st : State) (k : ℕ) (t : TopicRecord) → Kept st (set_topic st k t)
unfolding set_topic
kept_topic st k t = record { clock = refl; joined = refl; codes = refl; setup = refl }

pub kept_iter :
    (f : ℕ → State → State) (n : ℕ) (st : State) →
    ((i : ℕ) (u : State) → Kept u (f i u)) →
    Kept st (iter n f st)
kept_iter f n st k = iter_keeps (λ u. Kept st u) f n st (kept_self st) (λ i u h e. kept_then e (k i u))

pub kept_pruned : (st : State) (s t end : ℕ) → Kept st (pruned st s t end)
unfolding pruned
kept_pruned st s t end = kept_then (kept_topic st (place s t) _) (kept_peer _ s _)

-- ---- one record: what a change of it does not change is the same at every slot, in and out of the table

pub on_peer_lem :
    {A : Type 0} (read : Peer → A) (st : State) (s : ℕ) (g : Peer → Peer) (u : ℕ) →
    read (g (peer_in st s)) ≡ read (peer_in st s) →
    read (peer_in (on_peer st s g) u) ≡ read (peer_in st u)
on_peer_lem read st s g u h =
    peer_case
    st
    (λ p. read p ≡ read (peer_in st u))
    s
    (g (peer_in st s))
    u
    (λ e. h ∙ ap (λ (k : ℕ). read (peer_in st k)) (sym e))
    refl

pub on_topic_lem :
    {A : Type 0} (read : TopicRecord → A) (st : State) (s t : ℕ) (g : TopicRecord → TopicRecord) (k : ℕ) →
    read (g (topic_in st (place s t))) ≡ read (topic_in st (place s t)) →
    read (topic_in (on_topic st s t g) k) ≡ read (topic_in st k)
on_topic_lem read st s t g k h =
    topic_case
    st
    (λ r. read r ≡ read (topic_in st k))
    (place s t)
    (g (topic_in st (place s t)))
    k
    (λ e. h ∙ ap (λ (i : ℕ). read (topic_in st i)) (sym e))
    refl

-- ---- the ends of a record's backoffs

pub ends_with : (p : Peer) (t end : ℕ) → length (with_end p t end).backoff ≡ length p.backoff
unfolding with_end
ends_with p t end = length-set p.backoff t (max (get_or p.backoff t 0) end)

pub end_same :
    (p : Peer) (t end : ℕ) →
    t < length p.backoff →
    get_or (with_end p t end).backoff t 0 ≡ max (get_or p.backoff t 0) end
unfolding with_end
end_same p t end h = get_or-set_same p.backoff t (max (get_or p.backoff t 0) end) 0 h

pub end_other :
    (p : Peer) (t end u : ℕ) → u ≢ t → get_or (with_end p t end).backoff u 0 ≡ get_or p.backoff u 0
unfolding with_end
end_other p t end u n = get_or-set_other p.backoff t u (max (get_or p.backoff t 0) end) 0 n

replaced : (p : Peer) (t end : ℕ) → t < length p.backoff → set_end p t (get_or (with_end p t end).backoff t 0) ≡ with_end p t end
unfolding set_end with_end
replaced p t end h = rw (get_or-set_same p.backoff t (max (get_or p.backoff t 0) end) 0 h) refl

-- the later end alone is stored
pub stored_end :
    (st u : State) (s t end : ℕ) (p q : Peer) →
    t < length p.backoff →
    p ≡ peer_in st s →
    q ≡ with_end p t end →
    u ≡ set_peer st s (set_end (peer_in st s) t (get_or q.backoff t 0)) →
    u ≡ on_peer st s (λ (r : Peer). with_end r t end)
stored_end st u s t end p q h l e stored =
    stored
    ∙ ap (λ (r : Peer). set_peer st s (set_end r t (get_or q.backoff t 0))) (sym l)
    ∙ ap (λ (r : Peer). set_peer st s (set_end p t (get_or r.backoff t 0))) e
    ∙ ap (set_peer st s) (replaced p t end h)
    ∙ ap (λ (r : Peer). set_peer st s (with_end r t end)) l

-- no end gets earlier
pub end_later : (p : Peer) (t end u : ℕ) → get_or p.backoff u 0 ≤ get_or (with_end p t end).backoff u 0
unfolding with_end
end_later p t end u =
    set_case
    (λ (e : ℕ). get_or p.backoff u 0 ≤ e)
    p.backoff
    t
    u
    (max (get_or p.backoff t 0) end)
    0
    (λ k. let e : get_or p.backoff u 0 ≡ get_or p.backoff t 0 = ap (λ (i : ℕ). get_or p.backoff i 0) k in omega arith)
    (omega arith)

-- ---- sizes

pub sized_on_peer :
    (st : State) (s : ℕ) (g : Peer → Peer) →
    Sized st →
    length (g (peer_in st s)).backoff ≡ length (peer_in st s).backoff →
    Sized (on_peer st s g)
sized_on_peer st s g size e = sized_peer st size s (g (peer_in st s)) (e ∙ size.ends s)

pub sized_pruned : (st : State) (s t end : ℕ) → Sized st → Sized (pruned st s t end)
unfolding pruned
sized_pruned st s t end size =
    sized_on_peer
    (on_topic st s t out_of_mesh)
    s
    (λ p. with_end p t end)
    (sized_topic st size (place s t) (out_of_mesh (topic_in st (place s t))))
    (ends_with (peer_in (on_topic st s t out_of_mesh) s) t end)

-- ---- every topic record of one slot changed by g, one topic after the other: what a disconnect and an emptied slot do

abbrev pub walk : ℕ → (TopicRecord → TopicRecord) → ℕ → State → State
walk s g t u = on_topic u s t g

module _ (s : ℕ) (g : TopicRecord → TopicRecord) (st : State) where
  pub walk_sized : (n : ℕ) → Sized st → Sized (iter n (walk s g) st)
  walk_sized n size =
      iter_keeps
      (λ u. Sized u)
      (walk s g)
      n
      st
      size
      (λ t u h k. sized_topic u k (place s t) (g (topic_in u (place s t))))

  pub walk_peer : (n u : ℕ) → peer_in (iter n (walk s g) st) u ≡ peer_in st u
  walk_peer n u =
      iter_kept
      (λ v. peer_in v u)
      (walk s g)
      n
      st
      (λ t v h. peer_after_topic v (place s t) (g (topic_in v (place s t))) u)

  -- another slot
  pub walk_other : (u t : ℕ) → u ≢ s → t < 8 → topic_in (iter 8 (walk s g) st) (place u t) ≡ topic_in st (place u t)
  walk_other u t n h =
      iter_kept
      (λ v. topic_in v (place u t))
      (walk s g)
      8
      st
      (λ i v l. topic_other v (place s i) (g (topic_in v (place s i))) (place u t) (place_slot s i u t l h n))

  walk_apart : (t i : ℕ) (u : State) → i ≢ t → topic_in (walk s g i u) (place s t) ≡ topic_in u (place s t)
  walk_apart t i u n =
      topic_other u (place s i) (g (topic_in u (place s i))) (place s t) (place_topic s i t (λ e. n (sym e)))

  pub walk_same :
      Sized st →
      s < slot_count →
      (t : ℕ) →
      t < 8 →
      topic_in (iter 8 (walk s g) st) (place s t) ≡ g (topic_in st (place s t))
  walk_same size h t k =
      let w = iter t (walk s g) st in
      let z : Sized w = walk_sized t size in
      let l : place s t < length w.topics = omega (arith, z.topics) in
      iter_once (λ v. topic_in v (place s t)) (walk s g) t (walk_apart t) 8 st k
      ∙ topic_same w (place s t) (g (topic_in w (place s t))) l
      ∙ ap g (iter_before (λ v. topic_in v (place s t)) (walk s g) t (walk_apart t) t st (omega arith))

-- ---- what stays after those two and after reclaiming, and sizes

-- out of the mesh, and not subscribed
abbrev gone : TopicRecord → TopicRecord
gone r = with_subscribed (out_of_mesh r) 0

abbrev none : TopicRecord → TopicRecord
none r = no_topic

pub sized_emptied : (st : State) (s : ℕ) → Sized st → Sized (emptied st s)
unfolding emptied
sized_emptied st s size = sized_peer (iter 8 (walk s none) st) (walk_sized s none st 8 size) s no_peer refl

pub sized_reclaim : (time s : ℕ) (st : State) → Sized st → Sized (reclaim_slot time s st)
unfolding reclaim_slot
sized_reclaim time s st size =
    cond_case
    (λ u. Sized u)
    (reclaimable (peer_in st s) time)
    (emptied st s)
    st
    (λ h. sized_emptied st s size)
    (λ h. size)

sized_turns : (st : State) (time n : ℕ) → Sized st → Sized (iter n (reclaim_slot time) st)
sized_turns st time n size =
    iter_keeps (λ u. Sized u) (reclaim_slot time) n st size (λ s u h. sized_reclaim time s u)

pub sized_reclaimed : (st : State) (time : ℕ) → Sized st → Sized (reclaimed st time)
unfolding reclaimed
sized_reclaimed st time size = sized_turns st time slot_count size

-- ---- a PRUNE's effect, slot by slot

module _ (st : State) (s t end : ℕ) where
  pub pruned_other : (u : ℕ) → u ≢ s → peer_in (pruned st s t end) u ≡ peer_in st u
  unfolding pruned
  pruned_other u n = peer_other _ s _ u n ∙ peer_after_topic st (place s t) _ u

  pub pruned_topic_other : (k : ℕ) → k ≢ place s t → topic_in (pruned st s t end) k ≡ topic_in st k
  unfolding pruned
  pruned_topic_other k n = topic_after_peer _ s _ k ∙ topic_other st (place s t) _ k n

  -- what neither a backoff nor the mesh is
  pub pruned_reads :
      {A : Type 0} (read : Peer → A) (u : ℕ) →
      ((p : Peer) → read (with_end p t end) ≡ read p) →
      read (peer_in (pruned st s t end) u) ≡ read (peer_in st u)
  unfolding pruned
  pruned_reads read u h =
      on_peer_lem read (on_topic st s t out_of_mesh) s (λ p. with_end p t end) u (h (peer_in (on_topic st s t out_of_mesh) s))
      ∙ ap read (peer_after_topic st (place s t) (out_of_mesh (topic_in st (place s t))) u)

  module _ (size : Sized st) (h : s < slot_count) where
    pub pruned_same : peer_in (pruned st s t end) s ≡ with_end (peer_in st s) t end
    unfolding pruned
    pruned_same =
        let z : Sized (on_topic st s t out_of_mesh) = sized_topic st size (place s t) _ in
        let l : s < length (on_topic st s t out_of_mesh).peers = omega (arith, z.peers) in
        peer_same (on_topic st s t out_of_mesh) s _ l
        ∙ ap (λ (p : Peer). with_end p t end) (peer_after_topic st (place s t) _ s)

    pub pruned_topic_same : t < 8 → topic_in (pruned st s t end) (place s t) ≡ out_of_mesh (topic_in st (place s t))
    unfolding pruned
    pruned_topic_same k =
        let l : place s t < length st.topics = omega (arith, size.topics) in
        topic_after_peer _ s _ (place s t) ∙ topic_same st (place s t) _ l

-- ---- members of a mesh

module _ (st : State) (s t : ℕ) (g : TopicRecord → TopicRecord) where
  pub member_apart : (u v : ℕ) → place u v ≢ place s t → is_member (on_topic st s t g) v u ≡ is_member st v u
  unfolding is_member
  member_apart u v n = ap (λ (r : TopicRecord). eqb r.member 1) (topic_other st (place s t) _ (place u v) n)

  module _ (size : Sized st) (h : s < slot_count) (k : t < 8) where
    pub member_on : is_member (on_topic st s t g) t s ≡ eqb (g (topic_in st (place s t))).member 1
    unfolding is_member
    member_on =
        let l : place s t < length st.topics = omega (arith, size.topics) in
        ap (λ (r : TopicRecord). eqb r.member 1) (topic_same st (place s t) _ l)

module _ (st : State) (s t : ℕ) (size : Sized st) (h : s < slot_count) (k : t < 8) where
  pub member_in : (time : ℕ) → is_member (on_topic st s t (λ r. into_mesh r time)) t s ≡ true
  unfolding into_mesh
  member_in time = member_on st s t (λ r. into_mesh r time) size h k

  pub member_out : is_member (on_topic st s t out_of_mesh) t s ≡ false
  unfolding out_of_mesh
  member_out = member_on st s t out_of_mesh size h k

-- a store of a peer's record moves no one in or out of a mesh
pub member_peer : (st : State) (s : ℕ) (p : Peer) (u v : ℕ) → is_member (set_peer st s p) v u ≡ is_member st v u
unfolding is_member
member_peer st s p u v = ap (λ (r : TopicRecord). eqb r.member 1) (topic_after_peer st s p (place u v))

module _ (st : State) (s t end : ℕ) where
  pub pruned_apart : (u v : ℕ) → place u v ≢ place s t → is_member (pruned st s t end) v u ≡ is_member st v u
  unfolding pruned
  pruned_apart u v n = member_peer (on_topic st s t out_of_mesh) s _ u v ∙ member_apart st s t out_of_mesh u v n

  module _ (size : Sized st) (h : s < slot_count) (k : t < 8) where
    pub pruned_member : is_member (pruned st s t end) t s ≡ false
    unfolding pruned
    pruned_member = member_peer (on_topic st s t out_of_mesh) s _ s t ∙ member_out st s t size h k

-- ---- a disconnect, slot by slot

module _ (st : State) (s time : ℕ) where
  module _ (size : Sized st) (h : s < slot_count) where
    pub departed_topic :
        (t : ℕ) →
        t < 8 →
        topic_in (departed st s time) (place s t) ≡ with_subscribed (out_of_mesh (topic_in st (place s t))) 0
    unfolding departed left_topic
    departed_topic t k =
        topic_after_peer (iter 8 (walk s gone) st) s _ (place s t) ∙ walk_same s gone st size h t k

-- ---- an emptied slot

module _ (st : State) (s : ℕ) where
  pub emptied_other : (u : ℕ) → u ≢ s → peer_in (emptied st s) u ≡ peer_in st u
  unfolding emptied
  emptied_other u n = peer_other (iter 8 (walk s none) st) s no_peer u n ∙ walk_peer s none st 8 u

  pub emptied_topic_other : (u t : ℕ) → u ≢ s → t < 8 → topic_in (emptied st s) (place u t) ≡ topic_in st (place u t)
  unfolding emptied
  emptied_topic_other u t n h =
      topic_after_peer (iter 8 (walk s none) st) s no_peer (place u t) ∙ walk_other s none st u t n h

  module _ (size : Sized st) (h : s < slot_count) where
    pub emptied_same : peer_in (emptied st s) s ≡ no_peer
    unfolding emptied
    emptied_same =
        let z : Sized (iter 8 (walk s none) st) = walk_sized s none st 8 size in
        let l : s < length (iter 8 (walk s none) st).peers = omega (arith, z.peers) in
        peer_same (iter 8 (walk s none) st) s no_peer l

    pub emptied_topic : (t : ℕ) → t < 8 → topic_in (emptied st s) (place s t) ≡ no_topic
    unfolding emptied
    emptied_topic t k =
        topic_after_peer (iter 8 (walk s none) st) s no_peer (place s t) ∙ walk_same s none st size h t k

-- ---- reclaiming one slot

module _ (st : State) (s time : ℕ) where
  pub reclaim_yes : reclaimable (peer_in st s) time ≡ true → reclaim_slot time s st ≡ emptied st s
  unfolding reclaim_slot
  reclaim_yes h = rw h

  pub reclaim_no : reclaimable (peer_in st s) time ≡ false → reclaim_slot time s st ≡ st
  unfolding reclaim_slot
  reclaim_no h = rw h

reclaim_other : (time u i : ℕ) (st : State) → i ≢ u → peer_in (reclaim_slot time i st) u ≡ peer_in st u
unfolding reclaim_slot
reclaim_other time u i st n =
    cond_case
    (λ v. peer_in v u ≡ peer_in st u)
    (reclaimable (peer_in st i) time)
    (emptied st i)
    st
    (λ h. emptied_other st i u (λ e. n (sym e)))
    (λ h. refl)

reclaim_topic_other :
    (time u t : ℕ) →
    t < 8 →
    (i : ℕ) (st : State) →
    i ≢ u →
    topic_in (reclaim_slot time i st) (place u t) ≡ topic_in st (place u t)
unfolding reclaim_slot
reclaim_topic_other time u t k i st n =
    cond_case
    (λ v. topic_in v (place u t) ≡ topic_in st (place u t))
    (reclaimable (peer_in st i) time)
    (emptied st i)
    st
    (λ h. emptied_topic_other st i u t (λ e. n (sym e)) k)
    (λ h. refl)

reclaim_peer :
    (st : State) (time s : ℕ) →
    Sized st →
    s < slot_count →
    peer_in (reclaim_slot time s st) s ≡ cond (reclaimable (peer_in st s) time) no_peer (peer_in st s)
reclaim_peer st time s size h =
    by_test
    _
    (reclaimable (peer_in st s) time)
    (λ e. ap (λ v. peer_in v s) (reclaim_yes st s time e) ∙ emptied_same st s size h ∙ rw e)
    (λ e. ap (λ v. peer_in v s) (reclaim_no st s time e) ∙ rw e)

reclaim_topic :
    (st : State) (time s t : ℕ) →
    Sized st →
    s < slot_count →
    t < 8 →
    topic_in (reclaim_slot time s st) (place s t) ≡ cond (reclaimable (peer_in st s) time) no_topic (topic_in st (place s t))
reclaim_topic st time s t size h k =
    by_test
    _
    (reclaimable (peer_in st s) time)
    (λ e. ap (λ v. topic_in v (place s t)) (reclaim_yes st s time e) ∙ emptied_topic st s size h t k ∙ rw e)
    (λ e. ap (λ v. topic_in v (place s t)) (reclaim_no st s time e) ∙ rw e)

-- ---- reclaiming every slot, slot by slot

module _ (st : State) (time : ℕ) (size : Sized st) (s : ℕ) (h : s < slot_count) where
  walked : peer_in (iter s (reclaim_slot time) st) s ≡ peer_in st s
  walked = iter_before (λ v. peer_in v s) (reclaim_slot time) s (reclaim_other time s) s st (omega arith)

  pub reclaimed_peer : peer_in (reclaimed st time) s ≡ cond (reclaimable (peer_in st s) time) no_peer (peer_in st s)
  unfolding reclaimed
  reclaimed_peer =
      iter_once (λ v. peer_in v s) (reclaim_slot time) s (reclaim_other time s) slot_count st h
      ∙ reclaim_peer (iter s (reclaim_slot time) st) time s (sized_turns st time s size) h
      ∙ ap (λ (p : Peer). cond (reclaimable p time) no_peer p) walked

  pub reclaimed_topic :
      (t : ℕ) →
      t < 8 →
      topic_in (reclaimed st time) (place s t) ≡ cond (reclaimable (peer_in st s) time) no_topic (topic_in st (place s t))
  unfolding reclaimed
  reclaimed_topic t k =
      let w = iter s (reclaim_slot time) st in
      let r : topic_in w (place s t) ≡ topic_in st (place s t) =
      iter_before (λ v. topic_in v (place s t)) (reclaim_slot time) s (reclaim_topic_other time s t k) s st (omega arith) in
      iter_once (λ v. topic_in v (place s t)) (reclaim_slot time) s (reclaim_topic_other time s t k) slot_count st h
      ∙ reclaim_topic w time s t (sized_turns st time s size) h k
      ∙ ap (λ (p : Peer). cond (reclaimable p time) no_topic (topic_in w (place s t))) walked
      ∙ ap (λ (x : TopicRecord). cond (reclaimable (peer_in st s) time) no_topic x) r

  -- what is not reclaimable stays
  pub reclaimed_stays : reclaimable (peer_in st s) time ≡ false → peer_in (reclaimed st time) s ≡ peer_in st s
  reclaimed_stays e = reclaimed_peer ∙ rw e

-- ---- what a reclaimable record is

module _ (p : Peer) (time : ℕ) (h : reclaimable p time ≡ true) where
  early : (is_retained p && leb p.retain time ≡ true) × (every 8 (λ t. not (backoff_runs p t time)) ≡ true)
  unfolding reclaimable
  early = both (is_retained p && leb p.retain time) (every 8 (λ t. not (backoff_runs p t time))) h

  pub reclaimable_retained : is_retained p ≡ true
  reclaimable_retained = (both (is_retained p) (leb p.retain time) early.0).0

  pub reclaimable_end : p.retain ≤ time
  reclaimable_end = leb-true p.retain time (both (is_retained p) (leb p.retain time) early.0).1

  pub reclaimable_over : (t : ℕ) → t < 8 → get_or p.backoff t 0 ≤ time
  reclaimable_over t k =
      ltb-false
      time
      (get_or p.backoff t 0)
      (not-true (backoff_runs p t time) (every_at (λ i. not (backoff_runs p i time)) 8 t early.1 k))

-- a record that is not retained is not reclaimable
pub reclaimable_not : (p : Peer) (time : ℕ) → is_retained p ≡ false → reclaimable p time ≡ false
unfolding reclaimable
reclaimable_not p time h = rw h

pub reclaimable_connected : (p : Peer) (time : ℕ) → is_connected p ≡ true → reclaimable p time ≡ false
reclaimable_connected p time h =
    let e : p.status ≡ 1 = eqb-true _ _ h in
    reclaimable_not p time (ne_eqb p.status 2 (λ k. omega arith))

-- ---- connect: with nothing empty after reclaiming, nothing was reclaimed

pub none_reclaimed :
    (st : State) (time : ℕ) →
    ((s : ℕ) → s < slot_count → reclaimable (peer_in st s) time ≡ false) →
    reclaimed st time ≡ st
unfolding reclaimed
none_reclaimed st time h = iter_still (reclaim_slot time) slot_count st (λ s k. reclaim_no st s time (h s k))

pub full_none :
    (st : State) (time : ℕ) →
    Sized st →
    first slot_count (λ s. is_empty (peer_in (reclaimed st time) s)) ≡ None →
    NoneReclaimable st time
full_none st time size e = record { each = not_one }
  where
    not_one : (s : ℕ) → s < slot_count → reclaimable (peer_in st s) time ≡ false
    not_one s h =
        by_test
        _
        (reclaimable (peer_in st s) time)
        (λ r.
        let p : is_empty (peer_in (reclaimed st time) s) ≡ false =
        first_passed (λ i. is_empty (peer_in (reclaimed st time) i)) slot_count e s h in
        let n : peer_in (reclaimed st time) s ≡ no_peer = reclaimed_peer st time size s h ∙ rw r in
        let q : is_empty (peer_in (reclaimed st time) s) ≡ true = rw n in
        let z : ◌≡◌ {A = ℕ} 0 1 = cc in
        absurd (omega arith))
        (λ r. r)

pub full_stays :
    (st : State) (time : ℕ) →
    Sized st →
    first slot_count (λ s. is_empty (peer_in (reclaimed st time) s)) ≡ None →
    reclaimed st time ≡ st
full_stays st time size e = none_reclaimed st time (full_none st time size e).each

-- ---- one flag of a record, stored alone: the record with that flag

pub out_stored : (st u : State) (k : ℕ) → u ≡ set_topic st k (without_member (topic_in st k)) → u ≡ set_topic st k (out_of_mesh (topic_in st k))
unfolding out_of_mesh without_member
out_stored st u k e = e

pub into_stored :
    (st u : State) (k time : ℕ) → u ≡ set_topic st k (with_member (topic_in st k) time) → u ≡ set_topic st k (into_mesh (topic_in st k) time)
unfolding into_mesh with_member
into_stored st u k time e = e

pub subscribed_stored :
    (st u : State) (k b : ℕ) → u ≡ set_topic st k (with_subscription (topic_in st k) b) → u ≡ set_topic st k (with_subscribed (topic_in st k) b)
unfolding with_subscribed with_subscription
subscribed_stored st u k b e = e

topic_twice : (st : State) (k : ℕ) (a b : TopicRecord) → set_topic (set_topic st k a) k b ≡ set_topic st k b
unfolding set_topic
topic_twice st k a b =
    ap
    (λ (l : List TopicRecord). record
    { clock = st.clock; joined = st.joined; codes = st.codes; setup = st.setup; peers = st.peers; topics = l })
    (set-set st.topics k a b)

pub gone_stored :
    (st u v : State) (k : ℕ) →
    k < length st.topics →
    u ≡ set_topic st k (without_member (topic_in st k)) →
    v ≡ set_topic u k (with_subscription (topic_in u k) 0) →
    v ≡ set_topic st k (with_subscribed (out_of_mesh (topic_in st k)) 0)
gone_stored st u v k h p q =
    let a = out_of_mesh (topic_in st k) in
    let e : u ≡ set_topic st k (out_of_mesh (topic_in st k)) = out_stored st u k p in
    subscribed_stored u v k 0 q
    ∙ ap (λ (w : State). set_topic w k (with_subscribed (topic_in w k) 0)) e
    ∙ ap (λ (x : TopicRecord). set_topic (set_topic st k a) k (with_subscribed x 0)) (topic_same st k a h)
    ∙ topic_twice st k a (with_subscribed a 0)

-- ---- what the calls store fits

pub p5_fits : (p q : Peer) (code : ℕ) → PeerFits p → code < 4294967296 → q ≡ with_p5 p code → PeerFits q
unfolding with_p5
p5_fits p q code f h e =
    rw e (record {
      status = f.status;
      outbound = f.outbound;
      explicit = f.explicit;
      version = f.version;
      p5 = h;
      p7 = f.p7;
    })

pub connected_fits :
    (p q : Peer) (id : ℕ) (groups : Groups) (flags version : ℕ) →
    PeerFits p →
    ConnectFits flags version →
    q ≡ connected_as p id groups flags version →
    PeerFits q
unfolding connected_as
connected_fits p q id groups flags version f h e =
    let l = h.flags in
    rw e (record {
      status = omega arith;
      outbound = omega arith;
      explicit = omega arith;
      version = h.version;
      p5 = f.p5;
      p7 = f.p7;
    })

pub retained_fits : (p q : Peer) (end : ℕ) → PeerFits p → q ≡ retained_to p end → PeerFits q
unfolding retained_to
retained_fits p q end f e =
    rw e (record {
      status = omega arith;
      outbound = f.outbound;
      explicit = f.explicit;
      version = f.version;
      p5 = f.p5;
      p7 = f.p7;
    })

pub none_fits : (q : Peer) → q ≡ no_peer → PeerFits q
none_fits q e =
    rw e (record {
      status = omega arith;
      outbound = omega arith;
      explicit = omega arith;
      version = omega arith;
      p5 = omega arith;
      p7 = omega arith;
    })

pub no_topic_fits : (q : TopicRecord) → q ≡ no_topic → TopicFits q
no_topic_fits q e =
    rw e (record {
      p2 = omega arith;
      p3 = omega arith;
      p4 = omega arith;
      subscribed = omega arith;
      member = omega arith;
      graft = λ n. refl;
      mesh = λ n. refl;
    })
