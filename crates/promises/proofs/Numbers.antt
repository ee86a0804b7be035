-- The rows of the table of numbers, each call by its ends: the five of the gate, the four of a connect, the three of a heartbeat, and a
-- peer's call, which is 3 or what its reply is.
-- Assumes nothing.
use Rattle.std.proofs.Common.{Option, Some, None}
use Rattle.rules.proofs.ConnectLaws.{by_connect}
use Prim.Native.Nat.{ℕ, ◌≤◌, ◌<◌}
use native.Mathlib.Omega.{arith}
use mathlib.Core.Path.{◌≡◌, refl, sym, ap, ◌∙◌}
use mathlib.Core.Logic.{◌≢◌, ◌⊎◌, inl, inr, ⊎_elim, ◌↔◌}
use mathlib.Core.Bool.{Bool, true, false, cond, not, ◌&&◌, false≢true}
use mathlib.Core.List.{List}
use lib.Dec.{eqb, leb}
use borrow.Author.Tests.{eqb-true, eqb-false, eq-eqb, leb-true, leb-false, le-leb, le-ltb}
use lib.ListN.{get_or}
use Rattle.index.specs.Index.{every}
use Rattle.index.proofs.Index.{every_by}
use Rattle.records.specs.declared.Peer.{Peer}
use Rattle.layout.specs.View.{Sized}
use Rattle.validity.proofs.ValidLaws.{valid_facts}
use Rattle.lookup.proofs.NameLaws.{same_bytes_lem, same_self}
use Rattle.effects.proofs.EffectLaws.{reclaimed_peer, reclaimable_retained, reclaimable_end, reclaimable_over, none_reclaimed, full_stays}
use Rattle.index.proofs.Flags.{by_test, cond_case}
use Rattle.records.specs.declared.Groups.{Groups}
use Rattle.records.specs.Records.{State, no_peer, slot_count, peer_in, joined_in}
use Rattle.validity.specs.Valid.{valid}
use Rattle.lookup.specs.Find.{find_connected, find_retained, lowest_empty}
use Rattle.lookup.proofs.FindLaws.{connected_at, retained_at, empty_at, none_connected, none_retained, none_empty}
use Rattle.lookup.specs.Name.{meshsub, same_bytes, version_of}
use Rattle.sets.specs.Sets.{is_permutation}
use Rattle.effects.specs.Effects.{is_joined, backoff_runs, reclaimable, reclaimed}
use Rattle.rules.specs.declared.Answer.{Answer}
use Rattle.rules.specs.declared.Answer.TheVariants.{Done, Scored, Early, OutOfRange, NotConnected, AlreadyConnected, NoSlot}
use Rattle.rules.specs.declared.Answer.TheVariants.{UnknownProtocol, NotPermutation, ListShort, Ignored, NotRouter}
use Rattle.rules.specs.Reply.{Reply, number_of, refused, ignored}
use Rattle.rules.specs.Calls.{Call, connect, disconnect, join, leave, subscribe, unsubscribe, graft, prune, deliver, rate, heartbeat, decay}
use Rattle.rules.specs.Calls.{groups_of, score, time_of, in_range}
use Rattle.rules.proofs.GraftLaws.{by_graft}
use Rattle.rules.specs.Step.{action_room, is_graylisted, is_heard, gate_of, on_found, of_peer, connect_at}
use Rattle.rules.specs.Step.{connect_reply, join_reply, leave_reply, subscribe_reply, unsubscribe_reply, graft_refused}
use Rattle.rules.specs.Step.{graft_reply, prune_reply, deliver_reply, maintained_reply, heartbeat_reply, decay_reply, effect, step}
use Rattle.promises.specs.Numbers.{Connected, Missing, Admitted, Rows, FirstRows, Words3, Row3, Words7, Row7, Known, Strange, Words6}
use Rattle.promises.specs.Numbers.{Row6, Words4, Row4, Held, Words5, Row5}

-- ---- what is answered behind the gate: 0 or 11 (fine), or 3 to 7
abbrev fine : Answer → Bool
fine (Done n) = true
fine (Scored z) = true
fine Early = false
fine OutOfRange = false
fine NotConnected = false
fine AlreadyConnected = false
fine NoSlot = false
fine UnknownProtocol = false
fine NotPermutation = false
fine ListShort = false
fine Ignored = true
fine NotRouter = false

fine_number : (a : Answer) → fine a ≡ true → (n : ℕ) → number_of a ≡ n → n ≢ 0 → n ≢ 11 → ⊥
fine_number (Done k) e n q x y = x (sym q)
fine_number (Scored z) e n q x y = x (sym q)
fine_number Early e n q x y = false≢true e
fine_number OutOfRange e n q x y = false≢true e
fine_number NotConnected e n q x y = false≢true e
fine_number AlreadyConnected e n q x y = false≢true e
fine_number NoSlot e n q x y = false≢true e
fine_number UnknownProtocol e n q x y = false≢true e
fine_number NotPermutation e n q x y = false≢true e
fine_number ListShort e n q x y = false≢true e
fine_number Ignored e n q x y = y (sym q)
fine_number NotRouter e n q x y = false≢true e

abbrev Fine : Reply → Type 0
Fine r = fine r.answer ≡ true

either : (b : Bool) (o q : Reply) → Fine o → Fine q → Fine (cond b o q)
either b o q h k = cond_case Fine b o q (λ e. h) (λ e. k)

fine_graft : (st : State) (time t s : ℕ) → Fine (graft_reply st time t s)
unfolding graft_refused
fine_graft st time t s = by_graft Fine st time t s (λ e. refl) (λ e m. refl) (λ e. refl) (λ e. refl) (λ e. refl)

-- behind the gate
abbrev pub late : Answer → Bool
late (Done n) = true
late (Scored z) = true
late Early = false
late OutOfRange = false
late NotConnected = true
late AlreadyConnected = true
late NoSlot = true
late UnknownProtocol = true
late NotPermutation = true
late ListShort = false
late Ignored = true
late NotRouter = false

late_number : (a : Answer) → late a ≡ true → (number_of a ≢ 12) × (number_of a ≢ 2) × (number_of a ≢ 8) × (number_of a ≢ 1)
late_number (Done k) e = (λ q. omega arith, λ q. omega arith, λ q. omega arith, λ q. omega arith)
late_number (Scored z) e = (λ q. omega arith, λ q. omega arith, λ q. omega arith, λ q. omega arith)
late_number Early e = absurd (false≢true e)
late_number OutOfRange e = absurd (false≢true e)
late_number NotConnected e = (λ q. omega arith, λ q. omega arith, λ q. omega arith, λ q. omega arith)
late_number AlreadyConnected e = (λ q. omega arith, λ q. omega arith, λ q. omega arith, λ q. omega arith)
late_number NoSlot e = (λ q. omega arith, λ q. omega arith, λ q. omega arith, λ q. omega arith)
late_number UnknownProtocol e = (λ q. omega arith, λ q. omega arith, λ q. omega arith, λ q. omega arith)
late_number NotPermutation e = (λ q. omega arith, λ q. omega arith, λ q. omega arith, λ q. omega arith)
late_number ListShort e = absurd (false≢true e)
late_number Ignored e = (λ q. omega arith, λ q. omega arith, λ q. omega arith, λ q. omega arith)
late_number NotRouter e = absurd (false≢true e)

late_fine : (a : Answer) → fine a ≡ true → late a ≡ true
late_fine (Done k) e = refl
late_fine (Scored z) e = refl
late_fine Early e = e
late_fine OutOfRange e = e
late_fine NotConnected e = refl
late_fine AlreadyConnected e = refl
late_fine NoSlot e = refl
late_fine UnknownProtocol e = refl
late_fine NotPermutation e = refl
late_fine ListShort e = e
late_fine Ignored e = refl
late_fine NotRouter e = e

pub iff_yes : {A B : Type 0} → A → B → A ↔ B
iff_yes a b = (λ x. b, λ x. a)

pub iff_no : {A B : Type 0} → (A → ⊥) → (B → ⊥) → A ↔ B
iff_no f g = (λ x. absurd (f x), λ x. absurd (g x))

-- ---- a peer's call
module _ (st : State) (id : ℕ) (f : ℕ → Reply) (h : (s : ℕ) → Fine (f s)) where
  peer_late : late (of_peer st id f).answer ≡ true
  peer_late = go (find_connected st id)
    where
      go : (r : Option ℕ) → late (on_found r f (refused NotConnected st)).answer ≡ true
      go (Some s) = late_fine (f s).answer (h s)
      go None = refl

  peer_3 : (number_of (of_peer st id f).answer ≡ 3) ↔ Missing st id
  peer_3 = go (find_connected st id) refl
    where
      go : (r : Option ℕ) → find_connected st id ≡ r → (number_of (on_found r f (refused NotConnected st)).answer ≡ 3) ↔ Missing st id
      go (Some s) e =
          let q = connected_at st id s e in
          iff_no (λ n. fine_number (f s).answer (h s) 3 n (λ z. omega (arith, z)) (λ z. omega (arith, z)))
          (λ m. m s q.0 q.1 q.2)
      go None e = iff_yes refl (none_connected st id e)

  peer_not : (n : ℕ) → n ≢ 0 → n ≢ 11 → n ≢ 3 → number_of (of_peer st id f).answer ≡ n → ⊥
  peer_not n x y z = go (find_connected st id)
    where
      go : (r : Option ℕ) → number_of (on_found r f (refused NotConnected st)).answer ≡ n → ⊥
      go (Some s) q = fine_number (f s).answer (h s) n q x y
      go None q = z (sym q)

-- ---- connect
-- the name, byte for byte
known_of : (name : List ℕ) (v : ℕ) → version_of name ≡ Some v → Known name
unfolding version_of
known_of name v e =
    by_test _ (same_bytes name (meshsub 48))
    (λ a. inl (same_bytes_lem name (meshsub 48) a))
    (λ a.
    by_test _ (same_bytes name (meshsub 49))
    (λ b. inr (inl (same_bytes_lem name (meshsub 49) b)))
    (λ b.
    by_test _ (same_bytes name (meshsub 50))
    (λ d. inr (inr (same_bytes_lem name (meshsub 50) d)))
    (λ d. let w : None ≡ Some v = rw (a, b, d) at e in let z : ◌≡◌ {A = ℕ} 0 1 = cc in absurd (omega (arith, z)))))

strange_of : (name : List ℕ) → version_of name ≡ None → Strange name
unfolding version_of
strange_of name e = none (same_bytes name (meshsub 48)) (same_bytes name (meshsub 49)) (same_bytes name (meshsub 50)) e (other 48) (other 49)
    (other 50)
  where
    other : (m : ℕ) → same_bytes name (meshsub m) ≡ false → name ≢ meshsub m
    other m f q = false≢true (sym f ∙ ap (λ (l : List ℕ). same_bytes l (meshsub m)) q ∙ same_self (meshsub m))

    none : {A B C : Type 0} (p q r : Bool) → cond {A = Option ℕ} p (Some 0) (cond q (Some 1) (cond r (Some 2) None)) ≡ None →
        (p ≡ false → A) → (q ≡ false → B) → (r ≡ false → C) → A × B × C
    none true q r e f g h = let z : ◌≡◌ {A = ℕ} 0 1 = cc in absurd (omega (arith, z))
    none false true r e f g h = let z : ◌≡◌ {A = ℕ} 0 1 = cc in absurd (omega (arith, z))
    none false false true e f g h = let z : ◌≡◌ {A = ℕ} 0 1 = cc in absurd (omega (arith, z))
    none false false false e f g h = (f refl, g refl, h refl)

not_known : (name : List ℕ) → Strange name → Known name → ⊥
not_known name x k = ⊎_elim x.0 (⊎_elim x.1 x.2) k

module _ (st : State) (time id : ℕ) (groups : Groups) (flags : ℕ) (name : List ℕ) where
  abbrev u : State
  u = reclaimed st time

  -- a slot that is given: the id's own, or the lowest empty one
  abbrev Given : Type 0
  Given = ((s : ℕ) × (find_retained u id ≡ Some s)) ⊎ ((s : ℕ) × (lowest_empty u ≡ Some s))

  -- the four answers of a connect
  by_answer :
      (P : Answer → Type 0) →
      (version_of name ≡ None → P UnknownProtocol) →
      ((v s : ℕ) → version_of name ≡ Some v → find_connected st id ≡ Some s → P AlreadyConnected) →
      ((v : ℕ) → version_of name ≡ Some v → find_connected st id ≡ None → find_retained u id ≡ None → lowest_empty u ≡ None →
      P NoSlot) →
      ((v : ℕ) → version_of name ≡ Some v → find_connected st id ≡ None → Given → P (Done 0)) →
      P (connect_reply st time id groups flags name).answer
  unfolding connect_at
  by_answer P p6 p4 p5 p0 =
      by_connect (λ (r : Reply). P r.answer) st time id groups flags name p6 p4
      (λ v s n c r. p0 v n c (inl (s, r)))
      (λ v s n c r e. p0 v n c (inr (s, e)))
      p5

  -- neither 3 nor 7 nor 11, and not before the gate
  abbrev Far : Answer → Type 0
  Far a = (late a ≡ true) × (number_of a ≢ 3) × (number_of a ≢ 7) × (number_of a ≢ 11)

  pub late_connect : Far (connect_reply st time id groups flags name).answer
  late_connect =
      by_answer Far
      (λ e. (refl, λ q. omega (arith, q), λ q. omega (arith, q), λ q. omega (arith, q)))
      (λ v s k e. (refl, λ q. omega (arith, q), λ q. omega (arith, q), λ q. omega (arith, q)))
      (λ v k e f g. (refl, λ q. omega (arith, q), λ q. omega (arith, q), λ q. omega (arith, q)))
      (λ v k e g. (refl, λ q. omega (arith, q), λ q. omega (arith, q), λ q. omega (arith, q)))

  connect_6 : (number_of (connect_reply st time id groups flags name).answer ≡ 6) ↔ Strange name
  connect_6 =
      by_answer (λ (a : Answer). (number_of a ≡ 6) ↔ Strange name)
      (λ e. iff_yes refl (strange_of name e))
      (λ v s k e. iff_no (λ q. omega (arith, q)) (λ x. not_known name x (known_of name v k)))
      (λ v k e f g. iff_no (λ q. omega (arith, q)) (λ x. not_known name x (known_of name v k)))
      (λ v k e g. iff_no (λ q. omega (arith, q)) (λ x. not_known name x (known_of name v k)))

  connect_4 : (number_of (connect_reply st time id groups flags name).answer ≡ 4) ↔ (Known name × Connected st id)
  connect_4 =
      by_answer (λ (a : Answer). (number_of a ≡ 4) ↔ (Known name × Connected st id))
      (λ e. iff_no (λ q. omega (arith, q)) (λ w. not_known name (strange_of name e) w.0))
      (λ v s k e. let q = connected_at st id s e in iff_yes refl (known_of name v k, (s, q.0, q.1, q.2)))
      (λ v k e f g. iff_no (λ q. omega (arith, q)) (λ w. none_connected st id e w.1.0 w.1.1 w.1.2 w.1.3))
      (λ v k e g. iff_no (λ q. omega (arith, q)) (λ w. none_connected st id e w.1.0 w.1.1 w.1.2 w.1.3))

  -- ---- 5: where all slots are held nothing is reclaimed, and where nothing is empty after reclaiming all are held
  abbrev AllHeld : Type 0
  AllHeld = (s : ℕ) → s < slot_count → Held st time id s

  reclaimable_by :
      (p : Peer) → p.status ≡ 2 → p.retain ≤ time → ((t : ℕ) → t < 8 → get_or p.backoff t 0 ≤ time) → reclaimable p time ≡ true
  unfolding reclaimable
  reclaimable_by p a b c =
      let e : every 8 (λ t. not (backoff_runs p t time)) ≡ true =
      every_by (λ t. not (backoff_runs p t time)) 8 (λ t h. ap not (le-ltb time (get_or p.backoff t 0) (c t h))) in
      rw (eq-eqb p.status 2 a, le-leb p.retain time b, e)

  held_still : AllHeld → u ≡ st
  held_still h =
      none_reclaimed st time (λ s l.
      by_test _ (reclaimable (peer_in st s) time)
      (λ r.
      absurd
      ((h s l).stays
      (eqb-true (peer_in st s).status 2 (reclaimable_retained (peer_in st s) time r))
      (reclaimable_end (peer_in st s) time r)
      (reclaimable_over (peer_in st s) time r)))
      (λ r. r))

  none_given : AllHeld → Given → ⊥
  none_given h g =
      let same = held_still h in
      ⊎_elim
      (λ w. let q = retained_at st id w.0 (ap (λ (x : State). find_retained x id) (sym same) ∙ w.1) in (h w.0 q.0).other q.2)
      (λ w. let q = empty_at st w.0 (ap lowest_empty (sym same) ∙ w.1) in (h w.0 q.0).used q.1)
      g

  all_held :
      Sized st → valid st ≡ true → find_connected st id ≡ None → find_retained u id ≡ None → lowest_empty u ≡ None → AllHeld
  unfolding lowest_empty
  all_held size ok e f g s l =
      let same : u ≡ st = full_stays st time size g in
      let full = none_empty st (ap lowest_empty (sym same) ∙ g) s l in
      let status = ((valid_facts st ok).peer s l).status in
      record {
        used = full;
        other = λ q.
            by_test _ (eqb (peer_in st s).status 1)
            (λ on. none_connected st id e s l (eqb-true _ _ on) q)
            (λ off.
            let x = eqb-false (peer_in st s).status 1 off in
            none_retained st id (ap (λ (x : State). find_retained x id) (sym same) ∙ f) s l (omega (arith, full, x, status)) q);
        stays = λ a b c.
            let r = reclaimable_by (peer_in st s) a b c in
            let n : peer_in st s ≡ no_peer = ap (λ (x : State). peer_in x s) (sym same) ∙ reclaimed_peer st time size s l ∙ rw r in
            full (ap (λ (p : Peer). p.status) n);
      }

  connect_5 :
      Sized st → valid st ≡ true →
      (number_of (connect_reply st time id groups flags name).answer ≡ 5) ↔ (Known name × AllHeld)
  connect_5 size ok =
      by_answer (λ (a : Answer). (number_of a ≡ 5) ↔ (Known name × AllHeld))
      (λ e. iff_no (λ q. omega (arith, q)) (λ w. not_known name (strange_of name e) w.0))
      (λ v s k e. let q = connected_at st id s e in iff_no (λ q. omega (arith, q)) (λ w. (w.1 s q.0).other q.2))
      (λ v k e f g. iff_yes refl (known_of name v k, all_held size ok e f g))
      (λ v k e g. iff_no (λ q. omega (arith, q)) (λ w. none_given w.1 g))

-- ---- heartbeat
module _ (st : State) (time t ask : ℕ) (order : List ℕ) where
  -- its three ends
  by_heartbeat :
      (P : Answer → Type 0) → (is_permutation slot_count order ≡ false → P NotPermutation) →
      (is_permutation slot_count order ≡ true → is_joined st t ≡ false → P Ignored) →
      (is_permutation slot_count order ≡ true → is_joined st t ≡ true → (n : ℕ) → P (Done n)) → P (heartbeat_reply st time t ask order).answer
  unfolding heartbeat_reply maintained_reply
  by_heartbeat P p7 p11 p0 =
      cond_case (λ (r : Reply). P r.answer) (is_permutation slot_count order) _ (refused NotPermutation st)
      (λ right.
      cond_case (λ (r : Reply). P r.answer) (is_joined st t) (maintained_reply st time t ask order) (ignored st time)
      (λ j. p0 right j _)
      (λ j. p11 right j))
      (λ wrong. p7 wrong)

  heartbeat_late : late (heartbeat_reply st time t ask order).answer ≡ true
  heartbeat_late = by_heartbeat (λ (a : Answer). late a ≡ true) (λ w. refl) (λ r j. refl) (λ r j n. refl)

  heartbeat_not : (n : ℕ) → n ≢ 0 → n ≢ 11 → n ≢ 7 → number_of (heartbeat_reply st time t ask order).answer ≢ n
  heartbeat_not n x y z = by_heartbeat (λ (a : Answer). number_of a ≢ n) (λ w q. z (sym q)) (λ r j q. y (sym q)) (λ r j k q. x (sym q))

  heartbeat_7 : (number_of (heartbeat_reply st time t ask order).answer ≡ 7) ↔ (is_permutation slot_count order ≡ false)
  heartbeat_7 =
      by_heartbeat (λ (a : Answer). (number_of a ≡ 7) ↔ (is_permutation slot_count order ≡ false))
      (λ w. iff_yes refl w)
      (λ r j. iff_no (λ q. omega (arith, q)) (λ w. false≢true (sym w ∙ r)))
      (λ r j n. iff_no (λ q. omega (arith, q)) (λ w. false≢true (sym w ∙ r)))

  pub heartbeat_11 :
      (number_of (heartbeat_reply st time t ask order).answer ≡ 11)
      ↔ ((is_permutation slot_count order ≡ true) × (joined_in st t ≢ 1))
  heartbeat_11 =
      by_heartbeat (λ (a : Answer). (number_of a ≡ 11) ↔ ((is_permutation slot_count order ≡ true) × (joined_in st t ≢ 1)))
      (λ w. iff_no (λ q. omega (arith, q)) (λ x. false≢true (sym w ∙ x.0)))
      (λ r j. iff_yes refl (r, eqb-false (joined_in st t) 1 j))
      (λ r j n. iff_no (λ q. omega (arith, q)) (λ x. x.1 (eqb-true (joined_in st t) 1 j)))

-- ---- each call
module _ (st : State) where
  fine_join : (time t : ℕ) → Fine (join_reply st time t)
  unfolding join_reply
  fine_join time t = either (is_joined st t) (ignored st time) _ refl refl

  fine_leave : (time t : ℕ) → Fine (leave_reply st time t)
  unfolding leave_reply
  fine_leave time t = either (is_joined st t) _ (ignored st time) refl refl

  fine_subscribe : (time t s : ℕ) → Fine (subscribe_reply st time t s)
  unfolding subscribe_reply
  fine_subscribe time t s = either (is_graylisted st s) (ignored st time) _ refl refl

  fine_unsubscribe : (time t s : ℕ) → Fine (unsubscribe_reply st time t s)
  unfolding unsubscribe_reply
  fine_unsubscribe time t s = either (is_graylisted st s) (ignored st time) _ refl refl

  fine_prune : (time t seconds s : ℕ) → Fine (prune_reply st time t seconds s)
  unfolding prune_reply
  fine_prune time t seconds s = either (is_heard st t s) _ (ignored st time) refl refl

  fine_deliver : (time t kind s : ℕ) → Fine (deliver_reply st time t kind s)
  unfolding deliver_reply
  fine_deliver time t kind s = either (is_heard st t s) _ (ignored st time) refl refl

  fine_decay : (time : ℕ) → Fine (decay_reply st time)
  unfolding decay_reply
  fine_decay time = refl

  -- the rows of one call behind the gate
  pub record Behind (c : Call) (a : Answer) : Type 0 where
    pub is_late : late a ≡ true
    pub is_3 : (number_of a ≡ 3) ↔ Words3 st c
    pub is_7 : (number_of a ≡ 7) ↔ Words7 c
    pub is_6 : (number_of a ≡ 6) ↔ Words6 c
    pub is_4 : (number_of a ≡ 4) ↔ Words4 st c
    pub is_5 : Sized st → valid st ≡ true → (number_of a ≡ 5) ↔ Words5 st c

  -- a call that is neither connect nor heartbeat: its words of 7, 6, 4 and 5 are ⊥
  module _ (c : Call) (w7 : Words7 c → ⊥) (w6 : Words6 c → ⊥) (w4 : Words4 st c → ⊥) (w5 : Words5 st c → ⊥) where
    of_peer_lem :
        (id : ℕ) (f : ℕ → Reply) → ((s : ℕ) → Fine (f s)) →
        ((number_of (of_peer st id f).answer ≡ 3) ↔ Missing st id → (number_of (of_peer st id f).answer ≡ 3) ↔ Words3 st c) →
        Behind c (of_peer st id f).answer
    of_peer_lem id f h g =
        let n = peer_not st id f h in
        record {
          is_late = peer_late st id f h;
          is_3 = g (peer_3 st id f h);
          is_7 = iff_no (n 7 (λ z. omega (arith, z)) (λ z. omega (arith, z)) (λ z. omega (arith, z))) w7;
          is_6 = iff_no (n 6 (λ z. omega (arith, z)) (λ z. omega (arith, z)) (λ z. omega (arith, z))) w6;
          is_4 = iff_no (n 4 (λ z. omega (arith, z)) (λ z. omega (arith, z)) (λ z. omega (arith, z))) w4;
          is_5 = λ size ok. iff_no (n 5 (λ z. omega (arith, z)) (λ z. omega (arith, z)) (λ z. omega (arith, z))) w5;
        }

    of_none : (a : Answer) → fine a ≡ true → (Words3 st c → ⊥) → Behind c a
    of_none a h w3 =
        let n = fine_number a h in
        record {
          is_late = late_fine a h;
          is_3 = iff_no (λ q. n 3 q (λ z. omega (arith, z)) (λ z. omega (arith, z))) w3;
          is_7 = iff_no (λ q. n 7 q (λ z. omega (arith, z)) (λ z. omega (arith, z))) w7;
          is_6 = iff_no (λ q. n 6 q (λ z. omega (arith, z)) (λ z. omega (arith, z))) w6;
          is_4 = iff_no (λ q. n 4 q (λ z. omega (arith, z)) (λ z. omega (arith, z))) w4;
          is_5 = λ size ok. iff_no (λ q. n 5 q (λ z. omega (arith, z)) (λ z. omega (arith, z))) w5;
        }

  pub behind : (c : Call) → Behind c (effect st c).answer
  unfolding effect
  behind (connect time id groups flags name) =
      let w = late_connect st time id (groups_of groups) flags name in
      record {
        is_late = w.0;
        is_3 = iff_no w.1 (λ x. x);
        is_7 = iff_no w.2 (λ x. x);
        is_6 = connect_6 st time id (groups_of groups) flags name;
        is_4 = connect_4 st time id (groups_of groups) flags name;
        is_5 = connect_5 st time id (groups_of groups) flags name;
      }
  behind (disconnect time id) = of_peer_lem (disconnect time id) (λ x. x) (λ x. x) (λ x. x) (λ x. x) id _ (λ s. refl) (λ x. x)
  behind (join time t) = of_none (join time t) (λ x. x) (λ x. x) (λ x. x) (λ x. x) _ (fine_join time t) (λ x. x)
  behind (leave time t) = of_none (leave time t) (λ x. x) (λ x. x) (λ x. x) (λ x. x) _ (fine_leave time t) (λ x. x)
  behind (subscribe time id t) = of_peer_lem (subscribe time id t) (λ x. x) (λ x. x) (λ x. x) (λ x. x) id _ (fine_subscribe time t) (λ x. x)
  behind (unsubscribe time id t) =
      of_peer_lem (unsubscribe time id t) (λ x. x) (λ x. x) (λ x. x) (λ x. x) id _ (fine_unsubscribe time t) (λ x. x)
  behind (graft time id t) = of_peer_lem (graft time id t) (λ x. x) (λ x. x) (λ x. x) (λ x. x) id _ (fine_graft st time t) (λ x. x)
  behind (prune time id t seconds) =
      of_peer_lem (prune time id t seconds) (λ x. x) (λ x. x) (λ x. x) (λ x. x) id _ (fine_prune time t seconds) (λ x. x)
  behind (deliver time id t kind) =
      of_peer_lem (deliver time id t kind) (λ x. x) (λ x. x) (λ x. x) (λ x. x) id _ (fine_deliver time t kind) (λ x. x)
  behind (rate time id p5) = of_peer_lem (rate time id p5) (λ x. x) (λ x. x) (λ x. x) (λ x. x) id _ (λ s. refl) (λ x. x)
  behind (heartbeat time t ask order) =
      let n = heartbeat_not st time t ask order in
      record {
        is_late = heartbeat_late st time t ask order;
        is_3 = iff_no (n 3 (λ z. omega (arith, z)) (λ z. omega (arith, z)) (λ z. omega (arith, z))) (λ x. x);
        is_7 = heartbeat_7 st time t ask order;
        is_6 = iff_no (n 6 (λ z. omega (arith, z)) (λ z. omega (arith, z)) (λ z. omega (arith, z))) (λ x. x);
        is_4 = iff_no (n 4 (λ z. omega (arith, z)) (λ z. omega (arith, z)) (λ z. omega (arith, z))) (λ x. x);
        is_5 = λ size ok. iff_no (n 5 (λ z. omega (arith, z)) (λ z. omega (arith, z)) (λ z. omega (arith, z))) (λ x. x);
      }
  behind (decay time) = of_none (decay time) (λ x. x) (λ x. x) (λ x. x) (λ x. x) _ (fine_decay time) (λ x. x)
  behind (score time id) = of_peer_lem (score time id) (λ x. x) (λ x. x) (λ x. x) (λ x. x) id _ (λ s. refl) (λ x. x)

-- what is answered behind the gate and is none of the other rows is 0
pub else_done :
    (a : Answer) →
    late a ≡ true →
    number_of a ≢ 3 →
    number_of a ≢ 4 →
    number_of a ≢ 5 →
    number_of a ≢ 6 →
    number_of a ≢ 7 →
    number_of a ≢ 11 →
    number_of a ≡ 0
else_done (Done k) e x3 x4 x5 x6 x7 x11 = refl
else_done (Scored z) e x3 x4 x5 x6 x7 x11 = refl
else_done Early e x3 x4 x5 x6 x7 x11 = absurd (false≢true e)
else_done OutOfRange e x3 x4 x5 x6 x7 x11 = absurd (false≢true e)
else_done NotConnected e x3 x4 x5 x6 x7 x11 = absurd (x3 refl)
else_done AlreadyConnected e x3 x4 x5 x6 x7 x11 = absurd (x4 refl)
else_done NoSlot e x3 x4 x5 x6 x7 x11 = absurd (x5 refl)
else_done UnknownProtocol e x3 x4 x5 x6 x7 x11 = absurd (x6 refl)
else_done NotPermutation e x3 x4 x5 x6 x7 x11 = absurd (x7 refl)
else_done ListShort e x3 x4 x5 x6 x7 x11 = absurd (false≢true e)
else_done Ignored e x3 x4 x5 x6 x7 x11 = absurd (x11 refl)
else_done NotRouter e x3 x4 x5 x6 x7 x11 = absurd (false≢true e)

-- ---- the gate
-- P holds of the answer if it holds at each of the five ends
module _ (st : State) (c : Call) (room : ℕ) where
  by_end :
      (P : Answer → Type 0) → (valid st ≡ false → P NotRouter) → (valid st ≡ true → in_range c ≡ false → P OutOfRange) →
      (valid st ≡ true → in_range c ≡ true → room < action_room → P ListShort) →
      (valid st ≡ true → in_range c ≡ true → action_room ≤ room → time_of c < st.clock → P Early) →
      (Admitted st c room → P (effect st c).answer) → P (step st c room).answer
  unfolding step gate_of
  by_end P p12 p2 p8 p1 p0 =
      by_test _ (valid st)
      (λ v.
      by_test _ (in_range c)
      (λ f.
      by_test _ (leb action_room room)
      (λ r.
      by_test _ (leb st.clock (time_of c))
      (λ k.
      rw (v, f, r, k)
      (p0 (record { router = v; ranges = f; list = leb-true action_room room r; time = leb-true st.clock (time_of c) k })))
      (λ k. rw (v, f, r, k) (p1 v f (leb-true action_room room r) (leb-false st.clock (time_of c) k))))
      (λ r. rw (v, f, r) (p8 v f (leb-false action_room room r))))
      (λ f. rw (v, f) (p2 v f)))
      (λ v. rw v (p12 v))

not_true : (b : Bool) → b ≡ false → b ≡ true → ⊥
not_true b f t = false≢true (sym f ∙ t)

pub first_rows : FirstRows
first_rows st c room =
    by_end st c room (λ (a : Answer). Rows st c room (number_of a))
    (λ v. record {
      row12 = iff_yes refl v;
      row2 = iff_no (λ q. omega (arith, q)) (λ w. not_true (valid st) v w.0);
      row8 = iff_no (λ q. omega (arith, q)) (λ w. not_true (valid st) v w.0);
      row1 = iff_no (λ q. omega (arith, q)) (λ w. not_true (valid st) v w.0);
    })
    (λ v f. record {
      row12 = iff_no (λ q. omega (arith, q)) (λ w. not_true (valid st) w v);
      row2 = iff_yes refl (v, f);
      row8 = iff_no (λ q. omega (arith, q)) (λ w. not_true (in_range c) f w.1);
      row1 = iff_no (λ q. omega (arith, q)) (λ w. not_true (in_range c) f w.1);
    })
    (λ v f l. record {
      row12 = iff_no (λ q. omega (arith, q)) (λ w. not_true (valid st) w v);
      row2 = iff_no (λ q. omega (arith, q)) (λ w. not_true (in_range c) w.1 f);
      row8 = iff_yes refl (v, f, l);
      row1 = iff_no (λ q. omega (arith, q)) (λ w. omega (arith, l, w.2));
    })
    (λ v f l k. record {
      row12 = iff_no (λ q. omega (arith, q)) (λ w. not_true (valid st) w v);
      row2 = iff_no (λ q. omega (arith, q)) (λ w. not_true (in_range c) w.1 f);
      row8 = iff_no (λ q. omega (arith, q)) (λ w. omega (arith, l, w.2));
      row1 = iff_yes refl (v, f, l, k);
    })
    (λ p.
    let b = late_number (effect st c).answer (behind st c).is_late in
    record {
      row12 = iff_no b.0 (λ w. not_true (valid st) w p.router);
      row2 = iff_no b.1 (λ w. not_true (in_range c) w.1 p.ranges);
      row8 = iff_no b.2 (λ w. omega (arith, p.list, w.2));
      row1 = iff_no b.3 (λ w. omega (arith, p.time, w.3));
    })

-- a row of a number that is answered behind the gate alone: neither 12 nor 2, 8, 1
abbrev pub late_code : ℕ → Bool
late_code n = not (eqb n 12) && (not (eqb n 2) && (not (eqb n 8) && not (eqb n 1)))

pub row_behind :
    (st : State) (c : Call) (room n : ℕ) (Q : Type 0) → late_code n ≡ true →
    (Admitted st c room → (number_of (effect st c).answer ≡ n) ↔ Q) → (number_of (step st c room).answer ≡ n) ↔ (Admitted st c room × Q)
row_behind st c room n Q l h =
    by_end st c room (λ (a : Answer). (number_of a ≡ n) ↔ (Admitted st c room × Q))
    (λ v. iff_no (early 12 refl) (λ k. not_true (valid st) v k.0.router))
    (λ v f. iff_no (early 2 refl) (λ k. not_true (in_range c) f k.0.ranges))
    (λ v f m. iff_no (early 8 refl) (λ k. omega (arith, m, k.0.list)))
    (λ v f m t. iff_no (early 1 refl) (λ k. omega (arith, t, k.0.time)))
    (λ p. (λ q. (p, (h p).0 q), λ k. (h p).1 k.1))
  where
    early : (i : ℕ) → late_code i ≡ false → i ≡ n → ⊥
    early i e q = false≢true (sym e ∙ ap late_code q ∙ l)

pub row3 : Row3
row3 st c room = row_behind st c room 3 _ refl (λ p. (behind st c).is_3)

pub row7 : Row7
row7 st c room = row_behind st c room 7 _ refl (λ p. (behind st c).is_7)

pub row6 : Row6
row6 st c room = row_behind st c room 6 _ refl (λ p. (behind st c).is_6)

pub row4 : Row4
row4 st c room = row_behind st c room 4 _ refl (λ p. (behind st c).is_4)

pub row5 : Row5
row5 st c room size = row_behind st c room 5 _ refl (λ p. (behind st c).is_5 size p.router)
