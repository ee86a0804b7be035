-- The invariant of demand 3: what stands after every list of calls, for the parameters and for the directions that the list's connects
-- said. It holds of a fresh or loaded router, and stays where nobody comes (Fewer).
-- Assumes nothing.
use Rattle.std.proofs.Common.{None}
use Prim.Native.Nat.{ℕ, zero, suc, ◌+◌, ◌<◌, ◌≤◌}
use native.Mathlib.Omega.{arith}
use mathlib.Core.Path.{◌≡◌, refl, sym, ap, ◌∙◌}
use mathlib.Core.Bool.{Bool, true, false, not, ◌&&◌}
use mathlib.Core.List.{List, map}
use lib.Dec.{eqb}
use lib.IntN.{ℤ, pos, negsuc, nat_abs}
use lib.ListN.{length, get_or, replicate, length-map, length-replicate, get_or-replicate, get_or-map, get_or-eq_default}
use borrow.Author.Tests.{eqb-true, eq-eqb}
use Rattle.index.specs.Index.{count}
use Rattle.index.proofs.Index.{both, count_less}
use Rattle.index.proofs.Flags.{by_order}
use Rattle.varint.specs.Codes.{code_of, magnitude}
use Rattle.params.specs.declared.Params.{Params}
use Rattle.params.specs.Check.{first_broken}
use Rattle.limits.specs.Limits.{at}
use Rattle.records.specs.declared.Peer.{Peer}
use Rattle.records.specs.Records.{param_count, State, slot_count, no_peer, no_topic, place, code_in, peer_in}
use Rattle.layout.specs.View.{Sized, place_count}
use Rattle.validity.specs.Valid.{valid}
use Rattle.lookup.specs.Fresh.{setup_of, fresh_state}
use Rattle.validity.proofs.ValidLaws.{valid_facts}
use Rattle.lookup.proofs.FreshLaws.{fresh_valid}
use Rattle.effects.specs.Effects.{is_member}
use Rattle.saves.proofs.Promised.{router}
use Rattle.call_lists.specs.Lists.{Start, Begins, from_fresh, from_load}
use Rattle.call_lists.specs.Demand3.{Accepted, d_hi}
use Rattle.call_lists.proofs.Fewer.{Fewer}

-- an inbound member, by the flag of its record
abbrev pub is_inbound : State → ℕ → ℕ → Bool
is_inbound st t s = is_member st t s && not (eqb (peer_in st s).outbound 1)

unfoldable pub inbounds : State → ℕ → ℕ
inbounds st t = count slot_count (is_inbound st t)

-- `dir` says of each id whether its peer is outbound
pub record Standing (params : Params) (dir : ℕ → Bool) (st : State) : Type 0 where
  pub size : Sized st
  pub router : valid st ≡ true
  pub codes : st.codes ≡ map code_of params.numbers
  pub setup : st.setup ≡ setup_of params
  -- a connected peer's flag is its direction
  pub tied : (s : ℕ) → s < slot_count → (peer_in st s).status ≡ 1 → eqb (peer_in st s).outbound 1 ≡ dir (peer_in st s).id
  pub few : (t : ℕ) → t < 8 → inbounds st t ≤ d_hi params + 2

-- ---- what the tables say of members
-- "a member is connected"
pub member_connected :
    (st : State) → valid st ≡ true → (t s : ℕ) → t < 8 → s < slot_count → is_member st t s ≡ true → (peer_in st s).status ≡ 1
unfolding is_member
member_connected st v t s k h m = (((valid_facts st v).topic s t h k).inside (eqb-true _ _ m)).0

-- no more inbound members, if each member was one and has the flag that it had
pub inbounds_less :
    (st u : State) (t : ℕ) →
    ((s : ℕ) → s < slot_count → is_member u t s ≡ true → (is_member st t s ≡ true) × ((peer_in u s).outbound ≡ (peer_in st s).outbound)) →
    inbounds u t ≤ inbounds st t
unfolding inbounds
inbounds_less st u t h =
    count_less (is_inbound u t) (is_inbound st t) slot_count (λ s l e.
    let q = both (is_member u t s) (not (eqb (peer_in u s).outbound 1)) e in
    let w = h s l q.0 in
    rw (w.0, ← w.1) q.1)

-- no more inbound members than members
pub inbounds_most : (st : State) (t : ℕ) → inbounds st t ≤ count slot_count (is_member st t)
unfolding inbounds
inbounds_most st t =
    count_less (is_inbound st t) (is_member st t) slot_count (λ s l e. (both (is_member st t s) (not (eqb (peer_in st s).outbound 1)) e).0)

pub fewer_member : {st u : State} → Fewer st u → (t s : ℕ) → is_member u t s ≡ true → is_member st t s ≡ true
unfolding is_member
fewer_member f t s m = eq-eqb _ _ (f.member (place s t) (eqb-true _ _ m))

-- ---- the parameters, as the rules read them
magnitude_code : (z : ℤ) → magnitude (code_of z) ≡ nat_abs z
magnitude_code (pos n) = omega arith
magnitude_code (negsuc n) = omega arith

pub degree_is :
    (st : State) (params : Params) → st.codes ≡ map code_of params.numbers → (i : ℕ) → magnitude (code_in st i)
    ≡ nat_abs (at params.numbers i)
unfolding code_in
degree_is st params e i =
    ap (λ (l : List ℕ). magnitude (get_or l i 0)) e
    ∙ ap (λ (n : ℕ). magnitude n) (get_or-map code_of params.numbers i (pos 0))
    ∙ magnitude_code (at params.numbers i)

-- ---- the invariant stays
pub stands_fewer :
    (params : Params) (dir dir' : ℕ → Bool) (st u : State) →
    Standing params dir st →
    Fewer st u →
    ((id : ℕ) → dir' id ≡ dir id) →
    Sized u →
    valid u ≡ true →
    Standing params dir' u
stands_fewer params dir dir' st u h f same size v =
    record {
      size = size;
      router = v;
      codes = f.codes ∙ h.codes;
      setup = f.setup ∙ h.setup;
      tied = λ s l on.
          let w = f.peer s on in
          ap (λ (n : ℕ). eqb n 1) w.outbound
          ∙ h.tied s l w.status
          ∙ sym (ap dir w.id)
          ∙ sym (same (peer_in u s).id);
      few = λ t k.
          let a = h.few t k in
          let b =
          inbounds_less st u t (λ s l m.
          (fewer_member f t s m, (f.peer s (member_connected u v t s k l m)).outbound)) in
          omega arith;
    }

-- ---- and holds of a router in which nobody is connected, since a member is
count_no : (n : ℕ) → count n (λ s. false) ≡ 0
unfolding count
count_no zero = refl
count_no (suc n) = omega (arith, count_no n)

module _ (params : Params) (st : State) (v : valid st ≡ true) (off : (s : ℕ) → s < slot_count → (peer_in st s).status ≡ 1 → ⊥) where
  no_inbound : (t : ℕ) → t < 8 → inbounds st t ≤ 0
  unfolding inbounds
  no_inbound t k =
      let a : count slot_count (is_inbound st t) ≤ count slot_count (λ s. false) =
      count_less (is_inbound st t) (λ s. false) slot_count (λ s l e.
      absurd (off s l (member_connected st v t s k l (both (is_member st t s) _ e).0))) in
      omega (arith, count_no slot_count)

  stands_off : Sized st → st.codes ≡ map code_of params.numbers → st.setup ≡ setup_of params → (dir : ℕ → Bool) → Standing params dir st
  stands_off size codes setup dir =
      record {
        size = size;
        router = v;
        codes = codes;
        setup = setup;
        tied = λ s l on. absurd (off s l on);
        few = λ t k. omega (arith, no_inbound t k);
      }

-- ---- a fresh router
module _ (params : Params) where
  always : {A : Type 0} (n k : ℕ) (a : A) → get_or (replicate n a) k a ≡ a
  always n k a =
      by_order (get_or (replicate n a) k a ≡ a) k n (get_or-replicate n k a a) (λ h.
      get_or-eq_default (replicate n a) a {n = k} (rw length-replicate h))

  fresh_peer : (s : ℕ) → peer_in (fresh_state params) s ≡ no_peer
  unfolding peer_in fresh_state
  fresh_peer s = always slot_count s no_peer

  fresh_off : (s : ℕ) → s < slot_count → (peer_in (fresh_state params) s).status ≡ 1 → ⊥
  fresh_off s h on = let z = ap (λ (p : Peer). p.status) (fresh_peer s) in omega arith

  fresh_sized : length params.numbers ≡ param_count → Sized (fresh_state params)
  unfolding fresh_state
  fresh_sized l =
      record {
        joined = length-replicate {A = ℕ} 8 0;
        codes = length-map params.numbers code_of ∙ l;
        peers = length-replicate slot_count no_peer;
        topics = length-replicate place_count no_topic;
        ends = λ s. ap (λ (p : Peer). length p.backoff) (fresh_peer s);
      }

  fresh_made : ((fresh_state params).codes ≡ map code_of params.numbers) × ((fresh_state params).setup ≡ setup_of params)
  unfolding fresh_state
  fresh_made = (refl, refl)

  stands_fresh : length params.numbers ≡ param_count → first_broken params ≡ None → (dir : ℕ → Bool) →
      Standing params dir (fresh_state params)
  stands_fresh l e = stands_off params (fresh_state params) (fresh_valid params l e) fresh_off (fresh_sized l) fresh_made.0
      fresh_made.1

-- ---- a fresh or a loaded one
off_begun : (start : Start) → Accepted start → Begins start → (s : ℕ) → s < slot_count → (peer_in start.state s).status ≡ 1 → ⊥
off_begun start ok (from_fresh e) s h on = fresh_off start.params s h (rw e at on)
off_begun start ok (from_load l) s h on =
    (router l.fine start.params l.clock l.bytes start.state ok.size l.byte l.load).off s h on

-- a list starts with nobody connected
pub off_start : (start : Start) → Accepted start → (s : ℕ) → s < slot_count → (peer_in start.state s).status ≡ 1 → ⊥
off_start start ok = off_begun start ok ok.begins

stands_begun : (start : Start) → Accepted start → Begins start → (dir : ℕ → Bool) → Standing start.params dir start.state
stands_begun start ok (from_fresh e) dir = rw e (stands_fresh start.params ok.size ok.passes dir)
stands_begun start ok (from_load l) dir =
    let r = router l.fine start.params l.clock l.bytes start.state ok.size l.byte l.load in
    stands_off start.params start.state r.router r.off r.size r.sheet.codes r.sheet.setup dir

pub stands_start : (start : Start) → Accepted start → (dir : ℕ → Bool) → Standing start.params dir start.state
stands_start start ok = stands_begun start ok ok.begins
