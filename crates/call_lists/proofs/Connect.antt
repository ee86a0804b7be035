-- Connect: a slot that was empty or retained, and so in no mesh, gets the direction that the call said; no other connected peer has its id.
-- Assumes nothing.
use Rattle.std.proofs.Common.{None}
use Rattle.rules.proofs.ConnectLaws.{by_connect}
use Prim.Native.Nat.{ℕ, ◌%◌, ◌<◌}
use native.Mathlib.Omega.{arith}
use mathlib.Core.Path.{◌≡◌, refl, sym, ap, ◌∙◌}
use mathlib.Core.Bool.{Bool, true, false, cond, ◌&&◌}
use mathlib.Core.List.{List}
use lib.Dec.{eqb}
use borrow.Author.Tests.{eq-eqb, ne_eqb}
use Rattle.params.specs.declared.Params.{Params}
use Rattle.records.specs.declared.Peer.{Peer}
use Rattle.records.specs.Records.{State, peer_in, set_clock, set_peer, slot_count}
use Rattle.layout.proofs.StateLaws.{peer_case, peer_other, peer_after_clock, codes_after_clock, setup_after_clock, codes_after_peer}
use Rattle.layout.proofs.StateLaws.{setup_after_peer}
use Rattle.lookup.specs.Find.{find_connected}
use Rattle.lookup.proofs.FindLaws.{retained_at, empty_at, none_connected}
use Rattle.effects.specs.Effects.{connected_as, is_member, reclaimed}
use Rattle.effects.proofs.EffectLaws.{member_peer, reclaimed_stays, reclaimable_connected}
use Rattle.rules.specs.declared.Answer.TheVariants.{AlreadyConnected, NoSlot, UnknownProtocol}
use Rattle.rules.specs.Reply.{Reply}
use Rattle.rules.specs.Calls.{connect, groups_of}
use Rattle.rules.specs.Step.{connect_at, connect_reply}
use Rattle.call_lists.proofs.Fewer.{Fewer, fewer_clock}
use Rattle.call_lists.proofs.Frames.{fewer_reclaimed}
use Rattle.call_lists.proofs.Standing.{Standing, member_connected, inbounds_less, fewer_member}
use Rattle.call_lists.proofs.Replies.{After, after_refused}

module _
    (params : Params)
    (dir : ℕ → Bool)
    (st : State)
    (h : Standing params dir st)
    (time id : ℕ)
    (groups : List ℕ)
    (flags : ℕ)
    (name : List ℕ)
  where
    abbrev Here : Reply → Type 0
    Here r = After params dir (connect time id groups flags name) r

    abbrev kept : State
    kept = reclaimed st time

    fewer : Fewer st kept
    fewer = fewer_reclaimed st time

    -- reclaiming leaves a connected peer alone
    stays : (s : ℕ) → s < slot_count → (peer_in st s).status ≡ 1 → peer_in kept s ≡ peer_in st s
    stays s l on =
        reclaimed_stays st time h.size s l (reclaimable_connected (peer_in st s) time (eq-eqb (peer_in st s).status 1 on))

    -- the directions after the call
    abbrev after : ℕ → Bool
    after peer = cond (eqb id peer && true) (eqb (flags % 2) 1) (dir peer)

    module _ (none : find_connected st id ≡ None) (version : ℕ) where
      -- who was connected has another id
      other :
          (i : ℕ) →
          i < slot_count →
          (peer_in kept i).status ≡ 1 →
          eqb (peer_in kept i).outbound 1 ≡ after (peer_in kept i).id
      other i l on =
          let w = fewer.peer i on in
          let n : eqb id (peer_in kept i).id ≡ false =
          ne_eqb id (peer_in kept i).id (λ e. none_connected st id none i l w.status (sym w.id ∙ sym e)) in
          rw n (ap (λ (k : ℕ). eqb k 1) w.outbound ∙ h.tied i l w.status ∙ sym (ap dir w.id))

      -- the slot s is taken, which nobody connected holds
      module _ (s : ℕ) (off : (peer_in kept s).status ≡ 1 → ⊥) where
        abbrev p : Peer
        p = connected_as (peer_in kept s) id (groups_of groups) flags version

        abbrev u : State
        u = set_peer kept s p

        here : eqb p.outbound 1 ≡ after p.id
        unfolding connected_as
        here = rw (eq-eqb id id refl)

        tied_in : (i : ℕ) → i < slot_count → (peer_in u i).status ≡ 1 → eqb (peer_in u i).outbound 1 ≡ after (peer_in u i).id
        tied_in i l = peer_case kept (λ (q : Peer). q.status ≡ 1 → eqb q.outbound 1 ≡ after q.id) s p i (λ e on. here) (other i l)

        abbrev left : State
        left = set_clock u time

        -- a member was one, and is another slot's
        was_member :
            (t i : ℕ) →
            t < 8 →
            i < slot_count →
            is_member left t i ≡ true →
            (is_member st t i ≡ true) × ((peer_in left i).outbound ≡ (peer_in st i).outbound)
        was_member t i k l m =
            let in-u : is_member u t i ≡ true = fewer_member (fewer_clock u time) t i m in
            let was : is_member st t i ≡ true = fewer_member fewer t i (sym (member_peer kept s p i t) ∙ in-u) in
            let first : (peer_in st i).status ≡ 1 = member_connected st h.router t i k l was in
            let same : peer_in kept i ≡ peer_in st i = stays i l first in
            let on : (peer_in kept i).status ≡ 1 = ap (λ (q : Peer). q.status) same ∙ first in
            let apart : i ≡ s → ⊥ = λ e. off (rw e at on) in
            (was, ap (λ (q : Peer). q.outbound) (peer_after_clock u time i ∙ peer_other kept s p i apart ∙ same))

        taken : Here (connect_at kept time id (groups_of groups) flags version s)
        unfolding connect_at
        taken size v =
            record {
              size = size;
              router = v;
              codes = codes_after_clock u time ∙ codes_after_peer kept s p ∙ fewer.codes ∙ h.codes;
              setup = setup_after_clock u time ∙ setup_after_peer kept s p ∙ fewer.setup ∙ h.setup;
              tied = λ i l. rw (peer_after_clock u time i) (tied_in i l);
              few = λ t k.
                  let a = h.few t k in
                  let b = inbounds_less st left t (λ i l m. was_member t i k l m) in
                  omega arith;
            }

    -- "A retained id resumes its record [..]; another takes the lowest empty slot"
    pub stands_connect : After params dir (connect time id groups flags name) (connect_reply st time id (groups_of groups) flags name)
    stands_connect =
        by_connect Here st time id (groups_of groups) flags name
        (λ n. after_refused params dir st h (connect time id groups flags name) UnknownProtocol refl)
        (λ v s n c. after_refused params dir st h (connect time id groups flags name) AlreadyConnected refl)
        (λ v s n c r. let q = retained_at kept id s r in taken c v s (λ z. omega arith))
        (λ v s n c r e. let q = empty_at kept s e in taken c v s (λ z. omega arith))
        (λ v n c r e. after_refused params dir st h (connect time id groups flags name) NoSlot refl)
