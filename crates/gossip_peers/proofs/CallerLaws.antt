-- From the answer of `admit_peer` to what a call of a peer promises and what its inner function may rely on: one law for every such call.
-- Assumes nothing.
use Rattle.std.proofs.Common.{Option, Some, None, Result, Ok, Err, ok_or}
use Rattle.index.proofs.Kit.{ℕ, ◌≡◌, refl, sym, ap, ◌∙◌, Bool, true, false, arith}
use Prim.Native.Nat.{zero, suc}
use mathlib.Core.Path.{ap₂}
use mathlib.Core.Bool.{◌&&◌}
use mathlib.Core.List.{List, []}
use lib.Dec.{leb}
use lib.ListN.{length}
use Rattle.layout.specs.View.{cell_count, state_of}
use Rattle.lookup.specs.Find.{find_connected}
use Rattle.lookup.proofs.FindLaws.{connected_at}
use Rattle.rules.specs.Calls.{time_ok}
use Rattle.rules.specs.Step.{action_room}
use Rattle.gossip.specs.Notes.{Extended}
use Rattle.gossip.specs.Calls.{New, new, time_of_new, new_arguments_ok, list_ok}
use Rattle.gossip.specs.Step.{FullReply, of_peer_all, new_effect, step_all}
use Rattle.gossip_table.specs.View.{gossip_cells, extended_of}
use Rattle.gossip_gate.specs.Promise.{LeavesAll, FollowsAll, gate_all}
use Rattle.gossip_gate.specs.Admitted.{SlotAdmitted}
use Rattle.gossip_gate.proofs.PromiseLaws.{gives_quiet}
use Rattle.gossip_gate.proofs.ReplyLaws.{peer_found, peer_missing}
use Rattle.gossip_gate.proofs.EndLaws.{ends_missing}
use Rattle.gossip_gate.proofs.GateLaws.{gate_refusal, gate_silent, gate_gives, gate_numbers, gate_fine, gate_lists, gate_admitted}
use Rattle.gossip_peers.specs.Callers.{found_behind, admitted_peer}

-- ---- the answer, part by part
pub admitted_refused :
    (x : Extended) (fine fits : Bool) (time id n : ℕ) →
    n ≡ gate_all x fine fits time →
    (n ≡ 0 → ⊥) →
    Err n ≡ admitted_peer x fine fits time id
unfolding admitted_peer
admitted_refused x fine fits time id n e nz = go n nz ∙ ap (λ (k : ℕ). found_behind k (find_connected x.base id)) e
  where
    go : (n : ℕ) → (n ≡ 0 → ⊥) → ◌≡◌ {A = Result ℕ ℕ} (Err n) (found_behind n (find_connected x.base id))
    go zero nz = absurd (nz refl)
    go (suc n) nz = refl

pub admitted_found :
    (x : Extended) (fine fits : Bool) (time id n : ℕ) (f : Option ℕ) →
    n ≡ gate_all x fine fits time →
    n ≡ 0 →
    f ≡ find_connected x.base id →
    ok_or f 3 ≡ admitted_peer x fine fits time id
unfolding admitted_peer
admitted_found x fine fits time id n f e z ef = ap₂ found_behind (sym z ∙ e) ef

-- an answer is the number of a test, 3, or a slot
data Answered (r : Result ℕ ℕ) (n : ℕ) (f : Option ℕ) : Type 0 where
  refused : r ≡ Err n → (n ≡ 0 → ⊥) → Answered r n f
  missing : r ≡ Err 3 → n ≡ 0 → f ≡ None → Answered r n f
  found : (s : ℕ) → r ≡ Ok s → n ≡ 0 → f ≡ Some s → Answered r n f

answered : (r : Result ℕ ℕ) (n : ℕ) (f : Option ℕ) → r ≡ found_behind n f → Answered r n f
answered r zero (Some s) e = found s e refl refl
answered r zero None e = missing e refl refl
answered r (suc n) f e = refused e (λ z. omega (arith, z))

-- a call that is lent no list of numbers
pub no_list : (b : Bool) → b ≡ (b && true)
no_list true = refl
no_list false = refl

-- ---- what the call promises: `f` is the reply of a slot
module _
    (c : New)
    (table gossip list : List ℕ)
    (a b d : Bool)
    (id : ℕ)
    (f : ℕ → FullReply)
    (ea : a ≡ time_ok (time_of_new c))
    (eb : b ≡ new_arguments_ok c)
    (ed : d ≡ (leb action_room (length list) && list_ok c))
    (ef : new_effect (extended_of table gossip) c ≡ of_peer_all (extended_of table gossip) id f)
    (k : Result ℕ ℕ)
    (ek : k ≡ admitted_peer (extended_of table gossip) (a && b) d (time_of_new c) id)
  where
    abbrev x : Extended
    x = extended_of table gossip

    abbrev gate : ℕ
    gate = gate_all x (a && b) d (time_of_new c)

    cases : Answered k gate (find_connected (state_of table) id)
    unfolding admitted_peer
    cases = answered k gate (find_connected (state_of table) id) ek

    pub peer_refused : (r : ℕ) → k ≡ Err r → FollowsAll (new c) r table table gossip gossip list list
    peer_refused r e = go cases
      where
        go : Answered k gate (find_connected (state_of table) id) → FollowsAll (new c) r table table gossip gossip list list
        go (refused z nz) =
            let w : ◌≡◌ {A = Result ℕ ℕ} (Err r) (Err gate) = sym e ∙ z in
            let n : gate ≡ r = cc in
            rw n at (gate_refusal c table gossip list a b d gate ea eb ed refl nz)
        go (missing z g m) =
            let w : ◌≡◌ {A = Result ℕ ℕ} (Err r) (Err 3) = sym e ∙ z in
            let n : 3 ≡ r = cc in
            rw n at
            (gate_gives c table gossip list a b d gate ea eb ed refl g 3 table gossip list
            (rw ef
            (gives_quiet (of_peer_all x id f) 3 table table gossip gossip list
            (ap (λ (o : FullReply). o.actions) (peer_missing x id f m))
            (ends_missing table gossip id f (find_connected (state_of table) id) refl m))))
        go (found s z g m) =
            let w : ◌≡◌ {A = Result ℕ ℕ} (Err r) (Ok s) = sym e ∙ z in
            let n : ◌≡◌ {A = ℕ} 0 1 = cc in
            absurd (omega arith)

    -- and no number is given
    pub peer_silent : (r : ℕ) → k ≡ Err r → (step_all x (new c) (length list)).numbers ≡ []
    peer_silent r e = go cases
      where
        go : Answered k gate (find_connected (state_of table) id) → (step_all x (new c) (length list)).numbers ≡ []
        go (refused z nz) = gate_silent c table gossip list a b d gate ea eb ed refl nz
        go (missing z g m) =
            gate_numbers c table gossip list a b d gate ea eb ed refl g
            ∙ ap (λ (o : FullReply). o.numbers) (ef ∙ peer_missing x id f m)
        go (found s z g m) =
            let w : ◌≡◌ {A = Result ℕ ℕ} (Err r) (Ok s) = sym e ∙ z in
            let n : ◌≡◌ {A = ℕ} 0 1 = cc in
            absurd (omega arith)

    module _ (s : ℕ) (e : k ≡ Ok s) where
      -- behind the tests, in a slot
      record Behind : Type 0 where
        passed : gate ≡ 0
        at : find_connected (state_of table) id ≡ Some s

      behind : Behind
      behind = go cases
        where
          go : Answered k gate (find_connected (state_of table) id) → Behind
          go (refused z nz) =
              let w : ◌≡◌ {A = Result ℕ ℕ} (Ok s) (Err gate) = sym e ∙ z in
              let n : ◌≡◌ {A = ℕ} 0 1 = cc in
              absurd (omega arith)
          go (missing z g m) =
              let w : ◌≡◌ {A = Result ℕ ℕ} (Ok s) (Err 3) = sym e ∙ z in
              let n : ◌≡◌ {A = ℕ} 0 1 = cc in
              absurd (omega arith)
          go (found t z g m) =
              let w : ◌≡◌ {A = Result ℕ ℕ} (Ok s) (Ok t) = sym e ∙ z in
              let n : t ≡ s = cc in
              record { passed = g; at = m ∙ ap Some n }

      pub peer_admitted :
          length table ≡ cell_count → length gossip ≡ gossip_cells → SlotAdmitted table gossip (time_of_new c) s
      peer_admitted l m =
          record {
            admitted = gate_admitted table gossip a b d (time_of_new c) gate refl behind.passed ea l m;
            slot = (connected_at (state_of table) id s behind.at).0;
          }

      -- what the tests of the arguments and of the lists say
      pub peer_fine : b ≡ true
      peer_fine = gate_fine table gossip a b d (time_of_new c) gate refl behind.passed

      pub peer_lists : d ≡ true
      peer_lists = gate_lists table gossip a b d (time_of_new c) gate refl behind.passed

      -- the slot's reply, which gives no action
      pub peer_answers :
          (r : ℕ) (table' gossip' : List ℕ) →
          (f s).actions ≡ [] →
          LeavesAll (f s) r table table' gossip gossip' →
          FollowsAll (new c) r table table' gossip gossip' list list
      peer_answers r table' gossip' q h =
          let o = peer_found x id f s behind.at in
          gate_gives c table gossip list a b d gate ea eb ed refl behind.passed r table' gossip' list
          (rw (ef, o) (gives_quiet (f s) r table table' gossip gossip' list q h))

      pub peer_numbers : (step_all x (new c) (length list)).numbers ≡ (f s).numbers
      peer_numbers =
          gate_numbers c table gossip list a b d gate ea eb ed refl behind.passed
          ∙ ap (λ (o : FullReply). o.numbers) (ef ∙ peer_found x id f s behind.at)
