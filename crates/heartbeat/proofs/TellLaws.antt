-- Actions written by a walk: what an action says of a peer, and the walk over the slots of a set, which has the rest of them still to
-- write. Assumes nothing.
use Prim.Native.Nat.{ℕ, ◌+◌, ◌*◌, ◌≤◌, ◌<◌}
use native.Mathlib.Omega.{arith}
use mathlib.Core.Path.{◌≡◌, refl, sym, ap, ◌∙◌}
use mathlib.Core.Bool.{Bool, cond}
use mathlib.Core.List.{List, [], ◌∷◌, map}
use lib.ListN.{length, get_or}
use lib.Seq.{sets, length-sets}
use lib.Dec.{eqb}
use borrow.Author.Tests.{eq-eqb, ne_eqb}
use Rattle.records.specs.declared.Peer.{Peer}
use Rattle.records.specs.Records.{State, slot_count, peer_in}
use Rattle.words.specs.Words.{word_count, bits_of, Next}
use Rattle.words.proofs.WideLaws.{bits_of_length}
use Rattle.words.proofs.SlotWalk.{slots_from, slots_next, slots_last}
use Rattle.sets.specs.Sets.{ascending}
use Rattle.sets.proofs.SlotLaws.{slots_at, by_slot_lem}
use Rattle.mesh.specs.Maintenance.{Action, action, actions_on, seconds_of, numbers_of, Narrow, Writable, Written}
use Rattle.mesh.proofs.ActionLaws.{seconds_narrow, numbers_none, numbers_cons}
use Rattle.heartbeat.specs.Tell.{ids_in, told_by}

-- ---- what an action says
pub id_of : (st : State) (s : ℕ) → s < slot_count → get_or (ids_in st) s 0 ≡ (peer_in st s).id
id_of st s h = slots_at 0 (λ k. (peer_in st k).id) slot_count s h

pub id_narrow : (st : State) (s id : ℕ) → s < slot_count → Narrow (ids_in st) → id ≡ (peer_in st s).id → id ≤ 4294967295
id_narrow st s id h n e = rw (e ∙ sym (id_of st s h)) (n s)

pub told_narrow : (kind : ℕ) (l : List ℕ) (s v : ℕ) → Narrow l → v ≡ seconds_of kind l s → v ≤ 4294967295
told_narrow kind l s v n e = rw e (seconds_narrow kind l s n)

pub seconds_graft : (kind : ℕ) (l : List ℕ) (s : ℕ) → (kind ≡ 2 → ⊥) → 0 ≡ seconds_of kind l s
seconds_graft kind l s n = rw (ne_eqb kind 2 n)

module _ (st : State) (kind s seconds : ℕ) (h : s < slot_count) (k : kind ≡ 2) (p : Peer) (e : p ≡ peer_in st s) where
  seconds_told : cond (eqb p.version 0) 0 seconds ≡ seconds_of kind (told_by st seconds) s
  seconds_told =
      ap (λ (q : Peer). cond (eqb q.version 0) 0 seconds) e
      ∙ sym (slots_at 0 (λ j. cond (eqb (peer_in st j).version 0) 0 seconds) slot_count s h)
      ∙ sym (ap (λ (b : Bool). cond b (get_or (told_by st seconds) s 0) 0) (eq-eqb kind 2 k))

  pub seconds_none : p.version ≡ 0 → 0 ≡ seconds_of kind (told_by st seconds) s
  seconds_none z = sym (ap (λ (b : Bool). cond b 0 seconds) (eq-eqb p.version 0 z)) ∙ seconds_told

  pub seconds_some : (p.version ≡ 0 → ⊥) → seconds ≡ seconds_of kind (told_by st seconds) s
  seconds_some n = sym (ap (λ (b : Bool). cond b 0 seconds) (ne_eqb p.version 0 n)) ∙ seconds_told

-- ---- the walk over the slots of a set
-- the actions on its slots from i on
unfoldable pub on_slots : ℕ → List Bool → ℕ → List Action
on_slots kind m i = map (action kind) (slots_from m i)

-- before the slots from i on: k actions are written, and the list is then l
pub record Telling
    (ids told : List ℕ) (kind n : ℕ) (all : List Action) (m : List Bool) (l₀ l : List ℕ) (k i : ℕ)
    : Type 0 where
  pub len : length m ≡ slot_count
  pub size : length l ≡ length l₀
  pub many : k + length (on_slots kind m i) ≡ n + length all
  pub rest : sets l (3 * k) (numbers_of ids told (on_slots kind m i)) ≡ sets l₀ (3 * n) (numbers_of ids told all)

module _ (ids told : List ℕ) (kind n : ℕ) where
  pub telling_none :
      (p l : List ℕ) →
      length p ≡ word_count →
      Telling ids told kind n (actions_on kind (bits_of p) (ascending 0 slot_count)) (bits_of p) l l n 0
  unfolding on_slots actions_on
  telling_none p l e =
      let f : length (bits_of p) ≡ slot_count = let b = bits_of_length p in omega arith in
      let q = ap (map (action kind)) (by_slot_lem (bits_of p) slot_count f) in
      record {
        len = f;
        size = refl;
        many = ap (λ (x : List Action). n + length x) (sym q);
        rest = ap (λ (x : List Action). sets l (3 * n) (numbers_of ids told x)) (sym q);
      }

  module _
      (all : List Action) (m : List Bool) (l₀ l : List ℕ) (k i : ℕ)
    where
      module _ (slot : ℕ) (t : Telling ids told kind n all m l₀ l k i) (here : Next m i slot) (h : slot < slot_count) where
        next : on_slots kind m i ≡ action kind slot ∷ on_slots kind m (slot + 1)
        unfolding on_slots
        next = ap (map (action kind)) (slots_next m i slot t.len here h)

        pub telling_room : Writable l₀ ids told (n + length all) → Writable l ids told (k + 1)
        telling_room w =
            record {
              room = let a = w.room in let b = t.size in let c = t.many in let d = ap length next in omega arith;
              narrow_ids = w.narrow_ids;
              narrow_seconds = w.narrow_seconds;
            }

        pub telling_more :
            (l' : List ℕ) →
            l' ≡ sets l (3 * k) (kind ∷ get_or ids slot 0 ∷ seconds_of kind told slot ∷ []) →
            Telling ids told kind n all m l₀ l' (k + 1) (slot + 1)
        telling_more l' el =
            record {
              len = t.len;
              size =
                  ap length el ∙ length-sets l (3 * k) (kind ∷ get_or ids slot 0 ∷ seconds_of kind told slot ∷ []) ∙ t.size;
              many = let a = t.many in let b = ap length next in omega arith;
              rest =
                  ap (λ (x : List ℕ). sets x (3 * (k + 1)) (numbers_of ids told (on_slots kind m (slot + 1)))) el
                  ∙ sym (numbers_cons ids told l k kind slot (on_slots kind m (slot + 1)))
                  ∙ ap (λ (x : List Action). sets l (3 * k) (numbers_of ids told x)) (sym next)
                  ∙ t.rest;
            }

      pub telling_done : Telling ids told kind n all m l₀ l k i → Next m i slot_count → Written ids told all l₀ n l k
      unfolding on_slots
      telling_done t h =
          let e : on_slots kind m i ≡ [] = ap (map (action kind)) (slots_last m i t.len h) in
          record {
            many = let c = t.many in let d = ap length e in omega arith;
            list =
                sym
                (ap (λ (x : List Action). sets l (3 * k) (numbers_of ids told x)) e
                ∙ numbers_none ids told l (3 * k))
                ∙ t.rest;
          }
