-- The actions and the numbers of a new call fit the lent lists.
-- Assumes nothing.
use Prim.Native.Nat.{ℕ, ◌+◌, ◌*◌, ◌≤◌}
use native.Mathlib.Omega.{arith}
use mathlib.Core.Path.{◌≡◌, refl}
use mathlib.Core.Bool.{Bool, true, false, cond, ◌&&◌, ◌||◌}
use mathlib.Core.List.{List, [], ◌∷◌, ◌++◌, map}
use lib.Dec.{eqb, leb, ltb}
use lib.ListN.{length, take, length-append, length-map, length-take}
use borrow.Author.Tests.{eqb-true, leb-true}
use Rattle.index.proofs.Index.{both, gather_short}
use Rattle.index.proofs.Flags.{by_test, cond_case}
use Rattle.records.specs.Records.{State, slot_count}
use Rattle.sets.specs.Sets.{at, by_slot, in_order, is_permutation}
use Rattle.effects.specs.Actions.{Action}
use Rattle.effects.specs.Effects.{is_joined}
use Rattle.rules.specs.Calls.{id_ok, topic_ok, time_ok}
use Rattle.rules.proofs.CaseLaws.{topic_in_lem}
use Rattle.gossip.specs.Notes.{Setup, Extended, window_most, numbers_most, note_in, store_in, has, holds, stored_in, stored}
use Rattle.gossip.specs.Valid.{all, window_ok}
use Rattle.gossip.specs.Calls.{New, ask_all, idontwant, relay, beat, store, announce, ihave, iwant, new_in_range}
use Rattle.gossip.specs.Step.{FullReply, refused_all, ignored_all, done_all, tell_one, tell_by_slot, has_room, is_heeded, ask_reply, idontwant_reply}
use Rattle.gossip.specs.Step.{relay_reply, running, store_reply, is_target, eligible, chosen, oldest_first, announced, if_any, announce_reply}
use Rattle.gossip.specs.Step.{wanted, is_answered, ihave_reply, is_served, iwant_reply, new_effect}
use Rattle.gossip_lists.specs.Kept.{Fits, FitsNew}
use Rattle.gossip.proofs.Cases.{PassedNew, by_first, by_slot_lem, by_sender, by_joined}
use Rattle.gossip.proofs.ListLaws.{windows_take}
use Rattle.gossip.proofs.NoteOk.{store_parts}
use Rattle.gossip.proofs.Fine.{fine_of}

-- ---- the lists
tell_short : (st : State) (kind : ℕ) (f : ℕ → Bool) → length (tell_by_slot st kind f) ≤ slot_count
unfolding tell_by_slot
tell_short st kind f =
    gather_short (λ s. cond (f s) (tell_one st kind s ∷ []) []) slot_count (λ i.
    cond_case (λ (l : List Action). length l ≤ 1) (f i) (tell_one st kind i ∷ []) [] (λ e. omega arith) (λ e. omega arith))

order_short : (m : List Bool) (l : List ℕ) → length (in_order m l) ≤ length l
unfolding in_order
order_short m [] = omega arith
order_short m (s ∷ l) =
    let z = order_short m l in
    by_test _ (at m s) (λ e. rw e (omega arith)) (λ e. rw e (omega arith))

permutation_length : (l : List ℕ) → is_permutation slot_count l ≡ true → length l ≡ slot_count
unfolding is_permutation
permutation_length l e = eqb-true (length l) slot_count (both (eqb (length l) slot_count) _ e).0

-- however many are taken
chosen_short : (p : Setup) (l : List ℕ) → length (chosen p l) ≤ length l
chosen_short p l = rw (length-take _ l) (omega arith)

any_short : (l : List ℕ) (a : List Action) (k : ℕ) → length a ≤ k → length (if_any l a) ≤ k
any_short [] a k h = omega arith
any_short (n ∷ l) a k h = h

oldest_short : (w : List (List ℕ)) → all window_ok w ≡ true → length (oldest_first w) ≤ window_most * length w
unfolding oldest_first all
oldest_short [] a = omega arith
oldest_short (w ∷ l) a =
    let q = both (window_ok w) (all window_ok l) a in
    let y = leb-true (length w) window_most q.0 in
    let z = oldest_short l q.1 in
    omega (arith, length-append (oldest_first l) w)

announced_short : (w : List (List ℕ)) → all window_ok w ≡ true → length (announced w) ≤ 192
announced_short w a =
    let y = length-take 3 w in
    let z = oldest_short (take 3 w) (windows_take 3 w a) in
    omega arith

wanted_short : (f : ℕ → Bool) (l r : List ℕ) → length (wanted f l r) ≤ length l + length r
unfolding wanted
wanted_short f l [] = omega arith
wanted_short f l (n ∷ r) =
    by_test _ (f n || has n l)
    (λ e. rw e (let z = wanted_short f l r in omega arith))
    (λ e. rw e (let z = wanted_short f (l ++ (n ∷ [])) r in omega (arith, length-append l (n ∷ []))))

-- ---- the calls
module _ (x : Extended) where
  fits_none : (r : FullReply) → r.actions ≡ [] → r.numbers ≡ [] → Fits r
  fits_none r a b = record { actions = rw a (omega arith); numbers = rw b (omega arith) }

  refuses : (a : ℕ) → eqb a 0 ≡ false → Fits (refused_all a x)
  refuses a e = fits_none (refused_all a x) refl refl

  fits_effect : (c : New) → PassedNew x c → Fits (new_effect x c)
  unfolding new_effect new_in_range ask_reply relay_reply idontwant_reply store_reply announce_reply ihave_reply iwant_reply
  fits_effect (ask_all time t sender n) p =
      by_sender Fits x refuses sender _
      (by_joined Fits x refuses time t _ (fits_none _ refl refl) (λ j.
      record { actions = tell_short x.base 3 _; numbers = omega arith }))
  fits_effect (idontwant time id n) p =
      by_slot_lem Fits x refuses id _ (λ s l on i.
      cond_case Fits (is_heeded x.base s) _ (ignored_all x time)
      (λ e.
      cond_case Fits (holds (note_in x.gossip s) n) (done_all x time x.gossip [] []) _ (λ k. fits_none _ refl refl) (λ k.
      cond_case Fits (has_room x.gossip.setup (note_in x.gossip s)) _ (ignored_all x time)
      (λ r. fits_none _ refl refl)
      (λ r. fits_none _ refl refl)))
      (λ e. fits_none _ refl refl))
  fits_effect (relay time t sender n) p =
      by_sender Fits x refuses sender _
      (by_joined Fits x refuses time t _ (fits_none _ refl refl) (λ j.
      record { actions = tell_short x.base 4 _; numbers = omega arith }))
  fits_effect (beat time) p = fits_none _ refl refl
  fits_effect (store time t n) p =
      by_joined Fits x refuses time t _ (fits_none _ refl refl) (λ j.
      cond_case Fits (stored_in (store_in x.gossip t) n) (done_all x time x.gossip [] []) _ (λ e. fits_none _ refl refl) (λ e.
      cond_case Fits (ltb (running (store_in x.gossip t)) window_most) _ (refused_all 13 x)
      (λ r. fits_none _ refl refl)
      (λ r. fits_none _ refl refl)))
  fits_effect (announce time t order list) p =
      let k = topic_in_lem t (both (time_ok time) (topic_ok t) p.ranges).1 in
      let w = store_in x.gossip t in
      let f = store_parts (is_joined x.base t) w ((fine_of x.base x.gossip p.gossip).store t k) in
      cond_case Fits (is_permutation slot_count order) _ (refused_all 7 x)
      (λ e.
      by_joined Fits x refuses time t _ (fits_none _ refl refl) (λ j.
      let fit = eligible x.base t order in
      let a = order_short (by_slot slot_count (is_target x.base t)) order in
      let b = permutation_length order e in
      let c = chosen_short x.gossip.setup fit in
      let d = length-map (chosen x.gossip.setup fit) (tell_one x.base 5) in
      record {
        actions = any_short (announced w) (map (tell_one x.base 5) (chosen x.gossip.setup fit)) slot_count (omega arith);
        numbers = announced_short w f.0;
      }))
      (λ e. fits_none _ refl refl)
  fits_effect (ihave time id t numbers list) p =
      let q = (both (time_ok time) (id_ok id && (topic_ok t && leb (length numbers) numbers_most)) p.ranges).1 in
      let r = (both (id_ok id) (topic_ok t && leb (length numbers) numbers_most) q).1 in
      let few = leb-true (length numbers) 192 (both (topic_ok t) (leb (length numbers) numbers_most) r).1 in
      by_slot_lem Fits x refuses id _ (λ s l on i.
      cond_case Fits (is_answered x t s) _ (ignored_all x time)
      (λ e. record { actions = omega arith; numbers = let z = wanted_short (stored x.gossip) [] numbers in omega arith })
      (λ e. fits_none _ refl refl))
  fits_effect (iwant time id n) p =
      by_slot_lem Fits x refuses id _ (λ s l on i.
      cond_case Fits (is_served x n s) _ (ignored_all x time) (λ e. fits_none _ refl refl) (λ e. fits_none _ refl refl))

pub fits_new : FitsNew
fits_new x c room = by_first Fits x (refuses x) c room (fits_effect x c)
