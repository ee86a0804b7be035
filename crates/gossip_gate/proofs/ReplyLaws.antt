-- The replies of the calls, case by case, in the form in which a search finds them.
-- Assumes nothing.
use Rattle.std.proofs.Common.{Option, Some, None}
use Rattle.index.proofs.Kit.{ℕ, ◌≡◌, ap, ◌∙◌, Bool, true, false}
use mathlib.Core.Bool.{cond}
use mathlib.Core.List.{List, []}
use lib.Dec.{ltb}
use Rattle.lookup.specs.Find.{find_connected}
use Rattle.sets.specs.Sets.{is_permutation}
use Rattle.records.specs.Records.{slot_count}
use Rattle.effects.specs.Effects.{is_joined}
use Rattle.gossip.specs.Notes.{Extended, note_in, store_in, set_note, set_store, set_replies, holds, stored_in, window_most, added, replied}
use Rattle.gossip.specs.Notes.{stored}
use Rattle.gossip.specs.Step.{FullReply, refused_all, ignored_all, done_all, on_slot, of_peer_all}
use Rattle.gossip.specs.Step.{is_heeded, has_room, with_put, idontwant_reply, running, store_reply, is_answered, with_ihave, ihave_reply, wanted}
use Rattle.gossip.specs.Step.{is_served, iwant_reply, announce_reply, announced, if_any, tell_one, chosen, eligible}
use mathlib.Core.List.{map}

-- where one of two branches is taken
taken : {A : Type 0} (b : Bool) (x y : A) → b ≡ true → cond b x y ≡ x
taken b x y e = ap (λ (k : Bool). cond k x y) e

left : {A : Type 0} (b : Bool) (x y : A) → b ≡ false → cond b x y ≡ y
left b x y e = ap (λ (k : Bool). cond k x y) e

-- ---- a call of a peer
module _ (x : Extended) (id : ℕ) (f : ℕ → FullReply) where
  pub peer_found : (s : ℕ) → find_connected x.base id ≡ Some s → of_peer_all x id f ≡ f s
  peer_found s e = ap (λ (k : Option ℕ). on_slot k f (refused_all 3 x)) e

  pub peer_missing : find_connected x.base id ≡ None → of_peer_all x id f ≡ refused_all 3 x
  peer_missing e = ap (λ (k : Option ℕ). on_slot k f (refused_all 3 x)) e

-- ---- IDONTWANT came in
module _ (x : Extended) (time n s : ℕ) where
  pub heeds_not : is_heeded x.base s ≡ false → idontwant_reply x time n s ≡ ignored_all x time
  unfolding idontwant_reply
  heeds_not e = left (is_heeded x.base s) _ _ e

  pub holds_it :
      is_heeded x.base s ≡ true → holds (note_in x.gossip s) n ≡ true → idontwant_reply x time n s ≡ done_all x time x.gossip [] []
  unfolding idontwant_reply
  holds_it e h = taken (is_heeded x.base s) _ _ e ∙ taken (holds (note_in x.gossip s) n) _ _ h

  pub no_room :
      is_heeded x.base s ≡ true →
      holds (note_in x.gossip s) n ≡ false →
      has_room x.gossip.setup (note_in x.gossip s) ≡ false →
      idontwant_reply x time n s ≡ ignored_all x time
  unfolding idontwant_reply
  no_room e h r =
      taken (is_heeded x.base s) _ _ e
      ∙ left (holds (note_in x.gossip s) n) _ _ h
      ∙ left (has_room x.gossip.setup (note_in x.gossip s)) _ _ r

  pub puts_in :
      is_heeded x.base s ≡ true →
      holds (note_in x.gossip s) n ≡ false →
      has_room x.gossip.setup (note_in x.gossip s) ≡ true →
      idontwant_reply x time n s ≡ done_all x time (set_note x.gossip s (with_put n (note_in x.gossip s))) [] []
  unfolding idontwant_reply
  puts_in e h r =
      taken (is_heeded x.base s) _ _ e
      ∙ left (holds (note_in x.gossip s) n) _ _ h
      ∙ taken (has_room x.gossip.setup (note_in x.gossip s)) _ _ r

-- ---- store
module _ (x : Extended) (time t n : ℕ) where
  pub store_outside : is_joined x.base t ≡ false → store_reply x time t n ≡ ignored_all x time
  unfolding store_reply
  store_outside j = left (is_joined x.base t) _ _ j

  pub store_there :
      is_joined x.base t ≡ true → stored_in (store_in x.gossip t) n ≡ true → store_reply x time t n ≡ done_all x time x.gossip [] []
  unfolding store_reply
  store_there j e = taken (is_joined x.base t) _ _ j ∙ taken (stored_in (store_in x.gossip t) n) _ _ e

  pub store_full :
      is_joined x.base t ≡ true →
      stored_in (store_in x.gossip t) n ≡ false →
      ltb (running (store_in x.gossip t)) window_most ≡ false →
      store_reply x time t n ≡ refused_all 13 x
  unfolding store_reply
  store_full j e f =
      taken (is_joined x.base t) _ _ j
      ∙ left (stored_in (store_in x.gossip t) n) _ _ e
      ∙ left (ltb (running (store_in x.gossip t)) window_most) _ _ f

  pub store_adds :
      is_joined x.base t ≡ true →
      stored_in (store_in x.gossip t) n ≡ false →
      ltb (running (store_in x.gossip t)) window_most ≡ true →
      store_reply x time t n ≡ done_all x time (set_store x.gossip t (added n (store_in x.gossip t))) [] []
  unfolding store_reply
  store_adds j e f =
      taken (is_joined x.base t) _ _ j
      ∙ left (stored_in (store_in x.gossip t) n) _ _ e
      ∙ taken (ltb (running (store_in x.gossip t)) window_most) _ _ f

-- ---- IHAVE came in, IWANT came in
module _ (x : Extended) (time t s : ℕ) (numbers : List ℕ) where
  pub ihave_ignored : is_answered x t s ≡ false → ihave_reply x time t numbers s ≡ ignored_all x time
  unfolding ihave_reply
  ihave_ignored e = left (is_answered x t s) _ _ e

  pub ihave_answers :
      is_answered x t s ≡ true →
      ihave_reply x time t numbers s
      ≡ done_all x time (set_note x.gossip s (with_ihave (note_in x.gossip s))) [] (wanted (stored x.gossip) [] numbers)
  unfolding ihave_reply
  ihave_answers e = taken (is_answered x t s) _ _ e

module _ (x : Extended) (time n s : ℕ) where
  pub iwant_ignored : is_served x n s ≡ false → iwant_reply x time n s ≡ ignored_all x time
  unfolding iwant_reply
  iwant_ignored e = left (is_served x n s) _ _ e

  pub iwant_serves :
      is_served x n s ≡ true → iwant_reply x time n s ≡ done_all x time (set_replies x.gossip (replied n s x.gossip.replies)) [] []
  unfolding iwant_reply
  iwant_serves e = taken (is_served x n s) _ _ e

-- ---- announce
module _ (x : Extended) (time t : ℕ) (order : List ℕ) where
  pub announce_draw : is_permutation slot_count order ≡ false → announce_reply x time t order ≡ refused_all 7 x
  unfolding announce_reply
  announce_draw e = left (is_permutation slot_count order) _ _ e

  pub announce_outside :
      is_permutation slot_count order ≡ true → is_joined x.base t ≡ false → announce_reply x time t order ≡ ignored_all x time
  unfolding announce_reply
  announce_outside e j = taken (is_permutation slot_count order) _ _ e ∙ left (is_joined x.base t) _ _ j

  pub announce_tells :
      is_permutation slot_count order ≡ true →
      is_joined x.base t ≡ true →
      announce_reply x time t order
      ≡ done_all x time x.gossip
      (if_any (announced (store_in x.gossip t)) (map (tell_one x.base 5) (chosen x.gossip.setup (eligible x.base t order))))
      (announced (store_in x.gossip t))
  unfolding announce_reply
  announce_tells e j = taken (is_permutation slot_count order) _ _ e ∙ taken (is_joined x.base t) _ _ j
