-- A walk over the slots of a set empties their notes one after the other; the others' stay.
-- Assumes nothing.
use Rattle.index.proofs.Kit.{ℕ, ◌<◌, ◌+◌, ◌≡◌, refl, sym, ap, ◌∙◌, Bool, true, false, arith}
use mathlib.Core.Bool.{cond, false≢true}
use mathlib.Core.List.{List}
use lib.ListN.{length, get_or, length-set}
use lib.Seq.{get_or-set_same, get_or-set_other}
use Rattle.index.proofs.Flags.{by_test, by_order}
use Rattle.index.proofs.Lists.{Built}
use Rattle.records.specs.Records.{slot_count}
use Rattle.words.specs.Words.{Next}
use Rattle.sets.specs.Sets.{at, by_slot}
use Rattle.sets.proofs.SlotLaws.{slots_at, slots_built}
use Rattle.gossip.specs.Notes.{Setup, Note, Row, Gossip, no_note, note_in, set_note}
use Rattle.gossip_old.specs.Tested.{emptied}

-- h is g with the notes of the slots of m below i emptied
pub record Cleared (m : List Bool) (i : ℕ) (g h : Gossip) : Type 0 where
  pub setup : h.setup ≡ g.setup
  pub stores : h.stores ≡ g.stores
  pub replies : h.replies ≡ g.replies
  pub len : length h.notes ≡ slot_count
  pub gone : (s : ℕ) → s < i → at m s ≡ true → note_in h s ≡ no_note
  pub rest : (s : ℕ) → (s < i → at m s ≡ false) → note_in h s ≡ note_in g s

pub cleared_none : (m : List Bool) (g : Gossip) → length g.notes ≡ slot_count → Cleared m 0 g g
cleared_none m g l =
    record {
      setup = refl;
      stores = refl;
      replies = refl;
      len = l;
      gone = λ s h e. absurd (omega arith);
      rest = λ s h. refl;
    }

-- the slots up to the next one are in no set
pub cleared_next : (m : List Bool) (i j : ℕ) (g h : Gossip) → Next m i j → Cleared m i g h → Cleared m j g h
cleared_next m i j g h n k =
    record {
      setup = k.setup;
      stores = k.stores;
      replies = k.replies;
      len = k.len;
      gone = λ s l e.
          by_order (note_in h s ≡ no_note) s i
          (λ b. k.gone s b e)
          (λ b. absurd (false≢true (sym (n.none s b l) ∙ e)));
      rest = λ s o. k.rest s (λ l. let z = n.later in o (omega arith));
    }

module _ (m : List Bool) (i : ℕ) (g h : Gossip) (l : i < slot_count) (here : at m i ≡ true) (k : Cleared m i g h) where
  long : i < length h.notes
  long = let e = k.len in omega arith

  other : (s : ℕ) → (s ≡ i → ⊥) → note_in (set_note h i no_note) s ≡ note_in h s
  unfolding set_note note_in
  other s ne = get_or-set_other h.notes i s no_note no_note ne

  same : note_in (set_note h i no_note) i ≡ no_note
  unfolding set_note note_in
  same = get_or-set_same h.notes i no_note no_note long

  pub cleared_more : (u : Gossip) → u ≡ set_note h i no_note → Cleared m (i + 1) g u
  unfolding set_note
  cleared_more u e =
      rw e (record {
        setup = k.setup;
        stores = k.stores;
        replies = k.replies;
        len = length-set h.notes i no_note ∙ k.len;
        gone = λ s b t.
            by_order (note_in (set_note h i no_note) s ≡ no_note) s i
            (λ d. other s (λ z. omega arith) ∙ k.gone s d t)
            (λ d. let z : s ≡ i = omega arith in ap (note_in (set_note h i no_note)) z ∙ same);
        rest = λ s o.
            let ne : s ≡ i → ⊥ = λ z. false≢true (sym (o (omega arith)) ∙ ap (at m) z ∙ here) in
            other s ne ∙ k.rest s (λ b. o (omega arith));
      })

note_of : (h : Gossip) (s : ℕ) → get_or h.notes s no_note ≡ note_in h s
unfolding note_in
note_of h s = refl

abbrev built : Setup → List Note → List (List (List ℕ)) → List Row → Gossip
built p n s r = record { setup = p; notes = n; stores = s; replies = r }

pub cleared_all :
    (m : List Bool) (g h : Gossip) (f : ℕ → Bool) → m ≡ by_slot slot_count f → Cleared m slot_count g h → h ≡ emptied f g
cleared_all m g h f e k =
    let new : ℕ → Note = λ s. cond (f s) no_note (note_in g s) in
    let b : Built no_note new slot_count slot_count h.notes = record { low = omega arith; len = k.len; below = each } in
    whole k.setup (slots_built no_note new slot_count slot_count h.notes (omega arith) b)
    k.stores k.replies
  where
    whole : {p p' : Setup} {n n' : List Note} {s s' : List (List (List ℕ))} {r r' : List Row} →
        p ≡ p' → n ≡ n' → s ≡ s' → r ≡ r' → built p n s r ≡ built p' n' s' r'
    whole a b d q = cc

    flag : (s : ℕ) → s < slot_count → at m s ≡ f s
    flag s l = ap (λ (x : List Bool). at x s) e ∙ slots_at false f slot_count s l

    each : (s : ℕ) → s < slot_count → get_or h.notes s no_note ≡ cond (f s) no_note (note_in g s)
    each s l =
        by_test _ (f s)
        (λ t. note_of h s ∙ k.gone s l (flag s l ∙ t) ∙ sym (ap (λ (b : Bool). cond b no_note (note_in g s)) t))
        (λ t. note_of h s ∙ k.rest s (λ b. flag s l ∙ t) ∙ sym (ap (λ (b : Bool). cond b no_note (note_in g s)) t))
