-- Actions written one after the other into a lent list: by slot, over the slots of a set alone, and in an order, up to a number of them.
-- Assumes nothing.
use Prim.Native.Nat.{ℕ, zero, suc, ◌+◌, ◌*◌, ◌/◌, ◌≤◌, ◌<◌, max}
use native.Mathlib.Omega.{arith}
use mathlib.Core.Path.{◌≡◌, refl, sym, ap, ap₂, ◌∙◌}
use mathlib.Core.Bool.{Bool, true, false, cond, false≢true}
use mathlib.Core.List.{List, [], ◌∷◌, ◌++◌, map, append-nil}
use lib.ListN.{length, get_or, set, take, drop, length-append, length-take, length-map, take-append-drop}
use lib.Seq.{sets, length-sets, take-suc, take_at, take_all, take-nil, get_or-set_same}
use lib.Dec.{eqb}
use borrow.Author.Tests.{ne_eqb, eqb-true}
use Rattle.index.specs.Index.{every, gather}
use Rattle.index.proofs.Index.{both, count_bound, gather_more, gather_short}
use Rattle.index.proofs.Flags.{by_test, by_order, cond_case}
use Rattle.index.proofs.Lists.{sets_append}
use Rattle.records.specs.Records.{State, slot_count}
use Rattle.words.specs.Words.{Next}
use Rattle.sets.specs.Sets.{at, Sub, by_slot, size, occurs, is_permutation, in_order}
use Rattle.sets.proofs.WalkLaws.{at_below, at_past}
use Rattle.sets.proofs.SetLaws.{size_unset}
use Rattle.sets.proofs.SlotLaws.{slots_at, size_count}
use Rattle.sets.proofs.CountLaws.{set_drops}
use Rattle.sets.proofs.PermutationLaws.{occurs_cons, permutation_once}
use Rattle.mesh.proofs.Bound.{in_order_cons, in_order_length}
use Rattle.effects.specs.Actions.{Action, numbers_of}
use Rattle.effects.proofs.ActionLaws.{numbers_append, numbers_length}
use Rattle.gossip.specs.Notes.{Setup}
use Rattle.gossip.specs.Step.{tell_one, tell_by_slot, chosen}
use Rattle.gossip_peers.specs.Peers.{Tells}

-- ---- one action after others
pub tells_none : (l : List ℕ) → Tells [] l l 0
unfolding numbers_of
tells_none l = record { list = refl; many = refl }

pub tells_size : {acts : List Action} {l l' : List ℕ} {n : ℕ} → Tells acts l l' n → length l' ≡ length l
tells_size {acts} {l} t = ap length t.list ∙ length-sets l 0 (numbers_of acts)

pub tells_as : {a b : List Action} {l l' : List ℕ} {n : ℕ} → a ≡ b → Tells a l l' n → Tells b l l' n
tells_as e t = rw e at t

pub tells_more :
    (acts : List Action) (a : Action) (l l' l'' : List ℕ) (n : ℕ) →
    Tells acts l l' n →
    l'' ≡ sets l' (3 * n) (numbers_of (a ∷ [])) →
    Tells (acts ++ (a ∷ [])) l l'' (n + 1)
tells_more acts a l l' l'' n t e =
    let z : 3 * n ≡ 0 + length (numbers_of acts) = omega (arith, numbers_length acts, t.many) in
    record {
      list =
          e
          ∙ ap₂ (λ (x : List ℕ) (k : ℕ). sets x k (numbers_of (a ∷ []))) t.list z
          ∙ sym (sets_append l 0 (numbers_of acts) (numbers_of (a ∷ [])))
          ∙ ap (sets l 0) (sym (numbers_append acts (a ∷ [])));
      many = omega (arith, t.many, length-append acts (a ∷ []));
    }

-- ---- by slot
-- those on the slots of a set below i
unfoldable pub tell_to : State → ℕ → List Bool → ℕ → List Action
tell_to st kind m i = gather i (λ s. cond (at m s) (tell_one st kind s ∷ []) [])

pub told_few : (st : State) (kind : ℕ) (m : List Bool) (i : ℕ) → length (tell_to st kind m i) ≤ i
unfolding tell_to
told_few st kind m i =
    gather_short _ i
    (λ s. cond_case (λ (x : List Action). length x ≤ 1) (at m s) (tell_one st kind s ∷ []) [] (λ e. omega arith) (λ e. omega arith))

pub told_none : (st : State) (kind : ℕ) (m : List Bool) → [] ≡ tell_to st kind m 0
unfolding tell_to gather
told_none st kind m = refl

pub told_more :
    (st : State) (kind : ℕ) (m : List Bool) (i : ℕ) →
    at m i ≡ true →
    tell_to st kind m i ++ (tell_one st kind i ∷ []) ≡ tell_to st kind m (i + 1)
unfolding tell_to
told_more st kind m i e = sym (gather_more _ i ∙ rw e)

-- slots that are not in the set are told nothing
pub told_skip :
    (st : State) (kind : ℕ) (m : List Bool) (i j : ℕ) →
    i ≤ j →
    ((s : ℕ) → i ≤ s → s < j → at m s ≡ false) →
    tell_to st kind m i ≡ tell_to st kind m j
unfolding tell_to gather
told_skip st kind m i zero h k = let e : i ≡ 0 = omega arith in ap (tell_to st kind m) e
told_skip st kind m i (suc j) h k =
    by_order (tell_to st kind m i ≡ tell_to st kind m (suc j)) j i
    (λ l. let e : i ≡ suc j = omega arith in ap (tell_to st kind m) e)
    (λ l.
    told_skip st kind m i j l (λ s a b. k s a (omega arith))
    ∙ sym (append-nil (tell_to st kind m j))
    ∙ ap (λ (b : Bool). tell_to st kind m j ++ cond b (tell_one st kind j ∷ []) []) (sym (k j l (omega arith))))

gather_below : {A : Type 0} (n : ℕ) (f g : ℕ → List A) → ((i : ℕ) → i < n → f i ≡ g i) → gather n f ≡ gather n g
unfolding gather
gather_below zero f g h = refl
gather_below (suc n) f g h = rw (gather_below n f g (λ i l. h i (omega arith)), h n (omega arith))

pub told_all : (st : State) (kind : ℕ) (m : List Bool) (f : ℕ → Bool) → m ≡ by_slot slot_count f →
    tell_to st kind m slot_count ≡ tell_by_slot st kind f
unfolding tell_to tell_by_slot
told_all st kind m f e =
    gather_below slot_count _ _
    (λ s h. ap (λ (b : Bool). cond b (tell_one st kind s ∷ []) []) (ap (λ (x : List Bool). at x s) e ∙ slots_at false f slot_count s h))

-- ---- in an order
in_append : (p : List Bool) (a b : List ℕ) → in_order p (a ++ b) ≡ in_order p a ++ in_order p b
unfolding in_order
in_append p [] b = refl
in_append p (x ∷ a) b =
    by_test _ (at p x)
    (λ t.
    in_order_cons p x (a ++ b) true t
    ∙ ap (λ (l : List ℕ). x ∷ l) (in_append p a b)
    ∙ sym (ap (λ (l : List ℕ). l ++ in_order p b) (in_order_cons p x a true t)))
    (λ t.
    in_order_cons p x (a ++ b) false t
    ∙ in_append p a b
    ∙ sym (ap (λ (l : List ℕ). l ++ in_order p b) (in_order_cons p x a false t)))

pub in_short : (p : List Bool) (d : List ℕ) → length (in_order p d) ≤ length d
unfolding in_order
in_short p [] = omega arith
in_short p (x ∷ d) =
    by_test _ (at p x)
    (λ t. omega (arith, in_short p d, ap length (in_order_cons p x d true t)))
    (λ t. omega (arith, in_short p d, ap length (in_order_cons p x d false t)))

-- those on the slots of p among the first i of the order
unfoldable pub picked_to : State → List Bool → List ℕ → ℕ → List Action
picked_to st p d i = map (tell_one st 5) (in_order p (take i d))

map_append : {A B : Type 0} (f : A → B) (a b : List A) → map f (a ++ b) ≡ map f a ++ map f b
map_append f [] b = refl
map_append {A} {B} f (x ∷ a) b = ap (λ (l : List B). f x ∷ l) (map_append f a b)

module _ (st : State) (p : List Bool) (d : List ℕ) where
  pub picked_none : [] ≡ picked_to st p d 0
  unfolding picked_to in_order
  picked_none = refl

  pub picked_few : (i : ℕ) → length (picked_to st p d i) ≤ i
  unfolding picked_to
  picked_few i =
      omega (arith, length-map (in_order p (take i d)) (tell_one st 5), in_short p (take i d), length-take i d)

  module _ (i : ℕ) (h : i < length d) where
    pub picked_in : at p (get_or d i 0) ≡ true → picked_to st p d i ++ (tell_one st 5 (get_or d i 0) ∷ []) ≡ picked_to st p d (i + 1)
    unfolding picked_to in_order
    picked_in e =
        let z : i + 1 ≡ suc i = omega arith in
        sym
        (ap (picked_to st p d) z
        ∙ ap (λ (l : List ℕ). map (tell_one st 5) (in_order p l)) (take-suc d i 0 h)
        ∙ ap (map (tell_one st 5))
        (in_append p (take i d) (get_or d i 0 ∷ [])
        ∙ ap (λ (l : List ℕ). in_order p (take i d) ++ l) (in_order_cons p (get_or d i 0) [] true e))
        ∙ map_append (tell_one st 5) (in_order p (take i d)) (get_or d i 0 ∷ []))

    pub picked_out : at p (get_or d i 0) ≡ false → picked_to st p d i ≡ picked_to st p d (i + 1)
    unfolding picked_to in_order
    picked_out e =
        let z : i + 1 ≡ suc i = omega arith in
        sym
        (ap (picked_to st p d) z
        ∙ ap (λ (l : List ℕ). map (tell_one st 5) (in_order p l)) (take-suc d i 0 h)
        ∙ ap (map (tell_one st 5))
        (in_append p (take i d) (get_or d i 0 ∷ [])
        ∙ ap (λ (l : List ℕ). in_order p (take i d) ++ l) (in_order_cons p (get_or d i 0) [] false e)
        ∙ append-nil (in_order p (take i d))))

  -- as many as are asked for, and no more
  pub picked_full :
      (i most : ℕ) →
      i ≤ length d →
      length (picked_to st p d i) ≡ most →
      picked_to st p d i ≡ map (tell_one st 5) (take most (in_order p d))
  unfolding picked_to
  picked_full i most h e =
      ap (map (tell_one st 5))
      (sym
      (ap (λ (l : List ℕ). take most (in_order p l)) (sym (take-append-drop i d))
      ∙ ap (take most) (in_append p (take i d) (drop i d))
      ∙ take_at (in_order p (take i d)) (in_order p (drop i d)) most (sym (length-map (in_order p (take i d)) (tell_one st 5)) ∙ e)))

  -- all of them, where they are no more
  pub picked_all :
      (i most : ℕ) →
      length d ≤ i →
      length (picked_to st p d i) ≤ most →
      picked_to st p d i ≡ map (tell_one st 5) (take most (in_order p d))
  unfolding picked_to
  picked_all i most h e =
      let z = take_all i d h in
      let y = length-map (in_order p (take i d)) (tell_one st 5) in
      let x : length (in_order p d) ≤ most = rw z at (let w : length (in_order p (take i d)) ≤ most = omega arith in w) in
      ap (λ (l : List ℕ). map (tell_one st 5) (in_order p l)) z ∙ ap (map (tell_one st 5)) (sym (take_all most (in_order p d) x))

-- ---- how many slots of a set an order gives that has each of them once
none_sized : (p : List Bool) → ((s : ℕ) → at p s ≡ true → ⊥) → size p ≡ 0
unfolding size
none_sized [] h = refl
none_sized (true ∷ p) h = absurd (h 0 refl)
none_sized (false ∷ p) h = none_sized p (λ s e. h (suc s) e)

in_mono : (p q : List Bool) (d : List ℕ) → Sub p q → length (in_order p d) ≤ length (in_order q d)
unfolding in_order
in_mono p q [] h = omega arith
in_mono p q (x ∷ d) h =
    by_test _ (at p x)
    (λ t.
    omega (arith, in_mono p q d h, ap length (in_order_cons p x d true t), ap length (in_order_cons q x d true (h x t))))
    (λ t.
    by_test _ (at q x)
    (λ u. omega (arith, in_mono p q d h, ap length (in_order_cons p x d false t), ap length (in_order_cons q x d true u)))
    (λ u. omega (arith, in_mono p q d h, ap length (in_order_cons p x d false t), ap length (in_order_cons q x d false u))))

later_on : (s x : ℕ) (d : List ℕ) → (s ≡ x → ⊥) → 0 < occurs s (x ∷ d) → 0 < occurs s d
later_on s x d n h = let e = occurs_cons s x d false (ne_eqb x s (λ z. n (sym z))) in omega arith

in_enough : (d : List ℕ) (p : List Bool) → ((s : ℕ) → at p s ≡ true → 0 < occurs s d) → size p ≤ length (in_order p d)
unfolding occurs
in_enough [] p h = omega (arith, none_sized p (λ s e. let l = h s e in omega arith))
in_enough (x ∷ d) p h =
    by_test _ (at p x)
    (λ t.
    let q = set p x false in
    let ih =
    in_enough d q
    (λ s e.
    later_on s x d
    (λ z. false≢true (sym (get_or-set_same p x false false (at_below p x t)) ∙ ap (at q) (sym z) ∙ e))
    (h s (set_drops p x s e))) in
    omega (arith, ih, in_mono q p d (λ s e. set_drops p x s e), size_unset p x t, ap length (in_order_cons p x d true t)))
    (λ t.
    let ih = in_enough d p (λ s e. later_on s x d (λ z. false≢true (sym t ∙ ap (at p) (sym z) ∙ e)) (h s e)) in
    omega (arith, ih, ap length (in_order_cons p x d false t)))

pub in_size :
    (p : List Bool) (d : List ℕ) → length p ≡ slot_count → is_permutation slot_count d ≡ true → length (in_order p d) ≡ size p
in_size p d l e =
    let once : (s : ℕ) → at p s ≡ true → occurs s d ≡ 1 = λ s t. let b = at_below p s t in permutation_once slot_count d e s (omega arith) in
    let a = in_enough d p (λ s t. let o = once s t in omega arith) in
    let b = in_order_length d p (λ s t. let o = once s t in omega arith) in
    omega arith

pub size_most : (p : List Bool) (n : ℕ) → length p ≡ slot_count → n ≡ size p → n ≤ slot_count
size_most p n l e = let c = size_count p slot_count l in let b = count_bound (at p) slot_count in omega arith

-- an order that is a permutation names each slot
pub order_length : (d : List ℕ) → is_permutation slot_count d ≡ true → length d ≡ slot_count
unfolding is_permutation
order_length d e = eqb-true (length d) slot_count (both (eqb (length d) slot_count) (every slot_count (λ s. eqb (occurs s d) 1)) e).0

-- nobody is told, where no slot is in the set
none_in : (p : List Bool) (d : List ℕ) → ((s : ℕ) → at p s ≡ false) → in_order p d ≡ []
unfolding in_order
none_in p [] h = refl
none_in p (x ∷ d) h = in_order_cons p x d false (h x) ∙ none_in p d h

pub chosen_none :
    (st : State) (s : Setup) (p : List Bool) (d l : List ℕ) (r : ℕ) →
    length p ≡ slot_count →
    Next p 0 r →
    r ≡ slot_count →
    Tells (map (tell_one st 5) (chosen s (in_order p d))) l l 0
chosen_none st s p d l r z n e =
    let q : in_order p d ≡ [] =
    none_in p d
    (λ k. by_order (at p k ≡ false) k slot_count (λ a. n.none k (omega arith) (omega arith)) (λ a. at_past p k (omega arith))) in
    rw (q, take-nil) (tells_none l)

-- the share of the targets that is told
pub chosen_is :
    (st : State) (s : Setup) (p : List Bool) (d : List ℕ) (lazy factor count most : ℕ) →
    length p ≡ slot_count →
    is_permutation slot_count d ≡ true →
    s.lazy ≡ lazy →
    s.factor ≡ factor →
    count ≡ size p →
    most ≡ max lazy (count * factor / 1000) →
    map (tell_one st 5) (take most (in_order p d)) ≡ map (tell_one st 5) (chosen s (in_order p d))
chosen_is st s p d lazy factor count most l e el ef ec em =
    let z : most ≡ max s.lazy (length (in_order p d) * s.factor / 1000) = em ∙ rw (el, ef, ec, in_size p d l e) in
    ap (λ (k : ℕ). map (tell_one st 5) (take k (in_order p d))) z
