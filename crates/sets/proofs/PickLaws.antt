-- Walks along an order that keep the slot picked last: the best, the lowest and the last of a set are such walks. What a walk picks, and
-- how the pick changes where one slot's score rises: not at all, or to that slot.
-- Assumes nothing.
use Prim.Native.Nat.{ℕ, ◌≤◌, ◌<◌}
use native.Mathlib.Omega.{arith}
use mathlib.Core.Path.{◌≡◌, refl, sym, ap, ◌∙◌}
use mathlib.Core.Bool.{Bool, true, false, cond, ◌&&◌, ◌||◌, false≢true}
use mathlib.Core.Logic.{◌⊎◌, inl, inr, ⊎_elim}
use mathlib.Core.List.{List, [], ◌∷◌}
use lib.ListN.{get_or}
use lib.Dec.{ltb, leb, eqb}
use borrow.Author.Tests.{lt-ltb, le-leb, lt-leb, ltb-true, ltb-false, leb-true, leb-false, eqb-true, eqb-false}
use Rattle.index.proofs.Index.{both as halves}
use Rattle.index.proofs.Flags.{by_test}
use Rattle.sets.specs.Sets.{at, top, bottom, last_of}
use Rattle.sets.proofs.CountLaws.{In}

-- ---- a walk with the test t: the slot s takes the place of c
unfoldable pick : (ℕ → ℕ → Bool) → List ℕ → ℕ → ℕ
pick t [] c = c
pick t (s ∷ r) c = pick t r (cond (t c s) s c)

-- what comes of one slot
picked :
    (P : ℕ → Type 0) (t : ℕ → ℕ → Bool) (s : ℕ) (r : List ℕ) (c : ℕ) →
    (t c s ≡ true → P (pick t r s)) →
    (t c s ≡ false → P (pick t r c)) →
    P (pick t (s ∷ r) c)
unfolding pick
picked P t s r c f g = go (t c s) refl
  where
    go : (b : Bool) → t c s ≡ b → P (pick t r (cond b s c))
    go true e = f e
    go false e = g e

-- the pick is in p where the test asks for p, or it is the start
pick_in :
    (p : List Bool) (t : ℕ → ℕ → Bool) →
    ((c s : ℕ) → t c s ≡ true → at p s ≡ true) →
    (r : List ℕ) (c : ℕ) →
    (pick t r c ≡ c) ⊎ (at p (pick t r c) ≡ true)
unfolding pick
pick_in p t h [] c = inl refl
pick_in p t h (s ∷ r) c =
    picked (λ k. (k ≡ c) ⊎ (at p k ≡ true)) t s r c
    (λ e. ⊎_elim (λ q. inr (ap (at p) q ∙ h c s e)) (λ a. inr a) (pick_in p t h r s))
    (λ e. pick_in p t h r c)

-- and in p where some slot of p stands in the order, and the test takes one of p where none was found
pick_hit :
    (n : ℕ) (p : List Bool) (t : ℕ → ℕ → Bool) →
    ((c s : ℕ) → t c s ≡ true → at p s ≡ true) →
    ((c s : ℕ) → n ≤ c → at p s ≡ true → t c s ≡ true) →
    (y : ℕ) →
    at p y ≡ true →
    (r : List ℕ) (c : ℕ) →
    In y r →
    (n ≤ c) ⊎ (at p c ≡ true) →
    at p (pick t r c) ≡ true
pick_hit n p t h g y a [] c i k = absurd i
pick_hit n p t h g y a (s ∷ r) c i k =
    picked (λ j. at p j ≡ true) t s r c
    (λ e. found s (h c s e))
    (λ e.
    ⊎_elim
    (λ none_yet.
    ⊎_elim
    (λ q. absurd (false≢true (sym e ∙ g c s none_yet (ap (at p) (sym q) ∙ a))))
    (λ j. pick_hit n p t h g y a r c j (inl none_yet))
    i)
    (λ b. found c b)
    k)
  where
    found : (c : ℕ) → at p c ≡ true → at p (pick t r c) ≡ true
    found c b = ⊎_elim (λ q. ap (at p) q ∙ b) (λ q. q) (pick_in p t h r c)

-- ---- the three walks
pub or_left : (a b : Bool) → a ≡ true → a || b ≡ true
or_left a b e = ap (λ (z : Bool). z || b) e

pub or_right : (a b : Bool) → b ≡ true → a || b ≡ true
or_right true b e = refl
or_right false b e = e

-- the test of a walk that looks at scores by w: s is in p, and nothing was found, or its score takes the place of the other
abbrev test : ℕ → (ℕ → ℕ → Bool) → List ℕ → List Bool → ℕ → ℕ → Bool
test n w sc p c s = at p s && (leb n c || w (get_or sc c 0) (get_or sc s 0))

abbrev less : ℕ → ℕ → Bool
less a e = leb e a

top_is : (n : ℕ) (sc : List ℕ) (p : List Bool) (r : List ℕ) (c : ℕ) → top n sc p r c ≡ pick (test n ltb sc p) r c
unfolding top pick
top_is n sc p [] c = refl
top_is n sc p (s ∷ r) c = top_is n sc p r (cond (test n ltb sc p c s) s c)

bottom_is : (n : ℕ) (sc : List ℕ) (p : List Bool) (r : List ℕ) (c : ℕ) → bottom n sc p r c ≡ pick (test n less sc p) r c
unfolding bottom pick
bottom_is n sc p [] c = refl
bottom_is n sc p (s ∷ r) c = bottom_is n sc p r (cond (test n less sc p c s) s c)

last_is : (p : List Bool) (r : List ℕ) (c : ℕ) → last_of p r c ≡ pick (λ c s. at p s) r c
unfolding last_of pick
last_is p [] c = refl
last_is p (s ∷ r) c = last_is p r (cond (at p s) s c)

test_at :
    (n : ℕ) (w : ℕ → ℕ → Bool) (sc : List ℕ) (p : List Bool) (c s : ℕ) → test n w sc p c s ≡ true → at p s ≡ true
test_at n w sc p c s e = (halves (at p s) (leb n c || w (get_or sc c 0) (get_or sc s 0)) e).0

test_take :
    (n : ℕ) (w : ℕ → ℕ → Bool) (sc : List ℕ) (p : List Bool) (c s : ℕ) →
    at p s ≡ true →
    (leb n c || w (get_or sc c 0) (get_or sc s 0)) ≡ true →
    test n w sc p c s ≡ true
test_take n w sc p c s a e = ap (λ (z : Bool). z && (leb n c || w (get_or sc c 0) (get_or sc s 0))) a ∙ e

pub last_hit :
    (n : ℕ) (p : List Bool) (r : List ℕ) (y : ℕ) → In y r → at p y ≡ true → at p (last_of p r n) ≡ true
last_hit n p r y i a =
    ap (at p) (last_is p r n)
    ∙ pick_hit n p (λ c s. at p s) (λ c s e. e) (λ c s h e. e) y a r n i (inl (omega arith))

pub bottom_hit :
    (n : ℕ) (sc : List ℕ) (p : List Bool) (r : List ℕ) (y : ℕ) →
    In y r →
    at p y ≡ true →
    at p (bottom n sc p r n) ≡ true
bottom_hit n sc p r y i a =
    ap (at p) (bottom_is n sc p r n)
    ∙ pick_hit n p (test n less sc p) (test_at n less sc p)
    (λ c s h e. test_take n less sc p c s e (or_left (leb n c) (leb (get_or sc s 0) (get_or sc c 0)) (le-leb n c h)))
    y
    a
    r
    n
    i
    (inl (omega arith))

-- ---- one slot's score rises, or the slot is put into the set: the pick stays, or it is that slot
module _
    (n x : ℕ) (low : x < n) (w : ℕ → ℕ → Bool)
    (trans : (a b e : ℕ) → w a b ≡ true → w b e ≡ true → w a e ≡ true)
    (past : (a b e : ℕ) → w a b ≡ false → w a e ≡ true → w b e ≡ true)
    (sc sc' : List ℕ)
    (same : (s : ℕ) → (s ≡ x → ⊥) → get_or sc' s 0 ≡ get_or sc s 0)
    (up : (a : ℕ) → w a (get_or sc x 0) ≡ true → w a (get_or sc' x 0) ≡ true)
    (down : (e : ℕ) → w (get_or sc' x 0) e ≡ true → w (get_or sc x 0) e ≡ true)
    (p q : List Bool)
    (alike : (s : ℕ) → (s ≡ x → ⊥) → at q s ≡ at p s)
    (more : at p x ≡ true → at q x ≡ true) where
  -- what takes x's place takes c's
  abbrev Under : ℕ → Type 0
  Under c = (e : ℕ) → w (get_or sc' x 0) e ≡ true → leb n c || w (get_or sc c 0) e ≡ true

  abbrev Near : ℕ → ℕ → Type 0
  Near c c' = (c' ≡ c) ⊎ ((c' ≡ x) × Under c)

  same_test : (c s : ℕ) → (c ≡ x → ⊥) → (s ≡ x → ⊥) → test n w sc' q c s ≡ test n w sc p c s
  same_test c s nc ns = rw (same c nc, same s ns, alike s ns)

  none_past : (e : ℕ) → leb n x || w (get_or sc' x 0) e ≡ true → w (get_or sc' x 0) e ≡ true
  none_past e h = sym (ap (λ (z : Bool). z || w (get_or sc' x 0) e) (lt-leb n x low)) ∙ h

  -- s is taken from c and not from x: then s is under x
  passed_by : (c s : ℕ) → (s ≡ x → ⊥) → test n w sc p c s ≡ true → test n w sc' q x s ≡ false → Under s
  passed_by c s ns e f k h =
      by_test _ (w (get_or sc' x 0) (get_or sc' s 0))
      (λ t.
      absurd
      (false≢true
      (sym f
      ∙ test_take n w sc' q x s (alike s ns ∙ test_at n w sc p c s e)
      (or_right (leb n x) (w (get_or sc' x 0) (get_or sc' s 0)) t))))
      (λ t.
      or_right (leb n s) (w (get_or sc s 0) k)
      (past (get_or sc' x 0) (get_or sc s 0) k (ap (w (get_or sc' x 0)) (sym (same s ns)) ∙ t) h))

  -- x is taken from c: then c is under x
  taken_from : (c : ℕ) → (c ≡ x → ⊥) → test n w sc' q c x ≡ true → Under c
  taken_from c nc e k h =
      let t = (halves (at q x) (leb n c || w (get_or sc' c 0) (get_or sc' x 0)) e).1 in
      by_test _ (leb n c)
      (λ a. or_left (leb n c) (w (get_or sc c 0) k) a)
      (λ a.
      let u : w (get_or sc' c 0) (get_or sc' x 0) ≡ true =
      sym (ap (λ (z : Bool). z || w (get_or sc' c 0) (get_or sc' x 0)) a) ∙ t in
      or_right (leb n c) (w (get_or sc c 0) k)
      (trans (get_or sc c 0) (get_or sc' x 0) k (ap (λ (z : ℕ). w z (get_or sc' x 0)) (sym (same c nc)) ∙ u) h))

  -- both take s, neither does, or one does
  only_first :
      (s c c' : ℕ) → Near c c' → test n w sc p c s ≡ true → test n w sc' q c' s ≡ false → Near s c'
  only_first s c c' j e f =
      by_test _ (eqb c' x)
      (λ a.
      let cx = eqb-true c' x a in
      by_test _ (eqb s x)
      (λ b. inl (cx ∙ sym (eqb-true s x b)))
      (λ b. inr (cx, passed_by c s (eqb-false s x b) e (ap (λ (z : ℕ). test n w sc' q z s) (sym cx) ∙ f))))
      (λ a.
      ⊎_elim
      (λ cc'.
      let nc : c ≡ x → ⊥ = λ z. eqb-false c' x a (cc' ∙ z) in
      let f' : test n w sc' q c s ≡ false = ap (λ (z : ℕ). test n w sc' q z s) (sym cc') ∙ f in
      absurd
      (false≢true
      (sym f'
      ∙ by_test _ (eqb s x)
      (λ b.
      let sx = eqb-true s x b in
      ap (test n w sc' q c) sx
      ∙ rises c nc (ap (test n w sc p c) (sym sx) ∙ e))
      (λ b. same_test c s nc (eqb-false s x b) ∙ e))))
      (λ h. absurd (eqb-false c' x a h.0))
      j)
    where
      rises : (c : ℕ) → (c ≡ x → ⊥) → test n w sc p c x ≡ true → test n w sc' q c x ≡ true
      rises c nc e =
          let t = halves (at p x) (leb n c || w (get_or sc c 0) (get_or sc x 0)) e in
          test_take n w sc' q c x (more t.0)
          (by_test _ (leb n c)
          (λ a. or_left (leb n c) (w (get_or sc' c 0) (get_or sc' x 0)) a)
          (λ a.
          let u : w (get_or sc c 0) (get_or sc x 0) ≡ true =
          sym (ap (λ (z : Bool). z || w (get_or sc c 0) (get_or sc x 0)) a) ∙ t.1 in
          or_right (leb n c) (w (get_or sc' c 0) (get_or sc' x 0))
          (ap (λ (z : ℕ). w z (get_or sc' x 0)) (same c nc) ∙ up (get_or sc c 0) u)))

  only_second :
      (s c c' : ℕ) → Near c c' → test n w sc p c s ≡ false → test n w sc' q c' s ≡ true → Near c s
  only_second s c c' j e f =
      by_test _ (eqb s x)
      (λ b.
      let sx = eqb-true s x b in
      ⊎_elim
      (λ cc'.
      by_test _ (eqb c x)
      (λ a. inl (sx ∙ sym (eqb-true c x a)))
      (λ a. inr (
        sx,
        taken_from c (eqb-false c x a) (sym (ap (λ (z : ℕ). test n w sc' q c z) sx) ∙ sym (ap (λ (z : ℕ). test n w sc' q z s) cc') ∙ f),
      )))
      (λ h. inr (sx, h.1))
      j)
      (λ b.
      let ns = eqb-false s x b in
      let pin : at p s ≡ true = sym (alike s ns) ∙ test_at n w sc' q c' s f in
      let beyond : c' ≡ x → w (get_or sc' x 0) (get_or sc s 0) ≡ true = λ cx.
      ap (w (get_or sc' x 0)) (sym (same s ns))
      ∙ none_past (get_or sc' s 0)
      (ap (λ (z : ℕ). leb n z || w (get_or sc' z 0) (get_or sc' s 0)) (sym cx)
      ∙ (halves (at q s) (leb n c' || w (get_or sc' c' 0) (get_or sc' s 0)) f).1) in
      absurd
      (false≢true
      (sym e
      ∙ ⊎_elim
      (λ cc'.
      by_test _ (eqb c x)
      (λ a.
      let cx = eqb-true c x a in
      test_take n w sc p c s pin
      (or_right (leb n c) (w (get_or sc c 0) (get_or sc s 0))
      (ap (λ (z : ℕ). w (get_or sc z 0) (get_or sc s 0)) cx ∙ down (get_or sc s 0) (beyond (cc' ∙ cx)))))
      (λ a.
      sym (same_test c s (eqb-false c x a) ns) ∙ sym (ap (λ (z : ℕ). test n w sc' q z s) cc') ∙ f))
      (λ h. test_take n w sc p c s pin (h.1 (get_or sc s 0) (beyond h.0)))
      j)))

  near_step : (s c c' : ℕ) → Near c c' → Near (cond (test n w sc p c s) s c) (cond (test n w sc' q c' s) s c')
  near_step s c c' j = go (test n w sc p c s) refl (test n w sc' q c' s) refl
    where
      go :
          (a : Bool) →
          test n w sc p c s ≡ a →
          (b : Bool) →
          test n w sc' q c' s ≡ b →
          Near (cond a s c) (cond b s c')
      go true e true f = inl refl
      go true e false f = only_first s c c' j e f
      go false e true f = only_second s c c' j e f
      go false e false f = j

  pick_near :
      (r : List ℕ) (c c' : ℕ) →
      Near c c' →
      (pick (test n w sc' q) r c' ≡ pick (test n w sc p) r c) ⊎ (pick (test n w sc' q) r c' ≡ x)
  unfolding pick
  pick_near [] c c' j = ⊎_elim (λ e. inl e) (λ h. inr h.0) j
  pick_near (s ∷ r) c c' j =
      pick_near r (cond (test n w sc p c s) s c) (cond (test n w sc' q c' s) s c') (near_step s c c' j)

-- ---- of the best and of the lowest
module _
    (n x : ℕ) (low : x < n) (sc sc' : List ℕ)
    (same : (s : ℕ) → (s ≡ x → ⊥) → get_or sc' s 0 ≡ get_or sc s 0)
    (no_less : get_or sc x 0 ≤ get_or sc' x 0) where
  -- the best stays, or it is x
  pub top_near :
      (p q : List Bool) →
      ((s : ℕ) → (s ≡ x → ⊥) → at q s ≡ at p s) →
      (at p x ≡ true → at q x ≡ true) →
      (r : List ℕ) →
      (top n sc' q r n ≡ top n sc p r n) ⊎ (top n sc' q r n ≡ x)
  top_near p q alike more r =
      ⊎_elim
      (λ e. inl (top_is n sc' q r n ∙ e ∙ sym (top_is n sc p r n)))
      (λ e. inr (top_is n sc' q r n ∙ e))
      (pick_near n x low ltb
      (λ a b e f g. lt-ltb a e (let h = ltb-true a b f in let k = ltb-true b e g in omega arith))
      (λ a b e f g. lt-ltb b e (let h = ltb-false a b f in let k = ltb-true a e g in omega arith))
      sc
      sc'
      same
      (λ a f. lt-ltb a (get_or sc' x 0) (let h = ltb-true a (get_or sc x 0) f in omega arith))
      (λ e f. lt-ltb (get_or sc x 0) e (let h = ltb-true (get_or sc' x 0) e f in omega arith))
      p
      q
      alike
      more
      r
      n
      n
      (inl refl))

  -- the lowest stays, or it was x
  pub bottom_near :
      (p : List Bool) (r : List ℕ) → (bottom n sc p r n ≡ bottom n sc' p r n) ⊎ (bottom n sc p r n ≡ x)
  bottom_near p r =
      ⊎_elim
      (λ e. inl (bottom_is n sc p r n ∙ e ∙ sym (bottom_is n sc' p r n)))
      (λ e. inr (bottom_is n sc p r n ∙ e))
      (pick_near n x low less
      (λ a b e f g. le-leb e a (let h = leb-true b a f in let k = leb-true e b g in omega arith))
      (λ a b e f g. le-leb e b (let h = leb-false b a f in let k = leb-true e a g in omega arith))
      sc'
      sc
      (λ s ns. sym (same s ns))
      (λ a f. le-leb (get_or sc x 0) a (let h = leb-true (get_or sc' x 0) a f in omega arith))
      (λ e f. le-leb e (get_or sc' x 0) (let h = leb-true e (get_or sc x 0) f in omega arith))
      p
      p
      (λ s ns. refl)
      (λ a. a)
      r
      n
      n
      (inl refl))
