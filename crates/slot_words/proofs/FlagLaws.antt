-- What the words' tests and the walk over members tell of the state.
-- Assumes nothing.
use Prim.Native.Nat.{ℕ, zero, suc, ◌+◌, ◌*◌, ◌-◌, ◌/◌, ◌%◌, ◌^◌, ◌≤◌, ◌<◌, max}
use mathlib.Core.Path.{◌≡◌, refl, sym, ap, ◌∙◌}
use mathlib.Core.Bool.{Bool, true, false, ◌&&◌, ◌||◌}
use mathlib.Core.List.{List, [], ◌∷◌}
use native.Mathlib.Omega.{arith}
use lib.ListN.{get_or}
use lib.Dec.{eqb, leb}
use lib.Bits.{bit_or}
use borrow.Author.Tests.{eqb-true, leb-true}
use Rattle.index.proofs.Index.{both}
use Rattle.index.proofs.Flags.{by_test, by_order}
use Rattle.records.specs.Records.{State, slot_count, place, joined_in, peer_in, topic_in}
use Rattle.layout.specs.View.{bit_at}
use Rattle.layout.proofs.DigitLaws.{digit_le}
use Rattle.layout.proofs.EndLaws.{or_none}
use Rattle.slot_words.specs.Flags.{FreeSlots, PeerFlags, TopicFlags, TimesWithin, MembersIn}
use Rattle.slot_words.proofs.WordLaws.{at_word, each_word}

-- ---- small numbers
bit_le : (w : List ℕ) (s : ℕ) → bit_at w 0 s ≤ 1
bit_le w s = let h = digit_le (get_or w (s / 64) 0) (s % 64) in omega (arith, at_word w s)

not_one : (x : ℕ) → x ≤ 1 → (x ≡ 1 → ⊥) → x ≡ 0
not_one x l n = by_order (x ≡ 0) x 1 (λ h. omega arith) (λ h. absurd (n (omega arith)))

max_zero : (a b : ℕ) → max a b ≡ 0 → (a ≡ 0) × (b ≡ 0)
max_zero zero zero e = (refl, refl)
max_zero zero (suc b) e = absurd (omega arith)
max_zero (suc a) zero e = absurd (omega arith)
max_zero (suc a) (suc b) e = absurd (omega arith)

not_three : (n : ℕ) → n / 2 ≤ 1 → (n % 2 ≡ 1 → n / 2 ≡ 0) → n ≤ 2
not_three n l f =
    by_order (n ≤ 2) n 3 (λ h. omega arith) (λ h.
    let z = f (omega arith) in
    omega arith)

-- ---- the peers' flags
module _ (st : State) (held : List ℕ)
    (bh : (s : ℕ) → s < slot_count → bit_at held 0 s ≡ max ((peer_in st s).status % 2) ((peer_in st s).status / 2)) where
  unheld : (s : ℕ) → s < slot_count → (peer_in st s).status ≡ 0 → bit_at held 0 s ≡ 0
  unheld s h e = bh s h ∙ ap (λ (n : ℕ). max (n % 2) (n / 2)) e

  -- a flag that only held slots have
  flag_none :
      (w : List ℕ) →
      ((s : ℕ) → s < slot_count → bit_at w 0 s ≡ 1 → bit_at held 0 s ≡ 1) →
      (s : ℕ) →
      s < slot_count →
      (peer_in st s).status ≡ 0 →
      bit_at w 0 s ≡ 0
  flag_none w f s h e = not_one (bit_at w 0 s) (bit_le w s) (λ o. let z = f s h o in let y = unheld s h e in omega arith)

  pub unheld_empty : (s : ℕ) → s < slot_count → bit_at held 0 s ≡ 0 → (peer_in st s).status ≡ 0
  unheld_empty s h e =
      let z = max_zero ((peer_in st s).status % 2) ((peer_in st s).status / 2) (sym (bh s h) ∙ e) in
      let a = z.0 in
      let b = z.1 in
      omega arith

  -- the complement
  free_bit : (w : List ℕ) → ((s : ℕ) → s < slot_count → bit_at w 0 s ≡ 1 - bit_at held 0 s) → FreeSlots st w
  free_bit w f =
      record {
        empty = λ s h e. unheld_empty s h (let b = f s h in let l = bit_le held s in omega arith);
        every = λ s h e. let b = f s h in let z = unheld s h e in omega arith;
      }

  pub free_told :
      (w0 w1 w2 w3 : ℕ) →
      ((j : ℕ) → j < 64 → w0 / 2 ^ j % 2 ≡ 1 - get_or held 0 0 / 2 ^ j % 2) →
      ((j : ℕ) → j < 64 → w1 / 2 ^ j % 2 ≡ 1 - get_or held 1 0 / 2 ^ j % 2) →
      ((j : ℕ) → j < 64 → w2 / 2 ^ j % 2 ≡ 1 - get_or held 2 0 / 2 ^ j % 2) →
      ((j : ℕ) → j < 64 → w3 / 2 ^ j % 2 ≡ 1 - get_or held 3 0 / 2 ^ j % 2) →
      FreeSlots st (w0 ∷ w1 ∷ w2 ∷ w3 ∷ [])
  free_told w0 w1 w2 w3 f0 f1 f2 f3 =
      let w : List ℕ = w0 ∷ w1 ∷ w2 ∷ w3 ∷ [] in
      free_bit w (λ s h.
      at_word w s
      ∙ each_word (λ i j. get_or w i 0 / 2 ^ j % 2 ≡ 1 - get_or held i 0 / 2 ^ j % 2) f0 f1 f2 f3 s h
      ∙ ap (λ (n : ℕ). 1 - n) (sym (at_word held s)))

  pub peers_told :
      (used : ℕ) (connected retained explicit outbound version high : List ℕ) (x0 x1 x2 x3 x4 x5 x6 : ℕ) →
      ((s : ℕ) → s < slot_count → bit_at connected 0 s ≡ (peer_in st s).status % 2) →
      ((s : ℕ) → s < slot_count → bit_at retained 0 s ≡ (peer_in st s).status / 2) →
      ((s : ℕ) → s < slot_count → bit_at explicit 0 s ≡ (peer_in st s).explicit) →
      ((s : ℕ) → s < slot_count → bit_at outbound 0 s ≡ (peer_in st s).outbound) →
      ((s : ℕ) → s < slot_count → bit_at version 0 s ≡ (peer_in st s).version % 2) →
      ((s : ℕ) → s < slot_count → bit_at high 0 s ≡ (peer_in st s).version / 2) →
      (x0 ≡ 0 → (s : ℕ) → s < slot_count → bit_at connected 0 s ≡ 1 → bit_at retained 0 s ≡ 0) →
      (x1 ≡ 0 → (s : ℕ) → s < slot_count → bit_at version 0 s ≡ 1 → bit_at high 0 s ≡ 0) →
      (x2 ≡ 0 → (s : ℕ) → s < slot_count → bit_at explicit 0 s ≡ 1 → bit_at held 0 s ≡ 1) →
      (x3 ≡ 0 → (s : ℕ) → s < slot_count → bit_at outbound 0 s ≡ 1 → bit_at held 0 s ≡ 1) →
      (x4 ≡ 0 → (s : ℕ) → s < slot_count → bit_at version 0 s ≡ 1 → bit_at held 0 s ≡ 1) →
      (x5 ≡ 0 → (s : ℕ) → s < slot_count → bit_at high 0 s ≡ 1 → bit_at held 0 s ≡ 1) →
      (x6 ≡ 0 → (s : ℕ) → s < slot_count → used ≤ s → bit_at held 0 s ≡ 0) →
      eqb (bit_or (bit_or (bit_or (bit_or (bit_or (bit_or x0 x1) x2) x3) x4) x5) x6) 0 ≡ true →
      PeerFlags st used
  peers_told used connected retained explicit outbound version high x0 x1 x2 x3 x4 x5 x6 bc br be bo bv bg t0 t1 t2 t3 t4 t5 t6 e =
      let z6 = or_none (bit_or (bit_or (bit_or (bit_or (bit_or x0 x1) x2) x3) x4) x5) x6 (eqb-true _ 0 e) in
      let z5 = or_none (bit_or (bit_or (bit_or (bit_or x0 x1) x2) x3) x4) x5 z6.0 in
      let z4 = or_none (bit_or (bit_or (bit_or x0 x1) x2) x3) x4 z5.0 in
      let z3 = or_none (bit_or (bit_or x0 x1) x2) x3 z4.0 in
      let z2 = or_none (bit_or x0 x1) x2 z3.0 in
      let z1 = or_none x0 x1 z2.0 in
      record {
        status = λ s h.
            not_three (peer_in st s).status (let l = bit_le retained s in omega (arith, br s h)) (λ o.
            sym (br s h) ∙ t0 z1.0 s h (bc s h ∙ o));
        version = λ s h.
            not_three (peer_in st s).version (let l = bit_le high s in omega (arith, bg s h)) (λ o.
            sym (bg s h) ∙ t1 z1.1 s h (bv s h ∙ o));
        no_explicit = λ s h n. sym (be s h) ∙ flag_none explicit (t2 z2.1) s h n;
        no_outbound = λ s h n. sym (bo s h) ∙ flag_none outbound (t3 z3.1) s h n;
        no_version = λ s h n.
            omega (arith, sym (bv s h) ∙ flag_none version (t4 z4.1) s h n, sym (bg s h) ∙ flag_none high (t5 z5.1) s h n);
        rest = λ s l h. unheld_empty s h (t6 z6.1 s h l);
      }

-- ---- a topic's flags
module _ (st : State) (t : ℕ) (members : List ℕ)
    (bm : (s : ℕ) → s < slot_count → bit_at members 0 s ≡ (topic_in st (place s t)).member) where
  pub topic_told :
      (connected explicit subscribed : List ℕ) (x0 x1 x2 x3 joined : ℕ) →
      ((s : ℕ) → s < slot_count → bit_at connected 0 s ≡ (peer_in st s).status % 2) →
      ((s : ℕ) → s < slot_count → bit_at explicit 0 s ≡ (peer_in st s).explicit) →
      ((s : ℕ) → s < slot_count → bit_at subscribed 0 s ≡ (topic_in st (place s t)).subscribed) →
      (x0 ≡ 0 → (s : ℕ) → s < slot_count → bit_at subscribed 0 s ≡ 1 → bit_at connected 0 s ≡ 1) →
      (x1 ≡ 0 → (s : ℕ) → s < slot_count → bit_at members 0 s ≡ 1 → bit_at subscribed 0 s ≡ 1) →
      (x2 ≡ 0 → (s : ℕ) → s < slot_count → bit_at members 0 s ≡ 1 → bit_at explicit 0 s ≡ 0) →
      (x3 ≡ 0 → (s : ℕ) → s < slot_count → bit_at members 0 s ≡ 0) →
      joined ≡ joined_in st t →
      eqb (bit_or (bit_or x0 x1) x2) 0 && (eqb joined 1 || eqb x3 0) ≡ true →
      TopicFlags st t
  topic_told connected explicit subscribed x0 x1 x2 x3 joined bc be bs t0 t1 t2 t3 ej e =
      let q = both (eqb (bit_or (bit_or x0 x1) x2) 0) (eqb joined 1 || eqb x3 0) e in
      let z2 = or_none (bit_or x0 x1) x2 (eqb-true _ 0 q.0) in
      let z1 = or_none x0 x1 z2.0 in
      record {
        connected = λ s h o. sym (bc s h) ∙ t0 z1.0 s h (bs s h ∙ o);
        subscribed = λ s h o. sym (bs s h) ∙ t1 z1.1 s h (bm s h ∙ o);
        chosen = λ s h o. sym (be s h) ∙ t2 z2.1 s h (bm s h ∙ o);
        joined = λ s h o.
            by_test (joined_in st t ≡ 1) (eqb joined 1)
            (λ y. sym ej ∙ eqb-true joined 1 y)
            (λ n.
            let k : eqb x3 0 ≡ true = other (eqb joined 1) (eqb x3 0) q.1 n in
            let z = t3 (eqb-true x3 0 k) s h in
            let y = bm s h in
            absurd (omega arith));
      }
    where
      other : (a b : Bool) → a || b ≡ true → a ≡ false → b ≡ true
      other true b f g = let z : ◌≡◌ {A = ℕ} 0 1 = cc in absurd (omega arith)
      other false b f g = f

  -- ---- the walk over the members
  pub members_in : (i : ℕ) → i < 4 → MembersIn st t i (get_or members i 0)
  members_in i h =
      record {
        member = λ j l e.
            let s : ℕ = 64 * i + j in
            let b : s < slot_count = omega arith in
            let q : s / 64 ≡ i = omega arith in
            let r : s % 64 ≡ j = omega arith in
            sym (bm s b) ∙ at_word members s ∙ rw (q, r) e;
      }

  pub times_told :
      (clock : ℕ) (b0 b1 b2 b3 : Bool) →
      (b0 ≡ true →
      (j : ℕ) →
      j < 64 →
      get_or members 0 0 / 2 ^ j % 2 ≡ 1 →
      (topic_in st (place (64 * 0 + j) t)).graft + (topic_in st (place (64 * 0 + j) t)).mesh ≤ clock) →
      (b1 ≡ true →
      (j : ℕ) →
      j < 64 →
      get_or members 1 0 / 2 ^ j % 2 ≡ 1 →
      (topic_in st (place (64 * 1 + j) t)).graft + (topic_in st (place (64 * 1 + j) t)).mesh ≤ clock) →
      (b2 ≡ true →
      (j : ℕ) →
      j < 64 →
      get_or members 2 0 / 2 ^ j % 2 ≡ 1 →
      (topic_in st (place (64 * 2 + j) t)).graft + (topic_in st (place (64 * 2 + j) t)).mesh ≤ clock) →
      (b3 ≡ true →
      (j : ℕ) →
      j < 64 →
      get_or members 3 0 / 2 ^ j % 2 ≡ 1 →
      (topic_in st (place (64 * 3 + j) t)).graft + (topic_in st (place (64 * 3 + j) t)).mesh ≤ clock) →
      b0 && b1 && b2 && b3 ≡ true →
      TimesWithin st t clock
  times_told clock b0 b1 b2 b3 t0 t1 t2 t3 e =
      let q3 = both (b0 && b1 && b2) b3 e in
      let q2 = both (b0 && b1) b2 q3.0 in
      let q1 = both b0 b1 q2.0 in
      record {
        times = λ s h o.
            let y : 64 * (s / 64) + s % 64 ≡ s = omega arith in
            let m : get_or members (s / 64) 0 / 2 ^ (s % 64) % 2 ≡ 1 = sym (at_word members s) ∙ bm s h ∙ o in
            let f :
            (topic_in st (place (64 * (s / 64) + s % 64) t)).graft + (topic_in st (place (64 * (s / 64) + s % 64) t)).mesh ≤ clock =
            each_word
            (λ i j.
            get_or members i 0 / 2 ^ j % 2 ≡ 1 →
            (topic_in st (place (64 * i + j) t)).graft + (topic_in st (place (64 * i + j) t)).mesh ≤ clock)
            (t0 q1.0)
            (t1 q1.1)
            (t2 q2.1)
            (t3 q3.1)
            s
            h
            m in
            rw y at f;
      }

pub sum_told : (graft mesh clock g m : ℕ) → g ≡ graft → m ≡ mesh → g ≤ clock → leb m (clock - g) ≡ true → graft + mesh ≤ clock
sum_told graft mesh clock g m eg em l e = let h = leb-true m (clock - g) e in omega arith
