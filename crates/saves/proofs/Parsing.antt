-- Numbers to bytes and back, whatever stands before and after them.
-- Assumes nothing.
use Rattle.std.proofs.Common.{Option, Some, None}
use Prim.Native.Nat.{ℕ, zero, suc, ◌+◌, ◌-◌, ◌<◌, ◌≤◌, suc-le-suc}
use mathlib.Core.Path.{◌≡◌, refl, sym, ap, ◌∙◌}
use mathlib.Core.List.{List, [], ◌∷◌, ◌++◌, append_assoc}
use native.Mathlib.Omega.{arith}
use native.Mathlib.Numerals.{add-one}
use lib.Seq.{get_or_at, take-suc}
use lib.ListN.{length, get_or, take, drop, length-append}
use Rattle.varint.specs.Groups.{read_at, encode}
use Rattle.varint.proofs.GroupLaws.{read_at_encode, read_at_written, Front}
use Rattle.saves.specs.Save.{bytes_of}
use Rattle.saves.specs.Load.{Parse, numbers, malformed, then, step, parse_from}

-- the largest number that is read
abbrev pub top : ℕ
top = 18446744073709551615

abbrev pub Small : List ℕ → Type 0
Small l = (i : ℕ) → i < length l → get_or l i 0 ≤ top

pub parse_back :
    (l front rest : List ℕ) →
    Small l →
    parse_from (length l) (front ++ (bytes_of l ++ rest)) (length front) ≡ numbers l (length front + length (bytes_of l))
unfolding parse_from bytes_of
parse_back [] front rest c = ap (numbers []) (omega arith)
parse_back (n ∷ l) front rest c =
    rw (
      append_assoc (encode n) (bytes_of l) rest,
      read_at_encode top n front (bytes_of l ++ rest) (c 0 (omega arith)),
      ← length-append front (encode n),
      ← append_assoc front (encode n) (bytes_of l ++ rest),
      parse_back l (front ++ encode n) rest (λ i b. c (suc i) (suc-le-suc b)),
    )
    (ap (numbers (n ∷ l)) (omega (arith, length-append front (encode n), length-append (encode n) (bytes_of l))))

-- ---- what was read is what would be written
then_numbers :
    (v : ℕ) (p : Parse) (l : List ℕ) (next : ℕ) →
    then v p ≡ numbers l next →
    (m : List ℕ) × ((p ≡ numbers m next) × (v ∷ m ≡ l))
then_numbers v (numbers m n) l next e =
    let q : n ≡ next = cc in
    (m, (ap (numbers m) q, cc))
then_numbers v (malformed p) l next e = let z : ◌≡◌ {A = ℕ} 0 1 = cc in absurd (omega arith)

pub record Rest (s : List ℕ) (at : ℕ) (l : List ℕ) (next n : ℕ) : Type 0 where
  pub bytes : drop at s ≡ bytes_of l ++ drop next s
  pub count : length l ≡ n

step_written :
    (s : List ℕ) (at : ℕ) (rest : ℕ → Parse) (l : List ℕ) (end n : ℕ) (r : Option (ℕ × ℕ)) →
    ((k : ℕ) → get_or s k 0 < 256) →
    read_at top s at ≡ r →
    ((next : ℕ) (m : List ℕ) → rest next ≡ numbers m end → Rest s next m end n) →
    step rest at r ≡ numbers l end →
    Rest s at l end (suc n)
unfolding bytes_of
step_written s at rest l end n None h e ih f = let z : ◌≡◌ {A = ℕ} 0 1 = cc in absurd (omega arith)
step_written s at rest l end n (Some (u, next)) h e ih f =
    let t = then_numbers u (rest next) l end f in
    let w : Front top s at u next = read_at_written top s at u next h e in
    let i = ih next t.0 t.1.0 in
    rw (← t.1.1)
    (record {
      bytes = w.bytes ∙ rw (append_assoc (encode u) (bytes_of t.0) (drop end s)) (ap (λ (m : List ℕ). encode u ++ m) i.bytes);
      count = ap suc i.count;
    })

pub written_from :
    (n : ℕ) (s : List ℕ) (at : ℕ) (l : List ℕ) (end : ℕ) →
    ((k : ℕ) → get_or s k 0 < 256) →
    parse_from n s at ≡ numbers l end →
    Rest s at l end n
unfolding parse_from bytes_of
written_from zero s at l end h e =
    let q : [] ≡ l = cc in
    let r : at ≡ end = cc in
    rw (← q, ← r) (record { bytes = refl; count = refl })
written_from (suc n) s at l end h e =
    step_written s at (λ next. parse_from n s next) l end n (read_at top s at) h refl
    (λ next m f. written_from n s next m end h f) e

-- ---- the second pass: number by number through numbers that the first has read
abbrev pub after : List ℕ → Parse → Parse
after a (numbers l next) = numbers (a ++ l) next
after a (malformed p) = malformed p

after_then : (v : ℕ) (a : List ℕ) (p : Parse) → then v (after a p) ≡ after (v ∷ a) p
after_then v a (numbers l next) = refl
after_then v a (malformed p) = refl

after_none : (p : Parse) → after [] p ≡ p
after_none (numbers l next) = refl
after_none (malformed p) = refl

-- i numbers, and then k more
pub parse_split :
    (i k : ℕ) (s : List ℕ) (at : ℕ) (a : List ℕ) (place : ℕ) →
    parse_from i s at ≡ numbers a place →
    parse_from (i + k) s at ≡ after a (parse_from k s place)
unfolding parse_from
parse_split zero k s at a place e =
    let q : [] ≡ a = cc in
    let r : at ≡ place = cc in
    let z : 0 + k ≡ k = omega arith in
    rw (z, ← q, ← r) (sym (after_none (parse_from k s at)))
parse_split (suc i) k s at a place e =
    let z : suc i + k ≡ suc (i + k) = omega arith in
    ap (λ (n : ℕ). parse_from n s at) z ∙ go (λ next b f. parse_split i k s next b place f) (read_at top s at) e
  where
    go :
        ((next : ℕ) (b : List ℕ) → parse_from i s next ≡ numbers b place → parse_from (i + k) s next ≡ after b (parse_from k s place)) →
        (r : Option (ℕ × ℕ)) →
        step (λ next. parse_from i s next) at r ≡ numbers a place →
        step (λ next. parse_from (i + k) s next) at r ≡ after a (parse_from k s place)
    go ih None f = let z : ◌≡◌ {A = ℕ} 0 1 = cc in absurd (omega arith)
    go ih (Some (u, next)) f =
        let t = then_numbers u (parse_from i s next) a place f in
        ap (then u) (ih next t.0 t.1.0)
        ∙ after_then u t.0 (parse_from k s place)
        ∙ ap (λ (m : List ℕ). after m (parse_from k s place)) t.1.1

-- how many numbers were read
pub parse_count : (n : ℕ) (s : List ℕ) (at : ℕ) (l : List ℕ) (end : ℕ) → parse_from n s at ≡ numbers l end → length l ≡ n
unfolding parse_from
parse_count zero s at l end e = let q : [] ≡ l = cc in rw (← q)
parse_count (suc n) s at l end e = go (λ next m f. parse_count n s next m end f) (read_at top s at) e
  where
    go :
        ((next : ℕ) (m : List ℕ) → parse_from n s next ≡ numbers m end → length m ≡ n) →
        (r : Option (ℕ × ℕ)) →
        step (λ next. parse_from n s next) at r ≡ numbers l end →
        length l ≡ suc n
    go ih None f = let z : ◌≡◌ {A = ℕ} 0 1 = cc in absurd (omega arith)
    go ih (Some (u, next)) f =
        let t = then_numbers u (parse_from n s next) l end f in
        rw (← t.1.1) (ap suc (ih next t.0 t.1.0))

-- the number that stands where i of m numbers end is the i-th of them
pub record Next (m i : ℕ) (s : List ℕ) (at : ℕ) (l : List ℕ) (place : ℕ) : Type 0 where
  pub next : ℕ
  pub read : read_at top s place ≡ Some (get_or l i 0, next)
  pub more : parse_from (suc i) s at ≡ numbers (take (suc i) l) next

module _
    (m i : ℕ)
    (s : List ℕ)
    (at : ℕ)
    (l : List ℕ)
    (end place : ℕ)
    (whole : parse_from m s at ≡ numbers l end)
    (below : i < m)
    (front : parse_from i s at ≡ numbers (take i l) place)
  where
    front_length : length (take i l) ≡ i
    front_length = parse_count i s at (take i l) place front

    here : (u : ℕ) (rest : List ℕ) → l ≡ take i l ++ u ∷ rest → get_or l i 0 ≡ u
    here u rest e = ap (λ (k : List ℕ). get_or k i 0) e ∙ get_or_at (take i l) u rest 0 i front_length

    then_rest : (u : ℕ) (p : Parse) → after (take i l) (then u p) ≡ numbers l end → get_or l i 0 ≡ u
    then_rest u (numbers rest e) f = let q : take i l ++ u ∷ rest ≡ l = cc in here u rest (sym q)
    then_rest u (malformed e) f = let z : ◌≡◌ {A = ℕ} 0 1 = cc in absurd (omega arith)

    one : parse_from (i + 1) s at ≡ after (take i l) (parse_from 1 s place)
    one = parse_split i 1 s at (take i l) place front

    go : (r : Option (ℕ × ℕ)) → read_at top s place ≡ r → after (take i l) (step (λ next. parse_from (m - i - 1) s next) place r) ≡ numbers l end →
        Next m i s at l place
    unfolding parse_from
    go None e f = let z : ◌≡◌ {A = ℕ} 0 1 = cc in absurd (omega arith)
    go (Some (u, next)) e f =
        let q : get_or l i 0 ≡ u = then_rest u (parse_from (m - i - 1) s next) f in
        let c = parse_count m s at l end whole in
        record {
          next = next;
          read = rw q e;
          more =
              ap (λ (n : ℕ). parse_from n s at) (sym (add-one i))
              ∙ one
              ∙ ap (λ (r : Option (ℕ × ℕ)). after (take i l) (step (λ k. numbers [] k) place r)) e
              ∙ ap (λ (k : List ℕ). numbers k next) (ap (λ (v : ℕ). take i l ++ (v ∷ [])) (sym q) ∙ sym (take-suc l i 0 (omega arith)));
        }

    pub next_is : Next m i s at l place
    unfolding parse_from
    next_is =
        let z : m ≡ i + suc (m - i - 1) = omega arith in
        go (read_at top s place) refl
        (sym (parse_split i (suc (m - i - 1)) s at (take i l) place front) ∙ ap (λ (n : ℕ). parse_from n s at) (sym z) ∙ whole)
