-- The window's bytes: what a turn leaves of them, and what a reading adds.
-- Assumes nothing.
use Prim.Native.Nat.{ℕ, zero, suc, ◌+◌, ◌-◌, ◌<◌, ◌≤◌}
use mathlib.Core.Path.{◌≡◌, sym, ap, ap₂, ◌∙◌}
use mathlib.Core.List.{List, [], ◌∷◌, ◌++◌}
use native.Mathlib.Omega.{arith}
use native.Mathlib.Nat.{zero-add}
use native.Mathlib.Numerals.{add-one}
use lib.ListN.{length, get_or, set, take, drop, length-drop}
use lib.Seq.{sets, sets-eq, take-append_seam, drop-drop, take-add, take-nil, length-take-le, get_or-drop, paste, paste-zero, paste-suc}
use lib.Seq.{get_or-append-add}

-- a part of a part
pub drop_take : {A : Type 0} (n m : ℕ) (l : List A) → drop n (take m l) ≡ take (m - n) (drop n l)
drop_take zero m l = let e : m - 0 ≡ m = omega arith in rw e
drop_take (suc n) zero l = let e : 0 - suc n ≡ 0 = omega arith in rw e
drop_take (suc n) (suc m) [] = sym (take-nil (suc m - suc n))
drop_take (suc n) (suc m) (x ∷ l) = let e : suc m - suc n ≡ m - n = omega arith in rw e (drop_take n m l)

-- what was stored at the front stands there
pub front_of : (l vs : List ℕ) → length vs ≤ length l → take (length vs) (sets l 0 vs) ≡ vs
front_of l vs h = ap (take (length vs)) (sets-eq vs l 0 (omega arith)) ∙ take-append_seam vs (drop (0 + length vs) l)

module _ (at end : ℕ) (buf : List ℕ) (low : at ≤ end) (high : end ≤ length buf) where
  pub part_length : length (take (end - at) (drop at buf)) ≡ end - at
  part_length = length-take-le (end - at) (drop at buf) (omega (arith, length-drop at buf))

  -- n of the bytes are done with
  pub part_taken : (n : ℕ) → take (end - (at + n)) (drop (at + n) buf) ≡ drop n (take (end - at) (drop at buf))
  part_taken n =
      let e : end - at - n ≡ end - (at + n) = omega arith in
      sym (drop_take n (end - at) (drop at buf) ∙ ap₂ (λ (k : ℕ) (l : List ℕ). take k l) e (drop-drop n at buf))

  -- the bytes at the buffer's front
  pub part_moved : take (end - at - 0) (sets buf 0 (take (end - at) (drop at buf))) ≡ take (end - at) (drop at buf)
  part_moved =
      let l = part_length in
      let e : end - at - 0 ≡ length (take (end - at) (drop at buf)) = omega arith in
      ap (λ (k : ℕ). take k (sets buf 0 (take (end - at) (drop at buf)))) e
      ∙ front_of buf (take (end - at) (drop at buf)) (omega arith)

  -- n bytes are read behind them
  pub part_filled :
      (n : ℕ) (new : List ℕ) →
      take end new ≡ take end buf →
      take (end + n - at) (drop at new) ≡ take (end - at) (drop at buf) ++ take n (drop end new)
  part_filled n new e =
      let k : end + n - at ≡ end - at + n = omega arith in
      let j : at + (end - at) ≡ end = omega arith in
      ap (λ (m : ℕ). take m (drop at new)) k
      ∙ take-add (end - at) n (drop at new)
      ∙ ap₂ (λ (a b : List ℕ). a ++ take n b)
      (sym (drop_take at end new) ∙ ap (drop at) e ∙ drop_take at end buf)
      (drop-drop (end - at) at new ∙ ap (λ (m : ℕ). drop m new) j)

-- ---- the loop of `shift`: k bytes stand at the front
abbrev pub Shifted : ℕ → List ℕ → ℕ → List ℕ → Type 0
Shifted at buf k now = now ≡ paste buf 0 (drop at buf) k

pub shifted_none : (at : ℕ) (buf : List ℕ) → Shifted at buf 0 buf
shifted_none at buf = paste-zero buf 0 (drop at buf)

pub shifted_more :
    (at : ℕ) (buf : List ℕ) (k : ℕ) (now : List ℕ) (v : ℕ) →
    Shifted at buf k now →
    v ≡ get_or now (at + k) 0 →
    at + k < length buf →
    Shifted at buf (k + 1) (set now k v)
shifted_more at buf k now v inv e h =
    let s : List ℕ = drop at buf in
    let l = length-drop at buf in
    let f : length (take k s) ≡ k = length-take-le k s (omega arith) in
    let i : at + k ≡ length (take k s) + at = omega arith in
    let same : get_or (paste buf 0 s k) (at + k) 0 ≡ get_or s k 0 =
    ap (λ (j : ℕ). get_or (paste buf 0 s k) j 0) i
    ∙ get_or-append-add (take k s) (drop (0 + k) buf) at 0
    ∙ get_or-drop (0 + k) buf at 0
    ∙ ap (λ (j : ℕ). get_or buf j 0) (omega arith)
    ∙ sym (get_or-drop at buf k 0) in
    let q : v ≡ get_or s k 0 = e ∙ ap (λ (m : List ℕ). get_or m (at + k) 0) inv ∙ same in
    let z : 0 + k ≡ k = zero-add k in
    rw (add-one k)
    (ap₂ (λ (m : List ℕ) (x : ℕ). set m k x) inv q
    ∙ ap (λ (j : ℕ). set (paste buf 0 s k) j (get_or s k 0)) (sym z)
    ∙ paste-suc buf 0 s k 0 (omega arith) (omega arith))

pub shifted_all :
    (at end : ℕ) (buf : List ℕ) (n k : ℕ) (now : List ℕ) →
    at ≤ end →
    end ≤ length buf →
    n ≡ end - at →
    k ≤ n →
    n ≤ k →
    Shifted at buf k now →
    now ≡ sets buf 0 (take (end - at) (drop at buf))
shifted_all at end buf n k now low high m less all inv =
    let l = part_length at end buf low high in
    let e : k ≡ end - at = omega arith in
    inv
    ∙ ap (paste buf 0 (drop at buf)) e
    ∙ ap (λ (j : ℕ). take (end - at) (drop at buf) ++ drop (0 + j) buf) (sym l)
    ∙ sym (sets-eq (take (end - at) (drop at buf)) buf 0 (omega arith))
