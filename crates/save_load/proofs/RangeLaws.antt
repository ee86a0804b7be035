-- The ranges of a record, filled from the front.
-- Assumes nothing.
use Prim.{tt}
use Prim.Native.Nat.{ℕ, suc, ◌+◌, ◌*◌, ◌<◌, ◌≤◌}
use native.Mathlib.Omega.{arith}
use native.Mathlib.Numerals.{add-one}
use mathlib.Core.Path.{◌≡◌, refl, sym, ap, ◌∙◌}
use mathlib.Core.Bool.{true}
use mathlib.Core.List.{List, [], ◌∷◌, ◌++◌, append-nil}
use lib.ListN.{length, get_or, set, drop_of_length-le}
use lib.Seq.{sets, sets-eq}
use Rattle.index.specs.Index.{gather}
use Rattle.index.proofs.Index.{gather_none, gather_more}
use Rattle.index.proofs.Lists.{sets_append}
use Rattle.varint.specs.Codes.{magnitude}
use Rattle.params.proofs.ParamLaws.{topic}
use Rattle.records.specs.Records.{State, code_in}
use Rattle.validity.specs.Valid.{max_id, topic_param, cap2, cap3, valid}
use Rattle.validity.proofs.ValidLaws.{valid_facts}
use Rattle.saves.specs.Load.{most_retain, most_backoff, most_of}
use Rattle.saves.proofs.Lists.{length_gather, Below, below_at, below_gather}
use Rattle.saves.proofs.Rows.{length_most}
use Rattle.save_load.specs.Store.{widest}

pub five :
    (l : List ℕ) (at a b c d e : ℕ) → set (set (set (set (set l at a) (at + 1) b) (at + 2) c) (at + 3) d) (at + 4) e
    ≡ sets l at (a ∷ b ∷ c ∷ d ∷ e ∷ [])
five l at a b c d e =
    let two : at + 2 ≡ suc (suc at) = omega arith in
    let three : at + 3 ≡ suc (suc (suc at)) = omega arith in
    let four : at + 4 ≡ suc (suc (suc (suc at))) = omega arith in
    rw (add-one at, two, three, four)

-- the five of topic t, by the codes
abbrev pub five_of : List ℕ → ℕ → List ℕ
five_of codes t =
    magnitude (get_or codes (19 + 16 * t + 6) 0) ∷ magnitude (get_or codes (19 + 16 * t + 9) 0) ∷ 1000000000000 ∷ 1000000 ∷ most_backoff ∷ []

pub record Filled (codes : List ℕ) (t : ℕ) (row₀ row : List ℕ) : Type 0 where
  pub low : t ≤ 8
  pub same : length row ≡ length row₀
  pub left : row ≡ sets row₀ 4 (gather t (five_of codes))

module _ (codes : List ℕ) where
  pub fill_none : (row₀ : List ℕ) → Filled codes 0 row₀ row₀
  fill_none row₀ = record { low = omega arith; same = refl; left = ap (sets row₀ 4) (sym (gather_none (five_of codes))) }

  pub fill_more :
      (t a b : ℕ) (row₀ row row' : List ℕ) → t < 8 → Filled codes t row₀ row → length row' ≡ length row → row'
      ≡ sets row (4 + t * 5) (a ∷ b ∷ 1000000000000 ∷ 1000000 ∷ most_backoff ∷ []) → a ≡ magnitude (get_or codes (19 + 16 * t + 6) 0) → b
      ≡ magnitude (get_or codes (19 + 16 * t + 9) 0) → Filled codes (t + 1) row₀ row'
  fill_more t a b row₀ row row' h f n e ea eb =
      let q : a ∷ b ∷ 1000000000000 ∷ 1000000 ∷ most_backoff ∷ [] ≡ five_of codes t =
      λ i. ea i ∷ eb i ∷ 1000000000000 ∷ 1000000 ∷ most_backoff ∷ [] in
      let z : 4 + length (gather t (five_of codes)) ≡ 4 + t * 5 = omega (arith, length_gather (five_of codes) 5 (λ k. refl) t) in
      record {
        low = omega arith;
        same = n ∙ f.same;
        left =
            e
            ∙ ap (sets row (4 + t * 5)) q
            ∙ ap (λ (m : List ℕ). sets m (4 + t * 5) (five_of codes t)) f.left
            ∙ ap (λ (k : ℕ). sets (sets row₀ 4 (gather t (five_of codes))) k (five_of codes t)) (sym z)
            ∙ sym (sets_append row₀ 4 (gather t (five_of codes)) (five_of codes t))
            ∙ ap (sets row₀ 4) (sym (gather_more (five_of codes) t));
      }

  abbrev front : List ℕ
  front = max_id ∷ most_retain ∷ 2000000000 ∷ 1000000 ∷ []

  most_is : (st : State) → st.codes ≡ codes → most_of st ≡ front ++ gather 8 (five_of codes)
  unfolding most_of topic_param code_in
  most_is st e = ap (λ (m : List ℕ). front ++ gather 8 (five_of m)) e

  whole : (r l : List ℕ) → length l ≡ length r → sets r 0 l ≡ l
  whole r l e =
      let b : length r ≤ 0 + length l = omega arith in
      sets-eq l r 0 (omega arith) ∙ ap (λ (m : List ℕ). l ++ m) (drop_of_length-le r b) ∙ append-nil l

  pub fill_done :
      (t : ℕ) (r row₀ row : List ℕ) → 8 ≤ t → length r ≡ 44 → row₀ ≡ sets r 0 front → Filled codes t row₀ row → (st : State) → st.codes
      ≡ codes → row ≡ most_of st
  fill_done t r row₀ row h n e f st ec =
      let q : t ≡ 8 = let l = f.low in omega arith in
      let m : most_of st ≡ front ++ gather 8 (five_of codes) = most_is st ec in
      f.left
      ∙ ap (λ (k : ℕ). sets row₀ 4 (gather k (five_of codes))) q
      ∙ ap (λ (x : List ℕ). sets x 4 (gather 8 (five_of codes))) e
      ∙ sym (sets_append r 0 front (gather 8 (five_of codes)))
      ∙ ap (sets r 0) (sym m)
      ∙ whole r (most_of st) (length_most st ∙ sym n)

-- no range is wider than the widest
module _ (st : State) (v : valid st ≡ true) where
  cap2_most : (t : ℕ) → t < 8 → cap2 st t ≤ 1000000
  unfolding topic_param code_in
  cap2_most t h = let f = valid_facts st v in (topic st.codes f.params t h).p2_cap_most

  cap3_most : (t : ℕ) → t < 8 → cap3 st t ≤ 1000000
  unfolding topic_param code_in
  cap3_most t h = let f = valid_facts st v in (topic st.codes f.params t h).p3_cap_most

  below : Below (most_of st) widest
  unfolding most_of widest
  below =
      let topics =
      below_gather (λ t. cap2 st t ∷ cap3 st t ∷ 1000000000000 ∷ 1000000 ∷ most_backoff ∷ [])
      (λ t. 1000000 ∷ 1000000 ∷ 1000000000000 ∷ 1000000 ∷ most_backoff ∷ []) 5 (λ t. refl) (λ t. refl) 8
      (λ t k. (cap2_most t k, (cap3_most t k, (omega arith, (omega arith, (omega arith, tt)))))) in
      (omega arith, (omega arith, (omega arith, (omega arith, topics))))

  pub most_wide : (j : ℕ) → j < 44 → get_or (most_of st) j 0 ≤ get_or widest j 0
  most_wide j h = below_at (most_of st) widest below j (rw (length_most st) h)
