-- A row filled from the front: the peer's four numbers, then each topic's five.
-- Assumes nothing.
use Prim.Native.Nat.{ℕ, suc, ◌+◌, ◌-◌, ◌*◌, ◌<◌, ◌≤◌}
use native.Mathlib.Omega.{arith}
use native.Mathlib.Numerals.{add-one}
use mathlib.Core.Path.{◌≡◌, refl, sym, ap, ◌∙◌}
use mathlib.Core.List.{List, [], ◌∷◌, ◌++◌, append-nil}
use lib.ListN.{length, get_or, set, drop_of_length-le}
use lib.Seq.{sets, sets-eq}
use Rattle.index.specs.Index.{gather}
use Rattle.index.proofs.Index.{gather_none, gather_more}
use Rattle.index.proofs.Lists.{sets_append}
use Rattle.records.specs.declared.Peer.{Peer}
use Rattle.records.specs.declared.TopicRecord.{TopicRecord}
use Rattle.records.specs.Records.{State, place, peer_in, topic_in}
use Rattle.saves.specs.Save.{topic_row, row_of, as_left, saved_row}
use Rattle.saves.proofs.Lists.{length_gather}
use Rattle.saves.proofs.Rows.{length_row}

five :
    (l : List ℕ) (at a b c d e : ℕ) → set (set (set (set (set l at a) (at + 1) b) (at + 2) c) (at + 3) d) (at + 4) e
    ≡ sets l at (a ∷ b ∷ c ∷ d ∷ e ∷ [])
five l at a b c d e =
    let two : at + 2 ≡ suc (suc at) = omega arith in
    let three : at + 3 ≡ suc (suc (suc at)) = omega arith in
    let four : at + 4 ≡ suc (suc (suc (suc at))) = omega arith in
    rw (add-one at, two, three, four)

pub topic_is :
    (l : List ℕ) (at : ℕ) (r : TopicRecord) (left : ℕ) →
    set (set (set (set (set l at r.p2) (at + 1) r.p3) (at + 2) r.p3b) (at + 3) r.p4) (at + 4) left ≡ sets l at (topic_row r left)
unfolding topic_row
topic_is l at r left = five l at r.p2 r.p3 r.p3b r.p4 left

-- ---- the topics behind the peer
module _ (time : ℕ) (p : Peer) (topic : ℕ → TopicRecord) where
  abbrev row_of_lem : ℕ → List ℕ
  row_of_lem t = topic_row (topic t) (get_or p.backoff t 0 - time)

  abbrev front : List ℕ
  front = p.id ∷ (p.retain - time) ∷ p.p5 ∷ p.p7 ∷ []

  pub record Filled (t : ℕ) (row₀ row : List ℕ) : Type 0 where
    pub low : t ≤ 8
    pub same : length row ≡ length row₀
    pub left : row ≡ sets row₀ 4 (gather t row_of_lem)

  long : (t : ℕ) → length (row_of_lem t) ≡ 5
  unfolding topic_row
  long t = refl

  pub fill_none : (row₀ : List ℕ) → Filled 0 row₀ row₀
  fill_none row₀ = record { low = omega arith; same = refl; left = ap (sets row₀ 4) (sym (gather_none row_of_lem)) }

  pub fill_more :
      (t left : ℕ) (r : TopicRecord) (row₀ row row' : List ℕ) → t < 8 → Filled t row₀ row → length row' ≡ length row → row'
      ≡ sets row (4 + t * 5) (topic_row r left) → r ≡ topic t → left ≡ get_or p.backoff t 0 - time → Filled (t + 1) row₀ row'
  fill_more t left r row₀ row row' h f n e er el =
      let b : topic_row r left ≡ row_of_lem t = λ i. topic_row (er i) (el i) in
      let z : 4 + length (gather t row_of_lem) ≡ 4 + t * 5 = omega (arith, length_gather row_of_lem 5 long t) in
      record {
        low = omega arith;
        same = n ∙ f.same;
        left =
            e
            ∙ ap (λ (m : List ℕ). sets row (4 + t * 5) m) b
            ∙ ap (λ (m : List ℕ). sets m (4 + t * 5) (row_of_lem t)) f.left
            ∙ ap (λ (n : ℕ). sets (sets row₀ 4 (gather t row_of_lem)) n (row_of_lem t)) (sym z)
            ∙ sym (sets_append row₀ 4 (gather t row_of_lem) (row_of_lem t))
            ∙ ap (sets row₀ 4) (sym (gather_more row_of_lem t));
      }

  whole : (r l : List ℕ) → length l ≡ length r → sets r 0 l ≡ l
  whole r l e =
      let b : length r ≤ 0 + length l = omega arith in
      sets-eq l r 0 (omega arith)
      ∙ ap (λ (m : List ℕ). l ++ m) (drop_of_length-le r b)
      ∙ append-nil l

  pub fill_done :
      (t : ℕ) (r row₀ row : List ℕ) → 8 ≤ t → length r ≡ 44 → row₀ ≡ sets r 0 front → Filled t row₀ row → row ≡ row_of time p topic
  unfolding row_of
  fill_done t r row₀ row h n e f =
      let q : t ≡ 8 = let l = f.low in omega arith in
      f.left
      ∙ ap (λ (k : ℕ). sets row₀ 4 (gather k row_of_lem)) q
      ∙ ap (λ (m : List ℕ). sets m 4 (gather 8 row_of_lem)) e
      ∙ sym (sets_append r 0 front (gather 8 row_of_lem))
      ∙ whole r (row_of time p topic) (length_row time p topic ∙ sym n)

-- the row of a slot
pub saved_is :
    (st : State) (time s : ℕ) (row : List ℕ) → row ≡ row_of time (as_left st time (peer_in st s)) (λ t. topic_in st (place s t)) →
    row ≡ saved_row st time s
unfolding saved_row
saved_is st time s row e = e
