-- The invariant of the reply bound: a store keeps a number as long as the calls say, and a connected peer's replies are those that the
-- calls say. `alive` and `gave` are what the list of calls says (specs/Lists: life, given); `most` is the bound.
-- Assumes nothing.
use Prim.Native.Nat.{ℕ, ◌<◌, ◌≤◌}
use native.Mathlib.Omega.{arith}
use mathlib.Core.Path.{◌≡◌, refl, sym, ap, ◌∙◌}
use mathlib.Core.Bool.{Bool, false, cond}
use mathlib.Core.List.{List}
use lib.Dec.{eqb, ltb}
use Rattle.index.proofs.Flags.{cond_case}
use Rattle.records.specs.Records.{slot_count, peer_in}
use Rattle.layout.specs.View.{Sized}
use Rattle.gossip.specs.Notes.{Row, Gossip, Extended, store_in, stored_in, some, stored, count_in}
use Rattle.gossip.specs.Valid.{SizedGossip}
use Rattle.gossip.specs.Calls.{Any}
use Rattle.gossip.specs.Step.{FullReply}
use Rattle.gossip_lists.specs.Lists.{lives, gives}
use Rattle.gossip.proofs.StoredLaws.{stored_same}
use Rattle.gossip_lists.proofs.LifeLaws.{life_in, stored_lives}
use Rattle.gossip_lists.proofs.Stays.{Stay}

pub record Tied (most : ℕ) (alive gave : ℕ → ℕ → ℕ) (x : Extended) : Type 0 where
  pub size : Sized x.base
  pub sizes : SizedGossip x.gossip
  pub bound : x.gossip.setup.replies ≡ most
  pub lives : (t n : ℕ) → t < 8 → life_in 5 (store_in x.gossip t) n ≡ alive t n
  pub counts :
      (s n : ℕ) →
      s < slot_count →
      (peer_in x.base s).status ≡ 1 →
      count_in x.gossip.replies n s ≡ gave (peer_in x.base s).id n
  -- of a number that no topic stores nothing counts
  pub gone : (peer n : ℕ) → stored x.gossip n ≡ false → gave peer n ≡ 0
  pub few : (peer n : ℕ) → gave peer n ≤ most

-- what the calls say after call c with answer a
abbrev pub alive_after : Any → ℕ → (ℕ → ℕ → ℕ) → ℕ → ℕ → ℕ
alive_after c a alive = λ t n. cond (eqb a 0) (lives c t n (alive t n)) (alive t n)

abbrev pub gave_after : Any → ℕ → (ℕ → ℕ → ℕ) → ℕ → ℕ → ℕ
gave_after c a gave = λ peer n. cond (eqb a 0) (gives c peer n (gave peer n)) (gave peer n)

abbrev pub masked : (ℕ → ℕ → ℕ) → (ℕ → ℕ → ℕ) → ℕ → ℕ → ℕ
masked alive gave = λ peer n. cond (some 8 (λ t. ltb 0 (alive t n))) (gave peer n) 0

abbrev pub After : ℕ → (ℕ → ℕ → ℕ) → (ℕ → ℕ → ℕ) → Any → FullReply → Type 0
After most alive gave c r =
    Tied most (alive_after c r.answer alive) (masked (alive_after c r.answer alive) (gave_after c r.answer gave)) r.state

-- ---- from what a call does to what stands after it
pub tie :
    (most : ℕ) (x : Extended) (alive now : ℕ → ℕ → ℕ) →
    Sized x.base →
    SizedGossip x.gossip →
    x.gossip.setup.replies ≡ most →
    ((t n : ℕ) → t < 8 → life_in 5 (store_in x.gossip t) n ≡ alive t n) →
    ((s n : ℕ) →
    s < slot_count →
    (peer_in x.base s).status ≡ 1 →
    count_in x.gossip.replies n s ≡ cond (stored x.gossip n) (now (peer_in x.base s).id n) 0) →
    ((peer n : ℕ) → now peer n ≤ most) →
    Tied most alive (masked alive now) x
tie most x alive now size sizes bound lv cs few =
    record {
      size = size;
      sizes = sizes;
      bound = bound;
      lives = lv;
      counts = λ s n l on. cs s n l on ∙ ap (λ (b : Bool). cond b (now (peer_in x.base s).id n) 0) (same n);
      gone = λ peer n e. ap (λ (b : Bool). cond b (now peer n) 0) (sym (same n) ∙ e);
      few = λ peer n.
          cond_case (λ (k : ℕ). k ≤ most) (some 8 (λ t. ltb 0 (alive t n))) (now peer n) 0 (λ e. few peer n) (λ e. omega arith);
    }
  where
    same : (n : ℕ) → stored x.gossip n ≡ some 8 (λ t. ltb 0 (alive t n))
    same n = stored_lives x.gossip alive n sizes.windows (λ t. lv t n)

pub stored_as : (g u : Gossip) (n : ℕ) → ((t : ℕ) → store_in u t ≡ store_in g t) → stored u n ≡ stored g n
stored_as g u n e = stored_same g u n (λ t l. ap (λ (w : List (List ℕ)). stored_in w n) (e t))

module _ (most : ℕ) (alive gave : ℕ → ℕ → ℕ) (x : Extended) (h : Tied most alive gave x) where
  -- a count that stands, read with the number's being stored
  pub shown :
      (b : Bool) (peer n : ℕ) → (b ≡ false → stored x.gossip n ≡ false) → gave peer n ≡ cond b (gave peer n) 0
  shown b peer n f = cond_case (λ (k : ℕ). gave peer n ≡ k) b (gave peer n) 0 (λ e. refl) (λ e. h.gone peer n (f e))

  -- a call that leaves stores and replies alone, and connects nobody
  pub plain :
      (c : Any) (r : FullReply) →
      Sized r.state.base →
      SizedGossip r.state.gossip →
      r.state.gossip.setup.replies ≡ x.gossip.setup.replies →
      ((t : ℕ) → store_in r.state.gossip t ≡ store_in x.gossip t) →
      r.state.gossip.replies ≡ x.gossip.replies →
      Stay x.base r.state.base →
      ((t n : ℕ) → t < 8 → alive_after c r.answer alive t n ≡ alive t n) →
      ((peer n : ℕ) → gave_after c r.answer gave peer n ≡ gave peer n) →
      After most alive gave c r
  plain c r size sizes setup stores replies stay lv gv =
      tie most r.state _ (gave_after c r.answer gave) size sizes (setup ∙ h.bound)
      (λ t n l. ap (λ (w : List (List ℕ)). life_in 5 w n) (stores t) ∙ h.lives t n l ∙ sym (lv t n l))
      (λ s n l on.
      let w = stay s on in
      let id = (peer_in r.state.base s).id in
      ap (λ (w : List Row). count_in w n s) replies
      ∙ h.counts s n l w.0
      ∙ ap (λ (i : ℕ). gave i n) (sym w.1)
      ∙ shown (stored r.state.gossip n) id n (λ e. sym (stored_as x.gossip r.state.gossip n stores) ∙ e)
      ∙ ap (λ (k : ℕ). cond (stored r.state.gossip n) k 0) (sym (gv id n)))
      (λ peer n. let e = gv peer n in let f = h.few peer n in omega arith)
