-- The loops over the slots that share a group and over the topics, as the code runs them.
-- Assumes nothing.
use Prim.Native.Nat.{ℕ, ◌+◌, ◌≤◌, ◌<◌}
use mathlib.Core.Path.{◌≡◌, refl, sym, ap, ap₂, ◌∙◌}
use mathlib.Core.Bool.{Bool, ◌&&◌}
use lib.Dec.{eqb}
use Rattle.index.specs.Index.{one, count}
use Rattle.index.proofs.Index.{count_none, count_more, count_done}
use Rattle.records.specs.declared.TopicRecord.{TopicRecord}
use Rattle.records.specs.declared.Groups.{Groups}
use Rattle.records.specs.Records.{State, place, peer_in, topic_in, holds_group, slot_count}
use Rattle.score.specs.declared.TopicParams.{TopicParams}
use Rattle.score.specs.declared.Balance.{Balance}
use Rattle.score.specs.Ranges.{TopicParamsIn, CountersIn}
use Rattle.score.specs.Sums.{share_of}
use Rattle.score.specs.Score.{topic_params_in, shares_group, sharing, share_at}
use Rattle.score.proofs.InputLaws.{SlotIn}

module _ (st : State) (group : ℕ) where
  -- 1 or 0 for a slot of which status and groups are loaded
  pub shares_is :
      (slot status : ℕ) (g : Groups) (b : Bool) →
      status ≡ (peer_in st slot).status →
      g ≡ (peer_in st slot).groups →
      eqb status 1 && holds_group g group ≡ b →
      one b ≡ one (shares_group st group slot)
  unfolding shares_group
  shares_is slot status g b p q e =
      let h : eqb status 1 && holds_group g group ≡ eqb (peer_in st slot).status 1 && holds_group (peer_in st slot).groups group =
      rw (p, q) refl in
      ap one (sym e ∙ h)

  pub sharing_none : 0 ≡ count 0 (shares_group st group)
  sharing_none = sym (count_none (shares_group st group))

  pub sharing_more :
      (i n d : ℕ) →
      n ≡ count i (shares_group st group) →
      d ≡ one (shares_group st group i) →
      n + d ≡ count (i + 1) (shares_group st group)
  sharing_more i n d p q = ap (λ (k : ℕ). n + k) q ∙ count_more (shares_group st group) i n p

  pub sharing_done : (i n : ℕ) → i ≤ slot_count → slot_count ≤ i → n ≡ count i (shares_group st group) → n ≡ sharing st group
  unfolding sharing
  sharing_done i n l h p = p ∙ count_done (shares_group st group) slot_count i l h

-- one topic's share, of parameters and a record that are loaded
module _ (st : State) (s t : ℕ) (params : TopicParams) (record' : TopicRecord) where
  pub share_ready :
      SlotIn st s →
      t < 8 →
      params ≡ topic_params_in st t →
      record' ≡ topic_in st (place s t) →
      TopicParamsIn params × CountersIn record'
  share_ready h l p q = rw (p, q) (h.params t l, h.counters t l)

  pub share_is_at :
      (b : Balance) →
      b ≡ share_of params record' →
      params ≡ topic_params_in st t →
      record' ≡ topic_in st (place s t) →
      b ≡ share_at st s t
  unfolding share_at
  share_is_at b e p q = e ∙ ap₂ share_of p q
