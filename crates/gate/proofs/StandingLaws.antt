-- What a computed score says of a peer, and what is known of the parameters behind the gate.
-- Assumes nothing.
use Rattle.index.proofs.Kit.{ℕ, ◌*◌, ◌≤◌, ◌≡◌, refl, sym, ap, ◌∙◌, Bool, true, arith}
use mathlib.Core.Path.{ap₂}
use mathlib.Core.Bool.{◌&&◌}
use lib.Dec.{eqb, lit<}
use lib.IntN.{ℤ, pos, neg_ℤ, ◌*ℤ◌}
use lib.Signed.{lt_z}
use Rattle.varint.specs.Codes.{number_of, magnitude}
use Rattle.records.specs.declared.Peer.{Peer}
use Rattle.records.specs.Records.{State, code_in, peer_in}
use Rattle.records.specs.Parameters.{graylist_threshold_at, p7_decay_at, decay_to_zero_at}
use Rattle.limits.specs.Limits.{limits, limit_at}
use Rattle.limits.proofs.FieldLaws.{loss_of}
use Rattle.params.proofs.ParamLaws.{general, within}
use Rattle.validity.specs.Valid.{valid}
use Rattle.validity.proofs.ValidLaws.{valid_facts}
use Rattle.score.specs.declared.Balance.{Balance}
use Rattle.score.specs.Sums.{negative_of, below_of}
use Rattle.score.specs.Score.{Scores}
use Rattle.score.proofs.Differences.{neg_times, diff_neg}
use Rattle.score.proofs.SumLaws.{negative_is, below_is}
use Rattle.effects.specs.Effects.{high_degree, prune_backoff, unsubscribe_backoff, retain_seconds}
use Rattle.rules.specs.declared.Sender.{Sender}
use Rattle.rules.specs.declared.Seen.{Seen}
use Rattle.rules.specs.Step.{is_negative, is_graylisted, sender_in, seen_in, heard, is_heard}

-- the graylist threshold and its magnitude
abbrev threshold_at : ℕ
threshold_at = graylist_threshold_at

abbrev graylist_size : State → ℕ
graylist_size st = magnitude (code_in st threshold_at)

-- the magnitudes of the general parameters that the calls compute with
pub record Sizes (st : State) : Type 0 where
  pub high : high_degree st ≤ 48
  pub prune : prune_backoff st ≤ 3600
  pub leave : unsubscribe_backoff st ≤ 3600
  pub retain : retain_seconds st ≤ 86400
  pub graylist : graylist_size st ≤ 1000000000
  pub fade : magnitude (code_in st p7_decay_at) ≤ 999
  pub floor : magnitude (code_in st decay_to_zero_at) ≤ 1000

pub sizes : (st : State) → valid st ≡ true → Sizes st
unfolding code_in
sizes st v =
    let g = general st.codes (valid_facts st v).params in
    record {
      high = g.d_hi_most;
      prune = g.prune_backoff_most;
      leave = g.leave_backoff_most;
      retain = g.retain_most;
      graylist = g.graylist_most;
      fade = g.p7_decay_most;
      floor = g.decay_to_zero_most;
    }

pub graylist_most : (st : State) (n : ℕ) → valid st ≡ true → n ≡ graylist_size st → n ≤ 1000000000
graylist_most st n v e = omega (arith, e, (sizes st v).graylist)

-- the graylist threshold, from its magnitude
pub graylist_is : (st : State) → valid st ≡ true → number_of (code_in st threshold_at) *ℤ pos 1000000 ≡ neg_ℤ (pos (graylist_size st * 1000000))
unfolding code_in limit_at limits
graylist_is st v =
    ap (λ (z : ℤ). z *ℤ pos 1000000)
    (sym (loss_of st.codes (within st.codes (valid_facts st v).params) 9 (lit< tt) 9 refl tt))
    ∙ neg_times (graylist_size st) 1000000
    ∙ sym (diff_neg (graylist_size st * 1000000))

module _ (st : State) (s : ℕ) (b : Balance) (scores : Scores st s b) where
  pub negative_of_lem : (r : Bool) → r ≡ negative_of b → r ≡ is_negative st s
  unfolding is_negative
  negative_of_lem r e = e ∙ negative_is b ∙ ap (λ (z : ℤ). lt_z z (pos 0)) scores.score

  pub graylisted_of :
      valid st ≡ true → (p : Peer) (n : ℕ) (r : Bool) → p ≡ peer_in st s → n ≡ graylist_size st → r ≡ below_of b n →
      (eqb p.explicit 0 && r) ≡ is_graylisted st s
  unfolding is_graylisted
  graylisted_of v p n r ep en er =
      ap₂ (λ (x : Peer) (y : Bool). eqb x.explicit 0 && y) ep
      (er
      ∙ ap (λ (m : ℕ). below_of b m) en
      ∙ below_is b (graylist_size st)
      ∙ ap₂ (λ (x y : ℤ). lt_z x y) scores.score (sym (graylist_is st v)))

  -- what `see_sender` puts together is what the rules see
  pub sender_of :
      valid st ≡ true → (n : ℕ) (p : Peer) (below negative : Bool) → p ≡ peer_in st s → n ≡ graylist_size st → below ≡ below_of b n →
      negative ≡ negative_of b → record { peer = p; graylisted = eqb p.explicit 0 && below; negative = negative } ≡ sender_in st s
  sender_of v n p below negative ep en eb eg =
      let g = graylisted_of v p n below ep en eb in
      let m = negative_of_lem negative eg in
      cc

-- ---- what was seen tells of the rules' tests; b is what a branch tells of r
pub gray_is : (st : State) (s : ℕ) (v : Sender) → v ≡ sender_in st s → v.graylisted ≡ is_graylisted st s
gray_is st s v e = rw e

pub heard_is : (st : State) (t s : ℕ) (v : Seen) (r b : Bool) → v ≡ seen_in st t s → r ≡ heard v → r ≡ b → is_heard st t s ≡ b
unfolding is_heard
heard_is st t s v r b e f h =
    let g : heard v ≡ b = sym f ∙ h in
    rw e at g
