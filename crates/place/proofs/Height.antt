-- A peer's P5 rises: its score is no less, and no other peer's score changes.
-- Assumes nothing.
use Prim.Native.Nat.{ℕ, ◌+◌, ◌-◌, ◌*◌, ◌/◌, ◌%◌, ◌≤◌, ◌<◌}
use native.Mathlib.Nat.{mul-le-mul_left, mul-le-mul_right}
use native.Mathlib.Omega.{arith}
use mathlib.Core.Path.{◌≡◌, refl, sym, ap, ◌∙◌}
use mathlib.Core.Bool.{Bool, true, false, not, cond, ◌&&◌}
use lib.Dec.{eqb}
use lib.IntN.{ℤ, pos, nat_abs, ◌+ℤ◌}
use lib.Signed.{le_z, lt_z}
use borrow.Author.Tests.{leb-true, le-leb, eqb-true, eqb-false, not-true}
use Rattle.index.proofs.Index.{count_same}
use Rattle.varint.specs.Codes.{number_of, signed_of}
use Rattle.records.specs.declared.Groups.{Groups}
use Rattle.records.specs.declared.Peer.{Peer}
use Rattle.records.specs.Records.{holds_group, State, slot_count, code_in, peer_in, topic_in, place, set_peer, is_connected}
use Rattle.layout.specs.View.{Sized}
use Rattle.layout.proofs.StateLaws.{peer_same, peer_other, peer_case, code_after_peer, topic_after_peer}
use Rattle.validity.specs.Valid.{valid}
use Rattle.score.specs.declared.Sharers.{Sharers}
use Rattle.score.specs.declared.Balance.{Balance}
use Rattle.score.specs.Ranges.{score_most}
use Rattle.score.specs.Sums.{p5_of, parts_of, total_of, sum_of, offset_of}
use Rattle.score.specs.Score.{sharing, shares_group, sharing_at, sharers_of, score_params_in, topic_params_in, share_at, parts_at, balance_at, Agree}
use Rattle.score.proofs.InputLaws.{slot_in}
use Rattle.score.proofs.ScoreLaws.{balance_in, score_is, score_depends}
use Rattle.effects.specs.Effects.{on_peer, with_p5, is_member}
use Rattle.mesh.specs.Maintenance.{zero_score}
use Rattle.rules.specs.Step.{is_negative, height_in}
use Rattle.rules.proofs.HeartbeatLaws.{height_of, height_good}

-- ---- P5's part of a score
scaled : (w a b : ℕ) → a ≤ b → w * (a * 1000) ≤ w * (b * 1000)
scaled w a b h = mul-le-mul_left w (mul-le-mul_right 1000 h)

p5_order :
    (w c c' : ℕ) →
    le_z (number_of c) (number_of c') ≡ true →
    (p5_of w c).gain + (p5_of w c').loss ≤ (p5_of w c').gain + (p5_of w c).loss
unfolding p5_of
p5_order w c c' = go (eqb (c % 2) 1) refl (eqb (c' % 2) 1) refl
  where
    part : ℕ → Bool → Balance
    part n b = cond b (record { gain = 0; loss = n }) (record { gain = n; loss = 0 })

    go :
        (b : Bool) →
        eqb (c % 2) 1 ≡ b →
        (b' : Bool) →
        eqb (c' % 2) 1 ≡ b' →
        le_z (signed_of b (c / 2)) (signed_of b' (c' / 2)) ≡ true →
        (part (w * ((c + 1) / 2 * 1000)) b).gain + (part (w * ((c' + 1) / 2 * 1000)) b').loss
        ≤ (part (w * ((c' + 1) / 2 * 1000)) b').gain + (part (w * ((c + 1) / 2 * 1000)) b).loss
    go false e false e' h =
        let l = leb-true (c / 2) (c' / 2) h in
        let n = eqb-false (c % 2) 1 e in
        let s = scaled w ((c + 1) / 2) ((c' + 1) / 2) (omega arith) in
        omega arith
    go true e false e' h = omega arith
    go false e true e' h = let z : ◌≡◌ {A = ℕ} 0 1 = cc in absurd (omega arith)
    go true e true e' h =
        let l = leb-true (c' / 2) (c / 2) h in
        let n = eqb-true (c % 2) 1 e in
        let n' = eqb-true (c' % 2) 1 e' in
        let s = scaled w ((c' + 1) / 2) ((c + 1) / 2) (omega arith) in
        omega arith

offset_up :
    (B a g g' b l l' q r : ℕ) →
    g + l' ≤ g' + l →
    B + (a + g) - (b + l + q + r) ≤ B + (a + g') - (b + l' + q + r)
offset_up B a g g' b l l' q r h = omega arith

module _ (st : State) (x code : ℕ) where
  abbrev pub st' : State
  st' = on_peer st x (λ p. with_p5 p code)

  -- what is not P5 is the same
  pub reads : {B : Type 0} (f : Peer → B) → ((p : Peer) → f (with_p5 p code) ≡ f p) → (s : ℕ) → f (peer_in st' s) ≡ f (peer_in st s)
  reads f h s =
      peer_case st (λ (p : Peer). f p ≡ f (peer_in st s)) x (with_p5 (peer_in st x) code) s
      (λ e. h (peer_in st x) ∙ ap (λ (k : ℕ). f (peer_in st k)) (sym e))
      refl

  pub member_same : (t s : ℕ) → is_member st' t s ≡ is_member st t s
  unfolding is_member
  member_same t s = rw (topic_after_peer st x (with_p5 (peer_in st x) code) (place s t))

  sharing_same : (g : ℕ) → sharing st' g ≡ sharing st g
  unfolding sharing shares_group with_p5
  sharing_same g =
      count_same (λ s. is_connected (peer_in st' s) && holds_group (peer_in st' s).groups g)
      (λ s. is_connected (peer_in st s) && holds_group (peer_in st s).groups g) slot_count
      (λ s l. reads (λ p. is_connected p && holds_group p.groups g) (λ p. refl) s)

  sharers_same : (g : Groups) → sharers_of st' g ≡ sharers_of st g
  unfolding sharers_of sharing_at
  sharers_same g = rw (sharing_same g.first, sharing_same g.second, sharing_same g.third, sharing_same g.fourth) refl

  -- another peer
  agree : (s : ℕ) → (s ≡ x → ⊥) → Agree st s st' s
  agree s ns =
      let e : peer_in st' s ≡ peer_in st s = peer_other st x (with_p5 (peer_in st x) code) s ns in
      record {
        codes = λ i. sym (code_after_peer st x (with_p5 (peer_in st x) code) i);
        topics = λ t l. sym (topic_after_peer st x (with_p5 (peer_in st x) code) (place s t));
        p5 = ap (λ (p : Peer). p.p5) (sym e);
        p7 = ap (λ (p : Peer). p.p7) (sym e);
        sharers = ap (λ (p : Peer). sharers_of st p.groups) (sym e) ∙ sym (sharers_same (peer_in st' s).groups);
      }

  pub height_else : (s : ℕ) → (s ≡ x → ⊥) → height_in st' s ≡ height_in st s
  unfolding height_in
  height_else s ns = ap (λ (z : ℤ). nat_abs (pos zero_score +ℤ z)) (sym (score_depends st s st' s (agree s ns)))

  pub negative_else : (s : ℕ) → (s ≡ x → ⊥) → is_negative st' s ≡ is_negative st s
  unfolding is_negative
  negative_else s ns = ap (λ (z : ℤ). lt_z z (pos 0)) (sym (score_depends st s st' s (agree s ns)))

  module _ (low : x < slot_count) (size : Sized st) (ok : valid st ≡ true) (ok' : valid st' ≡ true)
      (up : le_z (number_of (peer_in st x).p5) (number_of code) ≡ true) where
    -- the balance with a P5
    total : ℕ → Sharers → ℕ → Balance
    total c n p7 = total_of (parts_of (score_params_in st) (sum_of 8 (share_at st x)) c n p7)

    p5_here : (peer_in st' x).p5 ≡ code
    unfolding with_p5
    p5_here = ap (λ (p : Peer). p.p5) (peer_same st x (with_p5 (peer_in st x) code) (let l = size.peers in omega arith))

    balance_was : balance_at st x ≡ total (peer_in st x).p5 (sharers_of st (peer_in st x).groups) (peer_in st x).p7
    unfolding balance_at parts_at total
    balance_was = refl

    balance_is : balance_at st' x ≡ total code (sharers_of st (peer_in st x).groups) (peer_in st x).p7
    unfolding balance_at parts_at total score_params_in share_at topic_params_in code_in topic_in set_peer with_p5
    balance_is =
        ap (λ (c : ℕ). total c (sharers_of st' (peer_in st' x).groups) (peer_in st' x).p7) p5_here
        ∙ ap (λ (n : Sharers). total code n (peer_in st' x).p7)
        (sharers_same (peer_in st' x).groups ∙ ap (sharers_of st) (reads (λ p. p.groups) (λ p. refl) x))
        ∙ ap (total code (sharers_of st (peer_in st x).groups)) (reads (λ p. p.p7) (λ p. refl) x)

    totals : (n : Sharers) (p7 : ℕ) → offset_of (total (peer_in st x).p5 n p7) ≤ offset_of (total code n p7)
    unfolding total total_of parts_of
    totals n p7 = offset_up score_most _ _ _ _ _ _ _ _ (p5_order (score_params_in st).w5 (peer_in st x).p5 code up)

    pub height_up : height_in st x ≤ height_in st' x
    height_up =
        let b = balance_at st x in
        let b' = balance_at st' x in
        let i = slot_in st ok x low in
        let i' = slot_in st' ok' x low in
        let e = height_of st x b (record { is = refl; score = score_is st x i; range = balance_in st x i }) in
        let e' = height_of st' x b' (record { is = refl; score = score_is st' x i'; range = balance_in st' x i' }) in
        let h = totals (sharers_of st (peer_in st x).groups) (peer_in st x).p7 in
        let q = ap offset_of balance_was in
        let q' = ap offset_of balance_is in
        omega arith

    -- a score that was not negative is not
    pub not_negative : is_negative st x ≡ false → is_negative st' x ≡ false
    not_negative n =
        let h = leb-true zero_score (height_in st x) (height_good st ok x low ∙ ap not n) in
        let u = height_up in
        not-true (is_negative st' x) (sym (height_good st' ok' x low) ∙ le-leb zero_score (height_in st' x) (omega arith))
