-- The rows of 11 and 0. 11: each reply by its own tests, then through the search, which finds the one slot that holds the id. 0: what is
-- answered behind the gate is one of seven numbers, and each of the six others is shut out by its row.
-- Assumes nothing.
use Rattle.std.proofs.Common.{Option, Some, None}
use Prim.Native.Nat.{ℕ, ◌<◌}
use native.Mathlib.Omega.{arith}
use mathlib.Core.Path.{◌≡◌, refl, sym, ap, ◌∙◌, subst}
use mathlib.Core.Logic.{◌≢◌, ◌⊎◌, inl, inr, ⊎_elim, ◌↔◌}
use mathlib.Core.Bool.{true, false, cond, not, false≢true}
use mathlib.Core.List.{List, [], map}
use lib.Dec.{eqb}
use lib.IntN.{pos}
use lib.ListN.{get_or, get_or-map}
use borrow.Author.Tests.{eqb-true, eqb-false, eq-eqb}
use Rattle.rules.specs.declared.Answer.TheVariants.{NotConnected}
use Rattle.validity.specs.Valid.{valid}
use Rattle.rules.proofs.CaseLaws.{by_peer}
use Rattle.index.proofs.Index.{both}
use Rattle.index.proofs.Flags.{by_test, cond_case}
use Rattle.varint.specs.Codes.{code_of, number_of as signed}
use Rattle.varint.proofs.CodeLaws.{number_code}
use Rattle.params.specs.declared.Params.{Params}
use Rattle.limits.specs.Limits.{at}
use Rattle.records.specs.Records.{State, code_in, peer_in, joined_in, slot_count}
use Rattle.validity.proofs.ValidLaws.{valid_facts}
use Rattle.lookup.specs.Find.{find_connected}
use Rattle.lookup.proofs.FindLaws.{connected_at, none_connected, connected_is}
use Rattle.effects.specs.Effects.{is_joined, on_topic, into_mesh}
use Rattle.rules.specs.Reply.{Reply, number_of, refused, ignored, done}
use Rattle.rules.specs.Calls.{Call, connect, disconnect, join, leave, subscribe, unsubscribe, graft, prune, deliver, rate, heartbeat, decay}
use Rattle.rules.specs.Calls.{groups_of, score}
use Rattle.rules.proofs.GraftLaws.{by_graft}
use Rattle.rules.specs.Step.{on_found, of_peer, join_reply, leave_reply, decay_reply, is_graylisted, is_heard, subscribe_reply, unsubscribe_reply}
use Rattle.rules.specs.Step.{raised_p7}
use Rattle.rules.specs.Step.{graft_refused, graft_reply, prune_reply, deliver_reply, effect}
use Rattle.call_lists.specs.Lists.{after}
use Rattle.call_lists.proofs.Demand3.{standing}
use Rattle.promises.specs.Ignored.{Graylisted, Sender, Words11, Row11, Row0}
use Rattle.promises.proofs.Numbers.{iff_yes, iff_no, late_connect, heartbeat_11, behind, else_done, row_behind}

-- ---- the sheet's number
number_is : (st : State) (params : Params) → st.codes ≡ map code_of params.numbers → (i : ℕ) → signed (code_in st i)
    ≡ at params.numbers i
unfolding code_in
number_is st params e i =
    ap (λ (l : List ℕ). signed (get_or l i 0)) e
    ∙ ap (λ (n : ℕ). signed n) (get_or-map code_of params.numbers i (pos 0))
    ∙ number_code (at params.numbers i)

module _ (params : Params) (st : State) (codes : st.codes ≡ map code_of params.numbers) (s : ℕ) where
  gray_no : is_graylisted st s ≡ false → Graylisted params st s → ⊥
  unfolding is_graylisted
  gray_no e g =
      let a : is_graylisted st s ≡ true = rw (eq-eqb _ _ g.plain, number_is st params codes 9) g.below in
      false≢true (sym e ∙ a)

  pub gray_yes : is_graylisted st s ≡ true → Graylisted params st s
  unfolding is_graylisted
  gray_yes e =
      let q = both (eqb (peer_in st s).explicit 0) _ e in
      record { plain = eqb-true _ _ q.0; below = rw (← (number_is st params codes 9)) q.1 }

  -- ---- heard, or not
  abbrev Is : Type 0 → Reply → Type 0
  Is Q r = (number_of r.answer ≡ 11) ↔ Q

  subscribed_11 : (time t : ℕ) → Is (Graylisted params st s) (subscribe_reply st time t s)
  unfolding subscribe_reply
  subscribed_11 time t =
      cond_case (Is (Graylisted params st s)) (is_graylisted st s) (ignored st time) _
      (λ e. iff_yes refl (gray_yes e))
      (λ e. iff_no (λ n. omega (arith, n)) (gray_no e))

  unsubscribed_11 : (time t : ℕ) → Is (Graylisted params st s) (unsubscribe_reply st time t s)
  unfolding unsubscribe_reply
  unsubscribed_11 time t =
      cond_case (Is (Graylisted params st s)) (is_graylisted st s) (ignored st time) _
      (λ e. iff_yes refl (gray_yes e))
      (λ e. iff_no (λ n. omega (arith, n)) (gray_no e))

  abbrev Deaf : ℕ → Type 0
  Deaf t = (joined_in st t ≢ 1) ⊎ Graylisted params st s

  pub deaf : (t : ℕ) → is_heard st t s ≡ false → Deaf t
  unfolding is_heard
  deaf t e =
      by_test _ (is_joined st t)
      (λ j.
      by_test _ (is_graylisted st s)
      (λ g. inr (gray_yes g))
      (λ g. let a : is_heard st t s ≡ true = rw (j, g) in absurd (false≢true (sym e ∙ a))))
      (λ j. inl (eqb-false (joined_in st t) 1 j))

  pub not_deaf : (t : ℕ) → is_heard st t s ≡ true → Deaf t → ⊥
  unfolding is_heard
  not_deaf t e d =
      let q = both (is_joined st t) (not (is_graylisted st s)) e in
      ⊎_elim (λ n. n (eqb-true _ _ q.0))
      (λ g. by_test _ (is_graylisted st s) (λ y. false≢true (ap not (sym y) ∙ q.1)) (λ y. gray_no y g))
      d

  -- a call that is heard is answered 0
  told_0 : (t : ℕ) (r : Reply) → is_heard st t s ≡ true → number_of r.answer ≡ 0 → Is (Deaf t) r
  told_0 t r e z = iff_no (λ n. omega (arith, n, z)) (not_deaf t e)

  heard_11 : (time t : ℕ) (r : Reply) → number_of r.answer ≡ 0 → Is (Deaf t) (cond (is_heard st t s) r (ignored st time))
  heard_11 time t r z = cond_case (Is (Deaf t)) (is_heard st t s) r (ignored st time) (λ e. told_0 t r e z) (λ e. iff_yes refl (deaf t e))

  grafted_11 : (time t : ℕ) → Is (Deaf t) (graft_reply st time t s)
  unfolding graft_refused is_heard
  grafted_11 time t =
      by_graft (Is (Deaf t)) st time t s
      (λ e. iff_yes refl (deaf t e))
      (λ e m. told_0 t (done st time []) e refl)
      (λ e. told_0 t (graft_refused st time t s (peer_in st s)) e.heard refl)
      (λ e. told_0 t (graft_refused st time t s (raised_p7 (peer_in st s))) e.outside.heard refl)
      (λ e. told_0 t (done (on_topic st s t (λ r. into_mesh r time)) time []) e.outside.heard refl)

  pruned_11 : (time t seconds : ℕ) → Is (Deaf t) (prune_reply st time t seconds s)
  unfolding prune_reply
  pruned_11 time t seconds = heard_11 time t _ refl

  delivered_11 : (time t kind : ℕ) → Is (Deaf t) (deliver_reply st time t kind s)
  unfolding deliver_reply
  delivered_11 time t kind = heard_11 time t _ refl

-- ---- a peer's call: the search finds the one slot that holds the id
module _ (st : State) (ok : valid st ≡ true) (id : ℕ) (f : ℕ → Reply) (Q : ℕ → Type 0) where
  peer_11 :
      ((s : ℕ) → (number_of (f s).answer ≡ 11) ↔ Q s) → (number_of (of_peer st id f).answer ≡ 11) ↔ Sender st id Q
  peer_11 h = go (find_connected st id) refl
    where
      slot : (s : ℕ) → s < slot_count → (peer_in st s).status ≡ 1 → (peer_in st s).id ≡ id → find_connected st id ≡ Some s
      slot s l on e = ap (find_connected st) (sym e) ∙ connected_is st (valid_facts st ok) s l on

      same : (s k : ℕ) → Some s ≡ Some k → s ≡ k
      same s k e = cc

      go : (r : Option ℕ) → find_connected st id ≡ r → (number_of (on_found r f (refused NotConnected st)).answer ≡ 11) ↔ Sender st id Q
      go (Some s) e =
          let q = connected_at st id s e in (
            λ n. (s, q.0, q.1, q.2, (h s).0 n),
            λ w.
                let z : w.0 ≡ s = same w.0 s (sym (slot w.0 w.1 w.2 w.3) ∙ e) in
                (h s).1 (subst Q z w.4),
          )
      go None e =
          iff_no (λ n. omega (arith, n)) (λ w. none_connected st id e w.0 w.1 w.2 w.3)

-- where the peer's reply is 0 it is not 11
peer_not11 : (st : State) (id : ℕ) (f : ℕ → Reply) → ((s : ℕ) → number_of (f s).answer ≡ 0) → number_of (of_peer st id f).answer ≢ 11
peer_not11 st id f h =
    by_peer (λ (r : Reply). number_of r.answer ≢ 11) st id f (λ n. omega (arith, n)) (λ s l on n. omega (arith, n, h s))

-- ---- every call behind the gate
module _ (params : Params) (st : State) (ok : valid st ≡ true) (codes : st.codes ≡ map code_of params.numbers) where
  join_11 : (time t : ℕ) → (number_of (join_reply st time t).answer ≡ 11) ↔ (joined_in st t ≡ 1)
  unfolding join_reply
  join_11 time t =
      cond_case (λ (r : Reply). (number_of r.answer ≡ 11) ↔ (joined_in st t ≡ 1)) (is_joined st t) (ignored st time) _
      (λ e. iff_yes refl (eqb-true (joined_in st t) 1 e))
      (λ e. iff_no (λ n. omega (arith, n)) (eqb-false (joined_in st t) 1 e))

  leave_11 : (time t : ℕ) → (number_of (leave_reply st time t).answer ≡ 11) ↔ (joined_in st t ≢ 1)
  unfolding leave_reply
  leave_11 time t =
      cond_case (λ (r : Reply). (number_of r.answer ≡ 11) ↔ (joined_in st t ≢ 1)) (is_joined st t) _ (ignored st time)
      (λ e. iff_no (λ n. omega (arith, n)) (λ w. w (eqb-true (joined_in st t) 1 e)))
      (λ e. iff_yes refl (eqb-false (joined_in st t) 1 e))

  decay_11 : (time : ℕ) → number_of (decay_reply st time).answer ≢ 11
  unfolding decay_reply
  decay_11 time n = omega (arith, n)

  effect_11 : (c : Call) → (number_of (effect st c).answer ≡ 11) ↔ Words11 params st c
  unfolding effect
  effect_11 (connect time id groups flags name) = iff_no (late_connect st time id (groups_of groups) flags name).3 (λ x. x)
  effect_11 (disconnect time id) = iff_no (peer_not11 st id _ (λ s. refl)) (λ x. x)
  effect_11 (join time t) = join_11 time t
  effect_11 (leave time t) = leave_11 time t
  effect_11 (subscribe time id t) = peer_11 st ok id _ _ (λ s. subscribed_11 params st codes s time t)
  effect_11 (unsubscribe time id t) = peer_11 st ok id _ _ (λ s. unsubscribed_11 params st codes s time t)
  effect_11 (graft time id t) = peer_11 st ok id _ _ (λ s. grafted_11 params st codes s time t)
  effect_11 (prune time id t seconds) = peer_11 st ok id _ _ (λ s. pruned_11 params st codes s time t seconds)
  effect_11 (deliver time id t kind) = peer_11 st ok id _ _ (λ s. delivered_11 params st codes s time t kind)
  effect_11 (rate time id p5) = iff_no (peer_not11 st id _ (λ s. refl)) (λ x. x)
  effect_11 (heartbeat time t ask order) = heartbeat_11 st time t ask order
  effect_11 (decay time) = iff_no (decay_11 time) (λ x. x)
  effect_11 (score time id) = iff_no (peer_not11 st id _ (λ s. refl)) (λ x. x)

pub row11 : Row11
row11 start calls fine c room =
    let st = after start calls in
    let w = standing start fine calls in
    row_behind st c room 11 _ refl (λ p. effect_11 start.params st w.router w.codes c)

-- ---- 0: behind the gate, and none of the other numbers
pub row0 : Row0
row0 start calls fine c room =
    let st = after start calls in
    let w = standing start fine calls in
    let b = behind st c in
    let e = effect_11 start.params st w.router w.codes c in
    let z = row_behind st c room 0 (number_of (effect st c).answer ≡ 0) refl (λ p. (λ q. q, λ q. q)) in (
      λ n.
          let q = (z.0 n).1 in
          record {
            admitted = (z.0 n).0;
            not6 = λ x. omega (arith, q, b.is_6.1 x);
            not7 = λ x. omega (arith, q, b.is_7.1 x);
            not3 = λ x. omega (arith, q, b.is_3.1 x);
            not4 = λ x. omega (arith, q, b.is_4.1 x);
            not5 = λ x. omega (arith, q, (b.is_5 w.size w.router).1 x);
            not11 = λ x. omega (arith, q, e.1 x);
          },
      λ p.
          z.1 (
            p.admitted,
            else_done (effect st c).answer b.is_late
                (λ n. p.not3 (b.is_3.0 n))
                (λ n. p.not4 (b.is_4.0 n))
                (λ n. p.not5 ((b.is_5 w.size w.router).0 n))
                (λ n. p.not6 (b.is_6.0 n))
                (λ n. p.not7 (b.is_7.0 n))
                (λ n. p.not11 (e.0 n)),
          ),
    )
