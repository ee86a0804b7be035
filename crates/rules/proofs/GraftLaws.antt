-- What is so of a GRAFT that comes in: what holds of each of its five ends holds of its reply, whichever of the nine cases it is. Each end
-- is told the tests that led to it.
-- Assumes nothing.
use Prim.Native.Nat.{ℕ}
use mathlib.Core.Path.{◌≡◌}
use mathlib.Core.Bool.{Bool, true, false, not, ◌&&◌}
use mathlib.Core.List.{[]}
use lib.Dec.{eqb}
use borrow.Author.Tests.{not-true, not-false}
use Rattle.index.proofs.Flags.{cond_case}
use Rattle.records.specs.Records.{State, peer_in}
use Rattle.effects.specs.Effects.{into_mesh, on_topic, backoff_runs}
use Rattle.rules.specs.declared.Seen.{Seen}
use Rattle.rules.specs.declared.GraftCase.{GraftCase}
use Rattle.rules.specs.Reply.{Reply, ignored, done}
use Rattle.rules.specs.Step.{seen_in, heard, is_heard, raised_p7, is_crowded, graft_refused, graft_case, graft_done, graft_reply}

-- of a peer that is heard and no member
pub record Outside (v : Seen) : Type 0 where
  pub heard : heard v ≡ true
  pub joined : v.joined ≡ true
  pub new : eqb v.topic.member 1 ≡ false

-- whose backoff runs
pub record Early (v : Seen) (time t : ℕ) : Type 0 where
  pub outside : Outside v
  pub plain : eqb v.sender.peer.explicit 1 ≡ false
  pub runs : backoff_runs v.sender.peer t time ≡ true

-- who enters: the eight tests failed
pub record Entering (v : Seen) (crowded : Bool) (time t : ℕ) : Type 0 where
  pub outside : Outside v
  pub plain : eqb v.sender.peer.explicit 1 ≡ false
  pub over : backoff_runs v.sender.peer t time ≡ false
  pub worthy : v.sender.negative ≡ false
  pub subscribed : eqb v.topic.subscribed 1 ≡ true
  pub room : crowded && eqb v.sender.peer.outbound 0 ≡ false

module _ (P : Reply → Type 0) (st : State) (time t s : ℕ) where
  abbrev v : Seen
  v = seen_in st t s

  abbrev Of : GraftCase → Type 0
  Of k = P (graft_done k st time t s)

  silent : v.joined ≡ false → heard v ≡ false
  silent e = rw e

  low : v.joined ≡ true → v.sender.graylisted ≡ true → heard v ≡ false
  low e g = rw (e, g)

  pub by_graft :
      (is_heard st t s ≡ false → P (ignored st time)) →
      (is_heard st t s ≡ true → eqb v.topic.member 1 ≡ true → P (done st time [])) →
      (Outside v → P (graft_refused st time t s (peer_in st s))) →
      (Early v time t → P (graft_refused st time t s (raised_p7 (peer_in st s)))) →
      (Entering v (is_crowded st t) time t → P (done (on_topic st s t (λ r. into_mesh r time)) time [])) →
      P (graft_reply st time t s)
  unfolding graft_reply graft_case is_heard
  by_graft apart member refused early enters =
      cond_case Of (not v.joined) _ _ (λ a. apart (silent (not-true v.joined a))) (λ a.
      let joined = not-false v.joined a in
      cond_case Of v.sender.graylisted _ _ (λ b. apart (low joined b)) (λ b.
      let told : heard v ≡ true = rw (joined, b) in
      cond_case Of (eqb v.topic.member 1) _ _ (λ c. member told c) (λ c.
      let outside : Outside v = record { heard = told; joined = joined; new = c } in
      cond_case Of (eqb v.sender.peer.explicit 1) _ _ (λ d. refused outside) (λ d.
      cond_case Of (backoff_runs v.sender.peer t time) _ _ (λ e. early (record { outside = outside; plain = d; runs = e })) (λ e.
      cond_case Of v.sender.negative _ _ (λ f. refused outside) (λ f.
      cond_case Of (not (eqb v.topic.subscribed 1)) _ _ (λ g. refused outside) (λ g.
      cond_case Of (is_crowded st t && eqb v.sender.peer.outbound 0) _ _ (λ h. refused outside) (λ h.
      enters
      (record {
        outside = outside;
        plain = d;
        over = e;
        worthy = f;
        subscribed = not-false (eqb v.topic.subscribed 1) g;
        room = h;
      })))))))))
