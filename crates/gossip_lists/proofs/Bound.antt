-- The reply bound, over every list of calls.
-- Assumes nothing.
use Prim.Native.Nat.{ℕ, ◌+◌, ◌≤◌}
use native.Mathlib.Omega.{arith}
use mathlib.Core.Path.{◌≡◌, refl, sym, ap, ◌∙◌}
use mathlib.Core.Bool.{Bool, true, false, ◌&&◌, and-false, and-true}
use mathlib.Core.List.{List, [], ◌∷◌, ◌++◌}
use lib.Dec.{eqb}
use Rattle.index.specs.Index.{one}
use Rattle.index.proofs.Flags.{by_test}
use Rattle.rules.specs.Calls.{connect, disconnect, join, leave, subscribe, unsubscribe, graft, prune, deliver, rate, heartbeat, decay}
use Rattle.rules.specs.Calls.{score}
use Rattle.call_lists.proofs.Standing.{off_start, stands_start}
use Rattle.gossip.specs.Notes.{Setup, Extended, has, store_in, fresh_gossip}
use Rattle.gossip.specs.Calls.{ask_all, idontwant, relay, beat, store, announce, ihave, iwant, Any, old, new}
use Rattle.gossip.specs.Step.{step_all}
use Rattle.gossip_lists.specs.Lists.{Start, AcceptedAll, Did, after_all, answered_all, life, stored_after, gives, given}
use Rattle.gossip_lists.specs.Bound.{connects, wants, Within, replies_in, RepliesBounded}
use Rattle.gossip.proofs.NoteLaws.{store_fresh, setup_fresh, sized_fresh}
use Rattle.gossip_lists.proofs.LifeLaws.{life_in}
use Rattle.gossip_lists.proofs.Tied.{Tied, After}
use Rattle.gossip_lists.proofs.TiedNew.{tied_new}
use Rattle.gossip_lists.proofs.TiedOld.{tied_old}

-- ---- what a list starts from: nobody is connected, and nothing is stored
module _ (start : Start) (ok : AcceptedAll start) where
  abbrev most : ℕ
  most = start.setup.replies

  fresh_life : (t n : ℕ) → life_in 5 (store_in (fresh_gossip start.setup) t) n ≡ 0
  unfolding life_in has
  fresh_life t n = ap (λ (w : List (List ℕ)). life_in 5 w n) (store_fresh start.setup t)

  tied_start :
      Tied most (λ t n. 0) (λ peer n. 0) (record { base = start.router.state; gossip = fresh_gossip start.setup })
  tied_start =
      record {
        size = (stands_start start.router ok.router (λ i. false)).size;
        sizes = sized_fresh start.setup;
        bound = ap (λ (p : Setup). p.replies) (setup_fresh start.setup);
        lives = λ t n l. fresh_life t n;
        counts = λ s n l on. absurd (off_start start.router ok.router s l on);
        gone = λ peer n e. refl;
        few = λ peer n. omega arith;
      }

  -- ---- every list
  tied_step :
      (alive gave : ℕ → ℕ → ℕ) (x : Extended) →
      Tied most alive gave x →
      (c : Any) (room : ℕ) →
      After most alive gave c (step_all x c room)
  unfolding step_all
  tied_step alive gave x h (old c) room = tied_old most alive gave x h c room
  tied_step alive gave x h (new c) room = tied_new most alive gave x h c room

  pub tied_list : (calls : List Did) → Tied most (life start calls) (given start calls) (after_all start calls)
  unfolding after_all answered_all life stored_after given
  tied_list [] = tied_start
  tied_list (c ∷ before) =
      tied_step (life start before) (given start before) (after_all start before) (tied_list before) c.call c.room

-- ---- what is counted since a moment is no more than what the invariant counts
gives_is :
    (c : Any) (peer n was : ℕ) → connects c peer ≡ false → gives c peer n was ≡ was + one (wants c peer n)
gives_is (old (connect time id groups flags name)) peer n was e = rw e (omega arith)
gives_is (old (disconnect time id)) peer n was e = omega arith
gives_is (old (join time u)) peer n was e = omega arith
gives_is (old (leave time u)) peer n was e = omega arith
gives_is (old (subscribe time id u)) peer n was e = omega arith
gives_is (old (unsubscribe time id u)) peer n was e = omega arith
gives_is (old (graft time id u)) peer n was e = omega arith
gives_is (old (prune time id u seconds)) peer n was e = omega arith
gives_is (old (deliver time id u kind)) peer n was e = omega arith
gives_is (old (rate time id p5)) peer n was e = omega arith
gives_is (old (heartbeat time u ask order)) peer n was e = omega arith
gives_is (old (decay time)) peer n was e = omega arith
gives_is (old (score time id)) peer n was e = omega arith
gives_is (new (ask_all time u sender m)) peer n was e = omega arith
gives_is (new (idontwant time id m)) peer n was e = omega arith
gives_is (new (relay time u sender m)) peer n was e = omega arith
gives_is (new (beat time)) peer n was e = omega arith
gives_is (new (store time u m)) peer n was e = omega arith
gives_is (new (announce time u order list)) peer n was e = omega arith
gives_is (new (ihave time id u numbers list)) peer n was e = omega arith
gives_is (new (iwant time id m)) peer n was e = by_test _ (eqb id peer && eqb m n) (λ y. rw y) (λ y. rw y (omega arith))

module _ (start : Start) (older : List Did) (peer n : ℕ) where
  since :
      (recent : List Did) →
      Within start older peer n recent →
      replies_in start older peer n recent ≤ given start (recent ++ older) peer n
  unfolding Within replies_in given
  since [] w = omega arith
  since (c ∷ recent) w =
      let i = since recent w.2 in
      let was = given start (recent ++ older) peer n in
      let a = eqb (answered_all start c (recent ++ older)) 0 in
      rw w.1
      (by_test _ a
      (λ y.
      let out : connects c.call peer ≡ false = first_no (connects c.call peer) a w.0 y in
      let e = gives_is c.call peer n was out in
      rw (y, e, and-true (wants c.call peer n)) (omega arith))
      (λ y. rw (y, and-false (wants c.call peer n)) (omega arith)))
    where
      first_no : (a b : Bool) → a && b ≡ false → b ≡ true → a ≡ false
      first_no true b e f = sym f ∙ e
      first_no false b e f = refl

pub bounded : RepliesBounded
bounded start older recent peer n ok w =
    let a = since start older peer n recent w in
    let b = (tied_list start ok (recent ++ older)).few peer n in
    omega arith
