-- Each of 01's words, from the definition that it is about. Assumes nothing.
use Prim.Native.Nat.{ℕ, ◌+◌, ◌≤◌}
use native.Mathlib.Omega.{arith}
use mathlib.Core.Path.{◌≡◌, refl}
use mathlib.Core.Logic.{◌⊎◌, inl, inr, ⊎_elim}
use mathlib.Core.Bool.{true}
use borrow.Author.Tests.{eq-eqb, ne_eqb, eqb-true, leb-true}
use lib.Dec.{eqb, leb}
use lib.IntN.{pos, ◌*ℤ◌}
use lib.Signed.{lt_z}
use lib.ListN.{get_or}
use Rattle.index.proofs.Index.{both}
use Rattle.index.proofs.Flags.{by_test}
use Rattle.records.specs.Records.{State, code_in, peer_in}
use Rattle.score.specs.Score.{score_in}
use Rattle.rules.specs.Step.{is_graylisted, is_candidate, degrees_in, action_in}
use Rattle.rules.specs.Words.{number, AsWorded}
use Rattle.rules.proofs.HeartbeatLaws.{candidate_slack}

-- never set, or ended a second ago
pub candidate_past :
    (st : State) (time t s : ℕ) →
    is_candidate st time t s ≡ true →
    (get_or (peer_in st s).backoff t 0 ≡ 0) ⊎ (get_or (peer_in st s).backoff t 0 + 1000 ≤ time)
candidate_past st time t s e =
    let end : ℕ = get_or (peer_in st s).backoff t 0 in
    let f = candidate_slack st time t s e in
    by_test ((end ≡ 0) ⊎ (end + 1000 ≤ time)) (eqb end 0)
    (λ z. inl (eqb-true end 0 z))
    (λ z. let g : leb (end + 1000) time ≡ true = rw z at f in inr (leb-true (end + 1000) time g))

pub as_worded : AsWorded
unfolding is_graylisted degrees_in code_in
as_worded st time t s a =
    record {
      below = λ e. (both (eqb (peer_in st s).explicit 0) (lt_z (score_in st s) (number st 9 *ℤ pos 1000000)) e).1;
      graylisted = λ x e. rw (eq-eqb (peer_in st s).explicit 0 x) e;
      calm = λ e. ⊎_elim (λ z. omega (arith, z)) (λ z. omega (arith, z)) (candidate_past st time t s e);
      threshold = refl;
      graft = λ k. rw k;
      old =
          λ v.
          let z = eq-eqb (peer_in st a.slot).version 0 v in
          by_test ((action_in st a).seconds ≡ 0) (eqb a.kind 2) (λ k. rw (k, z)) (λ k. rw k);
      told = λ k v. rw (eq-eqb a.kind 2 k, ne_eqb (peer_in st a.slot).version 0 v);
    }
