-- Actions (01, "Actions are three 32-bit numbers"), and the numbers that stand for them in the lent list.
use Rattle.std.specs.Prelude.{ℕ, cond, List, [], ◌∷◌, eqb}
use Rattle.records.specs.declared.Peer.{Peer}

-- "Actions are three 32-bit numbers: 1 GRAFT or 2 PRUNE, peer id, the [..] backoff in seconds (0 for GRAFT and for a 1.0.0 peer)."
pub record Action : Type 0 where
  pub kind : ℕ
  pub id : ℕ
  pub seconds : ℕ

abbrev pub prune_of : Peer → ℕ → Action
prune_of p seconds = record { kind = 2; id = p.id; seconds = cond (eqb p.version 0) 0 seconds }

unfoldable pub numbers_of : List Action → List ℕ
numbers_of [] = []
numbers_of (a ∷ l) = a.kind ∷ a.id ∷ a.seconds ∷ numbers_of l
