-- Order 6: "No notice touches a mesh or a score." Nor does any other call of orders 6 and 7, whatever it is answered: the clock alone
-- moves.
use Rattle.std.specs.Prelude.{ℕ, ◌≡◌}
use Rattle.records.specs.Records.{State, peer_in, set_clock}
use Rattle.score.specs.Score.{score_in}
use Rattle.effects.specs.Effects.{is_joined, is_member}
use Rattle.gossip.specs.Notes.{Extended}
use Rattle.gossip.specs.Calls.{New}
use Rattle.gossip.specs.Step.{new_step}

pub record Untouched (st u : State) : Type 0 where
  -- parameters, joined topics, peers and topic records, all at once
  pub stands : u ≡ set_clock st u.clock
  pub joined : (t : ℕ) → is_joined u t ≡ is_joined st t
  pub mesh : (t s : ℕ) → is_member u t s ≡ is_member st t s
  pub score : (s : ℕ) → score_in u s ≡ score_in st s
  -- who is connected, and the ends of his backoffs
  pub peer : (s : ℕ) → peer_in u s ≡ peer_in st s

abbrev pub NewTouchesNothing : Type 0
NewTouchesNothing = (x : Extended) (c : New) (room : ℕ) → Untouched x.base (new_step x c room).state.base
