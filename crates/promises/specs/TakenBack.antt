-- The law office: "wants them taken back into every neighbour's mesh the moment they return". Whom the published rules let in is let in by
-- his first GRAFT; and whoever sends a GRAFT that is answered 0 is a member afterwards, or is told so by a PRUNE.
use Rattle.std.specs.Prelude.{ℕ, ◌≤◌, ◌<◌, ◌≡◌, ◌⊎◌, true, false, cond, [], ◌∷◌, eqb, pos}
use Rattle.std.specs.Int.Signed.{lt_z}
use Rattle.records.specs.Records.{State, slot_count, topic_count, place, peer_in, topic_in, joined_in}
use Rattle.layout.specs.View.{Sized}
use Rattle.validity.specs.Valid.{max_time, valid}
use Rattle.score.specs.Score.{score_in}
use Rattle.effects.specs.Actions.{Action}
use Rattle.effects.specs.Effects.{high_degree, prune_backoff, mesh_size, is_member}
use Rattle.rules.specs.Reply.{Reply, number_of}
use Rattle.rules.specs.Calls.{graft}
use Rattle.rules.specs.Step.{step, action_room}
use Rattle.promises.specs.Ends.{end_in}

-- the peer in slot s may come into topic t at a time
pub record MayReturn (st : State) (time t s : ℕ) : Type 0 where
  pub slot : s < slot_count
  pub topic : t < topic_count
  pub connected : (peer_in st s).status ≡ 1
  pub subscribed : (topic_in st (place s t)).subscribed ≡ 1
  pub plain : (peer_in st s).explicit ≡ 0
  pub joined : joined_in st t ≡ 1
  pub score : lt_z (score_in st s) (pos 0) ≡ false
  pub over : end_in st s t ≤ time
  pub room : (mesh_size st t < high_degree st) ⊎ ((peer_in st s).outbound ≡ 1)

pub record IsIn (t s : ℕ) (r : Reply) : Type 0 where
  pub answer : number_of r.answer ≡ 0
  pub actions : r.actions ≡ []
  pub member : is_member r.state t s ≡ true

abbrev pub TakenBack : Type 0
TakenBack =
    (st : State) (time t s room : ℕ) →
    Sized st →
    valid st ≡ true →
    st.clock ≤ time →
    time ≤ max_time →
    action_room ≤ room →
    MayReturn st time t s →
    IsIn t s (step st (graft time (peer_in st s).id t) room)

-- a PRUNE: "2 PRUNE, peer id, the sheet's prune [..] backoff in seconds (0 [..] for a 1.0.0 peer)"
abbrev pub told_out : State → ℕ → Action
told_out st s =
    record { kind = 2; id = (peer_in st s).id; seconds = cond (eqb (peer_in st s).version 0) 0 (prune_backoff st) }

-- a GRAFT that was answered 0: in, and nothing said; or out, and one PRUNE to that peer
pub record InOrTold (st : State) (t s : ℕ) (r : Reply) : Type 0 where
  pub either :
      number_of r.answer ≡ 0 →
      ((is_member r.state t s ≡ true) × (r.actions ≡ []))
      ⊎ ((is_member r.state t s ≡ false) × (r.actions ≡ told_out st s ∷ []))

abbrev pub GraftAnswered : Type 0
GraftAnswered =
    (st : State) (time t s room : ℕ) →
    Sized st →
    s < slot_count →
    (peer_in st s).status ≡ 1 →
    InOrTold st t s (step st (graft time (peer_in st s).id t) room)
