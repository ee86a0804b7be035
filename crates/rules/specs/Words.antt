-- 01's words for what the definitions of the rules could get wrong unnoticed: a threshold, which of the parameters a number is (by its
-- place in 01's order), whose backoff runs, who is told the seconds. Each is proved of every state; crate promises has them over lists of
-- calls.
use Rattle.std.specs.Prelude.{ℕ, ◌+◌, ◌*◌, ◌≤◌, ◌≡◌, ◌≢◌, true, ℤ, pos, ◌*ℤ◌, get_or}
use Rattle.std.specs.Int.Signed.{lt_z}
use Rattle.varint.specs.Codes.{number_of}
use Rattle.records.specs.Records.{State, peer_in}
use Rattle.varint.specs.Codes.{magnitude}
use Rattle.score.specs.Score.{score_in}
use Rattle.mesh.specs.Maintenance.{Action, zero_score}
use Rattle.rules.specs.Step.{is_graylisted, is_candidate, degrees_in, action_in}

-- number k of the parameters, and its magnitude
abbrev pub number : State → ℕ → ℤ
number st k = number_of (get_or st.codes k 0)

abbrev pub size : State → ℕ → ℕ
size st k = magnitude (get_or st.codes k 0)

pub record Words (st : State) (time t s : ℕ) (a : Action) : Type 0 where
  -- "from a non-explicit peer scoring below graylist": number 9, in thousandths of a point; at the threshold itself it is heard
  pub below : is_graylisted st s ≡ true → lt_z (score_in st s) (number st 9 *ℤ pos 1000000) ≡ true
  pub graylisted :
      (peer_in st s).explicit ≡ 0 →
      lt_z (score_in st s) (number st 9 *ℤ pos 1000000) ≡ true →
      is_graylisted st s ≡ true
  -- "A candidate is [..] backoff not running": its end is over
  pub calm : is_candidate st time t s ≡ true → get_or (peer_in st s).backoff t 0 ≤ time
  -- "median < threshold": number 8, in thousandths of a point
  pub threshold : (degrees_in st).threshold ≡ zero_score + size st 8 * 1000000
  -- "the sheet's prune [..] backoff in seconds (0 for GRAFT and for a 1.0.0 peer)": number 5
  pub graft : a.kind ≡ 1 → (action_in st a).seconds ≡ 0
  pub old : (peer_in st a.slot).version ≡ 0 → (action_in st a).seconds ≡ 0
  pub told : a.kind ≡ 2 → (peer_in st a.slot).version ≢ 0 → (action_in st a).seconds ≡ size st 5

abbrev pub AsWorded : Type 0
AsWorded = (st : State) (time t s : ℕ) (a : Action) → Words st time t s a
