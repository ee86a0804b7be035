-- A host's calls on one table: by induction on their list, each from its own promise; that the parameters are accepted is in the 0 that the
-- first of all answered.
-- Assumes nothing.
use Rattle.std.proofs.Common.{Option, Some, None}
use Prim.{tt}
use Rattle.index.proofs.Kit.{ℕ, arith, ◌≡◌, refl, sym, ap, ◌∙◌}
use mathlib.Core.Bool.{true}
use mathlib.Core.List.{List, [], ◌∷◌, map}
use lib.ListN.{length}
use lib.Seq.{sets}
use Rattle.params.specs.declared.Params.{Params}
use Rattle.params.specs.Check.{first_broken}
use Rattle.params.proofs.CheckLaws.{edition_back}
use Rattle.records.specs.Records.{State, param_count}
use Rattle.layout.specs.View.{state_of}
use Rattle.lookup.specs.Fresh.{made_of, left_by as fresh_left, made_number, made_value}
use Rattle.effects.specs.Actions.{numbers_of}
use Rattle.answers.specs.Answers.{packed, answer_code, why_or}
use Rattle.rules.specs.Calls.{score}
use Rattle.rules.specs.Step.{step}
use Rattle.saves.specs.Load.{Loading, loaded, left_by, load_of}
use Rattle.host_calls.specs.Host.{HostsFresh}
use Rattle.host_saves.specs.Saving.{HostsLoad}
use Rattle.call_lists.specs.Lists.{Start, from_fresh, from_load, after}
use Rattle.call_lists.specs.Demand3.{Accepted}
use Rattle.call_lists.proofs.Demand3.{demand3}
use Rattle.host_lists.specs.Hosted.{HostCall, made, OpenedFresh, OpenedLoad, Opened, by_fresh, by_load, Hosted, SameNumbers}
use Rattle.host_lists.specs.Hosted.{EveryHostAgrees, EveryScoreAgrees}
use Rattle.host_lists.proofs.Loads.{which, load_passes}

-- 9 is not 0
passes : (f : Option ℕ) → 0 ≡ packed (made_number (made_of f)) (made_value (made_of f)) → f ≡ None
passes (Some i) e = absurd (omega (arith, e))
passes None e = refl

-- ---- what the list starts from
record Opens (start : Start) (table : List ℕ) : Type 0 where
  accepted : Accepted start
  state : state_of table ≡ start.state

module _ (start : Start) (size : length start.params.numbers ≡ param_count) (table : List ℕ) where
  abbrev all : Params
  all = start.params

  -- the edition of the number that was called is the parameters'
  opens_fresh : OpenedFresh start table → Opens start table
  opens_fresh p =
      let m : HostsFresh (Some all.edition) all.numbers 0 p.was table = rw (edition_back all.edition) at p.makes in
      let q = passes (first_broken all) m.answer in
      record {
        accepted = record { size = size; passes = q; begins = from_fresh p.begins };
        state = m.state ∙ ap (λ (f : Option ℕ). fresh_left f all (state_of p.was)) q ∙ sym p.begins;
      }

  opens_load : OpenedLoad start table → Opens start table
  opens_load p =
      let m : HostsLoad (Some all.edition) all.numbers p.clock p.bytes 0 p.was table =
      rw (edition_back all.edition) at p.loads in
      let o = load_of true all p.clock p.bytes in
      let w = which o m.answer in
      let e : w.0 ≡ start.state = sym (m.state ∙ ap (λ (l : Loading). left_by l (state_of p.was)) w.1) ∙ sym p.begins in
      record {
        accepted = record {
          size = size;
          passes = (load_passes all p.clock p.bytes true m.answer).1;
          begins = from_load
              (record { fine = true; clock = p.clock; bytes = p.bytes; byte = p.byte; load = w.1 ∙ ap loaded e });
        };
        state = sym p.begins;
      }

  opens : Opened start table → Opens start table
  opens (by_fresh p) = opens_fresh p
  opens (by_load p) = opens_load p

-- ---- every list
module _ (start : Start) (size : length start.params.numbers ≡ param_count) where
  accepted : (calls : List HostCall) (table : List ℕ) → Hosted start calls table → Accepted start
  unfolding Hosted
  accepted [] table p = (opens start size table p).accepted
  accepted (c ∷ before) table p = accepted before p.0 p.1

  same_state : (calls : List HostCall) (table : List ℕ) → Hosted start calls table → state_of table ≡ after start (map made calls)
  unfolding Hosted after
  same_state [] table p = (opens start size table p).state
  same_state (c ∷ before) table p =
      p.2.state ∙ ap (λ (st : State). (step st c.call (length c.list)).state) (same_state before p.0 p.1)

  same_numbers : (calls : List HostCall) (table : List ℕ) → Hosted start calls table → SameNumbers start calls
  unfolding Hosted SameNumbers
  same_numbers [] table p = tt
  same_numbers (c ∷ before) table p =
      let e = same_state before p.0 p.1 in (
        p.2.answer ∙ ap (λ (st : State). answer_code (step st c.call (length c.list)).answer) e,
        p.2.actions ∙ ap (λ (st : State). sets c.list 0 (numbers_of (step st c.call (length c.list)).actions)) e,
        same_numbers before p.0 p.1,
      )

pub every_host_agrees : EveryHostAgrees
every_host_agrees start calls table size p =
    record {
      numbers = same_numbers start size calls table p;
      state = same_state start size calls table p;
      demand3 = demand3 start (map made calls) (accepted start size calls table p);
    }

pub every_score_agrees : EveryScoreAgrees
every_score_agrees start calls table time id room why why' size p e =
    e ∙ ap (λ (st : State). why_or (step st (score time id) room).answer why) (same_state start size calls table p)
