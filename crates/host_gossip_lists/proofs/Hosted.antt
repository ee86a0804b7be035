-- A host's calls on one table and one array: by induction on their list, each from its own promise (Ran); that set-up numbers and
-- parameters are accepted is in the 0 that the first of all answered.
-- Assumes nothing.
use Rattle.std.proofs.Common.{Err}
use Rattle.gossip_old.specs.declared.MakeError.TheVariants.{OutOfRange}
use Rattle.std.proofs.Common.{Option, Some, None}
use Prim.{tt}
use Rattle.index.proofs.Kit.{ℕ, arith, ◌≡◌, refl, sym, ap, ◌∙◌}
use mathlib.Core.Bool.{Bool, true, false, cond}
use mathlib.Core.List.{List, [], ◌∷◌, map}
use lib.ListN.{length}
use lib.Seq.{sets}
use Rattle.records.specs.Records.{State, param_count}
use Rattle.params.specs.declared.Params.{Params}
use Rattle.params.specs.Check.{first_broken}
use Rattle.params.proofs.CheckLaws.{edition_back}
use Rattle.lookup.specs.Fresh.{fresh_state}
use Rattle.effects.specs.Actions.{numbers_of}
use Rattle.answers.specs.Answers.{why_or}
use Rattle.rules.specs.Calls.{score}
use Rattle.rules.specs.Step.{step}
use Rattle.saves.specs.Load.{Loading, loaded, load_of}
use Rattle.call_lists.specs.Lists.{from_fresh, from_load}
use Rattle.host_lists.proofs.Loads.{which, load_passes}
use Rattle.gossip.specs.Notes.{Gossip, Extended, fresh_gossip}
use Rattle.gossip.specs.Valid.{setup_ok}
use Rattle.gossip.specs.Step.{FullReply, step_all}
use Rattle.gossip_table.specs.View.{extended_of}
use Rattle.gossip_gate.specs.Promise.{reply_code}
use Rattle.gossip_old.specs.Made.{sheeted as freshBy, making_of, loaded_by}
use Rattle.host_gossip.specs.Routers.{HostsMade, HostsLoadAll, making_code}
use Rattle.gossip_lists.specs.Lists.{Start, AcceptedAll, after_all}
use Rattle.gossip_lists.specs.Demand3.{sheet}
use Rattle.gossip_lists.proofs.Demand.{demand3_all}
use Rattle.gossip_lists.proofs.Bound.{bounded}
use Rattle.gossip_lists.proofs.Fresh.{whole_after}
use Rattle.host_gossip_lists.specs.Hosted.{HostCall, did, OpenedFresh, OpenedLoad, Opened, by_fresh, by_load, HostedAll, SameReplies}
use Rattle.host_gossip_lists.specs.Hosted.{reply_to, EveryHostAgreesAll, EveryScoreAgreesAll}
use Rattle.host_gossip_lists.proofs.Ran.{ran}

-- ---- what a 0 says: neither 2 nor 9 was answered
made_fine : (b : Bool) (f : Option ℕ) → 0 ≡ making_code (cond b (freshBy f) (Err OutOfRange)) → (b ≡ true) × (f ≡ None)
made_fine true (Some i) e = absurd (omega (arith, e))
made_fine true None e = (refl, refl)
made_fine false f e = absurd (omega (arith, e))

abbrev both : State → Gossip → Extended
both st g = record { base = st; gossip = g }

-- ---- what the list starts from
record Opens (start : Start) (table gossip : List ℕ) : Type 0 where
  accepted : AcceptedAll start
  state : extended_of table gossip ≡ both start.router.state (fresh_gossip start.setup)

module _ (start : Start) (size : length (sheet start).numbers ≡ param_count) (table gossip : List ℕ) where
  abbrev all : Params
  all = sheet start

  abbrev fine : Bool
  fine = setup_ok start.setup

  opens_fresh : OpenedFresh start table gossip → Opens start table gossip
  unfolding making_of
  opens_fresh p =
      let m : HostsMade start.setup (Some all.edition) all.numbers 0 p.was table p.others gossip =
      rw (edition_back all.edition) at p.makes in
      let q = made_fine fine (first_broken all) m.answer in
      let s : extended_of table gossip ≡ both (fresh_state all) (fresh_gossip start.setup) = rw (q.0, q.1) at m.state in
      record {
        accepted = record {
          router = record { size = size; passes = q.1; begins = from_fresh p.begins };
          setup = q.0;
        };
        state = s ∙ ap (λ (st : State). both st (fresh_gossip start.setup)) (sym p.begins);
      }

  opens_load : OpenedLoad start table gossip → Opens start table gossip
  opens_load p =
      let m : HostsLoadAll start.setup (Some all.edition) all.numbers p.clock p.bytes 0 p.was table p.others gossip =
      rw (edition_back all.edition) at p.loads in
      let o = load_of fine all p.clock p.bytes in
      let q = load_passes all p.clock p.bytes fine m.answer in
      let w = which o m.answer in
      let s : extended_of table gossip ≡ both w.0 (fresh_gossip start.setup) =
      m.state ∙ ap (λ (l : Loading). loaded_by l start.setup (extended_of p.was p.others)) w.1 in
      let e : w.0 ≡ start.router.state = sym (ap (λ (x : Extended). x.base) s) ∙ sym p.begins in
      record {
        accepted = record {
          router = record {
            size = size;
            passes = q.1;
            begins = from_load (record {
              fine = fine;
              clock = p.clock;
              bytes = p.bytes;
              byte = p.byte;
              load = w.1 ∙ ap loaded e;
            });
          };
          setup = q.0;
        };
        state = s ∙ ap (λ (st : State). both st (fresh_gossip start.setup)) e;
      }

  opens : Opened start table gossip → Opens start table gossip
  opens (by_fresh p) = opens_fresh p
  opens (by_load p) = opens_load p

-- ---- every list
module _ (start : Start) (size : length (sheet start).numbers ≡ param_count) where
  accepted : (calls : List HostCall) (table gossip : List ℕ) → HostedAll start calls table gossip → AcceptedAll start
  unfolding HostedAll
  accepted [] table gossip p = (opens start size table gossip p).accepted
  accepted (c ∷ before) table gossip p = accepted before p.0 p.1 p.2

  same_state :
      (calls : List HostCall) (table gossip : List ℕ) →
      HostedAll start calls table gossip →
      extended_of table gossip ≡ after_all start (map did calls)
  unfolding HostedAll after_all
  same_state [] table gossip p = (opens start size table gossip p).state
  same_state (c ∷ before) table gossip p =
      (ran c p.0 table p.1 gossip p.3).state
      ∙ ap (λ (x : Extended). (step_all x c.call (length c.list)).state) (same_state before p.0 p.1 p.2)

  same_replies : (calls : List HostCall) (table gossip : List ℕ) → HostedAll start calls table gossip → SameReplies start calls
  unfolding HostedAll SameReplies
  same_replies [] table gossip p = tt
  same_replies (c ∷ before) table gossip p =
      let r = ran c p.0 table p.1 gossip p.3 in
      let e : step_all (extended_of p.0 p.1) c.call (length c.list) ≡ reply_to start before c =
      ap (λ (x : Extended). step_all x c.call (length c.list)) (same_state before p.0 p.1 p.2) in (
        r.code ∙ ap reply_code e,
        r.actions ∙ ap (λ (o : FullReply). sets c.list 0 (numbers_of o.actions)) e,
        r.numbers ∙ ap (λ (o : FullReply). sets c.numbers 0 o.numbers) e,
        same_replies before p.0 p.1 p.2,
      )

pub every_host_agrees_all : EveryHostAgreesAll
every_host_agrees_all start calls table gossip size p =
    let ok = accepted start size calls table gossip p in
    let e = same_state start size calls table gossip p in
    record {
      replies = same_replies start size calls table gossip p;
      state = e;
      whole = rw (sym e) at (whole_after start (map did calls) ok);
      demand3 = demand3_all start (map did calls) ok;
      bounded = λ older recent peer n split within. bounded start (map did older) (map did recent) peer n ok within;
    }

pub every_score_agrees_all : EveryScoreAgreesAll
every_score_agrees_all start calls table gossip time id room why why' size p e =
    e ∙ ap (λ (x : Extended). why_or (step x.base (score time id) room).answer why) (same_state start size calls table gossip p)
