-- The ends of a call in the form in which its code reaches them: by what the rules' reply is there, and by what the last call left.
-- Assumes nothing.
use Rattle.std.proofs.Common.{Option, None}
use Rattle.index.proofs.Kit.{ℕ, ◌+◌, ◌*◌, ◌≡◌, sym, ap, ◌∙◌}
use mathlib.Core.List.{List}
use lib.ListN.{length, set}
use lib.Seq.{sets}
use Rattle.records.specs.Records.{set_clock}
use Rattle.layout.specs.View.{clock_at, state_of}
use Rattle.lookup.specs.Find.{find_connected}
use Rattle.effects.specs.Actions.{Action, numbers_of}
use Rattle.gossip.specs.Notes.{Gossip}
use Rattle.gossip.specs.Step.{FullReply, refused_all, ignored_all, done_all, of_peer_all}
use Rattle.gossip_table.specs.View.{gossip_of, extended_of}
use Rattle.gossip_gate.specs.Promise.{LeavesAll, GivesAll}
use Rattle.gossip_gate.proofs.PromiseLaws.{leaves_refused, leaves_ignored, leaves_done, gives_quiet, gives_done}
use Rattle.gossip_gate.proofs.ReplyLaws.{peer_missing}

module _ (o : FullReply) (time r : ℕ) (table table' gossip : List ℕ) where
  -- a refusal
  pub ends_refused : o ≡ refused_all r (extended_of table gossip) → LeavesAll o r table table gossip gossip
  ends_refused e = rw e (leaves_refused r table gossip)

  pub gives_refusal : (list : List ℕ) → o ≡ refused_all r (extended_of table gossip) → GivesAll o r table table gossip gossip list list
  gives_refusal list e = gives_quiet o r table table gossip gossip list (ap (λ (p : FullReply). p.actions) e) (ends_refused e)

  -- 11, where the clock moved last
  module _ (h : (r ≡ 11) × (state_of table' ≡ set_clock (state_of table) time) × (table' ≡ set table clock_at time)) where
    pub ends_ignored : o ≡ ignored_all (extended_of table gossip) time → LeavesAll o r table table' gossip gossip
    ends_ignored e = rw (e, h.0) (leaves_ignored time table table' gossip h.1 h.2)

    pub gives_nothing :
        (list : List ℕ) → o ≡ ignored_all (extended_of table gossip) time → GivesAll o r table table' gossip gossip list list
    gives_nothing list e =
        gives_quiet o r table table' gossip gossip list (ap (λ (p : FullReply). p.actions) e) (ends_ignored e)

  -- 0, where the clock moved last: n actions are written, and m numbers
  module _
      (gossip' : List ℕ)
      (g : Gossip)
      (acts : List Action)
      (numbers : List ℕ)
      (n m : ℕ)
      (h : (r ≡ 256 * n + 16777216 * m) × (state_of table' ≡ set_clock (state_of table) time))
      (e : o ≡ done_all (extended_of table gossip) time g acts numbers)
      (en : n ≡ length acts)
      (em : m ≡ length numbers)
      (eg : gossip_of gossip' ≡ g)
    where
      word : r ≡ 256 * length acts + 16777216 * length numbers
      word = h.0 ∙ rw (en, em)

      pub ends_done : LeavesAll o r table table' gossip gossip'
      ends_done = rw e (leaves_done time r g acts numbers table table' gossip gossip' word h.1 eg)

      pub gives_actions : (list list' : List ℕ) → list' ≡ sets list 0 (numbers_of acts) → GivesAll o r table table' gossip gossip' list list'
      gives_actions list list' l = rw e (gives_done time r g acts numbers table table' gossip gossip' list list' word h.1 eg l)

-- a call of a peer: 3, or the slot's own reply
module _ (table gossip : List ℕ) (id : ℕ) (f : ℕ → FullReply) (k : Option ℕ) (e : k ≡ find_connected (state_of table) id) where
  pub ends_missing : k ≡ None → LeavesAll (of_peer_all (extended_of table gossip) id f) 3 table table gossip gossip
  ends_missing g =
      ends_refused _ 0 3 table table gossip (peer_missing (extended_of table gossip) id f (sym e ∙ g))
