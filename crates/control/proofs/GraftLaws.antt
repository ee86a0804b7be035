-- A GRAFT that comes in: what its refusal may rely on, and what it gives in its case.
-- Assumes nothing.
use Rattle.index.proofs.Kit.{ℕ, ◌≡◌, refl, Bool, arith}
use mathlib.Core.List.{List, [], ◌∷◌}
use mathlib.Core.Logic.{◌⊎◌, inl, inr}
use lib.Seq.{sets}
use Rattle.records.specs.declared.Peer.{Peer}
use Rattle.records.specs.Records.{peer_in, set_clock, set_peer}
use Rattle.layout.specs.View.{state_of, PeerFits}
use Rattle.validity.proofs.FitLaws.{peer_fits}
use Rattle.validity.proofs.ValidLaws.{valid_facts}
use Rattle.effects.specs.Actions.{prune_of, numbers_of}
use Rattle.effects.specs.Effects.{prune_backoff, with_end, with_p7, end_after}
use Rattle.rules.specs.declared.Answer.{Answer}
use Rattle.rules.specs.declared.Answer.TheVariants.{Done}
use Rattle.rules.specs.declared.Seen.{Seen}
use Rattle.rules.specs.declared.GraftCase.{GraftCase}
use Rattle.rules.specs.declared.GraftCase.TheVariants.{NotJoined, Graylisted, Explicit, Negative, NotSubscribed, Full}
use Rattle.rules.specs.Reply.{ignored}
use Rattle.rules.specs.Step.{seen_in, raised_p7, is_crowded, graft_case, graft_refused, graft_done, graft_reply}
use Rattle.rules.specs.Promise.{Gives}
use Rattle.rules.proofs.PromiseLaws.{leaves_moved}
use Rattle.gate.proofs.StandingLaws.{sizes}
use Rattle.gate.specs.Ready.{PlaceLent}
use Rattle.control.specs.Refusable.{Refusable}

-- ---- P7 stops at 10^6, and an end is a cell of its own
raised_fits : (p q : Peer) → PeerFits p → q ≡ raised_p7 p → PeerFits q
unfolding raised_p7 with_p7
raised_fits p q f e =
    rw e (record {
      status = f.status;
      outbound = f.outbound;
      explicit = f.explicit;
      version = f.version;
      p5 = f.p5;
      p7 = omega arith;
    })

pub end_fits : (p q : Peer) (t end : ℕ) → PeerFits p → q ≡ with_end p t end → PeerFits q
unfolding with_end
end_fits p q t end f e =
    rw e (record {
      status = f.status;
      outbound = f.outbound;
      explicit = f.explicit;
      version = f.version;
      p5 = f.p5;
      p7 = f.p7;
    })

-- ---- what the refusal may rely on: the peer's record as seen, or with P7 raised
module _
    (table list : List ℕ)
    (time t s : ℕ)
    (h : PlaceLent table list time t s)
    (v : Seen)
    (e : v ≡ seen_in (state_of table) t s)
  where
    pub refusable : Refusable table list time t s v.sender.peer
    refusable =
        record {
          size = h.ready.standing.size;
          topic = h.topic;
          slot = h.slot;
          room = h.room;
          id = rw e ((valid_facts (state_of table) h.ready.standing.router).peer s h.slot).id;
          fits = rw e (peer_fits (state_of table) h.ready.standing.router s h.slot);
          backoff = (sizes (state_of table) h.ready.standing.router).prune;
          latest = h.ready.latest;
        }

    pub refusable_raised : (q : Peer) → q ≡ raised_p7 v.sender.peer → Refusable table list time t s q
    unfolding raised_p7 with_p7
    refusable_raised q eq =
        record {
          size = refusable.size;
          topic = h.topic;
          slot = h.slot;
          room = h.room;
          id = rw eq refusable.id;
          fits = raised_fits v.sender.peer q refusable.fits eq;
          backoff = refusable.backoff;
          latest = refusable.latest;
        }

-- ---- what it gives
-- the PRUNE that answers
pub refused_gives :
    (table mid table' list list' : List ℕ) (time t s n end : ℕ) (p q : Peer) → n ≡ prune_backoff (state_of table) →
    list' ≡ sets list 0 (numbers_of (prune_of p n ∷ [])) → end ≡ end_after time n → q ≡ with_end p t end →
    state_of mid ≡ set_peer (state_of table) s q → state_of table' ≡ set_clock (state_of mid) time →
    Gives (graft_refused (state_of table) time t s p) (Done 1) table table' list list'
unfolding graft_refused
refused_gives table mid table' list list' time t s n end p q en el ee eq em ec =
    record { leaves = leaves_moved _ (Done 1) table table' refl refl (search); actions = rw (← en) el }

-- in the case k, which is that of what was seen
module _ (c : GraftCase) (table table' list list' : List ℕ) (time t s : ℕ) (a : Answer) where
  pub graft_at :
      (v : Seen) (w : Bool) (k : GraftCase) → v ≡ seen_in (state_of table) t s → w ≡ is_crowded (state_of table) t → k ≡ graft_case v w time t →
      k ≡ c → Gives (graft_done c (state_of table) time t s) a table table' list list' →
      Gives (graft_reply (state_of table) time t s) a table table' list list'
  unfolding graft_reply
  graft_at v w k ev ew ek ec h = rw (← ev, ← ew, ← ek, ec) h

-- the cases that are answered alike
module _
    (table table' list list' : List ℕ)
    (time t s : ℕ)
    (a : Answer)
    (v : Seen)
    (w : Bool)
    (k : GraftCase)
    (ev : v ≡ seen_in (state_of table) t s)
    (ew : w ≡ is_crowded (state_of table) t)
    (ek : k ≡ graft_case v w time t)
  where
    pub graft_ignored :
        (k ≡ NotJoined) ⊎ (k ≡ Graylisted) → Gives (ignored (state_of table) time) a table table' list list' →
        Gives (graft_reply (state_of table) time t s) a table table' list list'
    graft_ignored (inl e) h = graft_at NotJoined table table' list list' time t s a v w k ev ew ek e h
    graft_ignored (inr e) h = graft_at Graylisted table table' list list' time t s a v w k ev ew ek e h

    pub graft_pruned :
        (k ≡ Explicit) ⊎ ((k ≡ Negative) ⊎ ((k ≡ NotSubscribed) ⊎ (k ≡ Full))) →
        Gives (graft_refused (state_of table) time t s (peer_in (state_of table) s)) a table table' list list' →
        Gives (graft_reply (state_of table) time t s) a table table' list list'
    graft_pruned (inl e) h = graft_at Explicit table table' list list' time t s a v w k ev ew ek e h
    graft_pruned (inr (inl e)) h = graft_at Negative table table' list list' time t s a v w k ev ew ek e h
    graft_pruned (inr (inr (inl e))) h = graft_at NotSubscribed table table' list list' time t s a v w k ev ew ek e h
    graft_pruned (inr (inr (inr e))) h = graft_at Full table table' list list' time t s a v w k ev ew ek e h

module _ (table table' list list' : List ℕ) (time t s : ℕ) (a : Answer) (v : Seen) (e : v ≡ seen_in (state_of table) t s) where
  pub refused_seen :
      Gives (graft_refused (state_of table) time t s v.sender.peer) a table table' list list' →
      Gives (graft_refused (state_of table) time t s (peer_in (state_of table) s)) a table table' list list'
  refused_seen h = rw e at h

  pub refused_raised :
      (q : Peer) → q ≡ raised_p7 v.sender.peer → Gives (graft_refused (state_of table) time t s q) a table table' list list' →
      Gives (graft_refused (state_of table) time t s (raised_p7 (peer_in (state_of table) s))) a table table' list list'
  refused_raised q eq h = rw (eq, e) at h
