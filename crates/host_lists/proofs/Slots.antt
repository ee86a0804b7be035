-- A heartbeat stores in a peer's record its backoff end alone, so what does not read an end reads the same.
-- Assumes nothing.
use Rattle.index.proofs.Kit.{ℕ, ◌≡◌, refl, ap, ◌∙◌}
use mathlib.Core.List.{List}
use Rattle.index.proofs.Flags.{cond_case}
use Rattle.records.specs.declared.Peer.{Peer}
use Rattle.records.specs.Records.{State, slot_count, peer_in}
use Rattle.layout.proofs.StateLaws.{peer_after_clock}
use Rattle.effects.specs.Effects.{with_end, is_joined}
use Rattle.sets.specs.Sets.{is_permutation}
use Rattle.rules.specs.declared.Answer.TheVariants.{NotPermutation}
use Rattle.rules.specs.Reply.{Reply, refused, ignored}
use Rattle.rules.specs.Calls.{heartbeat}
use Rattle.rules.specs.Step.{meshes_in, maintained_reply, heartbeat_reply, effect, step}
use Rattle.rules.proofs.CaseLaws.{by_gate}
use Rattle.rules.proofs.HeartbeatLaws.{settled_peer}
use Rattle.host_lists.specs.Slots.{SlotsKeepPeers}

module _ (f : Peer → ℕ) (h : (p : Peer) (v end : ℕ) → f (with_end p v end) ≡ f p) (st : State) (time t ask s : ℕ) (order : List ℕ) where
  abbrev Reads : Reply → Type 0
  Reads r = f (peer_in r.state s) ≡ f (peer_in st s)

  reads_maintained : Reads (maintained_reply st time t ask order)
  unfolding maintained_reply
  reads_maintained = ap f (peer_after_clock _ time s) ∙ settled_peer st time t (meshes_in st time t ask order).fifth f h slot_count s

  reads_heartbeat : Reads (heartbeat_reply st time t ask order)
  unfolding heartbeat_reply
  reads_heartbeat =
      cond_case Reads (is_permutation slot_count order) _ (refused NotPermutation st)
      (λ right.
      cond_case Reads (is_joined st t) (maintained_reply st time t ask order) (ignored st time)
      (λ j. reads_maintained)
      (λ j. ap f (peer_after_clock st time s)))
      (λ wrong. refl)

  reads_same : (room : ℕ) → Reads (step st (heartbeat time t ask order) room)
  unfolding effect
  reads_same room = by_gate Reads st (heartbeat time t ask order) room (λ a e. refl) (λ p. reads_heartbeat)

pub slots_keep_peers : SlotsKeepPeers
unfolding with_end
slots_keep_peers st time t ask room s order =
    record {
      id = reads_same (λ p. p.id) (λ p v end. refl) st time t ask s order room;
      outbound = reads_same (λ p. p.outbound) (λ p v end. refl) st time t ask s order room;
      status = reads_same (λ p. p.status) (λ p v end. refl) st time t ask s order room;
    }
