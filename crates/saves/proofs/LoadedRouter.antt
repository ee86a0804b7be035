-- A loaded router, from the load alone: it is a router's with the sheet's numbers, no topic is joined and nobody
-- is connected.
-- Assumes nothing.
use Prim.Native.Nat.{ℕ, ◌<◌}
use native.Mathlib.Omega.{arith}
use mathlib.Core.Path.{◌≡◌, refl}
use mathlib.Core.Bool.{Bool}
use mathlib.Core.List.{List}
use Rattle.params.specs.declared.Params.{Params}
use lib.ListN.{length, get_or}
use Rattle.records.specs.declared.Peer.{Peer}
use Rattle.records.specs.Records.{State, slot_count, param_count, peer_in}
use Rattle.saves.specs.Load.{loaded_peer, loaded_state, loaded, load_of}
use Rattle.saves.specs.Promises.{Sheet, FromLoad}
use Rattle.saves.proofs.LoadedState.{loaded_joined, loaded_sized, loaded_valid, slot_case}
use Rattle.saves.proofs.Opened.{Opened, opened_is}

module _ (params : Params) (clock : ℕ) (s : List ℕ) (size : length params.numbers ≡ param_count)
    (o : (u : State) × Opened params clock s u) where
  abbrev q : Opened params clock s o.0
  q = o.1

  abbrev st : State
  st = loaded_state params clock q.n q.numbers

  off : (k : ℕ) → k < slot_count → (peer_in st k).status ≡ 1 → ⊥
  unfolding loaded_peer
  off k h =
      slot_case params size q.ok clock q.early q.n q.few q.numbers q.pass (λ (p : Peer). p.status ≡ 1 → ⊥) k h
      (λ b e. omega arith)
      (λ b e. omega arith)

  starts : st.clock ≡ clock
  unfolding loaded_state
  starts = refl

  sheet : Sheet st params
  unfolding loaded_state
  sheet = record { size = size; codes = refl; setup = refl }

  there : FromLoad params clock st
  there =
      record {
        size = loaded_sized params clock q.n q.numbers size;
        router = loaded_valid params size q.ok clock q.early q.n q.few q.numbers q.pass;
        starts = starts;
        sheet = sheet;
        joined = λ t. loaded_joined params clock q.n q.numbers t;
        off = off;
      }

pub loaded_router :
    (fine : Bool) (params : Params) (clock : ℕ) (s : List ℕ) (st : State) →
    length params.numbers ≡ param_count →
    ((k : ℕ) → get_or s k 0 < 256) →
    load_of fine params clock s ≡ loaded st →
    FromLoad params clock st
loaded_router fine params clock s st size byte e =
    let o = opened_is params clock s byte st fine e in
    rw o.state (there params clock s size (st, o))
