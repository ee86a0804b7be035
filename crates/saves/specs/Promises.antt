-- What save and load promise (02, order 8). Proved in proofs/Promised.antt.
use Rattle.std.specs.Prelude.{Some}
use Rattle.std.specs.Prelude.{ℕ, ◌-◌, ◌<◌, ◌≤◌, ◌≡◌, Bool, true, false, List, map, ◌⊎◌, length, get_or}
use Rattle.varint.specs.Groups.{read_at}
use Rattle.varint.specs.Codes.{code_of}
use Rattle.params.specs.declared.Params.{Params}
use Rattle.records.specs.Records.{State, slot_count, topic_count, param_count, place, no_peer, joined_in, peer_in, topic_in}
use Rattle.layout.specs.View.{Sized}
use Rattle.validity.specs.Valid.{max_time, valid}
use Rattle.lookup.specs.Fresh.{setup_of}
use Rattle.effects.specs.Effects.{reclaimable}
use Rattle.saves.specs.Save.{edition, as_left, is_saved, order, body_of, save_of}
use Rattle.saves.specs.Load.{end_from, loaded_state, loaded, load_of}

-- the parameters that a router was made with
pub record Sheet (st : State) (p : Params) : Type 0 where
  pub size : length p.numbers ≡ param_count
  pub codes : st.codes ≡ map code_of p.numbers
  pub setup : st.setup ≡ setup_of p

-- "Every save loads with its sheet", at any clock, and gives its records
abbrev pub EverySaveLoads : Type 0
EverySaveLoads =
    (st : State) (p : Params) (time clock : ℕ) →
    valid st ≡ true →
    Sheet st p →
    st.clock ≤ time →
    clock ≤ max_time →
    load_of true p clock (save_of st time) ≡ loaded (loaded_state p clock (length (order st time)) (body_of st time))

-- what slot k of a loaded router remembers of slot s of the saved one: the record is retained, with its id, P5, P7 and counters, and with
-- as much of its times left at the load's clock as there was at the save's time
pub record Remembers (st : State) (time s : ℕ) (u : State) (clock k : ℕ) : Type 0 where
  pub status : (peer_in u k).status ≡ 2
  pub id : (peer_in u k).id ≡ (peer_in st s).id
  pub p5 : (peer_in u k).p5 ≡ (peer_in st s).p5
  pub p7 : (peer_in u k).p7 ≡ (peer_in st s).p7
  pub retain : (peer_in u k).retain - clock ≡ (as_left st time (peer_in st s)).retain - time
  pub ends : (t : ℕ) → t < topic_count → get_or (peer_in u k).backoff t 0 ≡ end_from clock (get_or (peer_in st s).backoff t 0 - time)
  pub p2 : (t : ℕ) → t < topic_count → (topic_in u (place k t)).p2 ≡ (topic_in st (place s t)).p2
  pub p3 : (t : ℕ) → t < topic_count → (topic_in u (place k t)).p3 ≡ (topic_in st (place s t)).p3
  pub p3b : (t : ℕ) → t < topic_count → (topic_in u (place k t)).p3b ≡ (topic_in st (place s t)).p3b
  pub p4 : (t : ℕ) → t < topic_count → (topic_in u (place k t)).p4 ≡ (topic_in st (place s t)).p4

-- what a load of a save holds: every saved record, and no other
pub record Remembered (st : State) (time : ℕ) (u : State) (clock : ℕ) : Type 0 where
  pub all : (s : ℕ) → s < slot_count → is_saved st time s ≡ true → (k : ℕ) × ((k < slot_count) × Remembers st time s u clock k)
  pub only : (k : ℕ) → k < slot_count →
      (peer_in u k ≡ no_peer) ⊎ ((s : ℕ) × ((s < slot_count) × ((is_saved st time s ≡ true) × Remembers st time s u clock k)))

abbrev pub SavesRemember : Type 0
SavesRemember =
    (st : State) (p : Params) (time clock : ℕ) (u : State) →
    valid st ≡ true →
    Sheet st p →
    st.clock ≤ time →
    clock ≤ max_time →
    load_of true p clock (save_of st time) ≡ loaded u →
    Remembered st time u clock

-- "Saving what was loaded, at the load's time, gives the same bytes if no record was reclaimable then." "Edition 1 saves [..] are saved as
-- edition 2" (order 9), so this is said of bytes of the present edition
abbrev pub SavesBack : Type 0
SavesBack =
    (fine : Bool) (p : Params) (clock : ℕ) (s : List ℕ) (st : State) (next : ℕ) →
    length p.numbers ≡ param_count →
    ((k : ℕ) → get_or s k 0 < 256) →
    read_at 18446744073709551615 s 0 ≡ Some (edition, next) →
    load_of fine p clock s ≡ loaded st →
    ((k : ℕ) → k < slot_count → reclaimable (peer_in st k) clock ≡ false) →
    save_of st clock ≡ s

-- a loaded router: "no topic joined", nobody connected
pub record FromLoad (p : Params) (clock : ℕ) (st : State) : Type 0 where
  pub size : Sized st
  pub router : valid st ≡ true
  pub starts : st.clock ≡ clock
  pub sheet : Sheet st p
  pub joined : (t : ℕ) → joined_in st t ≡ 0
  pub off : (s : ℕ) → s < slot_count → (peer_in st s).status ≡ 1 → ⊥

abbrev pub LoadsRouter : Type 0
LoadsRouter =
    (fine : Bool) (p : Params) (clock : ℕ) (s : List ℕ) (st : State) →
    length p.numbers ≡ param_count →
    ((k : ℕ) → get_or s k 0 < 256) →
    load_of fine p clock s ≡ loaded st →
    FromLoad p clock st
