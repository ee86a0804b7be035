-- Worked examples of save and load.
use Rattle.std.specs.Prelude.{None}
use Rattle.std.specs.Prelude.{ℕ, ◌≡◌, false, cond, List, [], ◌∷◌, ◌++◌, map, eqb, replicate}
use Rattle.varint.specs.Codes.{code_of}
use Rattle.params.specs.declared.Params.{Params}
use Rattle.params.specs.Ordinary.{ordinary_numbers, ordinary_params}
use Rattle.records.specs.declared.Peer.{Peer}
use Rattle.records.specs.Records.{State, slot_count, topic_count, no_peer, no_topic}
use Rattle.layout.specs.Rows.{tab}
use Rattle.layout.specs.View.{place_count}
use Rattle.saves.specs.Save.{save_of}
use Rattle.saves.specs.Load.{Loading, loaded, out_of_range, broken, bad, loaded_state, sheeted, load_of}

-- a hub by its status, id, P5 (as a code), P7, retain end and backoff ends
abbrev hub : (status id p5 p7 retain : ℕ) → List ℕ → Peer
hub status id p5 p7 retain backoff =
    record {
      status = status;
      id = id;
      groups = record { first = 10; second = 0; third = 0; fourth = 0 };
      outbound = 1;
      explicit = 0;
      version = 1;
      p5 = p5;
      p7 = p7;
      retain = retain;
      backoff = backoff;
    }

-- slot 0: connected, id 7, P5 -2; slot 1: retained, id 3, until 6000, with a backoff in topic 0 until 5500; slot 2: reclaimable, id 1
unfoldable pub peers : ℕ → Peer
peers s =
    cond (eqb s 0) (hub 1 7 3 0 0 (replicate 8 0))
    (cond (eqb s 1) (hub 2 3 0 1000 6000 (5500 ∷ replicate 7 0))
    (cond (eqb s 2) (hub 2 1 0 1000 5000 (replicate 8 5000)) no_peer))

unfoldable pub evening : State
evening =
    record {
      clock = 4000;
      joined = replicate topic_count 0;
      codes = map code_of ordinary_numbers;
      setup = record { edition = 1 };
      peers = tab slot_count peers;
      topics = replicate place_count no_topic;
    }

-- at 5000: 1000 ms and 500 ms are left of id 3, and an hour (the ordinary retain) of id 7; id 1 is not written
unfoldable pub written : List ℕ
written =
    2 ∷ 2
    ∷ 3 ∷ 0xe8 ∷ 0x07 ∷ 0 ∷ 0xe8 ∷ 0x07
    ∷ 0 ∷ 0 ∷ 0 ∷ 0 ∷ 0xf4 ∷ 0x03 ∷ replicate 35 0
    ++ 7 ∷ 0x80 ∷ 0xdd ∷ 0xdb ∷ 0x01 ∷ 3 ∷ 0 ∷ replicate 40 0

-- what a load reads in it behind the count
abbrev numbers : List ℕ
numbers = 3 ∷ 1000 ∷ 0 ∷ 1000 ∷ 0 ∷ 0 ∷ 0 ∷ 0 ∷ 500 ∷ replicate 35 0 ++ 7 ∷ 3600000 ∷ 3 ∷ replicate 41 0

-- a load behind the test of the sheet
abbrev pub behind : Params → ℕ → List ℕ → Loading
behind p clock s = sheeted p clock s None

pub record Examples : Type 0 where
  pub saves : save_of evening 5000 ≡ written
  -- nothing but an edition and a count
  pub none : behind ordinary_params 5 (2 ∷ 0 ∷ []) ≡ loaded (loaded_state ordinary_params 5 0 [])
  pub older : behind ordinary_params 5 (1 ∷ 0 ∷ []) ≡ loaded (loaded_state ordinary_params 5 0 [])
  pub empty : behind ordinary_params 5 [] ≡ bad 0
  pub cut : behind ordinary_params 5 (2 ∷ []) ≡ bad 1
  pub left_over : behind ordinary_params 5 (2 ∷ 0 ∷ 0 ∷ []) ≡ bad 2
  pub edition : behind ordinary_params 5 (3 ∷ 0x80 ∷ []) ≡ broken 0
  -- 257 records, or 65 of edition 1
  pub count : behind ordinary_params 5 (2 ∷ 0x81 ∷ 2 ∷ []) ≡ broken 1
  pub older_count : behind ordinary_params 5 (1 ∷ 65 ∷ []) ≡ broken 1
  pub short : behind ordinary_params 5 (2 ∷ 0x80 ∷ 2 ∷ []) ≡ bad 3
  pub older_short : behind ordinary_params 5 (1 ∷ 64 ∷ []) ≡ bad 2
  -- an id of 0 is 9 at its place, but 10 comes first
  pub id : behind ordinary_params 5 (2 ∷ 1 ∷ replicate 44 0) ≡ broken 2
  pub first : behind ordinary_params 5 (2 ∷ 1 ∷ replicate 44 0 ++ 0 ∷ []) ≡ bad 46
  -- an id that does not ascend
  pub twice : behind ordinary_params 5 (2 ∷ 2 ∷ 5 ∷ replicate 43 0 ++ 5 ∷ replicate 43 0) ≡ broken 46
  -- a backoff of 3,600,001
  pub backoff : behind ordinary_params 5 (2 ∷ 1 ∷ 5 ∷ replicate 7 0 ++ 0x81 ∷ 0xdd ∷ 0xdb ∷ 0x01 ∷ replicate 35 0) ≡ broken 10
  pub set_up : load_of false ordinary_params 5 [] ≡ out_of_range
  pub clock : behind ordinary_params 1099511627777 [] ≡ out_of_range
  pub back : save_of (loaded_state ordinary_params 77 2 numbers) 77 ≡ written
