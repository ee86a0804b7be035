-- 02, order 11, worked: what a connect takes as groups, and P6 of hubs on two cables.
use Rattle.std.specs.Prelude.{ℕ, ◌≡◌, true, false, List, [], ◌∷◌, negsuc}
use Rattle.records.specs.declared.Peer.{Peer}
use Rattle.records.specs.Records.{State}
use Rattle.score.specs.Score.{sharing, why_in}
use Rattle.rules.specs.Calls.{groups_ok, groups_of}

-- a peer with a status (1 connected, 2 retained) and groups
unfoldable pub cabled : ℕ → ℕ → List ℕ → Peer
cabled status id groups =
    record {
      status = status;
      id = id;
      groups = groups_of groups;
      outbound = 0;
      explicit = 0;
      version = 1;
      p5 = 0;
      p7 = 0;
      retain = 0;
      backoff = 0 ∷ 0 ∷ 0 ∷ 0 ∷ 0 ∷ 0 ∷ 0 ∷ 0 ∷ [];
    }

-- four connected peers and a retained one, at w6 -1 and a P6 threshold of 1 (codes 1 and 2, the numbers 14 and 15)
unfoldable pub cables : State
cables =
    record {
      clock = 0;
      joined = [];
      codes = 0 ∷ 0 ∷ 0 ∷ 0 ∷ 0 ∷ 0 ∷ 0 ∷ 0 ∷ 0 ∷ 0 ∷ 0 ∷ 0 ∷ 0 ∷ 0 ∷ 1 ∷ 2 ∷ [];
      setup = record { edition = 1 };
      peers =
          cabled 1 1 (5 ∷ 9 ∷ [])
          ∷ cabled 1 2 (5 ∷ [])
          ∷ cabled 1 3 (9 ∷ [])
          ∷ cabled 1 4 (9 ∷ 12 ∷ [])
          ∷ cabled 2 5 (5 ∷ 9 ∷ [])
          ∷ [];
      topics = [];
    }

pub record Cables : Type 0 where
  -- "one to four different address groups [..], lowest first; repeated or unsorted groups, or none, give 2"; a group has 32 bits
  pub two : groups_ok (5 ∷ 9 ∷ []) ≡ true
  pub four : groups_ok (0 ∷ 1 ∷ 2 ∷ 4294967295 ∷ []) ≡ true
  pub none : groups_ok [] ≡ false
  pub five : groups_ok (1 ∷ 2 ∷ 3 ∷ 4 ∷ 5 ∷ []) ≡ false
  pub repeated : groups_ok (5 ∷ 5 ∷ []) ≡ false
  pub unsorted : groups_ok (9 ∷ 5 ∷ []) ≡ false
  pub wide : groups_ok (4294967296 ∷ []) ≡ false
  -- a record holds each group as the group + 1
  pub held : groups_of (5 ∷ 9 ∷ []) ≡ record { first = 6; second = 10; third = 0; fourth = 0 }
  -- "counting connected peers that hold the group": each once, and the retained one not at all
  pub fives : sharing cables 6 ≡ 2
  pub nines : sharing cables 10 ≡ 3
  pub twelves : sharing cables 13 ≡ 1
  -- "P6 sums, over the peer's groups, the squared surplus": 1² + 2², and not (1 + 2)²
  pub both : (why_in cables 0).p6 ≡ negsuc 4999999999
  -- of one group it is 01's
  pub first : (why_in cables 1).p6 ≡ negsuc 999999999
  pub second : (why_in cables 2).p6 ≡ negsuc 3999999999
  -- a second group that nobody else holds adds nothing
  pub alone : (why_in cables 3).p6 ≡ negsuc 3999999999
