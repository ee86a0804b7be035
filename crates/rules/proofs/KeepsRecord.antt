-- "Each call keeps this so", of one record: what each change of a peer's record or of a topic record keeps of test 12's facts.
-- Assumes nothing.
use Prim.Native.Nat.{ℕ, ◌+◌, ◌<◌, ◌≤◌, max}
use native.Mathlib.Omega.{arith}
use mathlib.Core.Bool.{true}
use mathlib.Core.Path.{◌≡◌, refl, ap}
use mathlib.Core.List.{List}
use lib.ListN.{get_or, set}
use lib.IntN.{ℤ, pos, negsuc, nat_abs}
use Rattle.index.proofs.Lists.{set_case}
use Rattle.varint.specs.Codes.{code_of}
use Rattle.records.specs.declared.Groups.{Groups}
use Rattle.records.specs.declared.Peer.{Peer}
use Rattle.records.specs.declared.TopicRecord.{TopicRecord}
use Rattle.records.specs.Records.{no_topic}
use Rattle.validity.specs.Valid.{max_time, max_end, max_retain, max_id, rising_ok}
use Rattle.validity.proofs.ValidLaws.{PeerFacts, TopicFacts}
use Rattle.score.specs.Counters.{with_counters}
use Rattle.effects.specs.Effects.{with_end, with_p5, with_p7, connected_as, retained_to, out_of_mesh, into_mesh, with_subscribed}

-- ---- a topic record
no_member : (r : TopicRecord) → (out_of_mesh r).member ≡ 0
unfolding out_of_mesh
no_member r = refl

module _ (status explicit joined clock c2 c3 : ℕ) (r : TopicRecord) (f : TopicFacts status explicit joined clock c2 c3 r) where
  -- the same record under another status, explicit flag and joined flag
  pub topic_under :
      (status' explicit' joined' : ℕ) →
      (status' ≡ 0 → r ≡ no_topic) →
      (status' ≡ 2 → (r.subscribed ≡ 0) × (r.member ≡ 0)) →
      (r.member ≡ 1 → (status' ≡ 1) × (r.subscribed ≡ 1) × (explicit' ≡ 0) × (joined' ≡ 1)) →
      TopicFacts status' explicit' joined' clock c2 c3 r
  topic_under status' explicit' joined' e t i =
      record {
        p2 = f.p2;
        p3 = f.p3;
        p4 = f.p4;
        p3b = f.p3b;
        subscribed = f.subscribed;
        member = f.member;
        graft = f.graft;
        mesh = f.mesh;
        empty = e;
        outside = f.outside;
        retained = t;
        inside = i;
        times = f.times;
      }

  -- out of the mesh
  pub topic_out : TopicFacts status explicit joined clock c2 c3 (out_of_mesh r)
  unfolding out_of_mesh
  topic_out =
      record {
        p2 = f.p2;
        p3 = f.p3;
        p4 = f.p4;
        p3b = f.p3b;
        subscribed = f.subscribed;
        member = omega arith;
        graft = omega arith;
        mesh = omega arith;
        empty = λ e. ap out_of_mesh (f.empty e);
        outside = λ n. (refl, refl);
        retained = λ e. ((f.retained e).0, refl);
        inside = λ e. absurd (omega arith);
        times = omega arith;
      }

  -- unsubscribed, for a record that is not a member
  pub topic_unsubscribed : r.member ≡ 0 → TopicFacts status explicit joined clock c2 c3 (with_subscribed r 0)
  unfolding with_subscribed
  topic_unsubscribed m =
      record {
        p2 = f.p2;
        p3 = f.p3;
        p4 = f.p4;
        p3b = f.p3b;
        subscribed = omega arith;
        member = f.member;
        graft = f.graft;
        mesh = f.mesh;
        empty = λ e. ap (λ (t : TopicRecord). with_subscribed t 0) (f.empty e);
        outside = f.outside;
        retained = λ e. (refl, m);
        inside = λ e. absurd (omega arith);
        times = f.times;
      }

  module _ (on : status ≡ 1) where
    pub topic_subscribed : TopicFacts status explicit joined clock c2 c3 (with_subscribed r 1)
    unfolding with_subscribed
    topic_subscribed =
        record {
          p2 = f.p2;
          p3 = f.p3;
          p4 = f.p4;
          p3b = f.p3b;
          subscribed = omega arith;
          member = f.member;
          graft = f.graft;
          mesh = f.mesh;
          empty = λ e. absurd (omega arith);
          outside = f.outside;
          retained = λ e. absurd (omega arith);
          inside = λ e. let q = f.inside e in (q.0, refl, q.2, q.3);
          times = f.times;
        }

    -- into the mesh, at the clock
    pub topic_in_lem :
        clock ≤ max_time →
        r.subscribed ≡ 1 →
        explicit ≡ 0 →
        joined ≡ 1 →
        TopicFacts status explicit joined clock c2 c3 (into_mesh r clock)
    unfolding into_mesh
    topic_in_lem h s x j =
        record {
          p2 = f.p2;
          p3 = f.p3;
          p4 = f.p4;
          p3b = f.p3b;
          subscribed = f.subscribed;
          member = omega arith;
          graft = h;
          mesh = omega arith;
          empty = λ e. absurd (omega arith);
          outside = λ n. absurd (n refl);
          retained = λ e. absurd (omega arith);
          inside = λ e. (on, s, x, j);
          times = omega arith;
        }

    -- other counters, and another mesh time of a member
    pub topic_counters :
        (p2 p3 p4 p3b mesh : ℕ) →
        p2 ≤ c2 →
        p3 ≤ c3 →
        p4 ≤ 1000000 →
        p3b ≤ 1000000000000 →
        clock ≤ max_time →
        ((r.member ≡ 1 → ⊥) → mesh ≡ 0) →
        r.graft + mesh ≤ clock →
        TopicFacts status explicit joined clock c2 c3 (with_counters r p2 p3 p4 p3b mesh)
    topic_counters p2 p3 p4 p3b mesh h2 h3 h4 h3b h z t =
        record {
          p2 = h2;
          p3 = h3;
          p4 = h4;
          p3b = h3b;
          subscribed = f.subscribed;
          member = f.member;
          graft = f.graft;
          mesh = omega arith;
          empty = λ e. absurd (omega arith);
          outside = λ n. ((f.outside n).0, z n);
          retained = λ e. absurd (omega arith);
          inside = f.inside;
          times = t;
        }

    -- the mesh time as it stands
    pub topic_counted :
        (p2 p3 p4 p3b : ℕ) →
        p2 ≤ c2 →
        p3 ≤ c3 →
        p4 ≤ 1000000 →
        p3b ≤ 1000000000000 →
        clock ≤ max_time →
        TopicFacts status explicit joined clock c2 c3 (with_counters r p2 p3 p4 p3b r.mesh)
    topic_counted p2 p3 p4 p3b h2 h3 h4 h3b h =
        topic_counters p2 p3 p4 p3b r.mesh h2 h3 h4 h3b h (λ n. (f.outside n).1) f.times

-- out of the mesh and unsubscribed
pub topic_left :
    (status explicit joined clock c2 c3 : ℕ) (r : TopicRecord) →
    TopicFacts status explicit joined clock c2 c3 r →
    TopicFacts status explicit joined clock c2 c3 (with_subscribed (out_of_mesh r) 0)
topic_left status explicit joined clock c2 c3 r f =
    topic_unsubscribed status explicit joined clock c2 c3 (out_of_mesh r) (topic_out status explicit joined clock c2 c3 r f) (no_member r)

-- ---- a peer's record
-- a connected record with another P5, another P7 and other ends
module _ (clock : ℕ) (p : Peer) (f : PeerFacts clock p) (on : p.status ≡ 1) where
  abbrev numbers : ℕ → ℕ → List ℕ → Peer
  numbers p5 p7 backoff =
      record {
        status = p.status;
        id = p.id;
        groups = p.groups;
        outbound = p.outbound;
        explicit = p.explicit;
        version = p.version;
        p5 = p5;
        p7 = p7;
        retain = p.retain;
        backoff = backoff;
      }

  connected_facts :
      (p5 p7 : ℕ) (backoff : List ℕ) →
      p5 ≤ 2000000000 →
      p7 ≤ 1000000 →
      ((t : ℕ) → t < 8 → get_or backoff t 0 ≤ max_end clock) →
      PeerFacts clock (numbers p5 p7 backoff)
  connected_facts p5 p7 backoff h5 h7 h =
      record {
        status = f.status;
        id = f.id;
        groups = f.groups;
        outbound = f.outbound;
        explicit = f.explicit;
        version = f.version;
        p5 = h5;
        p7 = h7;
        retain = f.retain;
        ends = h;
        used = f.used;
        held = f.held;
        empty = λ e. absurd (omega arith);
        over = f.over;
      }

  pub peer_p5 : (n : ℕ) → n ≤ 2000000000 → PeerFacts clock (with_p5 p n)
  unfolding with_p5
  peer_p5 n h = connected_facts n p.p7 p.backoff h f.p7 f.ends

  pub peer_p7 : (n : ℕ) → n ≤ 1000000 → PeerFacts clock (with_p7 p n)
  unfolding with_p7
  peer_p7 n h = connected_facts p.p5 n p.backoff f.p5 h f.ends

  pub peer_end : (t end : ℕ) → t < 8 → end ≤ max_end clock → PeerFacts clock (with_end p t end)
  unfolding with_end
  peer_end t end l h =
      connected_facts p.p5 p.p7 (set p.backoff t (max (get_or p.backoff t 0) end)) f.p5 f.p7 (λ u k.
      set_case
      (λ (e : ℕ). e ≤ max_end clock)
      p.backoff
      t
      u
      (max (get_or p.backoff t 0) end)
      0
      (λ q. omega (arith, f.ends t l))
      (f.ends u k))

  pub peer_retained : (end : ℕ) → end ≤ max_retain clock → PeerFacts clock (retained_to p end)
  unfolding retained_to
  peer_retained end h =
      record {
        status = omega arith;
        id = f.id;
        groups = f.groups;
        outbound = f.outbound;
        explicit = f.explicit;
        version = f.version;
        p5 = f.p5;
        p7 = f.p7;
        retain = h;
        ends = f.ends;
        used = λ n. f.used (λ e. omega arith);
        held = λ n. f.held (λ e. omega arith);
        empty = λ e. absurd (omega arith);
        over = λ n. absurd (n refl);
      }

-- a connect
pub peer_connected :
    (clock : ℕ) (p : Peer) →
    PeerFacts clock p →
    (id : ℕ) (groups : Groups) (flags version : ℕ) →
    1 ≤ id →
    id ≤ max_id →
    rising_ok groups ≡ true →
    1 ≤ groups.first →
    flags ≤ 3 →
    version ≤ 2 →
    PeerFacts clock (connected_as p id groups flags version)
unfolding connected_as
peer_connected clock p f id groups flags version i j g o l v =
    record {
      status = omega arith;
      id = j;
      groups = g;
      outbound = omega arith;
      explicit = omega arith;
      version = v;
      p5 = f.p5;
      p7 = f.p7;
      retain = omega arith;
      ends = f.ends;
      used = λ n. i;
      held = λ n. o;
      empty = λ e. absurd (omega arith);
      over = λ n. refl;
    }

-- the code of a P5 in its range
pub p5_code : (n : ℤ) → nat_abs n ≤ 1000000000 → code_of n ≤ 2000000000
p5_code (pos n) h = omega arith
p5_code (negsuc n) h = omega arith
