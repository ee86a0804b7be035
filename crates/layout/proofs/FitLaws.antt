-- What a packed store asks: every record that a table holds fits, and so does every record of a router's tables.
-- Assumes nothing.
use Prim.Native.Nat.{ℕ, ◌+◌, ◌*◌, ◌/◌, ◌%◌, ◌≤◌, ◌<◌}
use mathlib.Core.Path.{◌≡◌}
use mathlib.Core.List.{List}
use native.Mathlib.Omega.{arith}
use borrow.Author.Tests.{ne_eqb}
use Rattle.records.specs.declared.Groups.{Groups}
use Rattle.records.specs.declared.Peer.{Peer}
use Rattle.layout.specs.View.{topic_raw, TopicFits, PeerFits}

-- what is loaded fits, whatever the cells hold
pub raw_topic_fits :
    (a b s m g t : ℕ) → a < 18446744073709551616 → s ≤ 1 → m ≤ 1 → TopicFits (topic_raw a b s m g t)
unfolding topic_raw
raw_topic_fits a b s m g t h l n =
    record {
      p2 = omega arith;
      p3 = omega arith;
      p4 = omega arith;
      subscribed = l;
      member = n;
      graft = λ e. rw (ne_eqb m 1 e);
      mesh = λ e. rw (ne_eqb m 1 e);
    }

-- the same of a peer's record read by parts, beside what it is
pub peer_fits_too :
    (q : Peer) (b0 b1 b2 b3 b4 b5 x y i m r : ℕ) (g : Groups) (e : List ℕ) →
    x ≡ b0 + 2 * b1 →
    y ≡ b4 + 2 * b5 →
    b0 ≤ 1 →
    b1 ≤ 1 →
    b2 ≤ 1 →
    b3 ≤ 1 →
    b4 ≤ 1 →
    b5 ≤ 1 →
    m < 18446744073709551616 →
    record {
      status = x;
      id = i;
      groups = g;
      outbound = b3;
      explicit = b2;
      version = y;
      p5 = m % 4294967296;
      p7 = m / 4294967296;
      retain = r;
      backoff = e;
    } ≡ q →
    (record {
      status = x;
      id = i;
      groups = g;
      outbound = b3;
      explicit = b2;
      version = y;
      p5 = m % 4294967296;
      p7 = m / 4294967296;
      retain = r;
      backoff = e;
    } ≡ q)
    × PeerFits (record {
      status = x;
      id = i;
      groups = g;
      outbound = b3;
      explicit = b2;
      version = y;
      p5 = m % 4294967296;
      p7 = m / 4294967296;
      retain = r;
      backoff = e;
    })
peer_fits_too q b0 b1 b2 b3 b4 b5 x y i m r g e ex ey l0 l1 l2 l3 l4 l5 hm z = (
  z,
  record {
    status = omega arith;
    outbound = l3;
    explicit = l2;
    version = omega arith;
    p5 = omega arith;
    p7 = omega arith;
  },
)
