-- What the calls do to a record and to the state, in 01's words. Each changes what it names and nothing else.
use Rattle.std.specs.Prelude.{ℕ, ◌+◌, ◌*◌, ◌/◌, ◌%◌, ◌<◌, max, ◌≡◌, Bool, false, cond, not, ◌&&◌, get_or, set, eqb, leb, ltb}
use Rattle.index.specs.Index.{every, count, iter}
use Rattle.records.specs.declared.Groups.{Groups}
use Rattle.records.specs.declared.Peer.{Peer}
use Rattle.records.specs.declared.TopicRecord.{TopicRecord}
use Rattle.varint.specs.Codes.{magnitude}
use Rattle.records.specs.Records.{State, slot_count, topic_count, no_peer, no_topic, place, code_in, joined_in, peer_in, topic_in, set_peer}
use Rattle.records.specs.Records.{set_topic, is_retained}
use Rattle.records.specs.Parameters.{d_hi_at, prune_backoff_at, unsubscribe_backoff_at, retain_at}

-- ---- parameters that the rules use, as magnitudes (their signs are fixed by their limits); seconds unless said
abbrev pub high_degree : State → ℕ
high_degree st = magnitude (code_in st d_hi_at)

abbrev pub prune_backoff : State → ℕ
prune_backoff st = magnitude (code_in st prune_backoff_at)

abbrev pub unsubscribe_backoff : State → ℕ
unsubscribe_backoff st = magnitude (code_in st unsubscribe_backoff_at)

abbrev pub retain_seconds : State → ℕ
retain_seconds st = magnitude (code_in st retain_at)

-- ---- a peer's record with other numbers
-- "the end to the later of old and .."
unfoldable pub with_end : Peer → ℕ → ℕ → Peer
with_end p t end =
    record {
      status = p.status;
      id = p.id;
      groups = p.groups;
      outbound = p.outbound;
      explicit = p.explicit;
      version = p.version;
      p5 = p.p5;
      p7 = p.p7;
      retain = p.retain;
      backoff = set p.backoff t (max (get_or p.backoff t 0) end);
    }

unfoldable pub with_p5 : Peer → ℕ → Peer
with_p5 p code =
    record {
      status = p.status;
      id = p.id;
      groups = p.groups;
      outbound = p.outbound;
      explicit = p.explicit;
      version = p.version;
      p5 = code;
      p7 = p.p7;
      retain = p.retain;
      backoff = p.backoff;
    }

unfoldable pub with_p7 : Peer → ℕ → Peer
with_p7 p n =
    record {
      status = p.status;
      id = p.id;
      groups = p.groups;
      outbound = p.outbound;
      explicit = p.explicit;
      version = p.version;
      p5 = p.p5;
      p7 = n;
      retain = p.retain;
      backoff = p.backoff;
    }

-- flags: 1 outbound + 2 explicit
-- "A retained id resumes its record with the new direction, group, flag and version"; of an empty record, all else is 0
unfoldable pub connected_as : Peer → ℕ → Groups → ℕ → ℕ → Peer
connected_as p id groups flags version =
    record {
      status = 1;
      id = id;
      groups = groups;
      outbound = flags % 2;
      explicit = flags / 2;
      version = version;
      p5 = p.p5;
      p7 = p.p7;
      retain = 0;
      backoff = p.backoff;
    }

-- "keeps counters and backoffs, starts the retain period"
unfoldable pub retained_to : Peer → ℕ → Peer
retained_to p end =
    record {
      status = 2;
      id = p.id;
      groups = p.groups;
      outbound = p.outbound;
      explicit = p.explicit;
      version = p.version;
      p5 = p.p5;
      p7 = p.p7;
      retain = end;
      backoff = p.backoff;
    }

-- ---- a topic record with other numbers
-- out of the mesh: "Graft and mesh time are 0 for a non-member."
unfoldable pub out_of_mesh : TopicRecord → TopicRecord
out_of_mesh t =
    record {
      p2 = t.p2;
      p3 = t.p3;
      p4 = t.p4;
      p3b = t.p3b;
      subscribed = t.subscribed;
      member = 0;
      graft = 0;
      mesh = 0;
    }

-- into the mesh: mesh time "is 0 at a graft"
unfoldable pub into_mesh : TopicRecord → ℕ → TopicRecord
into_mesh t time =
    record {
      p2 = t.p2;
      p3 = t.p3;
      p4 = t.p4;
      p3b = t.p3b;
      subscribed = t.subscribed;
      member = 1;
      graft = time;
      mesh = 0;
    }

unfoldable pub with_subscribed : TopicRecord → ℕ → TopicRecord
with_subscribed t b =
    record {
      p2 = t.p2;
      p3 = t.p3;
      p4 = t.p4;
      p3b = t.p3b;
      subscribed = b;
      member = t.member;
      graft = t.graft;
      mesh = t.mesh;
    }

-- ---- one record of the state
abbrev pub on_peer : State → ℕ → (Peer → Peer) → State
on_peer st s f = set_peer st s (f (peer_in st s))

abbrev pub on_topic : State → ℕ → ℕ → (TopicRecord → TopicRecord) → State
on_topic st s t f = set_topic st (place s t) (f (topic_in st (place s t)))

-- what the rules ask of a slot in a topic
abbrev pub is_joined : State → ℕ → Bool
is_joined st t = eqb (joined_in st t) 1

unfoldable pub is_member : State → ℕ → ℕ → Bool
is_member st t s = eqb (topic_in st (place s t)).member 1

abbrev pub is_subscribed : State → ℕ → ℕ → Bool
is_subscribed st t s = eqb (topic_in st (place s t)).subscribed 1

-- how many members a topic's mesh has
unfoldable pub mesh_size : State → ℕ → ℕ
mesh_size st t = count slot_count (is_member st t)

-- "backoff running (now < end)"
abbrev pub backoff_runs : Peer → ℕ → ℕ → Bool
backoff_runs p t time = ltb time (get_or p.backoff t 0)

-- out of the mesh of topic t, with a backoff that ends at `end` or later
unfoldable pub pruned : State → ℕ → ℕ → ℕ → State
pruned st s t end = on_peer (on_topic st s t out_of_mesh) s (λ p. with_end p t end)

-- when a backoff of so many seconds ends
abbrev pub end_after : ℕ → ℕ → ℕ
end_after time seconds = time + seconds * 1000

-- ---- disconnect: "leaves every mesh, loses subscriptions"
unfoldable pub left_topic : State → ℕ → ℕ → State
left_topic st s t = on_topic st s t (λ r. with_subscribed (out_of_mesh r) 0)

unfoldable pub departed : State → ℕ → ℕ → State
departed st s time =
    on_peer (iter topic_count (λ t u. left_topic u s t) st) s (λ p. retained_to p (end_after time (retain_seconds st)))

-- ---- connect: "First empty every reclaimable record: retained, retain period over (now ≥ its end), all eight backoffs over."
unfoldable pub reclaimable : Peer → ℕ → Bool
reclaimable p time = is_retained p && leb p.retain time && every topic_count (λ t. not (backoff_runs p t time))

unfoldable pub emptied : State → ℕ → State
emptied st s = set_peer (iter topic_count (λ t u. set_topic u (place s t) no_topic) st) s no_peer

unfoldable pub reclaim_slot : ℕ → ℕ → State → State
reclaim_slot time s st = cond (reclaimable (peer_in st s) time) (emptied st s) st

unfoldable pub reclaimed : State → ℕ → State
reclaimed st time = iter slot_count (reclaim_slot time) st

-- no record may be emptied
pub record NoneReclaimable (st : State) (time : ℕ) : Type 0 where
  pub each : (s : ℕ) → s < slot_count → reclaimable (peer_in st s) time ≡ false
