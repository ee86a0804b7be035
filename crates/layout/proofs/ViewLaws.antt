-- What a table's state depends on, and what one store changes: one record, and no other region.
-- Assumes nothing.
use Prim.Native.Nat.{ℕ, ◌+◌, ◌*◌, ◌-◌, ◌/◌, ◌%◌, ◌≤◌, ◌<◌}
use mathlib.Core.Path.{◌≡◌, refl, sym, ◌∙◌}
use mathlib.Core.Logic.{◌≢◌}
use mathlib.Core.Bool.{cond}
use mathlib.Core.List.{List}
use native.Mathlib.Omega.{arith}
use lib.ListN.{length, get_or, set}
use lib.Seq.{get_or-set_same, get_or-set_other, set-get_or}
use lib.Dec.{ltb}
use borrow.Author.Tests.{lt-ltb, le-ltb}
use Rattle.index.proofs.Flags.{by_order}
use Rattle.records.specs.declared.Setup.{Setup}
use Rattle.records.specs.declared.Peer.{Peer}
use Rattle.records.specs.declared.TopicRecord.{TopicRecord}
use Rattle.records.specs.Records.{no_peer, no_topic, joined_in, code_in, peer_in, topic_in, set_clock, set_joined, set_peer, set_topic}
use Rattle.layout.proofs.RowLaws.{get_or_tab, tab_same, tab_set}
use Rattle.records.specs.Records.{slot_count, topic_count, param_count}
use Rattle.layout.specs.View.{place_count, clock_at, joined_at, used_at, setup_at, setup_of, params_at, peers_at, column_count, column_of}
use Rattle.layout.specs.View.{ends_at, topics_at, p3b_at, cell_count, bit_at, used_of, keep, live_at, counter_of, graft_of, mesh_of}
use Rattle.layout.specs.View.{subscribed_word, member_word, topic_raw, topic_at, peer_raw, ends_of, peer_at, param_place, code_at, table}
use Rattle.layout.specs.View.{state_of, set_setup}
use Rattle.layout.proofs.BitLaws.{bit_cong}

-- ---- tables by index

pub table_same : {A : Type 0} (n : ℕ) (f g : ℕ → A) → ((k : ℕ) → k < n → f k ≡ g k) → table n f ≡ table n g
unfolding table
table_same n f g h = tab_same n f g h

pub table_set : {A : Type 0} (n : ℕ) (f g : ℕ → A) (i : ℕ) (v : A)
    → g i ≡ v → ((k : ℕ) → k < n → k ≢ i → g k ≡ f k) → table n g ≡ set (table n f) i v
unfolding table
table_set n f g i v e h = tab_set n f g i v e h

pub get_or_table : {A : Type 0} (n : ℕ) (f : ℕ → A) (i : ℕ) (d : A) → i < n → get_or (table n f) i d ≡ f i
unfolding table
get_or_table n f i d h = get_or_tab n f i d h

-- ---- loads

pub clock_load : (c : List ℕ) → get_or c 0 0 ≡ (state_of c).clock
unfolding state_of
clock_load c = refl

pub joined_load : (c : List ℕ) (t : ℕ) → t < 8 → get_or c (joined_at + t) 0 ≡ joined_in (state_of c) t
unfolding state_of joined_in
joined_load c t h = sym (get_or_table 8 (λ t. get_or c (joined_at + t) 0) t 0 h)

pub code_load : (c : List ℕ) (i : ℕ) → i < param_count → code_at c i ≡ code_in (state_of c) i
unfolding state_of code_in
code_load c i h = sym (get_or_table param_count (code_at c) i 0 h)

pub peer_load : (c : List ℕ) (s : ℕ) → s < slot_count → peer_at c s ≡ peer_in (state_of c) s
unfolding state_of peer_in
peer_load c s h = sym (get_or_table slot_count (peer_at c) s no_peer h)

pub topic_load : (c : List ℕ) (k : ℕ) → k < place_count → topic_at c k ≡ topic_in (state_of c) k
unfolding state_of topic_in
topic_load c k h = sym (get_or_table place_count (topic_at c) k no_topic h)

-- ---- what each part depends on

pub live_cong : (c d : List ℕ) (s at : ℕ) → used_of d ≡ used_of c → get_or d at 0 ≡ get_or c at 0 → live_at d s at ≡ live_at c s at
unfolding live_at
live_cong c d s at u e = λ i. keep (ltb s (u i)) (e i)

pub live_in : (c : List ℕ) (s at : ℕ) → s < used_of c → live_at c s at ≡ get_or c at 0
unfolding live_at
live_in c s at h = rw (lt-ltb s (used_of c) h)

pub live_out : (c : List ℕ) (s at : ℕ) → used_of c ≤ s → live_at c s at ≡ 0
unfolding live_at
live_out c s at h = rw (le-ltb s (used_of c) h)

pub place_low : (i : ℕ) → i < param_count → param_place i < param_count
unfolding param_place
place_low i h =
    by_order (cond (ltb i 19) i (19 + (i - 19) % 16 * 8 + (i - 19) / 16) < param_count) i 19
    (λ l. rw (lt-ltb i 19 l) h)
    (λ l. rw (le-ltb i 19 l) (omega arith))

pub code_cong : (c d : List ℕ) (i : ℕ) → get_or d (params_at + param_place i) 0 ≡ get_or c (params_at + param_place i) 0 → code_at d i ≡ code_at c i
unfolding code_at
code_cong c d i e = rw e

pub setup_cong : (c d : List ℕ) → get_or d setup_at 0 ≡ get_or c setup_at 0 → setup_of d ≡ setup_of c
unfolding setup_of
setup_cong c d e = λ i. record { edition = e i }

-- the parts of a topic record
pub topic_parts :
    (c d : List ℕ) (k : ℕ) →
    used_of d ≡ used_of c →
    get_or d (counter_of k) 0 ≡ get_or c (counter_of k) 0 →
    get_or d (p3b_at + k) 0 ≡ get_or c (p3b_at + k) 0 →
    bit_at d (subscribed_word k) (k / 8) ≡ bit_at c (subscribed_word k) (k / 8) →
    bit_at d (member_word k) (k / 8) ≡ bit_at c (member_word k) (k / 8) →
    get_or d (graft_of k) 0 ≡ get_or c (graft_of k) 0 →
    get_or d (mesh_of k) 0 ≡ get_or c (mesh_of k) 0 →
    topic_at d k ≡ topic_at c k
unfolding topic_at
topic_parts c d k u a b s m g h =
    let x = live_cong c d (k / 8) (counter_of k) u a in
    let y = live_cong c d (k / 8) (p3b_at + k) u b in
    λ i. topic_raw (x i) (y i) (s i) (m i) (g i) (h i)

-- a topic record depends on the mark and on cells from topics_at on
pub topic_cong :
    (c d : List ℕ) (k : ℕ) →
    k < place_count →
    used_of d ≡ used_of c →
    ((x : ℕ) → topics_at ≤ x → get_or d x 0 ≡ get_or c x 0) →
    topic_at d k ≡ topic_at c k
topic_cong c d k h u e =
    topic_parts c d k u (e (counter_of k) (omega arith)) (e (p3b_at + k) (omega arith))
    (bit_cong c d (subscribed_word k) (k / 8) (e (subscribed_word k + k / 8 / 64) (omega arith)))
    (bit_cong c d (member_word k) (k / 8) (e (member_word k + k / 8 / 64) (omega arith)))
    (e (graft_of k) (omega arith))
    (e (mesh_of k) (omega arith))

pub ends_cong :
    (c d : List ℕ) (s : ℕ) →
    used_of d ≡ used_of c →
    ((t : ℕ) → t < 8 → get_or d (ends_at + s * 8 + t) 0 ≡ get_or c (ends_at + s * 8 + t) 0) →
    ends_of d s ≡ ends_of c s
unfolding ends_of
ends_cong c d s u e =
    tab_same 8 (λ t. live_at d s (ends_at + s * 8 + t)) (λ t. live_at c s (ends_at + s * 8 + t))
    (λ t h. live_cong c d s (ends_at + s * 8 + t) u (e t h))

pub peer_parts :
    (c d : List ℕ) (s : ℕ) →
    used_of d ≡ used_of c →
    ((p : ℕ) → p < 6 → bit_at d (peers_at + p * 4) s ≡ bit_at c (peers_at + p * 4) s) →
    ((j : ℕ) → j < column_count → get_or d (column_of j s) 0 ≡ get_or c (column_of j s) 0) →
    ((t : ℕ) → t < 8 → get_or d (ends_at + s * 8 + t) 0 ≡ get_or c (ends_at + s * 8 + t) 0) →
    peer_at d s ≡ peer_at c s
unfolding peer_at
peer_parts c d s u b cell ends =
    let v : (j : ℕ) → j < column_count → live_at d s (column_of j s) ≡ live_at c s (column_of j s) =
    λ j l. live_cong c d s (column_of j s) u (cell j l) in
    let e = ends_cong c d s u ends in
    λ i. peer_raw (b 0 (omega arith) i) (b 1 (omega arith) i) (b 2 (omega arith) i) (b 3 (omega arith) i) (b 4 (omega arith) i)
    (b 5 (omega arith) i) (v 0 (omega arith) i) (v 1 (omega arith) i) (v 2 (omega arith) i) (v 3 (omega arith) i)
    (v 4 (omega arith) i) (v 5 (omega arith) i) (v 6 (omega arith) i) (e i)

pub peer_cong :
    (c d : List ℕ) (s : ℕ) →
    s < slot_count →
    used_of d ≡ used_of c →
    ((x : ℕ) → peers_at ≤ x → x < topics_at → get_or d x 0 ≡ get_or c x 0) →
    peer_at d s ≡ peer_at c s
peer_cong c d s h u e =
    peer_parts c d s u
    (λ p l. bit_cong c d (peers_at + p * 4) s (e (peers_at + p * 4 + s / 64) (omega arith) (omega arith)))
    (λ j l. e (column_of j s) (omega arith) (omega arith))
    (λ t l. e (ends_at + s * 8 + t) (omega arith) (omega arith))

-- ---- THE LAWS OF A STORE, by region: what lies outside stands, what is stored is one entry

module _ (c d : List ℕ) where
  -- only cells of the head and the parameters change, and the mark does not
  pub head_same :
      used_of d ≡ used_of c →
      ((x : ℕ) → peers_at ≤ x → get_or d x 0 ≡ get_or c x 0) →
      ((state_of d).peers ≡ (state_of c).peers) × ((state_of d).topics ≡ (state_of c).topics)
  unfolding state_of
  head_same u e = (
    table_same slot_count (peer_at d) (peer_at c) (λ s h. peer_cong c d s h u (λ x l m. e x l)),
    table_same place_count (topic_at d) (topic_at c) (λ k h. topic_cong c d k h u (λ x l. e x (omega arith))),
  )

  pub front_same :
      ((x : ℕ) → x < peers_at → get_or d x 0 ≡ get_or c x 0) →
      ((state_of d).clock ≡ (state_of c).clock) × ((state_of d).joined ≡ (state_of c).joined) × ((state_of d).codes ≡ (state_of c).codes)
      × ((state_of d).setup ≡ (state_of c).setup)
  unfolding state_of
  front_same e = (
    e 0 (omega arith),
    table_same 8 (λ t. get_or d (joined_at + t) 0) (λ t. get_or c (joined_at + t) 0) (λ t h. e (joined_at + t) (omega arith)),
    table_same param_count (code_at d) (code_at c)
        (λ i h. code_cong c d i (e (params_at + param_place i) (let l = place_low i h in omega arith))),
    setup_cong c d (e setup_at (omega arith)),
  )

-- one place's cells change, and nothing else
pub record TopicOnly (c d : List ℕ) (k : ℕ) : Type 0 where
  pub len : length d ≡ length c
  pub low : (x : ℕ) → x < topics_at → get_or d x 0 ≡ get_or c x 0
  pub others : (j : ℕ) → j < place_count → j ≢ k → topic_at d j ≡ topic_at c j

pub topic_then : (a b c : List ℕ) (k : ℕ) → TopicOnly a b k → TopicOnly b c k → TopicOnly a c k
topic_then a b c k p q =
    record {
      len = q.len ∙ p.len;
      low = λ x h. q.low x h ∙ p.low x h;
      others = λ j h n. q.others j h n ∙ p.others j h n;
    }

pub topic_store : (c d : List ℕ) (k : ℕ) (t : TopicRecord) → TopicOnly c d k → topic_at d k ≡ t → state_of d ≡ set_topic (state_of c) k t
unfolding set_topic state_of
topic_store c d k t o e =
    let f = front_same c d (λ x h. o.low x (omega arith)) in
    let p : table slot_count (peer_at d) ≡ table slot_count (peer_at c) =
    table_same slot_count (peer_at d) (peer_at c) (λ s h. peer_cong c d s h (o.low used_at (omega arith)) (λ x l m. o.low x m)) in
    let q : table place_count (topic_at d) ≡ set (table place_count (topic_at c)) k t =
    table_set place_count (topic_at c) (topic_at d) k t e o.others in
    λ i. record { clock = f.0 i; joined = f.1 i; codes = f.2 i; setup = f.3 i; peers = p i; topics = q i }

-- one slot's cells change, and nothing else
pub record PeerOnly (c d : List ℕ) (s : ℕ) : Type 0 where
  pub len : length d ≡ length c
  pub low : (x : ℕ) → x < peers_at → get_or d x 0 ≡ get_or c x 0
  pub high : (x : ℕ) → topics_at ≤ x → get_or d x 0 ≡ get_or c x 0
  pub others : (j : ℕ) → j < slot_count → j ≢ s → peer_at d j ≡ peer_at c j

pub peer_then : (a b c : List ℕ) (s : ℕ) → PeerOnly a b s → PeerOnly b c s → PeerOnly a c s
peer_then a b c s p q =
    record {
      len = q.len ∙ p.len;
      low = λ x h. q.low x h ∙ p.low x h;
      high = λ x h. q.high x h ∙ p.high x h;
      others = λ j h n. q.others j h n ∙ p.others j h n;
    }

pub peer_store : (c d : List ℕ) (s : ℕ) (p : Peer) → PeerOnly c d s → peer_at d s ≡ p → state_of d ≡ set_peer (state_of c) s p
unfolding set_peer state_of
peer_store c d s p o e =
    let f = front_same c d o.low in
    let q : table slot_count (peer_at d) ≡ set (table slot_count (peer_at c)) s p =
    table_set slot_count (peer_at c) (peer_at d) s p e o.others in
    let t : table place_count (topic_at d) ≡ table place_count (topic_at c) =
    table_same place_count (topic_at d) (topic_at c) (λ k h. topic_cong c d k h (o.low used_at (omega arith)) o.high) in
    λ i. record { clock = f.0 i; joined = f.1 i; codes = f.2 i; setup = f.3 i; peers = q i; topics = t i }

-- the clock, a joined flag
pub clock_store : (c : List ℕ) (n : ℕ) → length c ≡ cell_count → state_of (set c 0 n) ≡ set_clock (state_of c) n
unfolding set_clock state_of
clock_store c n z =
    let h = head_same c (set c 0 n) (get_or-set_other c 0 used_at n 0 (λ e. omega arith))
    (λ x l. get_or-set_other c 0 x n 0 (λ e. omega arith)) in
    let a : get_or (set c 0 n) 0 0 ≡ n = get_or-set_same c 0 n 0 (omega arith) in
    let j : table 8 (λ t. get_or (set c 0 n) (joined_at + t) 0) ≡ table 8 (λ t. get_or c (joined_at + t) 0) =
    table_same 8 (λ t. get_or (set c 0 n) (joined_at + t) 0) (λ t. get_or c (joined_at + t) 0)
    (λ t l. get_or-set_other c 0 (joined_at + t) n 0 (λ e. omega arith)) in
    let k : table param_count (code_at (set c 0 n)) ≡ table param_count (code_at c) =
    table_same param_count (code_at (set c 0 n)) (code_at c)
    (λ i l. code_cong c (set c 0 n) i (get_or-set_other c 0 (params_at + param_place i) n 0 (λ e. omega arith))) in
    let u = setup_cong c (set c 0 n) (get_or-set_other c 0 setup_at n 0 (λ e. omega arith)) in
    λ i. record { clock = a i; joined = j i; codes = k i; setup = u i; peers = h.0 i; topics = h.1 i }

pub joined_store : (c : List ℕ) (t b : ℕ) → length c ≡ cell_count → t < 8 → state_of (set c (joined_at + t) b) ≡ set_joined (state_of c) t b
unfolding set_joined state_of
joined_store c t b z l =
    let d = set c (joined_at + t) b in
    let h = head_same c d (get_or-set_other c (joined_at + t) used_at b 0 (λ e. omega arith))
    (λ x m. get_or-set_other c (joined_at + t) x b 0 (λ e. omega arith)) in
    let a : get_or d 0 0 ≡ get_or c 0 0 = get_or-set_other c (joined_at + t) 0 b 0 (λ e. omega arith) in
    let j : table 8 (λ u. get_or d (joined_at + u) 0) ≡ set (table 8 (λ u. get_or c (joined_at + u) 0)) t b =
    table_set 8 (λ u. get_or c (joined_at + u) 0) (λ u. get_or d (joined_at + u) 0) t b (get_or-set_same c (joined_at + t) b 0 (omega arith))
    (λ u m n.
    get_or-set_other c (joined_at + t) (joined_at + u) b 0 (λ e. n (omega arith))) in
    let k : table param_count (code_at d) ≡ table param_count (code_at c) =
    table_same param_count (code_at d) (code_at c)
    (λ i m. code_cong c d i (get_or-set_other c (joined_at + t) (params_at + param_place i) b 0 (λ e. omega arith))) in
    let u = setup_cong c d (get_or-set_other c (joined_at + t) setup_at b 0 (λ e. omega arith)) in
    λ i. record { clock = a i; joined = j i; codes = k i; setup = u i; peers = h.0 i; topics = h.1 i }

-- a clock that stands
pub clock_again : (c : List ℕ) → set c clock_at (state_of c).clock ≡ c
unfolding state_of
clock_again c = set-get_or c clock_at 0

-- the set-up
pub setup_load : (c : List ℕ) → record { edition = get_or c setup_at 0 } ≡ (state_of c).setup
unfolding state_of setup_of
setup_load c = refl

pub setup_store : (c : List ℕ) (u : Setup) → length c ≡ cell_count → state_of (set c setup_at u.edition) ≡ set_setup (state_of c) u
unfolding set_setup state_of setup_of
setup_store c u z =
    let b = u.edition in
    let d = set c setup_at u.edition in
    let h = head_same c d (get_or-set_other c setup_at used_at b 0 (λ e. omega arith))
    (λ x m. get_or-set_other c setup_at x b 0 (λ e. omega arith)) in
    let a : get_or d 0 0 ≡ get_or c 0 0 = get_or-set_other c setup_at 0 b 0 (λ e. omega arith) in
    let j : table topic_count (λ t. get_or d (joined_at + t) 0) ≡ table topic_count (λ t. get_or c (joined_at + t) 0) =
    table_same topic_count (λ t. get_or d (joined_at + t) 0) (λ t. get_or c (joined_at + t) 0)
    (λ t l. get_or-set_other c setup_at (joined_at + t) b 0 (λ e. omega arith)) in
    let k : table param_count (code_at d) ≡ table param_count (code_at c) =
    table_same param_count (code_at d) (code_at c)
    (λ i m. code_cong c d i (get_or-set_other c setup_at (params_at + param_place i) b 0 (λ e. omega arith))) in
    let e : get_or d setup_at 0 ≡ u.edition = get_or-set_same c setup_at u.edition 0 (omega arith) in
    λ i. record { clock = a i; joined = j i; codes = k i; setup = record { edition = e i }; peers = h.0 i; topics = h.1 i }

-- what is read by parts is the record
pub topic_read :
    (c : List ℕ) (k a b s m : ℕ) →
    k < place_count →
    a ≡ live_at c (k / 8) (counter_of k) →
    b ≡ live_at c (k / 8) (p3b_at + k) →
    s ≡ bit_at c (subscribed_word k) (k / 8) →
    m ≡ bit_at c (member_word k) (k / 8) →
    topic_raw a b s m (get_or c (graft_of k) 0) (get_or c (mesh_of k) 0) ≡ topic_in (state_of c) k
unfolding topic_at
topic_read c k a b s m h p q r t =
    let same : topic_raw a b s m (get_or c (graft_of k) 0) (get_or c (mesh_of k) 0) ≡ topic_at c k =
    λ i. topic_raw (p i) (q i) (r i) (t i) (get_or c (graft_of k) 0) (get_or c (mesh_of k) 0) in
    same ∙ topic_load c k h
