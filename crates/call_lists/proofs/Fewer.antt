-- What most calls leave: nobody is connected who was not, with the direction that he had, and nobody comes into a mesh.
-- Assumes nothing.
use Prim.Native.Nat.{ℕ, ◌<◌}
use mathlib.Core.Path.{◌≡◌, refl, ◌∙◌}
use mathlib.Core.Bool.{Bool, cond}
use Rattle.index.specs.Index.{iter}
use Rattle.index.proofs.Index.{iter_keeps}
use Rattle.index.proofs.Flags.{cond_case}
use Rattle.records.specs.declared.Peer.{Peer}
use Rattle.records.specs.declared.TopicRecord.{TopicRecord}
use Rattle.records.specs.Records.{State, peer_in, topic_in, set_clock, set_joined, set_peer, set_topic}
use Rattle.layout.proofs.StateLaws.{peer_case, topic_case}

-- p is a connected peer's record before a call, q the one in its slot after it
pub record Was (p q : Peer) : Type 0 where
  pub status : p.status ≡ 1
  pub id : q.id ≡ p.id
  pub outbound : q.outbound ≡ p.outbound

pub record Fewer (st u : State) : Type 0 where
  pub codes : u.codes ≡ st.codes
  pub setup : u.setup ≡ st.setup
  pub peer : (s : ℕ) → (peer_in u s).status ≡ 1 → Was (peer_in st s) (peer_in u s)
  pub member : (k : ℕ) → (topic_in u k).member ≡ 1 → (topic_in st k).member ≡ 1

pub was_self : (p : Peer) → p.status ≡ 1 → Was p p
was_self p on = record { status = on; id = refl; outbound = refl }

was_then : {p q r : Peer} → Was p q → Was q r → Was p r
was_then a b = record { status = a.status; id = b.id ∙ a.id; outbound = b.outbound ∙ a.outbound }

pub fewer_self : (st : State) → Fewer st st
fewer_self st = record { codes = refl; setup = refl; peer = λ s on. was_self (peer_in st s) on; member = λ k m. m }

pub fewer_then : {a b c : State} → Fewer a b → Fewer b c → Fewer a c
fewer_then f g =
    record {
      codes = g.codes ∙ f.codes;
      setup = g.setup ∙ f.setup;
      peer = λ s on. let w = g.peer s on in was_then (f.peer s w.status) w;
      member = λ k m. f.member k (g.member k m);
    }

-- ---- one store
module _ (st : State) where
  pub fewer_clock : (n : ℕ) → Fewer st (set_clock st n)
  unfolding set_clock peer_in topic_in
  fewer_clock n = record { codes = refl; setup = refl; peer = λ s on. was_self _ on; member = λ k m. m }

  pub fewer_joined : (t b : ℕ) → Fewer st (set_joined st t b)
  unfolding set_joined peer_in topic_in
  fewer_joined t b = record { codes = refl; setup = refl; peer = λ s on. was_self _ on; member = λ k m. m }

  pub fewer_peer : (s : ℕ) (p : Peer) → (p.status ≡ 1 → Was (peer_in st s) p) → Fewer st (set_peer st s p)
  unfolding set_peer topic_in
  fewer_peer s p h =
      record {
        codes = refl;
        setup = refl;
        peer = λ i.
            peer_case st (λ (q : Peer). q.status ≡ 1 → Was (peer_in st i) q) s p i (λ (e : i ≡ s). rw e h) (was_self (peer_in st i));
        member = λ k m. m;
      }

  pub fewer_topic : (k : ℕ) (r : TopicRecord) → (r.member ≡ 1 → (topic_in st k).member ≡ 1) → Fewer st (set_topic st k r)
  unfolding set_topic peer_in
  fewer_topic k r h =
      record {
        codes = refl;
        setup = refl;
        peer = λ s on. was_self _ on;
        member = λ i.
            topic_case st (λ (q : TopicRecord). q.member ≡ 1 → (topic_in st i).member ≡ 1) k r i (λ (e : i ≡ k). rw e h) (λ m. m);
      }

-- ---- a walk, and a choice
pub fewer_iter : (f : ℕ → State → State) (n : ℕ) (st : State) → ((i : ℕ) (u : State) → i < n → Fewer u (f i u)) → Fewer st (iter n f st)
fewer_iter f n st h = iter_keeps (λ (u : State). Fewer st u) f n st (fewer_self st) (λ i u l w. fewer_then w (h i u l))

pub fewer_either : (st : State) (b : Bool) (u v : State) → Fewer st u → Fewer st v → Fewer st (cond b u v)
fewer_either st b u v f g = cond_case (λ (w : State). Fewer st w) b u v (λ e. f) (λ e. g)
