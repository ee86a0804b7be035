-- What the four calls come to at each of their ends.
-- Assumes nothing.
use Rattle.std.proofs.Common.{Option, Some, None, Result, Ok}
use Rattle.rules.proofs.ConnectLaws.{by_connect}
use Prim.Native.Nat.{ℕ, ◌<◌, ◌≤◌}
use mathlib.Core.Path.{◌≡◌, refl, sym, ap, ap₂, ◌∙◌}
use mathlib.Core.Bool.{Bool, ◌&&◌}
use mathlib.Core.List.{List, []}
use lib.Dec.{leb}
use lib.IntN.{ℤ, pos, negsuc, nat_abs}
use native.Mathlib.Omega.{arith}
use borrow.Author.Tests.{leb-true}
use mir.Val.{SFits, to_z, of_z}
use mir.Syntax.{w64}
use mir.Facts.{to_z-of_z}
use Rattle.varint.specs.Codes.{code_of}
use Rattle.index.specs.Index.{iter}
use Rattle.index.proofs.Index.{both, first_is}
use Rattle.records.specs.declared.Groups.{Groups}
use Rattle.records.specs.Records.{State, peer_in, is_empty, set_clock, slot_count}
use Rattle.layout.specs.View.{state_of, Sized}
use Rattle.layout.proofs.StateLaws.{sized_of}
use Rattle.lookup.specs.Find.{holds, find_connected, find_retained, lowest_empty}
use Rattle.lookup.specs.Name.{version_of}
use Rattle.lookup.proofs.NameLaws.{version_small}
use Rattle.effects.specs.Effects.{on_peer, with_p5, retain_seconds, retained_to, end_after, left_topic, departed, reclaimed, NoneReclaimable}
use Rattle.effects.proofs.EffectLaws.{full_none}
use Rattle.effects.specs.Lent.{ConnectFits}
use Rattle.gate.specs.PeerGate.{peer_gate}
use Rattle.gate.proofs.CallLaws.{gate_fine}
use Rattle.gate.proofs.PeerGateLaws.{peer_fine}
use Rattle.rules.specs.declared.Answer.{Answer}
use Rattle.rules.specs.declared.Answer.TheVariants.{Done, NoSlot, UnknownProtocol, AlreadyConnected}
use Rattle.rules.specs.Reply.{Reply, done}
use Rattle.rules.specs.Calls.{connect, disconnect, rate, score, id_ok, groups_ok, groups_of}
use Rattle.rules.specs.Step.{gate_of, effect, connect_at, connect_in, connect_reply}
use Rattle.rules.specs.Promise.{Leaves}
use Rattle.rules.proofs.PromiseLaws.{leaves_moved, leaves_refused}
use Rattle.rules.proofs.EndLaws.{leaves_done, quiet_peer}

-- ---- no action

module _ (st : State) (time id : ℕ) where
  pub quiet_disconnect : (effect st (disconnect time id)).actions ≡ []
  unfolding effect
  quiet_disconnect = quiet_peer st id _ (λ s. refl)

  pub quiet_rate : (p5 : ℤ) → (effect st (rate time id p5)).actions ≡ []
  unfolding effect
  quiet_rate p5 = quiet_peer st id _ (λ s. refl)

  pub quiet_score : (effect st (score time id)).actions ≡ []
  unfolding effect
  quiet_score = quiet_peer st id _ (λ s. refl)

-- ---- ranges of the arguments, as the code tests them

-- a signed number comes back from its bits as it was
pub p5_range :
    (p5 : ℤ) (a b : Bool) (id : ℕ) →
    SFits w64 p5 →
    a ≡ id_ok id →
    b ≡ leb (nat_abs (to_z w64 (of_z w64 p5))) 1000000000 →
    a && b ≡ id_ok id && leb (nat_abs p5) 1000000000
p5_range p5 a b id f p q = ap₂ (λ (x y : Bool). x && y) p (rw (to_z-of_z f) at q)

pub connect_range :
    (id : ℕ) (groups : List ℕ) (flags : ℕ) (a b : Bool) →
    a ≡ id_ok id →
    b ≡ groups_ok groups →
    a && (b && leb flags 3) ≡ id_ok id && (groups_ok groups && leb flags 3)
connect_range id groups flags a b p q = ap₂ (λ (x y : Bool). x && (y && leb flags 3)) p q

-- ---- 0, of a call that changes one record: `mid` is the table before the clock moved
module _
    (table mid table' : List ℕ) (s time : ℕ) (a : Answer)
    (h : (a ≡ Done 0) × (state_of table' ≡ set_clock (state_of mid) time)) where
  -- P5, by its code as it is computed
  pub rated_done :
      (code : ℕ) (p5 : ℤ) →
      SFits w64 p5 →
      code ≡ code_of (to_z w64 (of_z w64 p5)) →
      state_of mid ≡ on_peer (state_of table) s (λ p. with_p5 p code) →
      Leaves (done (on_peer (state_of table) s (λ p. with_p5 p (code_of p5))) time []) a table table'
  rated_done code p5 f e g =
      leaves_done table mid table' _ time a
      (g ∙ ap (λ (n : ℕ). on_peer (state_of table) s (λ p. with_p5 p n)) (rw (to_z-of_z f) at e))
      h

  -- disconnect: the end of the retain period, as it is computed
  pub departed_done :
      (seconds end : ℕ) →
      seconds ≡ retain_seconds (state_of table) →
      end ≡ end_after time seconds →
      state_of mid ≡ on_peer (iter 8 (λ t v. left_topic v s t) (state_of table)) s (λ p. retained_to p end) →
      Leaves (done (departed (state_of table) s time) time []) a table table'
  unfolding departed
  departed_done seconds end p q g =
      leaves_done table mid table' _ time a
      (g
      ∙ ap (λ (n : ℕ). on_peer (iter 8 (λ t v. left_topic v s t) (state_of table)) s (λ p. retained_to p n))
      (q ∙ ap (end_after time) p))
      h

-- ---- connect, once the name and the id are tested: `mid` is the table after reclaiming

pub retained_below : (st : State) (id s : ℕ) (r : Option ℕ) → r ≡ find_retained st id → r ≡ Some s → s < slot_count
unfolding find_retained
retained_below st id s r e g = (first_is (holds st 2 id) slot_count s (sym e ∙ g)).0

pub empty_below : (st : State) (s : ℕ) (r : Option ℕ) → r ≡ lowest_empty st → r ≡ Some s → s < slot_count
unfolding lowest_empty
empty_below st s r e g = (first_is (λ i. is_empty (peer_in st i)) slot_count s (sym e ∙ g)).0

full_as : (st : State) (time : ℕ) → Sized st → lowest_empty (reclaimed st time) ≡ None → NoneReclaimable st time
unfolding lowest_empty
full_as st time size e = full_none st time size e

module _ (table mid : List ℕ) (time id : ℕ) (groups : Groups) (flags version : ℕ) (e : state_of mid ≡ reclaimed (state_of table) time) where
  abbrev known : Reply
  known = connect_in (state_of table) (reclaimed (state_of table) time) time id groups flags (Some version) None

  -- what the record's slot leaves is no refusal, so it is the same from either table
  pub connect_moved :
      (s : ℕ) (a : Answer) (table' : List ℕ) →
      Leaves (connect_at (state_of mid) time id groups flags version s) a mid table' →
      Leaves (connect_at (state_of mid) time id groups flags version s) a table table'
  unfolding connect_at
  connect_moved s a table' l = leaves_moved _ a table table' l.answer refl l.state

  module _ (r : Option ℕ) (p : r ≡ find_retained (state_of mid) id) where
    pub connect_retained :
        (s : ℕ) (a : Answer) (table' : List ℕ) →
        r ≡ Some s →
        Leaves (connect_at (state_of mid) time id groups flags version s) a mid table' →
        Leaves known a table table'
    unfolding connect_in
    connect_retained s a table' g l = rw (← e, ← p, g) (connect_moved s a table' l)

    module _ (n : r ≡ None) (f : Option ℕ) (q : f ≡ lowest_empty (state_of mid)) where
      pub connect_empty :
          (s : ℕ) (a : Answer) (table' : List ℕ) →
          f ≡ Some s →
          Leaves (connect_at (state_of mid) time id groups flags version s) a mid table' →
          Leaves known a table table'
      unfolding connect_in
      connect_empty s a table' g l = rw (← e, ← p, n, ← q, g) (connect_moved s a table' l)

      -- nothing empty after reclaiming: nothing was reclaimed, and no cell changed
      pub connect_full :
          (NoneReclaimable (state_of table) time → mid ≡ table) →
          f ≡ None →
          Leaves known NoSlot table mid
      unfolding connect_in
      connect_full still g =
          let m : mid ≡ table = still (full_as (state_of table) time (sized_of table) (sym (ap lowest_empty e) ∙ sym q ∙ g)) in
          rw (← e, ← p, n, ← q, g) (record {
            answer = refl;
            state = ap state_of m;
            kept = λ _. m;
            clock = λ z. let y : ◌≡◌ {A = ℕ} 0 1 = cc in absurd (omega arith);
          })

-- ---- connect: tests 6 and 4

module _ (table name : List ℕ) (time id : ℕ) (groups : Groups) (flags : ℕ) (n : Option ℕ) (e : n ≡ version_of name) where
  abbrev reply : Reply
  reply = connect_reply (state_of table) time id groups flags name

  pub connect_unknown : n ≡ None → Leaves reply UnknownProtocol table table
  unfolding connect_reply connect_in
  connect_unknown g = rw (← e, g) (leaves_refused UnknownProtocol table)

  module _ (version : ℕ) (g : n ≡ Some version) (f : Option ℕ) (p : f ≡ find_connected (state_of table) id) where
    pub connect_already : (s : ℕ) → f ≡ Some s → Leaves reply AlreadyConnected table table
    unfolding connect_reply connect_in
    connect_already s h = rw (← e, g, ← p, h) (leaves_refused AlreadyConnected table)

    pub connect_new :
        (a : Answer) (table' : List ℕ) (held : Groups) →
        f ≡ None →
        held ≡ groups →
        Leaves (connect_in (state_of table) (reclaimed (state_of table) time) time id held flags (Some version) None) a table table' →
        Leaves reply a table table'
    unfolding connect_reply
    connect_new a table' held h k l = rw (← e, g, ← p, h, ← k) l

-- ---- what test 2 leaves of the arguments

pub version_fits :
    (name : List ℕ) (n : Option ℕ) (flags version : ℕ) → n ≡ version_of name → n ≡ Some version → flags ≤ 3 → ConnectFits flags version
version_fits name n flags version e g f =
    record { flags = f; version = let l = version_small name version (sym e ∙ g) in omega arith }

pub tested_flags :
    (table : List ℕ) (a b d : Bool) (room time : ℕ) (g : Result (Unit {0}) Answer) (flags : ℕ) →
    g ≡ gate_of (state_of table) (a && (b && (d && leb flags 3))) room time →
    g ≡ Ok tt →
    flags ≤ 3
tested_flags table a b d room time g flags eg e =
    let t = both b (d && leb flags 3) (gate_fine table a _ room time g eg e) in
    leb-true flags 3 (both d (leb flags 3) t.1).1

pub tested_p5 :
    (table : List ℕ) (a b d : Bool) (room time id : ℕ) (g : Result ℕ Answer) (x : ℕ) →
    g ≡ peer_gate (state_of table) (a && (b && d)) room time id →
    (s : ℕ) →
    g ≡ Ok s →
    d ≡ leb x 1000000000 →
    x ≤ 1000000000
tested_p5 table a b d room time id g x eg s e q =
    leb-true x 1000000000 (sym q ∙ (both b d (peer_fine table a (b && d) room time id g eg s e)).1)

code_most : (x : ℤ) → nat_abs x ≤ 1000000000 → code_of x < 4294967296
code_most (pos n) h = omega arith
code_most (negsuc n) h = omega arith

pub rated_fits : (code : ℕ) (p5 : ℤ) → SFits w64 p5 → code ≡ code_of (to_z w64 (of_z w64 p5)) → nat_abs p5 ≤ 1000000000 → code < 4294967296
rated_fits code p5 f e h =
    let l = code_most p5 h in
    let q : code ≡ code_of p5 = rw (to_z-of_z f) at e in
    omega arith

-- ---- connect gives no action

pub quiet_connect :
    (st : State) (time id : ℕ) (groups : List ℕ) (flags : ℕ) (name : List ℕ) →
    (effect st (connect time id groups flags name)).actions ≡ []
unfolding effect connect_at
quiet_connect st time id groups flags name =
    by_connect (λ (r : Reply). r.actions ≡ []) st time id (groups_of groups) flags name (λ n. refl) (λ v s n c. refl) (λ v s n c r. refl)
    (λ v s n c r e. refl)
    (λ v n c r e. refl)
