-- A reply by the tests that come first: the gate, and the search for the peer; and what the ranges say of the arguments.
-- Assumes nothing.
use Rattle.std.proofs.Common.{Option, Some, None, Result, Ok, Err}
use Prim.Native.Nat.{ℕ, ◌<◌}
use native.Mathlib.Omega.{arith}
use mathlib.Core.Path.{◌≡◌, refl}
use mathlib.Core.Bool.{Bool, true, false, ◌&&◌}
use lib.Dec.{eqb, leb}
use borrow.Author.Tests.{leb-true}
use Rattle.index.proofs.Index.{both}
use Rattle.index.proofs.Flags.{by_test}
use Rattle.records.specs.Records.{State, peer_in, slot_count}
use Rattle.validity.specs.Valid.{valid}
use Rattle.lookup.specs.Find.{find_connected}
use Rattle.lookup.proofs.FindLaws.{connected_at}
use Rattle.rules.specs.declared.Answer.{Answer}
use Rattle.rules.specs.declared.Answer.TheVariants.{NotConnected, NotRouter, OutOfRange, ListShort, Early}
use Rattle.rules.specs.Reply.{Reply, number_of, refused}
use Rattle.rules.specs.Calls.{Call, time_of, id_ok, topic_ok, time_ok, arguments_ok, in_range}
use Rattle.rules.specs.Step.{gate_of, through, action_room, on_found, of_peer, effect, step}
use Rattle.rules.proofs.GateLaws.{Passed, gate_passed}

-- ---- what the ranges say
pub topic_in_lem : (t : ℕ) → topic_ok t ≡ true → t < 8
topic_in_lem t e = omega (arith, leb-true t 7 e)

-- of an id and a topic
pub topic_of_both : (id t : ℕ) → id_ok id && topic_ok t ≡ true → t < 8
topic_of_both id t e = topic_in_lem t (both (id_ok id) (topic_ok t) e).1

pub arguments : (c : Call) → in_range c ≡ true → arguments_ok c ≡ true
unfolding in_range
arguments c e = (both (time_ok (time_of c)) (arguments_ok c) e).1

-- ---- 3, or the reply of the connected slot that holds the id
pub by_peer :
    (P : Reply → Type 0) (st : State) (id : ℕ) (f : ℕ → Reply) →
    P (refused NotConnected st) →
    ((s : ℕ) → s < slot_count → (peer_in st s).status ≡ 1 → P (f s)) →
    P (of_peer st id f)
by_peer P st id f none some = go (find_connected st id) refl
  where
    go : (r : Option ℕ) → find_connected st id ≡ r → P (on_found r f (refused NotConnected st))
    go (Some s) e = let q = connected_at st id s e in some s q.0 q.1
    go None e = none

-- ---- what the gate refuses is not answered 0
gate_refuses :
    (st : State) (fine : Bool) (room time : ℕ) (a : Answer) →
    gate_of st fine room time ≡ Err a →
    eqb (number_of a) 0 ≡ false
unfolding gate_of
gate_refuses st fine room time a e =
    by_test _ (valid st)
    (λ v. by_test _ fine
    (λ f. by_test _ (leb action_room room)
    (λ l. by_test _ (leb st.clock time)
    (λ t. let e' : ◌≡◌ {A = Result (Unit {0}) Answer} (Ok tt) (Err a) = rw (v, f, l, t) at e in let z : ◌≡◌ {A = ℕ} 0 1 = cc in absurd (omega arith))
    (λ t. is Early refl (rw (v, f, l, t) at e)))
    (λ l. is ListShort refl (rw (v, f, l) at e)))
    (λ f. is OutOfRange refl (rw (v, f) at e)))
    (λ v. is NotRouter refl (rw v at e))
  where
    is : (b : Answer) → eqb (number_of b) 0 ≡ false → ◌≡◌ {A = Result (Unit {0}) Answer} (Err b) (Err a) → eqb (number_of a) 0 ≡ false
    is b n q = let z : b ≡ a = cc in rw z at n

pub by_gate :
    (P : Reply → Type 0) (st : State) (c : Call) (room : ℕ) →
    ((a : Answer) → eqb (number_of a) 0 ≡ false → P (refused a st)) →
    (Passed st (in_range c) room (time_of c) → P (effect st c)) →
    P (step st c room)
unfolding step
by_gate P st c room refuses passes = go (gate_of st (in_range c) room (time_of c)) refl
  where
    go : (r : Result (Unit {0}) Answer) → gate_of st (in_range c) room (time_of c) ≡ r → P (through r st (effect st c))
    go (Ok tt) e = passes (gate_passed st (in_range c) room (time_of c) e)
    go (Err a) e = refuses a (gate_refuses st (in_range c) room (time_of c) a e)
