-- The place of a broken field lies in the message, at every level; so what the reader answers is small.
-- Assumes nothing.
use Rattle.std.proofs.Common.{Some}
use Rattle.index.proofs.Kit.{ℕ, ◌<◌, ◌≤◌, ◌≡◌, refl, ap, arith, by_test}
use Prim.Native.Nat.{zero, suc}
use mathlib.Core.List.{List, []}
use borrow.Author.Tests.{ltb-false}
use lib.Dec.{ltb}
use lib.ListN.{length, take}
use lib.Seq.{length-take-le}
use Rattle.fields.specs.Fields.{field_at}
use Rattle.fields.specs.Walk.{Items, items, broken, over, fields_of, itself}
use Rattle.fields.specs.declared.Part.{Part}
use Rattle.fields.proofs.FieldLaws.{field_placed}
use Rattle.fields.proofs.WalkLaws.{over_place}
use Rattle.message_ids.specs.Ids.{table_ok}
use Rattle.rpc.specs.Messages.{Item, rpc, item_of, item_at, id_item, by_role, role_of, inside, rpc_at}
use Rattle.rpc.specs.Reading.{message_bytes, list_numbers, Known, answered, read_of, answer_value}
use Rattle.rpc.specs.Room.{PlaceInside}
use Rattle.rpc.specs.declared.Role.{Role}
use Rattle.rpc.specs.declared.Role.TheVariants.{Skipped, Name, Value, Inner, Entry, Id}
use Rattle.rpc.proofs.CheckLaws.{message_few}

fields_place : (s : List ℕ) (at q : ℕ) → fields_of s at ≡ broken q → q < length s
fields_place s at q e = over_place itself s (λ a p b f g. let z : ◌≡◌ {A = ℕ} 0 1 = cc in absurd (omega arith)) at q e

item_place :
    (kind : ℕ) (s : List ℕ) (x : Items Part) (q : ℕ) → ((b : ℕ) → x ≡ broken b → b < length s) → item_of kind x ≡ broken q → q < length s
item_place kind s (items ps) q f e = let z : ◌≡◌ {A = ℕ} 0 1 = cc in absurd (omega arith)
item_place kind s (broken b) q f e = let z : b ≡ q = cc in f q (ap broken z)

entry_place : (kind : ℕ) (s : List ℕ) (at q : ℕ) → item_at kind s at ≡ broken q → q < length s
unfolding item_at
entry_place kind s at q e = item_place kind s (fields_of s at) q (fields_place s at) e

own_place : (p : Part) (q n : ℕ) → id_item p ≡ broken q → q < n
own_place p q n e = let z : ◌≡◌ {A = ℕ} 0 1 = cc in absurd (omega arith)

nowhere : (q n : ℕ) → ◌≡◌ {A = Items Item} (items []) (broken q) → q < n
nowhere q n e = let z : ◌≡◌ {A = ℕ} 0 1 = cc in absurd (omega arith)

role_place :
    (r : Role) (inner one : ℕ → Items Item) (own : Items Item) (n q : ℕ) → ((k : ℕ) → inner k ≡ broken q → q < n) →
    ((k : ℕ) → one k ≡ broken q → q < n) → (own ≡ broken q → q < n) → by_role r inner one own ≡ broken q → q < n
role_place (Entry k) inner one own n q f g o e = g k e
role_place (Inner k) inner one own n q f g o e = f k e
role_place Id inner one own n q f g o e = o e
role_place Skipped inner one own n q f g o e = nowhere q n e
role_place Name inner one own n q f g o e = nowhere q n e
role_place Value inner one own n q f g o e = nowhere q n e

inside_place : (d kind : ℕ) (s : List ℕ) (at : ℕ) (p : Part) (q : ℕ) → field_at s at ≡ Some p → inside d kind s p ≡ broken q → q < length s
unfolding inside
inside_place zero kind s at p q f e = nowhere q (length s) e
inside_place (suc d) kind s at p q f e =
    let h = (field_placed s at p f).high in
    let S = take p.next s in
    let below : q < length S → q < length s = λ l. omega (arith, length-take-le p.next s h) in
    role_place (role_of kind p.number p.wire) (λ k. over (λ x. inside d k S x) S p.start) (λ k. item_at k S p.start) (id_item p)
    (length s) q
    (λ k i. below (over_place (λ x. inside d k S x) S (inside_place d k S) p.start q i))
    (λ k i. below (entry_place k S p.start q i)) (own_place p q (length s)) e

pub place_inside : PlaceInside
place_inside s q e = over_place (inside 3 rpc s) s (inside_place 3 rpc s) 0 q e

-- ---- the number that goes with an answer
answered_most :
    (k : Known) (s list : List ℕ) (x : Items Item) → rpc_at s 0 ≡ x → length s ≤ message_bytes →
    answer_value (answered k s list x).answer ≤ message_bytes
answered_most k s list (items xs) e h = omega (arith, message_few 3 rpc s 0 xs e)
answered_most k s list (broken q) e h = omega (arith, place_inside s q e)

pub read_most : (k : Known) (order s list : List ℕ) → answer_value (read_of k order s list).answer ≤ message_bytes
unfolding read_of
read_most k order s list =
    by_test (answer_value (read_of k order s list).answer ≤ message_bytes) (ltb (length list) list_numbers)
    (λ t. rw t (omega arith))
    (λ t.
    by_test (answer_value (read_of k order s list).answer ≤ message_bytes) (table_ok k.ids k.numbers order)
    (λ v.
    by_test (answer_value (read_of k order s list).answer ≤ message_bytes) (ltb message_bytes (length s))
    (λ u. rw (t, v, u) (omega arith))
    (λ u. rw (t, v, u) (answered_most k s list (rpc_at s 0) refl (ltb-false message_bytes (length s) u))))
    (λ v. rw (t, v) (omega arith)))
