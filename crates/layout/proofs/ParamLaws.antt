-- The parameters: a load gives a magnitude, a store changes one code and no other.
-- Assumes nothing.
use Prim.Native.Nat.{ℕ, ◌+◌, ◌*◌, ◌-◌, ◌/◌, ◌%◌, ◌≤◌, ◌<◌}
use mathlib.Core.Path.{◌≡◌, sym, ap, ◌∙◌}
use mathlib.Core.Logic.{◌≢◌}
use mathlib.Core.Bool.{Bool, true, false}
use mathlib.Core.List.{List}
use native.Mathlib.Omega.{arith}
use lib.ListN.{length, get_or, set}
use lib.Seq.{get_or-set_same, get_or-set_other}
use borrow.Author.Tests.{lt-ltb, le-ltb}
use Rattle.index.proofs.Flags.{by_order}
use Rattle.varint.specs.Codes.{magnitude}
use Rattle.records.specs.Records.{code_in, param_count}
use Rattle.layout.specs.View.{joined_at, used_at, setup_at, params_at, cell_count, field_of, below, param_place, code_for, code_at, table}
use Rattle.layout.specs.View.{state_of, set_code}
use Rattle.layout.proofs.ViewLaws.{table_same, table_set, code_load, code_cong, place_low, setup_cong, head_same}

-- where a general number and a topic's number stand
place_general : (i : ℕ) → i < 19 → param_place i ≡ i
unfolding param_place
place_general i l = rw (lt-ltb i 19 l)

place_topic : (i : ℕ) → 19 ≤ i → param_place i ≡ 19 + (i - 19) % 16 * 8 + (i - 19) / 16
unfolding param_place
place_topic i l = rw (le-ltb i 19 l)

-- the two ends of `param_place`
pub at_general : (i : ℕ) → i < 19 → (i ≡ param_place i) × (i < param_count)
at_general i l = (sym (place_general i l), omega arith)

pub at_topic : (i : ℕ) → i < param_count → 19 ≤ i → (19 + (i - 19) % 16 * 8 + (i - 19) / 16 ≡ param_place i)
    × (19 + (i - 19) % 16 * 8 + (i - 19) / 16 < param_count)
at_topic i h l = (sym (place_topic i l), omega arith)

-- two numbers stand in two place_count
pub place_apart : (i j : ℕ) → i < param_count → j < param_count → j ≢ i → param_place j ≢ param_place i
place_apart i j h l n e =
    by_order ⊥ i 19
    (λ a. let p = place_general i a in
    by_order ⊥ j 19 (λ b. let q = place_general j b in n (omega arith)) (λ b. let q = place_topic j b in omega arith))
    (λ a. let p = place_topic i a in
    by_order ⊥ j 19 (λ b. let q = place_general j b in omega arith) (λ b. let q = place_topic j b in n (omega arith)))

-- a code's magnitude
size_for : (b : Bool) (m : ℕ) → (code_for b m + 1) / 2 ≡ m
unfolding code_for
size_for true m = omega arith
size_for false m = omega arith

size_load : (c : List ℕ) (i : ℕ) → i < param_count → get_or c (params_at + param_place i) 0 ≡ (code_in (state_of c) i + 1) / 2
unfolding code_at
size_load c i h = sym (ap (λ n. (n + 1) / 2) (sym (code_load c i h)) ∙ size_for (below i) (get_or c (params_at + param_place i) 0))

-- what stands at the place of number i is its magnitude, and with the field's sign its code
pub magnitude_load :
    (c : List ℕ) (i n : ℕ) →
    i < param_count →
    n ≡ param_place i →
    (get_or c (params_at + n) 0 ≡ magnitude (code_in (state_of c) i)) × (code_for (below i) (get_or c (params_at + n) 0) ≡ code_in (state_of c) i)
unfolding code_at
magnitude_load c i n h e = (
  ap (λ m. get_or c (params_at + m) 0) e ∙ size_load c i h,
  ap (λ m. code_for (below i) (get_or c (params_at + m) 0)) e ∙ code_load c i h,
)

pub code_store :
    (c : List ℕ) (i m : ℕ) →
    length c ≡ cell_count →
    i < param_count →
    state_of (set c (params_at + param_place i) m) ≡ set_code (state_of c) i (code_for (below i) m)
unfolding set_code state_of code_at
code_store c i m z h =
    let l = place_low i h in
    let x : ℕ = params_at + param_place i in
    let d = set c (params_at + param_place i) m in
    let r = head_same c d (get_or-set_other c (params_at + param_place i) used_at m 0 (λ e. omega arith))
    (λ y k. get_or-set_other c (params_at + param_place i) y m 0 (λ e. omega arith)) in
    let a : get_or d 0 0 ≡ get_or c 0 0 = get_or-set_other c (params_at + param_place i) 0 m 0 (λ e. omega arith) in
    let j : table 8 (λ t. get_or d (joined_at + t) 0) ≡ table 8 (λ t. get_or c (joined_at + t) 0) =
    table_same 8 (λ t. get_or d (joined_at + t) 0) (λ t. get_or c (joined_at + t) 0)
    (λ t k. get_or-set_other c (params_at + param_place i) (joined_at + t) m 0 (λ e. omega arith)) in
    let k : table param_count (code_at d) ≡ set (table param_count (code_at c)) i (code_for (below i) m) =
    table_set param_count (code_at c) (code_at d) i (code_for (below i) m)
    (ap (code_for (below i)) (get_or-set_same c (params_at + param_place i) m 0 (omega arith)))
    (λ u b n. code_cong c d u
    (get_or-set_other c (params_at + param_place i) (params_at + param_place u) m 0 (λ e. place_apart i u h b n (omega arith)))) in
    let u = setup_cong c d (get_or-set_other c (params_at + param_place i) setup_at m 0 (λ e. omega arith)) in
    λ t. record { clock = a t; joined = j t; codes = k t; setup = u t; peers = r.0 t; topics = r.1 t }

-- ---- the ends of `field_of` and `code_for`, and a code by its magnitude
pub field_general : (i : ℕ) → i < 19 → i ≡ field_of i
field_general i l = rw (lt-ltb i 19 l)

pub field_topic : (i : ℕ) → 19 ≤ i → 19 + (i - 19) % 16 ≡ field_of i
field_topic i l = rw (le-ltb i 19 l)

pub below_zero : (b : Bool) (m : ℕ) → b ≡ true → m ≡ 0 → 0 ≡ code_for b m
unfolding code_for
below_zero b m e z = rw (e, z)

pub below_more : (b : Bool) (m : ℕ) → b ≡ true → 2 * m - 1 ≡ code_for b m
unfolding code_for
below_more b m e = rw e

pub above_code : (b : Bool) (m : ℕ) → b ≡ false → 2 * m ≡ code_for b m
unfolding code_for
above_code b m e = rw e
