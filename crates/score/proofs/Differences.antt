-- Integers as differences of naturals: `sub_ℕ a b` of lib.IntN is a - b. Sums, multiples, order and offset of differences are sums,
-- multiples and order of naturals, which omega reads.
-- Assumes nothing.
use Prim.Native.Nat.{ℕ, zero, suc, ◌+◌, ◌-◌, ◌*◌, ◌<◌, ◌≤◌, zero-le}
use mathlib.Core.Path.{◌≡◌, refl, sym, ap, ◌∙◌}
use native.Mathlib.Omega.{arith}
use native.Mathlib.Nat.{mul-add, mul_comm}
use borrow.Author.Tests.{lt-ltb, le-ltb, le-leb, lt-leb}
use lib.Dec.{ltb, leb}
use lib.IntN.{pos, negsuc, neg_ℤ, nat_abs, sub_ℕ, ◌+ℤ◌, ◌*ℤ◌, *ℤ_comm}
use lib.Signed.{le_z, lt_z}
use Rattle.index.proofs.Flags.{by_order, leb_same}

-- a difference by its sign
pub diff_ge : (a b : ℕ) → b ≤ a → sub_ℕ a b ≡ pos (a - b)
diff_ge a b h = rw (le-ltb a b h)

pub diff_lt : (a b : ℕ) → a < b → sub_ℕ a b ≡ negsuc (b - suc a)
diff_lt a b h = rw (lt-ltb a b h)

-- the same difference
pub diff_same : (a b c d : ℕ) → a + d ≡ c + b → sub_ℕ a b ≡ sub_ℕ c d
diff_same a b c d e =
    by_order (sub_ℕ a b ≡ sub_ℕ c d) a b
    (λ h. diff_lt a b h ∙ ap negsuc (omega arith) ∙ sym (diff_lt c d (omega arith)))
    (λ h. diff_ge a b h ∙ ap pos (omega arith) ∙ sym (diff_ge c d (omega arith)))

pub diff_pos : (a : ℕ) → pos a ≡ sub_ℕ a 0
diff_pos a = ap pos (omega arith) ∙ sym (diff_ge a 0 zero-le)

pub diff_negsuc : (m : ℕ) → negsuc m ≡ sub_ℕ 0 (suc m)
diff_negsuc m = ap negsuc (omega arith) ∙ sym (diff_lt 0 (suc m) (omega arith))

pub diff_neg : (m : ℕ) → neg_ℤ (pos m) ≡ sub_ℕ 0 m
diff_neg zero = refl
diff_neg (suc m) = diff_negsuc m

-- sums
pub diff_add : (a b c d : ℕ) → sub_ℕ a b +ℤ sub_ℕ c d ≡ sub_ℕ (a + c) (b + d)
diff_add a b c d =
    by_order
    (sub_ℕ a b +ℤ sub_ℕ c d ≡ sub_ℕ (a + c) (b + d))
    a
    b
    (λ h.
    by_order
    (sub_ℕ a b +ℤ sub_ℕ c d ≡ sub_ℕ (a + c) (b + d))
    c
    d
    (λ k. rw (diff_lt a b h, diff_lt c d k, diff_lt (a + c) (b + d) (omega arith)) (ap negsuc (omega arith)))
    (λ k.
    rw (diff_lt a b h, diff_ge c d k) (diff_same (c - d) (suc (b - suc a)) (a + c) (b + d) (omega arith))))
    (λ h.
    by_order
    (sub_ℕ a b +ℤ sub_ℕ c d ≡ sub_ℕ (a + c) (b + d))
    c
    d
    (λ k. rw (diff_ge a b h, diff_lt c d k) (diff_same (a - b) (suc (d - suc c)) (a + c) (b + d) (omega arith)))
    (λ k. rw (diff_ge a b h, diff_ge c d k, diff_ge (a + c) (b + d) (omega arith)) (ap pos (omega arith))))

-- multiples
pub diff_scale : (k a b : ℕ) → pos k *ℤ sub_ℕ a b ≡ sub_ℕ (k * a) (k * b)
diff_scale k a b =
    by_order
    (pos k *ℤ sub_ℕ a b ≡ sub_ℕ (k * a) (k * b))
    a
    b
    (λ h.
    let e : k * b ≡ k * a + k * suc (b - suc a) = ap (λ (x : ℕ). k * x) (omega arith) ∙ mul-add k a (suc (b - suc a)) in
    rw (diff_lt a b h)
    (diff_neg (k * suc (b - suc a)) ∙ diff_same 0 (k * suc (b - suc a)) (k * a) (k * b) (omega arith)))
    (λ h.
    let e : k * a ≡ k * b + k * (a - b) = ap (λ (x : ℕ). k * x) (omega arith) ∙ mul-add k b (a - b) in
    rw (diff_ge a b h) (ap pos (omega arith) ∙ sym (diff_ge (k * a) (k * b) (omega arith))))

pub diff_times : (a b k : ℕ) → sub_ℕ a b *ℤ pos k ≡ sub_ℕ (k * a) (k * b)
diff_times a b k = *ℤ_comm (sub_ℕ a b) (pos k) ∙ diff_scale k a b

pub neg_times : (m p : ℕ) → neg_ℤ (pos m) *ℤ pos p ≡ sub_ℕ 0 (m * p)
neg_times zero p = diff_pos (0 * p) ∙ diff_same (0 * p) 0 0 (0 * p) (omega (arith, mul_comm 0 p))
neg_times (suc m) p = diff_neg (suc m * p)

-- order
pub diff_le : (a b c d : ℕ) → le_z (sub_ℕ a b) (sub_ℕ c d) ≡ leb (a + d) (c + b)
diff_le a b c d =
    by_order
    (le_z (sub_ℕ a b) (sub_ℕ c d) ≡ leb (a + d) (c + b))
    a
    b
    (λ h.
    by_order
    (le_z (sub_ℕ a b) (sub_ℕ c d) ≡ leb (a + d) (c + b))
    c
    d
    (λ k.
    rw (diff_lt a b h, diff_lt c d k)
    (leb_same (d - suc c) (b - suc a) (a + d) (c + b) (λ z. omega arith) (λ z. omega arith)))
    (λ k. rw (diff_lt a b h, diff_ge c d k) (sym (le-leb (a + d) (c + b) (omega arith)))))
    (λ h.
    by_order
    (le_z (sub_ℕ a b) (sub_ℕ c d) ≡ leb (a + d) (c + b))
    c
    d
    (λ k. rw (diff_ge a b h, diff_lt c d k) (sym (lt-leb (a + d) (c + b) (omega arith))))
    (λ k.
    rw (diff_ge a b h, diff_ge c d k)
    (leb_same (a - b) (c - d) (a + d) (c + b) (λ z. omega arith) (λ z. omega arith))))

pub diff_lt_z : (a b c d : ℕ) → lt_z (sub_ℕ a b) (sub_ℕ c d) ≡ ltb (a + d) (c + b)
diff_lt_z a b c d =
    by_order
    (lt_z (sub_ℕ a b) (sub_ℕ c d) ≡ ltb (a + d) (c + b))
    a
    b
    (λ h.
    by_order
    (lt_z (sub_ℕ a b) (sub_ℕ c d) ≡ ltb (a + d) (c + b))
    c
    d
    (λ k.
    rw (diff_lt a b h, diff_lt c d k)
    (leb_same (suc (d - suc c)) (b - suc a) (suc (a + d)) (c + b) (λ z. omega arith) (λ z. omega arith)))
    (λ k. rw (diff_lt a b h, diff_ge c d k) (sym (lt-ltb (a + d) (c + b) (omega arith)))))
    (λ h.
    by_order
    (lt_z (sub_ℕ a b) (sub_ℕ c d) ≡ ltb (a + d) (c + b))
    c
    d
    (λ k. rw (diff_ge a b h, diff_lt c d k) (sym (le-ltb (a + d) (c + b) (omega arith))))
    (λ k.
    rw (diff_ge a b h, diff_ge c d k)
    (leb_same (suc (a - b)) (c - d) (suc (a + d)) (c + b) (λ z. omega arith) (λ z. omega arith))))

-- moved up by a base, as an unsigned number
pub offset_le :
    (B a b c d : ℕ) →
    b ≤ B + a →
    d ≤ B + c →
    leb (B + a - b) (B + c - d) ≡ le_z (sub_ℕ a b) (sub_ℕ c d)
offset_le B a b c d h k =
    leb_same (B + a - b) (B + c - d) (a + d) (c + b) (λ z. omega arith) (λ z. omega arith) ∙ sym (diff_le a b c d)

-- the size of a difference of two bounded numbers
pub diff_size : (a b m : ℕ) → a ≤ m → b ≤ m → nat_abs (sub_ℕ a b) ≤ m
diff_size a b m h k =
    by_order
    (nat_abs (sub_ℕ a b) ≤ m)
    a
    b
    (λ l. rw (diff_lt a b l) (omega arith))
    (λ l. rw (diff_ge a b l) (omega arith))
