-- Entries by kind: how many there are of each, and which kinds a message has.
-- Assumes nothing.
use Rattle.index.proofs.Kit.{ℕ, ◌+◌, ◌≤◌, ◌<◌, ◌≡◌, refl, sym, ap, ◌∙◌, Bool, true, false, arith, one, by_test}
use mathlib.Core.Bool.{◌&&◌, cond}
use mathlib.Core.List.{List, [], ◌∷◌, ◌++◌, append_assoc}
use borrow.Author.Tests.{eq-eqb, ne_eqb}
use lib.Dec.{eqb}
use lib.ListN.{length, length-append}
use Rattle.fields.specs.Fields.{varint, delimited}
use Prim.Native.Nat.{zero, suc}
use Rattle.rpc.specs.Messages.{Item, subscription, graft, prune, idontwant, rpc, control, by_role, role_of}
use Rattle.fields.specs.Walk.{Items, items}
use mathlib.Core.Logic.{◌⊎◌, inl, inr}
use Rattle.rpc.specs.Reading.{only}
use Rattle.rpc.specs.Passes.{total, one_more, tally, place_of}
use Rattle.rpc.specs.declared.Counts.{Counts}
use Rattle.rpc.specs.declared.Role.{Role}
use Rattle.rpc.specs.declared.Role.TheVariants.{Skipped, Name, Value, Inner, Entry, Id}

pub only_append : (kind : ℕ) (xs ys : List Item) → only kind (xs ++ ys) ≡ only kind xs ++ only kind ys
unfolding only
only_append kind [] ys = refl
only_append kind (x ∷ xs) ys =
    rw (only_append kind xs ys) (sym (append_assoc (cond (eqb x.kind kind) (x ∷ []) []) (only kind xs) (only kind ys)))

pub only_lengths : (kind : ℕ) (xs ys : List Item) → length (only kind (xs ++ ys)) ≡ length (only kind xs) + length (only kind ys)
only_lengths kind xs ys = ap length (only_append kind xs ys) ∙ length-append (only kind xs) (only kind ys)

pub only_one : (kind : ℕ) (x : Item) → length (only kind (x ∷ [])) ≡ one (eqb x.kind kind)
unfolding only
only_one kind x = go (eqb x.kind kind)
  where
    go : (c : Bool) → length (cond c (x ∷ []) [] ++ []) ≡ one c
    go true = refl
    go false = refl

-- ---- an entry is of one kind at most, and of one of the four if its kind is below 4
abbrev pub kinds_of : ℕ → ℕ
kinds_of k = one (eqb k subscription) + one (eqb k graft) + one (eqb k prune) + one (eqb k idontwant)

one_few : (k : ℕ) → kinds_of k ≤ 1
one_few zero = omega arith
one_few (suc zero) = omega arith
one_few (suc (suc zero)) = omega arith
one_few (suc (suc (suc zero))) = omega arith
one_few (suc (suc (suc (suc k)))) =
    let n = suc (suc (suc (suc k))) in
    rw (ne_eqb n 0 (λ e. omega arith), ne_eqb n 1 (λ e. omega arith), ne_eqb n 2 (λ e. omega arith), ne_eqb n 3 (λ e. omega arith))
    (omega arith)

pub one_kind : (k : ℕ) → k ≤ 3 → kinds_of k ≡ 1
one_kind zero h = refl
one_kind (suc zero) h = refl
one_kind (suc (suc zero)) h = refl
one_kind (suc (suc (suc zero))) h = refl
one_kind (suc (suc (suc (suc k)))) h = absurd (omega arith)

abbrev pub all_kinds : List Item → ℕ
all_kinds xs = length (only subscription xs) + length (only graft xs) + length (only prune xs) + length (only idontwant xs)

kinds_more : (x : Item) (xs : List Item) → all_kinds (x ∷ xs) ≡ kinds_of x.kind + all_kinds xs
kinds_more x xs =
    let a = only_lengths subscription (x ∷ []) xs in
    let b = only_lengths graft (x ∷ []) xs in
    let c = only_lengths prune (x ∷ []) xs in
    let d = only_lengths idontwant (x ∷ []) xs in
    omega (arith, a, b, c, d, only_one subscription x, only_one graft x, only_one prune x, only_one idontwant x)

pub only_few : (xs : List Item) → all_kinds xs ≤ length xs
unfolding only
only_few [] = omega arith
only_few (x ∷ xs) = omega (arith, kinds_more x xs, one_few x.kind, only_few xs)

-- ---- counting
counts_same :
    (m n : Counts) → m.subscriptions ≡ n.subscriptions → m.grafts ≡ n.grafts → m.prunes ≡ n.prunes → m.notices ≡ n.notices → m ≡ n
counts_same m n a b c d = rw (a, b, c, d)

pub tally_none : (n : Counts) → tally n [] ≡ n
unfolding tally only
tally_none n = counts_same (tally n []) n (omega arith) (omega arith) (omega arith) (omega arith)

pub tally_one : (n : Counts) (x : Item) → tally n (x ∷ []) ≡ one_more n x.kind
unfolding tally
tally_one n x = rw (only_one subscription x, only_one graft x, only_one prune x, only_one idontwant x)

pub tally_append : (n : Counts) (xs ys : List Item) → tally n (xs ++ ys) ≡ tally (tally n xs) ys
unfolding tally
tally_append n xs ys =
    counts_same (tally n (xs ++ ys)) (tally (tally n xs) ys)
    (omega (arith, only_lengths subscription xs ys))
    (omega (arith, only_lengths graft xs ys))
    (omega (arith, only_lengths prune xs ys))
    (omega (arith, only_lengths idontwant xs ys))

pub tally_total : (n : Counts) (xs : List Item) → total (tally n xs) ≡ total n + all_kinds xs
unfolding tally
tally_total n xs = omega arith

pub more_total : (n : Counts) (k : ℕ) → total (one_more n k) ≤ total n + 1
more_total n k = omega (arith, one_few k)

-- ---- the ends of `plus`, `one_more` and `place_of`
pub plus_yes : (n : ℕ) (flag : Bool) → flag ≡ true → n + 1 ≡ n + one flag
plus_yes n flag e = rw e

pub plus_no : (n : ℕ) (flag : Bool) → flag ≡ false → n ≡ n + one flag
plus_no n flag e = rw e (omega arith)

pub place_first : (n : Counts) (kind : ℕ) → kind ≡ 0 → n.subscriptions ≡ place_of n kind
unfolding place_of
place_first n kind e = rw (eq-eqb kind 0 e)

module _ (n : Counts) (kind : ℕ) (m : kind ≡ 0 → ⊥) where
  pub place_second : kind ≡ 1 → n.grafts ≡ place_of n kind
  unfolding place_of
  place_second e = rw (ne_eqb kind 0 m, eq-eqb kind 1 e)

  module _ (o : kind ≡ 1 → ⊥) where
    pub place_third : kind ≡ 2 → n.prunes ≡ place_of n kind
    unfolding place_of
    place_third e = rw (ne_eqb kind 0 m, ne_eqb kind 1 o, eq-eqb kind 2 e)

    pub place_fourth : (kind ≡ 2 → ⊥) → n.notices ≡ place_of n kind
    unfolding place_of
    place_fourth p = rw (ne_eqb kind 0 m, ne_eqb kind 1 o, ne_eqb kind 2 p)

place_total : (n : Counts) (kind : ℕ) → place_of n kind ≤ total n
unfolding place_of
place_total n kind =
    by_test (place_of n kind ≤ total n) (eqb kind 0) (λ t. rw t (omega arith))
    (λ t.
    by_test (place_of n kind ≤ total n) (eqb kind 1) (λ u. rw (t, u) (omega arith))
    (λ u. by_test (place_of n kind ≤ total n) (eqb kind 2) (λ v. rw (t, u, v) (omega arith)) (λ v. rw (t, u, v) (omega arith))))

pub place_below : (n : Counts) (kind r m : ℕ) → r ≡ place_of n kind → total n < m → r < m
place_below n kind r m e h = omega (arith, e, place_total n kind)

-- ---- the table by the message that a field stands in
module _ (number wire : ℕ) where
  pub rpc_inner : (k : ℕ) → role_of rpc number wire ≡ Inner k → k ≡ control
  unfolding role_of
  rpc_inner k e =
      by_test (k ≡ control) (eqb number 1 && eqb wire 2)
      (λ t. let f : Entry 0 ≡ Inner k = rw t at e in let z : ◌≡◌ {A = ℕ} 0 1 = cc in absurd (omega arith))
      (λ t.
      by_test (k ≡ control) (eqb number 3 && eqb wire 2)
      (λ u. let f : Inner 9 ≡ Inner k = rw (t, u) at e in let z : 9 ≡ k = cc in sym z)
      (λ u. let f : Skipped ≡ Inner k = rw (t, u) at e in let z : ◌≡◌ {A = ℕ} 0 1 = cc in absurd (omega arith)))

  pub control_inner : (k : ℕ) → role_of control number wire ≡ Inner k → k ≡ idontwant
  unfolding role_of
  control_inner k e =
      by_test (k ≡ idontwant) (eqb number 3 && eqb wire 2)
      (λ t. let f : Entry 1 ≡ Inner k = rw t at e in let z : ◌≡◌ {A = ℕ} 0 1 = cc in absurd (omega arith))
      (λ t.
      by_test (k ≡ idontwant) (eqb number 4 && eqb wire 2)
      (λ u. let f : Entry 2 ≡ Inner k = rw (t, u) at e in let z : ◌≡◌ {A = ℕ} 0 1 = cc in absurd (omega arith))
      (λ u.
      by_test (k ≡ idontwant) (eqb number 5 && eqb wire 2)
      (λ v. let f : Inner 3 ≡ Inner k = rw (t, u, v) at e in let z : 3 ≡ k = cc in sym z)
      (λ v. let f : Skipped ≡ Inner k = rw (t, u, v) at e in let z : ◌≡◌ {A = ℕ} 0 1 = cc in absurd (omega arith))))

  pub ids_inner : (k : ℕ) → role_of idontwant number wire ≡ Inner k → ⊥
  unfolding role_of
  ids_inner k e =
      by_test ⊥ (eqb number 1 && eqb wire 2)
      (λ t. let f : Id ≡ Inner k = rw t at e in let z : ◌≡◌ {A = ℕ} 0 1 = cc in omega arith)
      (λ t. let f : Skipped ≡ Inner k = rw t at e in let z : ◌≡◌ {A = ℕ} 0 1 = cc in omega arith)

-- ---- every entry with a message is of one of the first three kinds
abbrev kind_in : Role → ℕ
kind_in (Entry k) = k
kind_in (Inner k) = 0
kind_in Id = 0
kind_in Skipped = 0
kind_in Name = 0
kind_in Value = 0

by_rows :
    (a b c d e f g h i j k : Bool) →
    kind_in
    (cond a (Entry subscription) (cond b (Inner control) (cond c (Entry graft)
    (cond d (Entry prune) (cond e (Inner idontwant) (cond f Value
    (cond g Name (cond h Name (cond i Name (cond j Value (cond k Id Skipped)))))))))))
    ≤ 2
by_rows true b c d e f g h i j k = omega arith
by_rows false true c d e f g h i j k = omega arith
by_rows false false true d e f g h i j k = omega arith
by_rows false false false true e f g h i j k = omega arith
by_rows false false false false true f g h i j k = omega arith
by_rows false false false false false true g h i j k = omega arith
by_rows false false false false false false true h i j k = omega arith
by_rows false false false false false false false true i j k = omega arith
by_rows false false false false false false false false true j k = omega arith
by_rows false false false false false false false false false true k = omega arith
by_rows false false false false false false false false false false true = omega arith
by_rows false false false false false false false false false false false = omega arith

all_listed : (kind number wire : ℕ) → kind_in (role_of kind number wire) ≤ 2
unfolding role_of
all_listed kind number wire =
    by_rows
    (eqb kind rpc && eqb number 1 && eqb wire delimited)
    (eqb kind rpc && eqb number 3 && eqb wire delimited)
    (eqb kind control && eqb number 3 && eqb wire delimited)
    (eqb kind control && eqb number 4 && eqb wire delimited)
    (eqb kind control && eqb number 5 && eqb wire delimited)
    (eqb kind subscription && eqb number 1 && eqb wire varint)
    (eqb kind subscription && eqb number 2 && eqb wire delimited)
    (eqb kind graft && eqb number 1 && eqb wire delimited)
    (eqb kind prune && eqb number 1 && eqb wire delimited)
    (eqb kind prune && eqb number 3 && eqb wire varint)
    (eqb kind idontwant && eqb number 1 && eqb wire delimited)

pub entry_kind : (kind number wire k : ℕ) → role_of kind number wire ≡ Entry k → k ≤ 2
entry_kind kind number wire k e = omega (arith, all_listed kind number wire, ap kind_in e)

-- ---- a field that holds no entry
abbrev pub Quiet : Role → Type 0
Quiet ρ = ρ ≡ Skipped ⊎ (ρ ≡ Name ⊎ ρ ≡ Value)

pub by_quiet : (ρ : Role) (inner one : ℕ → Items Item) (own : Items Item) → Quiet ρ → by_role ρ inner one own ≡ items []
by_quiet ρ inner one own (inl e) = rw e
by_quiet ρ inner one own (inr (inl e)) = rw e
by_quiet ρ inner one own (inr (inr e)) = rw e
