-- A list whose entries are replaced one after the other by those of another is the other; the codes, stored one by one, are the codes.
-- Assumes nothing.
use Prim.Native.Nat.{ℕ, zero, suc, ◌+◌, ◌≤◌, ◌<◌}
use mathlib.Core.Path.{◌≡◌, refl, sym, ap, ◌∙◌}
use mathlib.Core.List.{List}
use native.Mathlib.Omega.{arith}
use lib.ListN.{length, get_or, set, length-set}
use lib.Seq.{get_or-set_same, get_or-set_other, ext_get_or}
use Rattle.index.specs.Index.{iter}
use Rattle.index.proofs.Index.{iter_none, iter_more, iter_done}
use Rattle.index.proofs.Flags.{by_order}
use Rattle.varint.specs.Codes.{magnitude}
use Rattle.records.specs.Records.{State, param_count}
use Rattle.layout.specs.View.{below, code_for, state_of, set_code, set_codes, CodesFit}
use Rattle.layout.proofs.StateLaws.{sized_of}

abbrev pub copied : {A : Type 0} → A → List A → List A → ℕ → List A
copied d from l n = iter n (λ k u. set u k (get_or from k d)) l

length_copied : {A : Type 0} (d : A) (from l : List A) (n : ℕ) → length (copied d from l n) ≡ length l
unfolding iter
length_copied d from l zero = refl
length_copied d from l (suc n) = length-set (copied d from l n) n (get_or from n d) ∙ length_copied d from l n

copied_at :
    {A : Type 0} (d : A) (from l : List A) (n k : ℕ) → n ≤ length l → k < n → get_or (copied d from l n) k d ≡ get_or from k d
unfolding iter
copied_at d from l zero k b h = absurd (omega arith)
copied_at {A} d from l (suc n) k b h =
    let z = length_copied d from l n in
    by_order (get_or (set (copied d from l n) n (get_or from n d)) k d ≡ get_or from k d) k n
    (λ (q : k < n). get_or-set_other (copied d from l n) n k (get_or from n d) d (λ e. omega arith) ∙ copied_at d from l n k (omega arith) q)
    (λ (q : n ≤ k).
    let e : k ≡ n = omega arith in
    rw e (get_or-set_same (copied d from l n) n (get_or from n d) d (omega arith)))

pub copied_all : {A : Type 0} (d : A) (from l : List A) (n : ℕ) → length from ≡ n → length l ≡ n → copied d from l n ≡ from
copied_all d from l n e f =
    ext_get_or d (copied d from l n) from (length_copied d from l n ∙ f ∙ sym e)
    (λ k h. let z = length_copied d from l n in copied_at d from l n k (omega arith) (omega arith))

-- ---- the codes, one by one

abbrev pub codes_up_to : ℕ → List ℕ → State → State
codes_up_to n codes st = iter n (λ i w. set_code w i (get_or codes i 0)) st

codes_copied : (codes : List ℕ) (st : State) (n : ℕ) → codes_up_to n codes st ≡ set_codes st (copied 0 codes st.codes n)
unfolding iter set_code set_codes
codes_copied codes st zero = refl
codes_copied codes st (suc n) = ap (λ w. set_code w n (get_or codes n 0)) (codes_copied codes st n)

pub codes_start : (codes c : List ℕ) → state_of c ≡ codes_up_to 0 codes (state_of c)
codes_start codes c = sym (iter_none (λ i w. set_code w i (get_or codes i 0)) (state_of c))

pub codes_more :
    (codes c d e : List ℕ) (i m : ℕ) →
    CodesFit codes →
    i < param_count →
    m ≡ magnitude (get_or codes i 0) →
    state_of d ≡ codes_up_to i codes (state_of c) →
    state_of e ≡ set_code (state_of d) i (code_for (below i) m) →
    state_of e ≡ codes_up_to (i + 1) codes (state_of c)
codes_more codes c d e i m f h z p q =
    iter_more (λ j w. set_code w j (get_or codes j 0)) (state_of c) i (state_of d) (state_of e) p
    (q ∙ ap (set_code (state_of d) i) (ap (code_for (below i)) z ∙ f.each i h))

pub codes_end :
    (codes c d : List ℕ) (i : ℕ) →
    CodesFit codes →
    i ≤ param_count →
    param_count ≤ i →
    state_of d ≡ codes_up_to i codes (state_of c) →
    state_of d ≡ set_codes (state_of c) codes
codes_end codes c d i f l h p =
    iter_done (λ j w. set_code w j (get_or codes j 0)) (state_of c) param_count i (state_of d) l h p
    ∙ codes_copied codes (state_of c) param_count
    ∙ ap (set_codes (state_of c)) (copied_all 0 codes (state_of c).codes param_count f.size (sized_of c).codes)
