-- What maintenance sees: a candidate by the numbers loaded, and the records of the degrees and of the view.
-- Assumes nothing.
use Prim.Native.Nat.{ℕ, zero, suc, ◌+◌, ◌-◌, ◌*◌, ◌%◌, ◌≤◌, ◌<◌}
use native.Mathlib.Omega.{arith}
use mathlib.Core.Path.{◌≡◌, refl, sym, ap, ◌∙◌}
use mathlib.Core.Bool.{Bool, true, false, not, ◌&&◌}
use mathlib.Core.List.{List}
use lib.ListN.{length, get_or, set, length-set}
use lib.Seq.{get_or-set_same, get_or-set_other}
use lib.Dec.{eqb, leb}
use borrow.Author.Tests.{eq-eqb, ne_eqb, lt-leb}
use Rattle.index.proofs.Flags.{leb_same, by_order}
use Rattle.records.specs.Records.{State, slot_count, place, code_in, is_connected, peer_in, topic_in}
use Rattle.params.proofs.ParamLaws.{general}
use Rattle.validity.specs.Valid.{valid}
use Rattle.validity.proofs.ValidLaws.{valid_facts}
use Rattle.sets.specs.Sets.{at, by_slot, both, except}
use Rattle.sets.proofs.WalkLaws.{both_at, except_at}
use Rattle.sets.proofs.SlotLaws.{slots_length, slots_at, slots_built}
use Rattle.layout.specs.View.{bit_at}
use Rattle.words.specs.declared.slots.Slots.{Slots}
use Rattle.words.specs.Words.{word_bits, bits_of, Next}
use Rattle.words.proofs.SlotWalk.{Took}
use Rattle.words.proofs.WideLaws.{bits_of_length}
use Rattle.mesh.specs.declared.Degrees.{Degrees}
use Rattle.mesh.specs.Maintenance.{View}
use Rattle.mesh.specs.Maintenance.{zero_score}
use Rattle.varint.specs.Codes.{magnitude}
use Rattle.effects.specs.Effects.{is_member, is_subscribed}
use Rattle.peer_score.proofs.ConnectedLaws.{flag_at}
use Rattle.rules.specs.Step.{past_slack, is_negative, is_candidate, height_in, degrees_in, view_in}
use Rattle.rules.proofs.HeartbeatLaws.{height_good}
use Rattle.heartbeat.specs.Ready.{is_eligible, is_free}

-- a backoff that is past, with the slack
pub slack_never : (end time : ℕ) → end ≡ 0 → true ≡ past_slack end time
slack_never end time e = sym (rw (eq-eqb end 0 e))

pub slack_early : (end time : ℕ) → (end ≡ 0 → ⊥) → time < 1000 → false ≡ past_slack end time
slack_early end time n h = sym (rw (ne_eqb end 0 n, lt-leb (end + 1000) time (omega arith)))

pub slack_is : (end time : ℕ) → (end ≡ 0 → ⊥) → 1000 ≤ time → leb end (time - 1000) ≡ past_slack end time
slack_is end time n h = rw (ne_eqb end 0 n) (leb_same end (time - 1000) (end + 1000) time (λ l. omega arith) (λ l. omega arith))

-- ---- a candidate: eligible by words, then free
candidate_halves : (a b c d e : Bool) → a && (b && (c && (d && e))) ≡ (a && (b && (c && d))) && e
candidate_halves true true true d e = refl
candidate_halves true true false d e = refl
candidate_halves true false c d e = refl
candidate_halves false b c d e = refl

pub candidate_is : (st : State) (time t s : ℕ) → is_candidate st time t s ≡ is_eligible st t s && is_free st time t s
unfolding is_candidate is_eligible is_free
candidate_is st time t s =
    candidate_halves (is_connected (peer_in st s)) (is_subscribed st t s) (eqb (peer_in st s).explicit 0) (not (is_member st t s))
    (not (is_negative st s) && past_slack (get_or (peer_in st s).backoff t 0) time)

-- a slot's score and backoff
pub free_is :
    (st : State) (time t s score end : ℕ) (free : Bool) →
    valid st ≡ true →
    s < slot_count →
    score ≡ height_in st s →
    end ≡ get_or (peer_in st s).backoff t 0 →
    free ≡ past_slack end time →
    leb zero_score score && free ≡ is_free st time t s
unfolding is_free
free_is st time t s score end free v h es ee ef =
    let g : leb zero_score score ≡ not (is_negative st s) = ap (leb zero_score) es ∙ height_good st v s h in
    rw (g, ef, ee)

-- the four words together
is_one : (n : ℕ) → n ≤ 2 → eqb (n % 2) 1 ≡ eqb n 1
is_one zero h = refl
is_one (suc zero) h = refl
is_one (suc (suc zero)) h = refl
is_one (suc (suc (suc n))) h = absurd (omega arith)

not_one : (n : ℕ) → n ≤ 1 → not (eqb n 1) ≡ eqb n 0
not_one zero h = refl
not_one (suc zero) h = refl
not_one (suc (suc n)) h = absurd (omega arith)

regroup : (a b c d : Bool) → ((a && b) && c) && d ≡ a && (b && (c && d))
regroup true true c d = refl
regroup true false c d = refl
regroup false b c d = refl

module _ (st : State) (t s : ℕ) (ok : valid st ≡ true) (h : s < slot_count) where
  pub eligible_is :
      (c u x m : List ℕ) (cu cx r : List Bool) →
      length c ≡ 4 →
      length u ≡ 4 →
      length x ≡ 4 →
      length m ≡ 4 →
      bit_at c 0 s ≡ (peer_in st s).status % 2 →
      bit_at u 0 s ≡ (topic_in st (place s t)).subscribed →
      bit_at x 0 s ≡ (peer_in st s).explicit →
      bit_at m 0 s ≡ (topic_in st (place s t)).member →
      cu ≡ both (bits_of c) (bits_of u) →
      cx ≡ except cu (bits_of x) →
      r ≡ except cx (bits_of m) →
      at r s ≡ is_eligible st t s
  unfolding is_eligible is_member
  eligible_is c u x m cu cx r zc zu zx zm bc bu bx bm eu ex er =
      let f = (valid_facts st ok).peer s h in
      let k = f.status in
      let l = f.explicit in
      let c₁ : at (bits_of c) s ≡ is_connected (peer_in st s) =
      flag_at c s zc h ∙ ap (λ (n : ℕ). eqb n 1) bc ∙ is_one (peer_in st s).status k in
      let u₁ : at (bits_of u) s ≡ is_subscribed st t s = flag_at u s zu h ∙ ap (λ (n : ℕ). eqb n 1) bu in
      let x₁ : not (at (bits_of x) s) ≡ eqb (peer_in st s).explicit 0 =
      ap not (flag_at x s zx h ∙ ap (λ (n : ℕ). eqb n 1) bx) ∙ not_one (peer_in st s).explicit l in
      let m₁ : not (at (bits_of m) s) ≡ not (is_member st t s) = ap not (flag_at m s zm h ∙ ap (λ (n : ℕ). eqb n 1) bm) in
      let all : at r s ≡ ((at (bits_of c) s && at (bits_of u) s) && not (at (bits_of x) s)) && not (at (bits_of m) s) =
      ap (λ (y : List Bool). at y s) er
      ∙ except_at cx (bits_of m) s
      ∙ ap (λ (y : List Bool). at y s && not (at (bits_of m) s)) ex
      ∙ ap (λ (b : Bool). b && not (at (bits_of m) s)) (except_at cu (bits_of x) s)
      ∙ ap (λ (y : List Bool). (at y s && not (at (bits_of x) s)) && not (at (bits_of m) s)) eu
      ∙ ap (λ (b : Bool). (b && not (at (bits_of x) s)) && not (at (bits_of m) s)) (both_at (bits_of c) (bits_of u) s) in
      all
      ∙ regroup (at (bits_of c) s) (at (bits_of u) s) (not (at (bits_of x) s)) (not (at (bits_of m) s))
      ∙ rw (c₁, u₁, x₁, m₁)

-- four words have a flag for each slot
pub flags_length : (r : List ℕ) → length r ≡ 4 → length (bits_of r) ≡ slot_count
flags_length r z = let e = bits_of_length r in omega arith

-- the walk: below i the set is the candidates', from i on the eligible
pub record Sifted (st : State) (time t i : ℕ) (r : List Bool) : Type 0 where
  pub len : length r ≡ slot_count
  pub done : (s : ℕ) → s < i → s < slot_count → at r s ≡ is_candidate st time t s
  pub left : (s : ℕ) → i ≤ s → s < slot_count → at r s ≡ is_eligible st t s

module _ (st : State) (time t : ℕ) where
  pub sifted_none : (r : List Bool) → length r ≡ slot_count → ((s : ℕ) → s < slot_count → at r s ≡ is_eligible st t s) → Sifted st time t 0 r
  sifted_none r l h = record { len = l; done = λ s a b. absurd (omega arith); left = λ s a b. h s b }

  -- a slot that is not eligible is no candidate
  sifted_next :
      (all : List Bool) →
      ((s : ℕ) → s < slot_count → at all s ≡ is_eligible st t s) →
      (i j : ℕ) (r : List Bool) →
      Next all i j →
      Sifted st time t i r →
      Sifted st time t j r
  sifted_next all h i j r n w =
      let l = n.later in
      record {
        len = w.len;
        done = λ s a b.
            by_order (at r s ≡ is_candidate st time t s) s i
            (λ k. w.done s k b)
            (λ k.
            let e : is_eligible st t s ≡ false = sym (h s b) ∙ n.none s k a in
            w.left s k b ∙ e ∙ sym (candidate_is st time t s ∙ ap (λ (x : Bool). x && is_free st time t s) e));
        left = λ s a b. w.left s (omega arith) b;
      }

  sifted_more :
      (i : ℕ) (r r' : List Bool) (free : Bool) →
      i < slot_count →
      is_eligible st t i ≡ true →
      free ≡ is_free st time t i →
      r' ≡ set r i free →
      Sifted st time t i r →
      Sifted st time t (i + 1) r'
  sifted_more i r r' free h e ef er w =
      let l = w.len in
      let at_set : (s : ℕ) → at r' s ≡ at (set r i free) s = λ s. ap (λ (x : List Bool). at x s) er in
      record {
        len = ap length er ∙ length-set r i free ∙ w.len;
        done = λ s a b.
            at_set s
            ∙ by_order (at (set r i free) s ≡ is_candidate st time t s) s i
            (λ (k : s < i). get_or-set_other r i s free false (λ z. omega arith) ∙ w.done s k b)
            (λ (k : i ≤ s).
            let z : s ≡ i = omega arith in
            rw z
            (get_or-set_same r i free false (omega arith)
            ∙ ef
            ∙ sym (candidate_is st time t i ∙ ap (λ (x : Bool). x && is_free st time t i) e)));
        left = λ s a b.
            at_set s ∙ get_or-set_other r i s free false (λ z. omega arith) ∙ w.left s (omega arith) b;
      }

  sifted_done : (i : ℕ) (r : List Bool) → slot_count ≤ i → Sifted st time t i r → r ≡ by_slot slot_count (is_candidate st time t)
  sifted_done i r h w =
      slots_built false (is_candidate st time t) slot_count slot_count r (omega arith)
      (record { low = omega arith; len = w.len; below = λ s l. w.done s (omega arith) l })

-- a turn of the walk, and its end
module _ (st : State) (time t : ℕ) (all : List ℕ) (h : (s : ℕ) → s < slot_count → at (bits_of all) s ≡ is_eligible st t s) where
  pub sifted_turn :
      (i x : ℕ) (r r' : List Bool) (free : Bool) (w : Slots) →
      Took all i x w →
      free ≡ is_free st time t x →
      r' ≡ set r x free →
      Sifted st time t i r →
      Sifted st time t w.from r'
  sifted_turn i x r r' free w o ef er d =
      let l = o.slot_lt in
      rw o.from_is
      (sifted_more st time t x r r' free l (sym (h x l) ∙ o.next.here l) ef er
      (sifted_next st time t (bits_of all) h i x r o.next d))

  pub sifted_end :
      (i : ℕ) (r : List Bool) → Next (bits_of all) i slot_count → Sifted st time t i r → r ≡ by_slot slot_count (is_candidate st time t)
  sifted_end i r n d =
      sifted_done st time t slot_count r (omega arith) (sifted_next st time t (bits_of all) h i slot_count r n d)

-- the score of a slot, in the array of the scores
pub score_at :
    (st : State) (scores : List ℕ) (s : ℕ) →
    s < slot_count →
    scores ≡ by_slot slot_count (height_in st) →
    get_or scores s 0 ≡ height_in st s
score_at st scores s h e = ap (λ (l : List ℕ). get_or l s 0) e ∙ slots_at 0 (height_in st) slot_count s h

pub scores_length : (st : State) (scores : List ℕ) → scores ≡ by_slot slot_count (height_in st) → length scores ≡ slot_count
scores_length st scores e = ap length e ∙ slots_length slot_count (height_in st)

-- the opportunistic threshold is at most 1000 points, so that the sum with it does not overflow
pub opportunistic : (st : State) → valid st ≡ true → magnitude (code_in st 8) ≤ 1000000
unfolding code_in
opportunistic st v = (general st.codes (valid_facts st v).params).opportunistic_most

pub degrees_are :
    (st : State) (lo d hi out score x : ℕ) →
    lo ≡ magnitude (code_in st 0) →
    d ≡ magnitude (code_in st 1) →
    hi ≡ magnitude (code_in st 2) →
    out ≡ magnitude (code_in st 3) →
    score ≡ magnitude (code_in st 4) →
    x ≡ magnitude (code_in st 8) →
    ◌≡◌ {A = Degrees} (record { lo = lo; d = d; hi = hi; out = out; score = score; threshold = zero_score + x * 1000000 }) (degrees_in st)
unfolding degrees_in
degrees_are st lo d hi out score x el ed eh eo es ex =
    λ i. record { lo = el i; d = ed i; hi = eh i; out = eo i; score = es i; threshold = zero_score + ex i * 1000000 }

pub view_is :
    (st : State) (time t ask : ℕ) (order scores : List ℕ) (members candidates outbound : List Bool) →
    scores ≡ by_slot slot_count (height_in st) →
    members ≡ by_slot slot_count (is_member st t) →
    candidates ≡ by_slot slot_count (is_candidate st time t) →
    outbound ≡ by_slot slot_count (λ s. eqb (peer_in st s).outbound 1) →
    ◌≡◌ {A = View}
    (record {
      members = members;
      candidates = candidates;
      outbound = outbound;
      scores = scores;
      permutation = order;
      ask = eqb ask 1;
    })
    (view_in st time t ask order)
unfolding view_in
view_is st time t ask order scores members candidates outbound es em ec eo =
    λ i. record { members = em i; candidates = ec i; outbound = eo i; scores = es i; permutation = order; ask = eqb ask 1 }

-- words whose bits are a flag of every slot are the set of those that have it
pub words_are :
    (r : List ℕ) (f : ℕ → Bool) →
    length r ≡ 4 →
    ((s : ℕ) → s < slot_count → eqb (bit_at r 0 s) 1 ≡ f s) →
    bits_of r ≡ by_slot slot_count f
words_are r f z h =
    slots_built false f slot_count slot_count (bits_of r) (omega arith)
    (record {
      low = omega arith;
      len = bits_of_length r ∙ (let e : word_bits * length r ≡ slot_count = omega arith in e);
      below = λ s l. flag_at r s z l ∙ h s l;
    })
