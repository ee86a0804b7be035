-- What an IHAVE and an IWANT come to at each of their ends.
-- Assumes nothing.
use Rattle.std.proofs.Common.{Option, Some, None}
use Rattle.index.proofs.Kit.{ℕ, ◌+◌, ◌*◌, ◌≤◌, ◌<◌, ◌≡◌, refl, sym, ap, ◌∙◌, Bool, true, false, not, arith}
use mathlib.Core.Bool.{cond, ◌&&◌, ◌||◌}
use mathlib.Core.List.{List, [], ◌∷◌, ◌++◌}
use lib.Dec.{ltb}
use lib.ListN.{length, length-append, set}
use lib.Seq.{sets}
use borrow.Author.Tests.{ltb-true, ltb-false}
use Rattle.index.proofs.Index.{both}
use Rattle.index.proofs.Flags.{by_test, failed, passed, cond_case}
use Rattle.records.specs.Records.{set_clock}
use Rattle.layout.specs.View.{clock_at, state_of}
use Rattle.effects.specs.Effects.{is_joined}
use Rattle.gossip.specs.Notes.{Extended, note_in, has, stored, set_note, set_replies, count_in, replied, numbers_most}
use Rattle.gossip.specs.Step.{FullReply, ignored_all, done_all, under_gossip, wanted, with_ihave, is_answered, ihave_reply}
use Rattle.gossip.specs.Step.{is_served, iwant_reply}
use Rattle.gossip.proofs.ListLaws.{clash}
use Rattle.stores.specs.View.{PlaceOf}
use Rattle.gossip_table.specs.View.{gossip_of, extended_of}
use Rattle.gossip_table.specs.Fine.{ReplyFits}
use Rattle.gossip_table.proofs.FineLaws.{fine_bounds}
use Rattle.gossip_gate.specs.Promise.{LeavesAll}
use Rattle.gossip_gate.specs.Admitted.{SlotAdmitted}
use Rattle.gossip_gate.proofs.AdmittedLaws.{admitted_fine}
use Rattle.gossip_gate.proofs.ReplyLaws.{ihave_ignored, ihave_answers, iwant_ignored, iwant_serves}
use Rattle.gossip_gate.proofs.EndLaws.{ends_ignored, ends_done}
use Rattle.gossip_calls.specs.Asked.{Wanting, HavingAt}
use Rattle.gossip_calls.proofs.NumberLaws.{no_numbers}

-- a score is taken only where the other two tests are passed
early : (a u b : Bool) → not (a && b) ≡ true → false ≡ (a && (not u && b))
early true true b e = refl
early true false true e = e
early true false false e = refl
early false u b e = refl

late : (a u b : Bool) → not (a && b) ≡ false → not u ≡ (a && (not u && b))
late true true true e = refl
late true false true e = refl
late true u false e = clash refl e
late false u b e = clash refl e

module _
    (table gossip : List ℕ)
    (t s : ℕ)
    (a b : Bool)
    (ea : a ≡ is_joined (state_of table) t)
    (eb : b ≡ ltb (note_in (gossip_of gossip) s).ihaves (gossip_of gossip).setup.ihaves)
  where
    pub answered_not : not (a && b) ≡ true → false ≡ is_answered (extended_of table gossip) t s
    unfolding is_answered
    answered_not e = rw (← ea, ← eb) (early a (under_gossip (state_of table) s) b e)

    pub answered_is :
        (u : Bool) → u ≡ under_gossip (state_of table) s → not (a && b) ≡ false → not u ≡ is_answered (extended_of table gossip) t s
    unfolding is_answered
    answered_is u eu e = rw (← ea, ← eb, ← eu) (late a u b e)

with_false : (b : Bool) → (b && false) ≡ false
with_false true = refl
with_false false = refl

with_true : (b : Bool) → b ≡ (b && true)
with_true true = refl
with_true false = refl

module _
    (table gossip : List ℕ)
    (n s k m : ℕ)
    (w : Wanting table gossip n s)
    (ek : k ≡ count_in (gossip_of gossip).replies n s)
    (em : m ≡ (gossip_of gossip).setup.replies)
  where
    abbrev x : Extended
    x = extended_of table gossip

    -- of a stored number two tests are left
    tests : (b : Bool) → ltb k m ≡ b → is_served x n s ≡ (not (under_gossip (state_of table) s) && b)
    unfolding is_served
    tests b e = rw (w.kept, ← ek, ← em, e)

    pub served_not : m ≤ k → false ≡ is_served x n s
    served_not l =
        by_test _ (ltb k m)
        (λ t. let q = ltb-true k m t in absurd (omega arith))
        (λ f. sym (tests false f ∙ with_false (not (under_gossip (state_of table) s))))

    pub served_is : (u : Bool) → u ≡ under_gossip (state_of table) s → k < m → not u ≡ is_served x n s
    served_is u eu l =
        by_test _ (ltb k m)
        (λ t. ap not eu ∙ with_true (not (under_gossip (state_of table) s)) ∙ sym (tests true t))
        (λ f. let q = ltb-false k m f in absurd (omega arith))

-- a number that is not stored is not answered
pub unserved : (x : Extended) (n s : ℕ) (r : Option ℕ) → PlaceOf (stored x.gossip n) r → r ≡ None → false ≡ is_served x n s
unfolding is_served
unserved x n s r h e =
    let z : stored x.gossip n ≡ false = rw e at h in
    sym (rw z (with_false (not (under_gossip x.base s))))

pub place_stored : (b : Bool) (r : Option ℕ) (p : ℕ) → PlaceOf b r → r ≡ Some p → b ≡ true
place_stored b r p h e = let z : PlaceOf b (Some p) = rw e at h in z.0

-- ---- an IHAVE
wanted_length : (f : ℕ → Bool) (l r : List ℕ) → length (wanted f l r) ≤ length l + length r
unfolding wanted
wanted_length f l [] = omega arith
wanted_length f l (n ∷ r) =
    let h = wanted_length f (cond (f n || has n l) l (l ++ (n ∷ []))) r in
    let k : length (cond (f n || has n l) l (l ++ (n ∷ []))) ≤ length l + 1 =
    cond_case (λ (y : List ℕ). length y ≤ length l + 1) (f n || has n l) l (l ++ (n ∷ [])) (λ e. omega arith)
    (λ e. omega (arith, length-append l (n ∷ []))) in
    omega (arith, h, k)

pub wanted_most :
    {table gossip given numbers : List ℕ} {time t s : ℕ} →
    HavingAt table gossip time t s given numbers →
    (m : ℕ) →
    m ≡ length (wanted (stored (gossip_of gossip)) [] given) →
    m ≤ 192
wanted_most {table} {gossip} {given} a m e =
    let h = wanted_length (stored (gossip_of gossip)) [] given in
    let k : length given ≤ numbers_most = a.few in
    omega (arith, e, h, k)

module _
    (table table' gossip given numbers : List ℕ)
    (time t s r : ℕ)
    (b : Bool)
    (eb : b ≡ is_answered (extended_of table gossip) t s)
  where
    abbrev answered : FullReply
    answered = ihave_reply (extended_of table gossip) time t given s

    pub answer_not :
        not b ≡ true →
        (r ≡ 11) × (state_of table' ≡ set_clock (state_of table) time) × (table' ≡ set table clock_at time) →
        LeavesAll answered r table table' gossip gossip × (numbers ≡ sets numbers 0 answered.numbers)
    answer_not e h =
        let q = ihave_ignored (extended_of table gossip) time t s given (failed eb e) in
        (ends_ignored answered time r table table' gossip h q, no_numbers numbers answered _ q refl)

    pub answer_one :
        not b ≡ false →
        (gossip' numbers' : List ℕ) (m : ℕ) →
        (numbers' ≡ sets numbers 0 (wanted (stored (gossip_of gossip)) [] given))
        × (m ≡ length (wanted (stored (gossip_of gossip)) [] given)) →
        gossip_of gossip' ≡ set_note (gossip_of gossip) s (with_ihave (note_in (gossip_of gossip) s)) →
        (r ≡ 256 * 0 + 16777216 * m) × (state_of table' ≡ set_clock (state_of table) time) →
        LeavesAll answered r table table' gossip gossip' × (numbers' ≡ sets numbers 0 answered.numbers)
    answer_one e gossip' numbers' m k eg h =
        let q = ihave_answers (extended_of table gossip) time t s given (passed eb e) in
        let list = wanted (stored (gossip_of gossip)) [] given in (
          ends_done answered time r table table' gossip gossip' (set_note (gossip_of gossip) s (with_ihave (note_in (gossip_of gossip) s))) []
              list
              0
              m
              h
              q
              refl
              k.1
              eg,
          k.0 ∙ sym (ap (λ (o : FullReply). sets numbers 0 o.numbers) q),
        )

pub answer_silent : (x : Extended) (time t : ℕ) (given : List ℕ) (s : ℕ) → (ihave_reply x time t given s).actions ≡ []
unfolding ihave_reply
answer_silent x time t given s = go (is_answered x t s)
  where
    go : (b : Bool) → (cond b
        (done_all x time (set_note x.gossip s (with_ihave (note_in x.gossip s))) [] (wanted (stored x.gossip) [] given))
        (ignored_all x time)).actions ≡ []
    go true = refl
    go false = refl

-- ---- an IWANT
module _
    (table table' gossip : List ℕ)
    (time n s r : ℕ)
    (b : Bool)
    (eb : b ≡ is_served (extended_of table gossip) n s)
  where
    pub serve_not :
        not b ≡ true →
        (r ≡ 11) × (state_of table' ≡ set_clock (state_of table) time) × (table' ≡ set table clock_at time) →
        LeavesAll (iwant_reply (extended_of table gossip) time n s) r table table' gossip gossip
    serve_not e h = ends_ignored _ time r table table' gossip h (iwant_ignored (extended_of table gossip) time n s (failed eb e))

    pub serve_one :
        not b ≡ false →
        (gossip' : List ℕ) →
        gossip_of gossip' ≡ set_replies (gossip_of gossip) (replied n s (gossip_of gossip).replies) →
        (r ≡ 256 * 0 + 16777216 * 0) × (state_of table' ≡ set_clock (state_of table) time) →
        LeavesAll (iwant_reply (extended_of table gossip) time n s) r table table' gossip gossip'
    serve_one e gossip' eg h =
        ends_done _ time r table table' gossip gossip' (set_replies (gossip_of gossip) (replied n s (gossip_of gossip).replies)) [] [] 0 0 h
        (iwant_serves (extended_of table gossip) time n s (passed eb e))
        refl
        refl
        eg

pub serve_fits :
    {table gossip : List ℕ} {time s : ℕ} →
    SlotAdmitted table gossip time s →
    (n : ℕ) (b : Bool) →
    b ≡ is_served (extended_of table gossip) n s →
    not b ≡ false →
    ReplyFits gossip n s
unfolding is_served
serve_fits {table} {gossip} {time} {s} a n b eb e =
    let f = admitted_fine a.admitted in
    let g = gossip_of gossip in
    let few = ltb (count_in g.replies n s) g.setup.replies in
    let q = both (stored g n) few (both (not (under_gossip (state_of table) s)) (stored g n && few) (passed eb e)).1 in
    let l = ltb-true (count_in g.replies n s) g.setup.replies q.1 in
    let m = (fine_bounds f.base g f.ok).1 in
    record { fine = f; slot = a.slot; kept = q.0; few = omega (arith, l, m) }

pub serve_silent : (x : Extended) (time n s : ℕ) → (iwant_reply x time n s).actions ≡ []
unfolding iwant_reply
serve_silent x time n s = go (is_served x n s)
  where
    go : (b : Bool) → (cond b (done_all x time (set_replies x.gossip (replied n s x.gossip.replies)) [] []) (ignored_all x time)).actions
        ≡ []
    go true = refl
    go false = refl
