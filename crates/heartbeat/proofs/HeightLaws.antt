-- The scores by slot, taken by walks over sets of slots; and the meshes that the members' scores tell.
-- Assumes nothing.
use Prim.Native.Nat.{ℕ, ◌+◌, ◌/◌, ◌%◌, ◌≤◌, ◌<◌}
use native.Mathlib.Omega.{arith}
use mathlib.Core.Path.{◌≡◌, refl, sym, ap, ap₂, ◌∙◌}
use mathlib.Core.Bool.{Bool, true, false, not, ◌&&◌, false≢true}
use mathlib.Core.List.{List}
use lib.ListN.{length, get_or, set, length-set, replicate, get_or-replicate}
use lib.Seq.{get_or-set_same, get_or-set_other}
use lib.Dec.{eqb}
use borrow.Author.Tests.{eq-eqb}
use Rattle.index.proofs.Flags.{by_order}
use Rattle.records.specs.Records.{State, slot_count, peer_in}
use Rattle.layout.specs.View.{bit_at}
use Rattle.words.specs.declared.slots.Slots.{Slots}
use Rattle.words.specs.Words.{bits_of, Next}
use Rattle.words.proofs.SlotWalk.{Took}
use Rattle.sets.specs.Sets.{at, by_slot, except, from, both}
use Rattle.sets.proofs.WalkLaws.{except_at}
use Rattle.sets.proofs.SlotLaws.{slots_length, slots_at, slots_built, slots_in}
use Rattle.mesh.specs.declared.Degrees.{Degrees}
use Rattle.mesh.specs.Maintenance.{View, Meshes, zero_score, meshes}
use Rattle.mesh.specs.Still.{is_still, still_of}
use Rattle.mesh.proofs.StillLaws.{still_by_members}
use Rattle.effects.specs.Effects.{is_member}
use Rattle.rules.specs.Step.{height_in, degrees_in, view_in, meshes_in}
use Rattle.peer_score.proofs.ConnectedLaws.{flag_at}
use Rattle.heartbeat.specs.Heights.{HeightsOn, EmptyHeights, Taken}

by_flag : (P : Type 0) (b : Bool) → (b ≡ true → P) → (b ≡ false → P) → P
by_flag P true f g = f refl
by_flag P false f g = g refl

-- ---- the walk: the scores of the set's slots below i are taken
pub record Walked (st : State) (m : List Bool) (before : List ℕ) (i : ℕ) (after : List ℕ) : Type 0 where
  pub size : length after ≡ length before
  pub taken : (s : ℕ) → s < i → at m s ≡ true → get_or after s 0 ≡ height_in st s
  pub kept : (s : ℕ) → at m s ≡ false → get_or after s 0 ≡ get_or before s 0

module _ (st : State) (m : List Bool) (before : List ℕ) where
  pub walked_none : Walked st m before 0 before
  walked_none = record { size = refl; taken = λ s h e. absurd (omega arith); kept = λ s e. refl }

  walked_next : (i j : ℕ) (after : List ℕ) → Next m i j → Walked st m before i after → Walked st m before j after
  walked_next i j after n w =
      record {
        size = w.size;
        taken = λ s h e.
            by_order (get_or after s 0 ≡ height_in st s) s i
            (λ k. w.taken s k e)
            (λ k. absurd (false≢true (sym (n.none s k h) ∙ e)));
        kept = w.kept;
      }

  walked_more :
      (i x : ℕ) (after : List ℕ) →
      i < length after →
      at m i ≡ true →
      x ≡ height_in st i →
      Walked st m before i after →
      Walked st m before (i + 1) (set after i x)
  walked_more i x after l on e w =
      record {
        size = length-set after i x ∙ w.size;
        taken = λ s h q.
            by_order (get_or (set after i x) s 0 ≡ height_in st s) s i
            (λ (k : s < i). get_or-set_other after i s x 0 (λ z. omega arith) ∙ w.taken s k q)
            (λ (k : i ≤ s).
            let z : s ≡ i = omega arith in
            rw z (get_or-set_same after i x 0 l ∙ e));
        kept = λ s q.
            get_or-set_other after i s x 0
            (λ z. false≢true (sym q ∙ ap (at m) z ∙ on))
            ∙ w.kept s q;
      }

-- a turn of the walk, and its end
module _ (st : State) (set₀ before : List ℕ) where
  pub walked_turn :
      (i x v : ℕ) (t : Slots) (after : List ℕ) →
      Took set₀ i x t →
      x < length after →
      v ≡ height_in st x →
      Walked st (bits_of set₀) before i after →
      Walked st (bits_of set₀) before t.from (set after x v)
  walked_turn i x v t after o l e w =
      rw o.from_is
      (walked_more st (bits_of set₀) before x v after l (o.next.here o.slot_lt) e
      (walked_next st (bits_of set₀) before i x after o.next w))

  pub walked_end :
      (i : ℕ) (after : List ℕ) → Next (bits_of set₀) i slot_count → Walked st (bits_of set₀) before i after → Taken st (bits_of set₀) before after
  walked_end i after n w =
      let d = walked_next st (bits_of set₀) before i slot_count after n w in
      record { size = d.size; taken = λ s l e. d.taken s l e; kept = d.kept }

-- ---- all of them
module _ (st : State) (c r : List ℕ) (m : List Bool) (zc : length c ≡ 4) (zr : length r ≡ 4)
    (bc : (s : ℕ) → s < slot_count → bit_at c 0 s ≡ (peer_in st s).status % 2)
    (br : (s : ℕ) → s < slot_count → bit_at r 0 s ≡ (peer_in st s).status / 2)
    (ok : (s : ℕ) → s < slot_count → (peer_in st s).status ≤ 2)
  where
    off : (x : ℕ) → x ≤ 1 → eqb x 1 ≡ false → x ≡ 0
    off x l e =
        by_order (x ≡ 0) x 1
        (λ k. omega arith)
        (λ k. absurd (false≢true (sym e ∙ eq-eqb x 1 (omega arith))))

    none_there : (s : ℕ) → s < slot_count → at (bits_of c) s ≡ false → at (bits_of r) s ≡ false → (peer_in st s).status ≡ 0
    none_there s h ec er =
        let k = ok s h in
        let a = bc s h in
        let b = br s h in
        let p = off (bit_at c 0 s) (omega arith) (sym (flag_at c s zc h) ∙ ec) in
        let q = off (bit_at r 0 s) (omega arith) (sym (flag_at r s zr h) ∙ er) in
        omega arith

    out_of : (x y : Bool) → x && not y ≡ false → y ≡ false → x ≡ false
    out_of true true e f = absurd (false≢true (sym f))
    out_of true false e f = absurd (false≢true (sym e))
    out_of false y e f = refl

    pub others_taken :
        (set₁ : List Bool) (before mid after : List ℕ) →
        set₁ ≡ except (bits_of c) m →
        length before ≡ slot_count →
        HeightsOn st m before →
        EmptyHeights st before →
        Taken st set₁ before mid →
        Taken st (bits_of r) mid after →
        after ≡ by_slot slot_count (height_in st)
    others_taken set₁ before mid after es l on empty a b =
        slots_built 0 (height_in st) slot_count slot_count after (omega arith)
        (record {
          low = omega arith;
          len = b.size ∙ a.size ∙ l;
          below = λ s h.
              by_flag (get_or after s 0 ≡ height_in st s) (at (bits_of r) s)
              (λ e. b.taken s h e)
              (λ e.
              b.kept s e
              ∙ by_flag (get_or mid s 0 ≡ height_in st s) (at set₁ s)
              (λ f. a.taken s h f)
              (λ f.
              a.kept s f
              ∙ by_flag (get_or before s 0 ≡ height_in st s) (at m s)
              (λ g. on s h g)
              (λ g.
              empty s h
              (none_there s h
              (out_of (at (bits_of c) s) (at m s) (sym (except_at (bits_of c) m s) ∙ ap (λ (x : List Bool). at x s) (sym es) ∙ f) g)
              e))));
        })

-- ---- a still mesh
pub still_stages :
    (st : State) (time t ask : ℕ) (order : List ℕ) (heights : List ℕ) (members goods first outbound : List Bool) (d : Degrees)
    (m : Meshes) →
    members ≡ by_slot slot_count (is_member st t) →
    length heights ≡ slot_count →
    HeightsOn st members heights →
    goods ≡ from zero_score heights →
    first ≡ both members goods →
    d ≡ degrees_in st →
    outbound ≡ by_slot slot_count (λ s. eqb (peer_in st s).outbound 1) →
    is_still d outbound (eqb ask 1) heights first ≡ true →
    m ≡ still_of first →
    m ≡ meshes_in st time t ask order
unfolding meshes_in view_in
still_stages st time t ask order heights members goods first outbound d m em l on eg ef ed eo e er =
    er
    ∙ still_by_members slot_count (degrees_in st) (view_in st time t ask order) heights
    (l ∙ sym (slots_length slot_count (height_in st)))
    (λ s q.
    let i = slots_in (is_member st t) slot_count s q in
    on s i.0 (ap (λ (x : List Bool). at x s) em ∙ q) ∙ sym (slots_at 0 (height_in st) slot_count s i.0))
    first
    (ef ∙ rw (em, eg))
    (rw (← ed, ← eo) e)

-- ---- the five steps from what was computed
pub stages_are :
    (st : State) (time t ask : ℕ) (order : List ℕ) (m : Meshes) (d : Degrees) (v : View) →
    m ≡ meshes slot_count d v →
    d ≡ degrees_in st →
    v ≡ view_in st time t ask order →
    m ≡ meshes_in st time t ask order
unfolding meshes_in
stages_are st time t ask order m d v e ed ev = e ∙ ap₂ (meshes slot_count) ed ev

-- the scores of empty slots stay, or are taken again
pub empty_kept : (st : State) (m : List Bool) (before after : List ℕ) → Taken st m before after → EmptyHeights st before →
    EmptyHeights st after
empty_kept st m before after t e s h z =
    by_flag (get_or after s 0 ≡ height_in st s) (at m s) (λ f. t.taken s h f) (λ f. t.kept s f ∙ e s h z)

pub empty_filled :
    (st : State) (x : ℕ) → ((s : ℕ) → s < slot_count → (peer_in st s).status ≡ 0 → x ≡ height_in st s) → EmptyHeights st (replicate slot_count x)
empty_filled st x e s h z = get_or-replicate slot_count s x 0 h ∙ e s h z
