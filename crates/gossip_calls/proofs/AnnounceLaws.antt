-- What announcing comes to at each of its ends.
-- Assumes nothing.
use Rattle.index.proofs.Kit.{ℕ, ◌+◌, ◌*◌, ◌≤◌, ◌≡◌, refl, sym, ap, ◌∙◌, Bool, true, false, not, arith}
use mathlib.Core.List.{List, [], ◌∷◌, map}
use lib.ListN.{length, take, length-append, length-take, length-map, set}
use lib.Seq.{sets}
use borrow.Author.Tests.{leb-true}
use Rattle.index.proofs.Index.{both}
use Rattle.index.proofs.Flags.{failed, passed}
use Rattle.records.specs.Records.{State, slot_count, set_clock}
use Rattle.layout.specs.View.{clock_at, state_of}
use Rattle.words.specs.Words.{bits_of}
use Rattle.sets.specs.Sets.{by_slot, in_order, is_permutation}
use Rattle.effects.specs.Actions.{Action}
use Rattle.effects.specs.Effects.{is_joined}
use Rattle.gossip.specs.Notes.{Setup, Extended, store_in, window_most, announced_windows}
use Rattle.gossip.specs.Valid.{all, window_ok}
use Rattle.gossip.specs.Step.{FullReply, tell_one, is_target, eligible, chosen, oldest_first, announced, if_any, announce_reply}
use Rattle.gossip.proofs.ListLaws.{windows_take}
use Rattle.gossip.proofs.NoteOk.{store_parts}
use Rattle.gossip.proofs.Fine.{fine_of}
use Rattle.gossip_table.specs.View.{gossip_of, extended_of}
use Rattle.gossip_table.proofs.FineLaws.{fine_lazy}
use Rattle.gossip_gate.specs.Promise.{GivesAll}
use Rattle.gossip_gate.proofs.AdmittedLaws.{admitted_fine}
use Rattle.gossip_gate.proofs.ReplyLaws.{announce_draw, announce_outside, announce_tells}
use Rattle.gossip_gate.proofs.EndLaws.{gives_refusal, gives_nothing, gives_actions}
use Rattle.gossip_peers.specs.Peers.{Tells, Picking}
use Rattle.gossip_peers.proofs.TellLaws.{tells_none, in_short, order_length}
use Rattle.gossip_calls.specs.Asked.{Announcing, Telling}
use Rattle.gossip_calls.proofs.NumberLaws.{no_numbers}

-- ---- who is told
pub told_nobody :
    (acts : List Action) (list : List ℕ) (count : ℕ) (l : List ℕ) →
    count ≡ 0 →
    count ≡ length l →
    Tells (if_any l acts) list list 0
told_nobody acts list count [] z e = tells_none list
told_nobody acts list count (n ∷ l) z e = absurd (omega arith)

any_some : (acts : List Action) (count : ℕ) (l : List ℕ) → (count ≡ 0 → ⊥) → count ≡ length l → acts ≡ if_any l acts
any_some acts count [] z e = absurd (z e)
any_some acts count (n ∷ l) z e = refl

pub told_some :
    (st : State) (p : Setup) (t count r lazy factor : ℕ) (set order list list' l : List ℕ) →
    (count ≡ 0 → ⊥) →
    count ≡ length l →
    lazy ≡ p.lazy →
    factor ≡ p.factor →
    bits_of set ≡ by_slot slot_count (is_target st t) →
    ((q : Setup) → q.lazy ≡ lazy → q.factor ≡ factor →
    Tells (map (tell_one st 5) (chosen q (in_order (bits_of set) order))) list list' r) →
    Tells (if_any l (map (tell_one st 5) (chosen p (eligible st t order)))) list list' r
told_some st p t count r lazy factor set order list list' l z e el ef es h =
    let w = h p (sym el) (sym ef) in
    let k : map (tell_one st 5) (chosen p (in_order (bits_of set) order)) ≡ if_any l (map (tell_one st 5) (chosen p (eligible st t order))) =
    ap (λ (m : List Bool). map (tell_one st 5) (chosen p (in_order m order))) es ∙ any_some _ count l z e in
    rw k at w

-- what the draw goes by
pub telling_drawn :
    {table gossip order list : List ℕ} {t : ℕ} →
    Telling table gossip t order list →
    (lazy factor : ℕ) →
    lazy ≡ (gossip_of gossip).setup.lazy →
    factor ≡ (gossip_of gossip).setup.factor →
    Picking table list order lazy factor
telling_drawn {table} {gossip} a lazy factor el ef =
    let f = a.fine in
    let b = fine_lazy f.base (gossip_of gossip) f.ok in
    record {
      lent = record { standing = a.standing; room = a.room };
      permutation = a.permutation;
      lazy = omega (arith, el, b.0);
      factor = omega (arith, ef, b.1);
    }

-- ---- what is told fits one number
any_most : (acts : List Action) (l : List ℕ) → length (if_any l acts) ≤ length acts
any_most acts [] = omega arith
any_most acts (n ∷ l) = omega arith

pub told_most :
    (st : State) (p : Setup) (t : ℕ) (order l list list' : List ℕ) (r : ℕ) →
    is_permutation slot_count order ≡ true →
    Tells (if_any l (map (tell_one st 5) (chosen p (eligible st t order)))) list list' r →
    r ≤ slot_count
told_most st p t order l list list' r e w =
    let fit = eligible st t order in
    let acts = map (tell_one st 5) (chosen p fit) in
    let a = any_most acts l in
    let b : length acts ≡ length (chosen p fit) = length-map (chosen p fit) (tell_one st 5) in
    let d : length (chosen p fit) ≤ length fit = simp length-take (omega arith) in
    let f = in_short (by_slot slot_count (is_target st t)) order in
    let g = order_length order e in
    omega (arith, w.many, a, b, d, f, g)

oldest_most : (w : List (List ℕ)) → all window_ok w ≡ true → length (oldest_first w) ≤ window_most * length w
unfolding oldest_first all
oldest_most [] e = omega arith
oldest_most (v ∷ w) e =
    let p = both (window_ok v) (all window_ok w) e in
    let a = leb-true (length v) window_most p.0 in
    let b = oldest_most w p.1 in
    let d = length-append (oldest_first w) v in
    omega (arith, a, b, d)

pub announced_most :
    {table gossip list numbers : List ℕ} {time t : ℕ} →
    Announcing table gossip time t list numbers →
    (m : ℕ) →
    m ≡ length (announced (store_in (gossip_of gossip) t)) →
    m ≤ 192
announced_most {table} {gossip} {list} {numbers} {time} {t} a m e =
    let f = admitted_fine a.admitted in
    let w = store_in (gossip_of gossip) t in
    let ok = (store_parts _ w ((fine_of f.base (gossip_of gossip) f.ok).store t a.topic)).0 in
    let q = oldest_most (take announced_windows w) (windows_take announced_windows w ok) in
    let d : length (take announced_windows w) ≤ 3 = simp length-take (omega arith) in
    omega (arith, e, q, d)

-- ---- the ends
module _
    (table gossip order list numbers : List ℕ)
    (time t : ℕ)
    (drawn : Bool)
    (ed : drawn ≡ is_permutation slot_count order)
  where
    abbrev x : Extended
    x = extended_of table gossip

    abbrev reply : FullReply
    reply = announce_reply x time t order

    pub announce_refused :
        not drawn ≡ true → GivesAll reply 7 table table gossip gossip list list × (numbers ≡ sets numbers 0 reply.numbers)
    announce_refused e =
        let q = announce_draw x time t order (failed ed e) in
        (gives_refusal reply time 7 table table gossip list q, no_numbers numbers reply _ q refl)

    module _
        (e : not drawn ≡ false)
        (joined : Bool)
        (ej : joined ≡ is_joined (state_of table) t)
        (r : ℕ)
        (table' : List ℕ)
      where
        pub announce_ignored :
            not joined ≡ true →
            (r ≡ 11) × (state_of table' ≡ set_clock (state_of table) time) × (table' ≡ set table clock_at time) →
            GivesAll reply r table table' gossip gossip list list × (numbers ≡ sets numbers 0 reply.numbers)
        announce_ignored j h =
            let q = announce_outside x time t order (passed ed e) (failed ej j) in
            (gives_nothing reply time r table table' gossip h list q, no_numbers numbers reply _ q refl)

        pub announce_told :
            not joined ≡ false →
            (n m : ℕ) (list' numbers' : List ℕ) →
            Tells
            (if_any (announced (store_in (gossip_of gossip) t))
            (map (tell_one (state_of table) 5) (chosen (gossip_of gossip).setup (eligible (state_of table) t order)))) list list' n →
            (numbers' ≡ sets numbers 0 (announced (store_in (gossip_of gossip) t)))
            × (m ≡ length (announced (store_in (gossip_of gossip) t))) →
            (r ≡ 256 * n + 16777216 * m) × (state_of table' ≡ set_clock (state_of table) time) →
            GivesAll reply r table table' gossip gossip list list' × (numbers' ≡ sets numbers 0 reply.numbers)
        announce_told j n m list' numbers' w k h =
            let q = announce_tells x time t order (passed ed e) (passed ej j) in (
              gives_actions reply time r table table' gossip gossip (gossip_of gossip) _ (announced (store_in (gossip_of gossip) t)) n m h q
                  w.many
                  k.1
                  refl
                  list
                  list'
                  w.list,
              k.0 ∙ sym (ap (λ (o : FullReply). sets numbers 0 o.numbers) q),
            )
