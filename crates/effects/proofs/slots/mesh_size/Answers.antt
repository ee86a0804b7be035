use Rattle.records.specs.Records.{slot_count}
use Rattle.index.proofs.Kit.{ℕ, ◌≡◌, refl, sym, ap, ◌∙◌, arith, one, Bool, true, false}
use Rattle.std.specs.Int.{from_bool}
use Rattle.index.proofs.Index.{count_none, count_more, count_done, one_le}
use Prim.Native.Nat.{◌+◌}
use Rattle.layout.specs.View.{state_of}
use Rattle.effects.specs.Effects.{is_member, mesh_size}
use Rattle.effects.proofs.slots.mesh_size.Goals as goal

one_of : (b : Bool) → from_bool b ≡ one b
one_of true = refl
one_of false = refl

pub loop-slot-init : goal.loop-slot-init
loop-slot-init c = (omega arith, sym (count_none _), omega arith)

pub loop-slot-preserved : goal.loop-slot-preserved
loop-slot-preserved c =
    let l = c.loop-slot in
    let f = is_member (state_of c.args.table.now)
    c.args.topic in (
      omega arith,
      ap (λ (k : ℕ). l.n + k) (c.from-n.ensures ∙ one_of c.is_member.result ∙ ap one c.is_member.ensures) ∙ count_more f l.slot l.n l.invariant.1,
      (let e = one_of c.is_member.result in let o = one_le c.is_member.result in omega arith),
    )

pub returns : goal.returns
unfolding mesh_size
returns c =
    let l = c.loop-slot in
    let f = is_member (state_of c.args.table.now) c.args.topic in
    (l.invariant.1 ∙ count_done f slot_count l.slot (omega arith) (omega arith), omega arith)
