-- `heartbeat::tell::tell`: the peer's numbers, and the action.
use native.Mathlib.Omega.{arith}
use Prim.Native.Nat.{ℕ, ◌*◌}
use mathlib.Core.Path.{sym, ap₂, ◌∙◌}
use mathlib.Core.List.{[], ◌∷◌}
use lib.Seq.{sets}
use Rattle.layout.specs.View.{state_of}
use Rattle.heartbeat.specs.Tell.{told_by}
use Rattle.heartbeat.proofs.TellLaws.{id_of, id_narrow, told_narrow}
use Rattle.heartbeat.proofs.tell.tell.Goals as goal

pub load_id-id-requires : goal.load_id-id-requires
load_id-id-requires c = let s = c.requires in (s.tells.size, s.slot_lt_slot_count)

pub seconds_of-told-requires : goal.seconds_of-told-requires
seconds_of-told-requires c = let s = c.requires in (s.tells.size, s.slot_lt_slot_count)

pub put-requires : goal.put-requires
put-requires c =
    let w = c.requires.tells.writable in
    record {
      n_in_bounds = omega (arith, w.room);
      id_bound = id_narrow _ _ _ c.requires.slot_lt_slot_count w.narrow_ids c.load_id-id.ensures;
      seconds_bound =
          told_narrow c.args.kind (told_by (state_of c.args.table.now) c.args.seconds) c.args.slot _ w.narrow_seconds
          c.seconds_of-told.ensures;
    }

pub shape_of-actions : goal.shape_of-actions
shape_of-actions c = c.put.auto.actions

pub returns : goal.returns
returns c =
    c.put.ensures
    ∙ ap₂ (λ (x y : ℕ). sets c.args.actions.now (3 * c.args.n) (c.args.kind ∷ x ∷ y ∷ []))
    (c.load_id-id.ensures ∙ sym (id_of _ c.args.slot c.requires.slot_lt_slot_count))
    c.seconds_of-told.ensures
