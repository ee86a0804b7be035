-- `save_write::save_records`: when a retain period ends, and two lists to sort in. Assumes nothing.
use mathlib.Core.Path.{refl, ap, ◌∙◌}
use native.Mathlib.Omega.{arith}
use Rattle.layout.specs.View.{state_of}
use Rattle.effects.specs.Effects.{end_after}
use Rattle.save_write.proofs.SaveLaws.{retain_small}
use Rattle.save_write.proofs.save_records.Goals as goal

pub load_magnitude-requires : goal.load_magnitude-requires
load_magnitude-requires c = record { size = c.requires.0; param = omega arith }

pub end_after-end-requires : goal.end_after-end-requires
end_after-end-requires c =
    record {
      latest = c.requires.1.1.0;
      seconds = omega (arith, c.load_magnitude.ensures, retain_small (state_of c.args.table.now) c.requires.1.0);
    }

pub slice_bounds-save_sorted-end : goal.slice_bounds-save_sorted-end
slice_bounds-save_sorted-end c = refl

pub slice_bounds-save_sorted-end-2 : goal.slice_bounds-save_sorted-end-2
slice_bounds-save_sorted-end-2 c = refl

pub save_sorted-requires : goal.save_sorted-requires
save_sorted-requires c = (
  record {
    size = c.requires.0;
    router = c.requires.1.0;
    early = c.requires.1.1.0;
    late = c.requires.1.1.1;
    retain = c.end_after-end.ensures.0
        ∙ ap (end_after c.args.time) c.load_magnitude.ensures;
  },
  (refl, refl),
)

pub shape_of-buf : goal.shape_of-buf
shape_of-buf c = c.save_sorted.auto.buf

pub returns : goal.returns
returns c = c.save_sorted.ensures
