-- `heartbeat::stages::last_stages`: the five meshes, the third of which is the second.
use Rattle.heartbeat.proofs.GraftLaws.{grafting_on, stages_of}
use mathlib.Core.Path.{◌∙◌}
use Rattle.heartbeat.proofs.stages.last_stages.Goals as goal

pub fourth-m4-requires : goal.fourth-m4-requires
fourth-m4-requires c = c.requires.grafting

pub fifth-m5-requires : goal.fifth-m5-requires
fifth-m5-requires c =
    let p = c.requires in
    let f = c.fourth-m4.ensures.0 in
    record { grafting = grafting_on _ _ _ _ _ _ f.size p.grafting; heights_on = f.scored p.halfway.scores }

pub shape_of-heights : goal.shape_of-heights
shape_of-heights c = c.fifth-m5.ensures.0.size ∙ c.fourth-m4.ensures.0.size

pub returns : goal.returns
returns c =
    let p = c.requires in
    let f = c.fourth-m4.ensures in
    let g = c.fifth-m5.ensures in (
      stages_of _ _ _ _ _ _ _ _ _ _ p.halfway
          (f.1 c.args.ask) g.1,
      λ s h e. g.0.kept s h (f.0.kept s h e),
    )
