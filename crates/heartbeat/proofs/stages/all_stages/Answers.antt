-- `heartbeat::stages::all_stages`: the rules' view, and what the five steps make of it.
use Rattle.index.proofs.Kit.{sym, ◌∙◌}
use Rattle.heartbeat.proofs.SeenLaws.{score_at, scores_length}
use Rattle.heartbeat.proofs.HeightLaws.{stages_are}
use Rattle.heartbeat.proofs.stages.all_stages.Goals as goal

pub score_others-requires : goal.score_others-requires
score_others-requires c = c.requires

pub view-v-requires : goal.view-v-requires
view-v-requires c =
    let p = c.requires in
    record { standing = p.taking.standing; topic = p.topic; scores = c.score_others.ensures }

pub degrees-requires : goal.degrees-requires
degrees-requires c = c.requires.taking.standing

pub meshes-requires : goal.meshes-requires
meshes-requires c = scores_length _ _ c.score_others.ensures

pub shape_of-heights : goal.shape_of-heights
shape_of-heights c = scores_length _ _ c.score_others.ensures
    ∙ sym c.requires.taking.size

pub returns : goal.returns
returns c =
    let s = c.score_others.ensures in (
      stages_are _ _ _ _ _ _ _ _ c.meshes.ensures c.degrees.ensures
          (c.view-v.ensures
          c.args.order.now),
      λ k h q. score_at _ _ k h s,
    )
