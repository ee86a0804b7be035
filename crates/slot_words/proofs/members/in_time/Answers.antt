use native.Mathlib.Omega.{arith}
use Rattle.slot_words.proofs.FlagLaws.{sum_told}
use Rattle.slot_words.proofs.WalkLaws.{refused}
use Rattle.slot_words.proofs.members.in_time.Goals as goal

pub returns-then-clock-graft : goal.returns-then-clock-graft
returns-then-clock-graft c e = refused e

pub returns : goal.returns
returns c = sum_told _ _ _ _ _ c.load_graft-graft.ensures c.load_mesh-mesh.ensures (omega arith)
