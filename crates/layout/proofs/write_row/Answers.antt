use mathlib.Core.Path.{refl}
use native.Mathlib.Omega.{arith}
use Rattle.std.proofs.lemmas.Slice.{put_mid-paste}
use Rattle.layout.specs.Rows.{put}
use Rattle.layout.proofs.write_row.Goals as goal

pub returns : goal.returns
unfolding put
returns c = put_mid-paste _ _ _ _ _ _ c.copy_from_slice.ensures.after (omega arith) refl
