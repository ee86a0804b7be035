use Prim.Native.Nat.{ℕ, ◌+◌, ◌-◌, ◌*◌}
use native.Mathlib.Omega.{arith}
use mathlib.Core.Path.{refl, ◌∙◌}
use lib.Dec.{leb}
use lib.ListN.{take, drop}
use Rattle.std.proofs.Common.{rules, tests}
use Rattle.std.proofs.lemmas.Iterator.{YieldsList-from_slice}
use Rattle.std.proofs.lemmas.Iterator.Search.{all_from_yields_List}
use Rattle.gossip.specs.Notes.{window_most}
use Rattle.stores.proofs.ApartLaws.{within_part}
use Rattle.stores.proofs.valid.is_within.Goals as goal

pub returns : goal.returns
returns c =
    let p = c.requires in
    let b = c.args.t * 5 in
    let part = take (b + 5 - b) (drop b c.args.cells.now) in
    all_from_yields_List (λ (m : ℕ). leb m window_most) _ _ _ c.all.ensures.ran (YieldsList-from_slice part cc) (λ x b q k. search (rules, tests))
    ∙ within_part c.args.cells.now c.args.t b _ refl (omega arith) (omega arith)
