use Rattle.std.proofs.lemmas.Slice.Eq.{slice_eq-Decides}
use Rattle.std.proofs.lemmas.Bool.Decides.{Decides-eqb}
use Rattle.lookup.proofs.NameLaws.{compared}
use Rattle.lookup.proofs.name.same_bytes.Goals as goal

pub returns : goal.returns
returns c = compared c.args.a.now c.args.b.now _ (slice_eq-Decides Decides-eqb _ _ _ c.eq.ensures)
