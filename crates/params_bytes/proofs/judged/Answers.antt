-- `params_bytes::judged` meets its contract. Assumes nothing.
use Rattle.params_bytes.proofs.ReadLaws.{judged_broken, judged_kept}
use Rattle.params_bytes.proofs.judged.Goals as goal

pub returns-in-Some : goal.returns-in-Some
returns-in-Some c = judged_broken _ _ _ _ c.first_broken.ensures c.in-Some.is

pub returns-in-None : goal.returns-in-None
returns-in-None c = judged_kept _ _ _ c.first_broken.ensures c.in-None.is
