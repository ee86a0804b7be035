-- `params_bytes::edition_at` meets its contract. Assumes nothing.
use native.Mathlib.Omega.{arith}
use Rattle.params_bytes.proofs.ReadLaws.{edition_short, edition_second, edition_first}
use Rattle.params_bytes.proofs.edition_at.Goals as goal

pub returns-then-s-at-lt2 : goal.returns-then-s-at-lt2
returns-then-s-at-lt2 c = edition_short _ _ (omega arith)

pub returns-then-s-at : goal.returns-then-s-at
returns-then-s-at c = edition_second _ _ c.if-s-at.true

pub returns : goal.returns
returns c = edition_first _ _ c.if-s-at.false
