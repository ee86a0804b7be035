use mathlib.Core.Path.{sym, ◌∙◌}
use Rattle.index.proofs.Kit.{arith, every_none, every_more}
use Rattle.message_ids.proofs.TableLaws.{ids_ragged, ids_other, ids_bad, ids_good}
use Rattle.message_ids.proofs.ids_ok.Goals as goal

pub returns-then-ids-ne0 : goal.returns-then-ids-ne0
returns-then-ids-ne0 c = ids_ragged _ _ c.if-ids-ne0.true

pub returns-then-ids-rows : goal.returns-then-ids-rows
returns-then-ids-rows c = ids_other _ _ c.if-ids-rows.true

pub loop-k-init : goal.loop-k-init
loop-k-init c = (omega arith, every_none _)

pub id_ok-requires : goal.id_ok-requires
id_ok-requires c = (omega arith, (omega arith, c.loop-k.invariant.1))

pub returns-then-not-id_ok : goal.returns-then-not-id_ok
returns-then-not-id_ok c =
    let t = sym c.id_ok.ensures ∙ c.if-not-id_ok.true in
    ids_bad _ _ c.if-ids-ne0.false c.if-ids-rows.false _
    c.loop-k-test.true t

pub loop-k-preserved : goal.loop-k-preserved
loop-k-preserved c = (omega arith, every_more _ _ c.loop-k.invariant.1 (sym c.id_ok.ensures ∙ c.if-not-id_ok.false))

pub returns : goal.returns
returns c = ids_good _ _ c.if-ids-ne0.false c.if-ids-rows.false _ (omega arith) (omega arith)
    c.loop-k.invariant.1
