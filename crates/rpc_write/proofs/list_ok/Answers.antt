use mathlib.Core.Path.{sym, ◌∙◌}
use Rattle.index.proofs.Kit.{every_none, every_more, arith}
use Rattle.rpc_write.proofs.WriteLaws.{list_many, list_short, list_bad, list_good}
use Rattle.rpc_write.proofs.list_ok.Goals as goal

pub returns-then-n-gt-MOST_ENTRIES : goal.returns-then-n-gt-MOST_ENTRIES
returns-then-n-gt-MOST_ENTRIES c = list_many _ _ _ c.if-n-gt-MOST_ENTRIES.true

pub returns-then-list-n : goal.returns-then-list-n
returns-then-list-n c = list_short _ _ _ c.if-n-gt-MOST_ENTRIES.false c.if-list-n.true

pub loop-i-init : goal.loop-i-init
loop-i-init c = (omega arith, every_none _)

pub returns-then-not-entry_ok : goal.returns-then-not-entry_ok
returns-then-not-entry_ok c =
    let e = sym (rw c.entry_at.ensures at c.entry_ok.ensures) ∙ c.if-not-entry_ok.true in
    list_bad _ _ _ c.if-n-gt-MOST_ENTRIES.false
    c.if-list-n.false _ c.loop-i-test.true
    e

pub loop-i-preserved : goal.loop-i-preserved
loop-i-preserved c = (
  omega arith,
  every_more _ _ c.loop-i.invariant.1
      (sym (rw c.entry_at.ensures at c.entry_ok.ensures) ∙ c.if-not-entry_ok.false),
)

pub returns : goal.returns
returns c = list_good _ _ _ c.if-n-gt-MOST_ENTRIES.false c.if-list-n.false _ (omega arith) (omega arith)
    c.loop-i.invariant.1
