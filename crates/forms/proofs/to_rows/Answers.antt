-- `forms::to_rows`: test 12, or the copy.
use Rattle.index.proofs.Kit.{ap, not}
use borrow.Author.Rules.{rules}
use Rattle.index.proofs.Flags.{passed}
use Rattle.forms.proofs.Returns.{to_none, to_done}
use Rattle.forms.proofs.to_rows.Goals as goal

pub returns-then-not-is_router : goal.returns-then-not-is_router
returns-then-not-is_router c = to_none _ _ _ c.is_router.ensures (ap not c.if-not-is_router.true)

pub fill_rows-requires : goal.fill_rows-requires
fill_rows-requires c = record {
  from = search rules;
  to = search rules;
  router = passed c.is_router.ensures (ap not c.if-not-is_router.false);
}

pub returns : goal.returns
returns c = to_done _ _ _ c.is_router.ensures _ (ap not c.if-not-is_router.false)
    c.fill_rows.ensures
