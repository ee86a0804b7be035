-- `forms::from_rows`: test 12, or the copy.
use Rattle.index.proofs.Kit.{ap, not}
use borrow.Author.Rules.{rules}
use Rattle.index.proofs.Flags.{passed}
use Rattle.forms.proofs.Returns.{from_none, from_done}
use Rattle.forms.proofs.from_rows.Goals as goal

pub returns-then-not-is_router : goal.returns-then-not-is_router
returns-then-not-is_router c = from_none _ _ _ c.is_router.ensures (ap not c.if-not-is_router.true)

pub fill_table-requires : goal.fill_table-requires
fill_table-requires c = record {
  from = search rules;
  to = search rules;
  router = passed c.is_router.ensures (ap not c.if-not-is_router.false);
}

pub returns : goal.returns
returns c = from_done _ _ _ c.is_router.ensures _ (ap not c.if-not-is_router.false)
    c.fill_table.ensures
