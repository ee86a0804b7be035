use mathlib.Core.Path.{sym, ◌∙◌}
use Rattle.lookup.proofs.FreshLaws.{fresh_broken, fresh_made}
use Rattle.lookup.proofs.fresh.fresh.Goals as goal

pub fill-requires : goal.fill-requires
fill-requires c = (
  c.requires,
  sym c.first_broken.ensures ∙ c.in-None.is,
)

pub returns-in-Some : goal.returns-in-Some
returns-in-Some c =
    let b = c.first_broken in
    fresh_broken c.args.params c.args.table.now b.result b.ensures c.in-Some.i c.in-Some.is

pub returns-in-None : goal.returns-in-None
returns-in-None c =
    let b = c.first_broken in
    fresh_made c.args.params c.args.table.now b.result b.ensures c.fill.new.table
    c.in-None.is c.fill.ensures
