-- `rows::store_peer` meets its contract: the record is written as one row, which `peer_store` says is the state with that peer. Assumes
-- nothing.
use mathlib.Core.Path.{◌≡◌, ◌∙◌, ap}
use lib.ListN.{length}
use Rattle.rows.specs.View.{state_of_rows, cells_of_peer}
use Rattle.rows.proofs.ViewLaws.{peer_store}
use borrow.Author.Rules.{rules}
use Rattle.rows.proofs.store_peer.Goals as goal

pub returns : goal.returns
unfolding cells_of_peer
returns c =
    let g : length c.args.p.backoff ≡ 8 = search rules in
    ap state_of_rows c.write_row.ensures
    ∙ peer_store c.args.cells.now c.requires.0 c.args.slot c.args.p c.requires.1 g
