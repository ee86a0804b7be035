-- `message_ids::id_ok` meets its contract. Assumes nothing.
use Rattle.index.proofs.Kit.{refl, ◌∙◌, arith}
use Rattle.message_ids.proofs.TableLaws.{id_empty, id_long, id_first, id_compared, last_short}
use Rattle.message_ids.proofs.id_ok.Goals as goal

pub returns-then-size-eq0 : goal.returns-then-size-eq0
returns-then-size-eq0 c = id_empty _ _ _ c.from-size.ensures c.if-size-eq0.true

pub returns-then-size-gt-ID_BYTES : goal.returns-then-size-gt-ID_BYTES
returns-then-size-gt-ID_BYTES c = id_long _ _ _ c.from-size.ensures c.if-size-eq0.false c.if-size-gt-ID_BYTES.true

pub returns-then-k-eq0 : goal.returns-then-k-eq0
returns-then-k-eq0 c = id_first _ _ _ c.from-size.ensures c.if-size-eq0.false c.if-size-gt-ID_BYTES.false c.if-k-eq0.true

pub compare_row-requires : goal.compare_row-requires
compare_row-requires c =
    let q = c.requires in
    (q.0, (omega arith, (last_short _ _ q.1.1 c.if-k-eq0.false, omega (arith, c.from-size.ensures))))

pub returns : goal.returns
returns c =
    let r = c.compare_row.ensures in
    c.is_lt.ensures
    ∙ id_compared _ _ _ c.from-size.ensures c.if-size-eq0.false c.if-size-gt-ID_BYTES.false c.if-k-eq0.false _ r _ refl
