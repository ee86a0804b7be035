-- `rpc::is_named` meets its contract. Assumes nothing.
use Rattle.index.proofs.Kit.{◌+◌, ◌-◌, ◌*◌, arith}
use Rattle.rpc.proofs.TopicLaws.{named_size, named_long, named_bytes}
use Rattle.rpc.specs.Reading.{row_bytes}
use Rattle.rpc.proofs.is_named.Goals as goal

pub returns-then-known-size : goal.returns-then-known-size
returns-then-known-size c = named_size _ _ _ _ _ _ c.from-known.ensures c.if-known-size.true

pub returns-then-size-gt-NAME_BYTES : goal.returns-then-size-gt-NAME_BYTES
returns-then-size-gt-NAME_BYTES c = named_long _ _ _ _ _ _ c.from-known.ensures c.if-known-size.false c.if-size-gt-NAME_BYTES.true

pub returns : goal.returns
returns c =
    let at = row_bytes * c.args.k + 1 in
    let from = c.args.start in
    let size = c.args.size in
    named_bytes _ _ _ _ _ _ c.from-known.ensures c.if-known-size.false c.if-size-gt-NAME_BYTES.false (omega arith) (omega arith)
    (at + size - at) (from + size - from) _ c.eq.ensures (omega arith) (omega arith)
