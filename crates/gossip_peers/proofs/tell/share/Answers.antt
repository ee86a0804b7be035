-- `gossip_peers::tell::share`: the product of a count of slots and a thousandth fits.
use Rattle.index.proofs.Kit.{◌*◌, ◌≤◌, arith}
use native.Mathlib.Nat.{mul-le-mul}
use Rattle.records.specs.Records.{slot_count}
use Rattle.gossip_peers.proofs.tell.share.Goals as goal

pub overflow_mul-count : goal.overflow_mul-count
overflow_mul-count c =
    let a = c.args in
    let h : a.count * a.factor ≤ slot_count * 1000 = mul-le-mul c.requires.0 c.requires.1 in
    omega arith
