-- `layout::set_flags`: six bits, one after the other.
use mathlib.Core.Path.{◌∙◌}
use Rattle.layout.proofs.SlotLaws.{flags_chain}
use Rattle.layout.proofs.set_flags.Goals as goal

pub returns-clause-written : goal.returns-clause-written
returns-clause-written c =
    let p = c.args.p in
    (flags_chain c.args.cells.now c.args.s _ _ p.explicit p.outbound _ _ _ _ _ _ _ _
    c.set_bit.ensures.0
    c.set_bit-2.ensures.0
    c.set_bit-3.ensures.0
    c.set_bit-4.ensures.0
    c.set_bit-5.ensures.0
    c.set_bit-6.ensures.0).0

pub returns-clause-size : goal.returns-clause-size
returns-clause-size c =
    c.set_bit-6.ensures.1
    ∙ c.set_bit-5.ensures.1
    ∙ c.set_bit-4.ensures.1
    ∙ c.set_bit-3.ensures.1
    ∙ c.set_bit-2.ensures.1
    ∙ c.set_bit.ensures.1
