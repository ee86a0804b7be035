-- One set for the needs of loops and returns.
use borrow.Author.Rules.{rules}
use Rattle.index.proofs.Index.{every-loop, first-loop}
use Rattle.index.proofs.Flags.{flags}

pub ruleset auto = (every-loop, first-loop, flags, rules)
