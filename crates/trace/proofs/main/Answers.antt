use borrow.Author.Rules.{rules}
use mathlib.Core.Path.{refl}
use Rattle.trace_feed.proofs.Moves.{moves_start, moves_inside, moves_turn, moves_fill}
use Rattle.trace.proofs.main.Goals as goal

pub loop-init : goal.loop-init
loop-init c = (moves_start _ _ _ c.start-w.ensures (search rules), (search rules, search rules))

pub turn-w-requires : goal.turn-w-requires
turn-w-requires c =
    let i = c.loop.invariant in
    (moves_inside _ _ _ i.0, search rules)

pub say-requires : goal.say-requires
say-requires c = let r = c.turn-w.ensures.room in search rules

pub refill-w-requires : goal.refill-w-requires
refill-w-requires c = c.turn-w.ensures.inside

pub loop-preserved : goal.loop-preserved
loop-preserved c =
    let i = c.loop.invariant in
    let t = c.turn-w.ensures in (
      moves_fill _ _ _ _ _ _ (moves_turn _ _ _ _ _ _ i.0 _ _ (search rules) t) refl c.refill-w.ensures,
      (search rules, search rules),
    )
