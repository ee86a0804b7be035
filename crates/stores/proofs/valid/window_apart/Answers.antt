use Rattle.index.proofs.Flags.{yes, no}
use native.Mathlib.Omega.{arith}
use mathlib.Core.Path.{ap, ◌∙◌}
use Rattle.gossip.specs.Valid.{apart}
use Rattle.stores.proofs.ApartLaws.{up_none, window_seen, apart_out, apart_more, window_apart, clash}
use Rattle.stores.proofs.ChangeLaws.{window_in}
use Rattle.stores.proofs.valid.window_apart.Goals as goal

pub size-n-requires : goal.size-n-requires
size-n-requires c = window_in _ _ _ c.requires.store c.requires.window

pub loop-k-init : goal.loop-k-init
loop-k-init c =
    (omega arith, ap apart (up_none _ _ _) ∙ c.requires.apart, rw (up_none _ _ _) c.requires.marks)

pub returns-then-not-next_new : goal.returns-then-not-next_new
returns-then-not-next_new c =
    let l = c.loop-k in
    (apart_out _ _ _ l.k (omega arith) (no c.next_new.ensures.0 c.if-not-next_new.true), λ e. clash e)

pub loop-k-preserved : goal.loop-k-preserved
loop-k-preserved c =
    let l = c.loop-k in (
      omega arith,
      apart_more _ _ _ l.k (omega arith) l.invariant.1 (yes c.next_new.ensures.0 c.if-not-next_new.false),
      c.next_new.ensures.1,
    )

pub returns : goal.returns
returns c =
    let l = c.loop-k in
    (window_apart _ _ _ l.k (omega arith) l.invariant.1, λ e. window_seen _ _ _ _ l.k (omega arith) l.invariant.2)
