use mathlib.Core.Path.{◌≡◌, sym, subst}
use Rattle.layout.specs.View.{TopicFits}
use Rattle.layout.proofs.FitLaws.{raw_topic_fits}
use Prim.Native.Nat.{◌%◌, ◌/◌}
use Rattle.layout.specs.View.{topic_raw}
use native.Mathlib.Omega.{arith}
use Rattle.layout.proofs.raw_topic.Goals as goal

pub returns : goal.returns
unfolding topic_raw
returns c =
    let a = c.args in
    let e : _ ≡ topic_raw a.counters a.p3b a.subscribed a.member a.graft a.mesh =
    λ i. record {
      p2 = a.counters % 2097152;
      p3 = a.counters / 2097152 % 2097152;
      p4 = a.counters / 4398046511104;
      p3b = a.p3b;
      subscribed = a.subscribed;
      member = a.member;
      graft = c.keep.ensures i;
      mesh = c.keep-2.ensures i;
    } in (
      e,
      subst TopicFits (sym e)
          (raw_topic_fits a.counters a.p3b a.subscribed a.member a.graft a.mesh (omega arith) c.requires.0
          c.requires.1),
    )
