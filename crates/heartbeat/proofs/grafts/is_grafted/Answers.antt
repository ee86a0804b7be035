-- `heartbeat::grafts::is_grafted`: a slot that is not to be asked leaves all as it was; the score of another is taken and tested.
use native.Mathlib.Omega.{arith}
use mathlib.Core.Path.{sym, ◌∙◌}
use Rattle.words.specs.Words.{bits_of}
use Rattle.heartbeat.proofs.GraftLaws.{asked_not, taken_slot, asked_is}
use Rattle.heartbeat.proofs.grafts.is_grafted.Goals as goal

pub returns-then-not-takes : goal.returns-then-not-takes
returns-then-not-takes c = asked_not _ _ _ _ _ _ _ (sym c.takes.ensures ∙ c.if-not-takes.true)

pub height-score-requires : goal.height-score-requires
height-score-requires c =
    let a = c.args in
    let p = c.requires in
    record {
      at = record {
        standing = p.grafting.taking.standing;
        slot = taken_slot a.p.now a.room a.s (bits_of a.m.now) p.p_len
            (sym c.takes.ensures ∙ c.if-not-takes.false);
      };
      buckets = p.grafting.taking.buckets;
      weights = p.grafting.weights;
    }

pub offset_bounds-heights-s : goal.offset_bounds-heights-s
offset_bounds-heights-s c =
    omega (arith, taken_slot c.args.p.now c.args.room c.args.s (bits_of c.args.m.now) c.requires.p_len (sym c.takes.ensures ∙ c.if-not-takes.false))

pub bounds-heights-s : goal.bounds-heights-s
bounds-heights-s c =
    omega (
      arith,
      taken_slot c.args.p.now c.args.room c.args.s (bits_of c.args.m.now) c.requires.p_len (sym c.takes.ensures ∙ c.if-not-takes.false),
      c.requires.grafting.taking.size,
    )

pub is_free-requires : goal.is_free-requires
is_free-requires c =
    let p = c.requires in
    record {
      standing = p.grafting.taking.standing;
      topic = p.grafting.topic;
      slot = taken_slot c.args.p.now c.args.room c.args.s (bits_of c.args.m.now) c.requires.p_len (sym c.takes.ensures ∙ c.if-not-takes.false);
      score =
          c.height-score.ensures;
    }

pub returns : goal.returns
returns c =
    let l = c.requires.grafting.taking.size in
    let h = taken_slot c.args.p.now c.args.room c.args.s (bits_of c.args.m.now) c.requires.p_len (sym c.takes.ensures ∙ c.if-not-takes.false) in
    asked_is _ _ _ _ c.args.s _ _ _ _
    (sym c.takes.ensures ∙ c.if-not-takes.false) (omega arith)
    c.height-score.ensures c.is_free.ensures
