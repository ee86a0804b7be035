-- `layout::load_topic`: each part is what the view reads, and a lane of a cell below 2^64 fits.
use mathlib.Core.Path.{◌∙◌}
use Rattle.layout.proofs.ViewLaws.{topic_read}
use Rattle.layout.proofs.load_topic.Goals as goal

pub returns : goal.returns
returns c = (
  c.raw_topic.ensures.0
      ∙ topic_read c.args.cells.now c.args.k _ _ _ _ c.requires.1
      c.live.ensures c.live-2.ensures
      c.bit.ensures.0 c.bit-2.ensures.0,
  c.raw_topic.ensures.1,
)
