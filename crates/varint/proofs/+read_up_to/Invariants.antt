use Rattle.index.proofs.Kit.{◌-◌}
use lib.ListN.{length}
use Rattle.varint.proofs.+read_up_to.Given as goal

abbrev pub decreases-read_up_to : goal.decreases-read_up_to
decreases-read_up_to l = length l.s.now - l.at
