-- The ordinary parameters pass the check: the search is computed.
-- Assumes nothing.
use Rattle.std.proofs.Common.{None}
use Rattle.index.proofs.Kit.{◌≡◌, refl}
use Rattle.index.specs.Index.{first, every}
use lib.ListN.{length}
use Rattle.records.specs.Records.{param_count}
use Rattle.limits.specs.Limits.{limits, limit_at, in_limits, outside}
use Rattle.params.specs.Joint.{cap_rule, joint, rule}
use Rattle.params.specs.Check.{broken, first_broken}
use Rattle.params.specs.Ordinary.{ordinary_numbers, ordinary_params}

pub ordinary_accepted : first_broken ordinary_params ≡ None
unfolding first_broken first every outside broken in_limits limit_at limits rule joint cap_rule ordinary_numbers
ordinary_accepted = refl

pub ordinary_length : length ordinary_numbers ≡ param_count
unfolding ordinary_numbers
ordinary_length = refl
