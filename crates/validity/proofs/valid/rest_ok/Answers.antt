use Rattle.validity.specs.Valid.{empty_topic_ok, outside_ok, retained_ok, times_ok}
use Rattle.validity.specs.Order.{rest_ok}
use Rattle.validity.proofs.valid.rest_ok.Goals as goal

pub returns : goal.returns
unfolding rest_ok empty_topic_ok outside_ok retained_ok times_ok
returns c = cc
