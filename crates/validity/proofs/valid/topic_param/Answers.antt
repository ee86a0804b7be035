use Rattle.validity.specs.Valid.{topic_param}
use Rattle.validity.proofs.valid.topic_param.Goals as goal

pub returns : goal.returns
unfolding topic_param
returns c = c.load_magnitude.ensures.0
