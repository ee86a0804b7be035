use Rattle.validity.specs.Valid.{topic_param}
use Rattle.forms.proofs.test.topic_param.Goals as goal

pub returns : goal.returns
unfolding topic_param
returns c = cc
