use Rattle.validity.specs.Valid.{topic_ok_at}
use Rattle.forms.proofs.test.topic_at.Goals as goal

pub returns : goal.returns
unfolding topic_ok_at
returns c = cc
