use Rattle.validity.specs.Valid.{joined_ok}
use Rattle.forms.proofs.test.joined_at.Goals as goal

pub returns : goal.returns
unfolding joined_ok
returns c = rw c.load_joined.ensures
