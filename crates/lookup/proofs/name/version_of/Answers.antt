use mathlib.Core.Path.{sym, ◌∙◌}
use Rattle.lookup.specs.Name.{meshsub}
use Rattle.lookup.proofs.NameLaws.{first_name, second_name, third_name, no_name}
use Rattle.lookup.proofs.name.version_of.Goals as goal

pub returns-then-same_bytes : goal.returns-then-same_bytes
unfolding meshsub
returns-then-same_bytes c = first_name _ (sym c.same_bytes.ensures ∙ c.if-same_bytes.true)

pub returns-then-same_bytes-2 : goal.returns-then-same_bytes-2
unfolding meshsub
returns-then-same_bytes-2 c =
    second_name _ (sym c.same_bytes.ensures ∙ c.if-same_bytes.false) (sym c.same_bytes-2.ensures ∙ c.if-same_bytes-2.true)

pub returns-then-same_bytes-3 : goal.returns-then-same_bytes-3
unfolding meshsub
returns-then-same_bytes-3 c =
    third_name _ (sym c.same_bytes.ensures ∙ c.if-same_bytes.false) (sym c.same_bytes-2.ensures ∙ c.if-same_bytes-2.false)
    (sym c.same_bytes-3.ensures ∙ c.if-same_bytes-3.true)

pub returns : goal.returns
unfolding meshsub
returns c =
    no_name _ (sym c.same_bytes.ensures ∙ c.if-same_bytes.false) (sym c.same_bytes-2.ensures ∙ c.if-same_bytes-2.false)
    (sym c.same_bytes-3.ensures ∙ c.if-same_bytes-3.false)
