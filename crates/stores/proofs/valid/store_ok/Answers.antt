-- `stores::valid::store_ok`: each exit is a case of the test's definition.
use Rattle.index.proofs.Flags.{yes, no}
use mathlib.Core.Path.{◌∙◌}
use Rattle.stores.proofs.ApartLaws.{store_vacant, store_away, store_over, store_apart, store_within}
use Rattle.stores.proofs.valid.store_ok.Goals as goal

pub returns-then-is_vacant : goal.returns-then-is_vacant
returns-then-is_vacant c =
    store_vacant _ _ c.requires.1 _ (yes c.is_vacant.ensures c.if-is_vacant.true)

pub returns-then-not-joined : goal.returns-then-not-joined
returns-then-not-joined c =
    store_away _ _ c.requires.1 _ c.if-not-joined.true (no c.is_vacant.ensures c.if-is_vacant.false)

pub returns-then-not-is_within : goal.returns-then-not-is_within
returns-then-not-is_within c =
    store_over _ _ c.requires.1 _ (no c.is_within.ensures c.if-not-is_within.true)

pub all_apart-requires : goal.all_apart-requires
all_apart-requires c =
    store_within _ _ c.requires.0 c.requires.1 (yes c.is_within.ensures c.if-not-is_within.false)

pub returns : goal.returns
returns c =
    c.all_apart.ensures
    ∙ store_apart _ _ c.requires.1 _ c.if-not-joined.false (yes c.is_within.ensures c.if-not-is_within.false)
