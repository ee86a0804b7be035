-- `validity::ids::next_new`: an unmarked bucket tells that the id is new, and the id's own is marked then.
use Prim.Native.Nat.{ℕ, ◌%◌}
use mathlib.Core.Path.{sym, ap, ◌∙◌}
use Rattle.marks.specs.Marks.{bucket_count, is_marked}
use Rattle.validity.proofs.IdLaws.{seen_past, seen_more, new_told, new_none}
use Rattle.validity.proofs.ids.next_new.Goals as goal

pub returns-then-id-eq0 : goal.returns-then-id-eq0
returns-then-id-eq0 c =
    let z = sym c.load_id-id.ensures ∙ c.if-id-eq0.true in
    (sym (new_none _ _ z), seen_past _ _ _ c.requires.marks z)

pub returns : goal.returns
returns c =
    let p = c.requires.marks in
    let at = c.bucket-b.ensures.0 ∙ ap (λ (id : ℕ). id % bucket_count) c.load_id-id.ensures in (
      c.new_where.ensures ∙ new_told _ _ _ p _ (c.is_marked-known.ensures ∙ ap (is_marked _) at),
      rw c.mark.ensures (seen_more _ _ _ p _ at),
    )
