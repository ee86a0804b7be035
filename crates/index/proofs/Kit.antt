-- Names that most proofs use, passed on from one place.
pub use Prim.Native.Nat.{ℕ, ◌≤◌, ◌<◌, ◌+◌, ◌-◌, ◌*◌}
pub use native.Mathlib.Omega.{arith}
pub use borrow.Author.Rules.{rules}
pub use mathlib.Core.Path.{◌≡◌, refl, sym, ap, ◌∙◌}
pub use mathlib.Core.Bool.{Bool, true, false, not}
pub use Rattle.index.specs.Index.{every, first, count, one, iter, gather}
pub use Rattle.index.proofs.Index.{every_none, every_more, every_done, every_fails, first_none, first_more, first_done, first_hit}
pub use Rattle.index.proofs.Flags.{failed, passed, by_test, by_order, pair_of}
