-- What is so of a connect: what holds of each of its five ends holds of its reply. Each end is told the tests that led to it.
-- Assumes nothing.
use Rattle.std.proofs.Common.{Option, Some, None}
use Prim.Native.Nat.{ℕ}
use mathlib.Core.Path.{◌≡◌, refl}
use mathlib.Core.List.{List}
use Rattle.records.specs.declared.Groups.{Groups}
use Rattle.records.specs.Records.{State}
use Rattle.lookup.specs.Find.{find_connected, find_retained, lowest_empty}
use Rattle.lookup.specs.Name.{version_of}
use Rattle.effects.specs.Effects.{reclaimed}
use Rattle.rules.specs.declared.Answer.TheVariants.{AlreadyConnected, NoSlot, UnknownProtocol}
use Rattle.rules.specs.Reply.{Reply, refused}
use Rattle.rules.specs.Step.{connect_case, connect_at, connect_done, connect_in, connect_reply}

module _ (P : Reply → Type 0) (st : State) (time id : ℕ) (groups : Groups) (flags : ℕ) (name : List ℕ) where
  abbrev u : State
  u = reclaimed st time

  pub by_connect :
      (version_of name ≡ None → P (refused UnknownProtocol st)) →
      ((v s : ℕ) → version_of name ≡ Some v → find_connected st id ≡ Some s → P (refused AlreadyConnected st)) →
      ((v s : ℕ) → version_of name ≡ Some v → find_connected st id ≡ None → find_retained u id ≡ Some s →
      P (connect_at u time id groups flags v s)) →
      ((v s : ℕ) → version_of name ≡ Some v → find_connected st id ≡ None → find_retained u id ≡ None → lowest_empty u ≡ Some s →
      P (connect_at u time id groups flags v s)) →
      ((v : ℕ) → version_of name ≡ Some v → find_connected st id ≡ None → find_retained u id ≡ None → lowest_empty u ≡ None →
      P (refused NoSlot st)) →
      P (connect_reply st time id groups flags name)
  unfolding connect_reply connect_in
  by_connect p6 p4 resumes takes p5 =
      go (version_of name) (find_connected st id) (find_retained u id) (lowest_empty u) refl refl refl refl
    where
      go :
          (n : Option ℕ) (c r e : Option ℕ) → version_of name ≡ n → find_connected st id ≡ c → find_retained u id ≡ r → lowest_empty u ≡ e →
          P (connect_done (connect_case n c r e) st u time id groups flags)
      go None c r e en ec er ee = p6 en
      go (Some v) (Some s) r e en ec er ee = p4 v s en ec
      go (Some v) None (Some s) e en ec er ee = resumes v s en ec er
      go (Some v) None None (Some s) en ec er ee = takes v s en ec er ee
      go (Some v) None None None en ec er ee = p5 v en ec er ee
