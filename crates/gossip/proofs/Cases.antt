-- A reply by the tests that come first, in the form of rules/CaseLaws.
-- Assumes nothing.
use Rattle.std.proofs.Common.{Option, Some, None}
use Prim.Native.Nat.{ℕ, ◌<◌, ◌≤◌}
use mathlib.Core.Path.{◌≡◌, refl}
use mathlib.Core.Bool.{true, false, ◌&&◌}
use lib.Dec.{eqb, leb}
use borrow.Author.Tests.{leb-true}
use Rattle.index.proofs.Index.{both}
use Rattle.index.proofs.Flags.{cond_case}
use Rattle.records.specs.Records.{slot_count, peer_in}
use Rattle.lookup.specs.Find.{find_connected}
use Rattle.lookup.proofs.FindLaws.{connected_at}
use Rattle.validity.specs.Valid.{valid}
use Rattle.effects.specs.Effects.{is_joined}
use Rattle.rules.specs.Step.{action_room}
use Rattle.gossip.specs.Notes.{Extended}
use Rattle.gossip.specs.Valid.{gossip_ok, valid_all}
use Rattle.gossip.specs.Calls.{New, time_of_new, new_in_range, list_ok}
use Rattle.gossip.specs.Step.{FullReply, refused_all, ignored_all, gated, on_slot, of_peer_all, of_sender, if_joined, new_effect, new_step}

pub record PassedNew (x : Extended) (c : New) : Type 0 where
  pub router : valid x.base ≡ true
  pub gossip : gossip_ok x.base x.gossip ≡ true
  pub ranges : new_in_range c ≡ true
  pub clock : x.base.clock ≤ time_of_new c

module _ (P : FullReply → Type 0) (x : Extended) (refuses : (a : ℕ) → eqb a 0 ≡ false → P (refused_all a x)) where
  pub by_first : (c : New) (room : ℕ) → (PassedNew x c → P (new_effect x c)) → P (new_step x c room)
  unfolding new_step gated valid_all
  by_first c room passes =
      cond_case P (valid x.base && gossip_ok x.base x.gossip) _ (refused_all 12 x)
      (λ v.
      cond_case P (new_in_range c) _ (refused_all 2 x)
      (λ f.
      cond_case P (leb action_room room && list_ok c) _ (refused_all 8 x)
      (λ l.
      cond_case P (leb x.base.clock (time_of_new c)) (new_effect x c) (refused_all 1 x)
      (λ t.
      let q = both (valid x.base) (gossip_ok x.base x.gossip) v in
      passes (record { router = q.0; gossip = q.1; ranges = f; clock = leb-true x.base.clock (time_of_new c) t }))
      (λ t. refuses 1 refl))
      (λ l. refuses 8 refl))
      (λ f. refuses 2 refl))
      (λ v. refuses 12 refl)

  pub by_slot_lem :
      (id : ℕ) (f : ℕ → FullReply) →
      ((s : ℕ) → s < slot_count → (peer_in x.base s).status ≡ 1 → (peer_in x.base s).id ≡ id → P (f s)) →
      P (of_peer_all x id f)
  by_slot_lem id f some = go (find_connected x.base id) refl
    where
      go : (r : Option ℕ) → find_connected x.base id ≡ r → P (on_slot r f (refused_all 3 x))
      go (Some s) e = let q = connected_at x.base id s e in some s q.0 q.1 q.2
      go None e = refuses 3 refl

  pub by_sender : (id : ℕ) (r : FullReply) → P r → P (of_sender x id r)
  by_sender id r h = cond_case P (eqb id 0) r (of_peer_all x id (λ s. r)) (λ e. h) (λ e. by_slot_lem id (λ s. r) (λ s l on i. h))

  pub by_joined :
      (time t : ℕ) (r : FullReply) → P (ignored_all x time) → (is_joined x.base t ≡ true → P r) → P (if_joined x time t r)
  by_joined time t r out into = cond_case P (is_joined x.base t) r (ignored_all x time) into (λ e. out)
