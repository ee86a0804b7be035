-- Only an announcement and an IHAVE give numbers for a lent list: every other reply, case by case, has none.
-- Assumes nothing.
use Rattle.index.proofs.Kit.{ℕ, ◌≡◌, refl}
use mathlib.Core.Bool.{not, ◌||◌}
use mathlib.Core.List.{[]}
use lib.Dec.{ltb}
use Rattle.index.proofs.Flags.{cond_case}
use Rattle.rules.specs.Calls.{Call}
use Rattle.rules.specs.Step.{step}
use Rattle.gossip.specs.Notes.{Extended, window_most, note_in, store_in, holds, stored_in}
use Rattle.gossip.specs.Valid.{gossip_ok}
use Rattle.gossip.specs.Calls.{New, ask_all, idontwant, relay, beat, store, iwant, old, new}
use Rattle.gossip.specs.Step.{FullReply, refused_all, ignored_all, done_all, has_room, is_heeded, ask_reply, idontwant_reply, relay_reply, running}
use Rattle.gossip.specs.Step.{store_reply, is_served, iwant_reply, new_effect, extended, handed, old_step, step_all}
use Rattle.gossip.proofs.Cases.{by_first, by_slot_lem, by_sender, by_joined}

abbrev pub Silent : FullReply → Type 0
Silent r = r.numbers ≡ []

module _ (x : Extended) (room : ℕ) where
  pub silent_old : (c : Call) → Silent (step_all x (old c) room)
  unfolding step_all old_step
  silent_old c =
      cond_case Silent (not (handed c) || gossip_ok x.base x.gossip) (extended x c (step x.base c room)) (refused_all 12 x)
      (λ e. refl)
      (λ e. refl)

  first : (c : New) → Silent (new_effect x c) → Silent (step_all x (new c) room)
  unfolding step_all
  first c h = by_first Silent x (λ a e. refl) c room (λ p. h)

  pub silent_ask : (time t sender n : ℕ) → Silent (step_all x (new (ask_all time t sender n)) room)
  unfolding new_effect ask_reply
  silent_ask time t sender n =
      first (ask_all time t sender n)
      (by_sender Silent x (λ a e. refl) sender _ (by_joined Silent x (λ a e. refl) time t _ refl (λ j. refl)))

  pub silent_idontwant : (time id n : ℕ) → Silent (step_all x (new (idontwant time id n)) room)
  unfolding new_effect idontwant_reply
  silent_idontwant time id n =
      first (idontwant time id n)
      (by_slot_lem Silent x (λ a e. refl) id _ (λ s l on i.
      cond_case Silent (is_heeded x.base s) _ (ignored_all x time)
      (λ e.
      cond_case Silent (holds (note_in x.gossip s) n) (done_all x time x.gossip [] []) _ (λ k. refl) (λ k.
      cond_case Silent (has_room x.gossip.setup (note_in x.gossip s)) _ (ignored_all x time) (λ r. refl) (λ r. refl)))
      (λ e. refl)))

  pub silent_relay : (time t sender n : ℕ) → Silent (step_all x (new (relay time t sender n)) room)
  unfolding new_effect relay_reply
  silent_relay time t sender n =
      first (relay time t sender n)
      (by_sender Silent x (λ a e. refl) sender _ (by_joined Silent x (λ a e. refl) time t _ refl (λ j. refl)))

  pub silent_beat : (time : ℕ) → Silent (step_all x (new (beat time)) room)
  unfolding new_effect
  silent_beat time = first (beat time) refl

  pub silent_store : (time t n : ℕ) → Silent (step_all x (new (store time t n)) room)
  unfolding new_effect store_reply
  silent_store time t n =
      first (store time t n)
      (by_joined Silent x (λ a e. refl) time t _ refl (λ j.
      cond_case Silent (stored_in (store_in x.gossip t) n) (done_all x time x.gossip [] []) _ (λ e. refl) (λ e.
      cond_case Silent (ltb (running (store_in x.gossip t)) window_most) _ (refused_all 13 x) (λ r. refl) (λ r. refl))))

  pub silent_iwant : (time id n : ℕ) → Silent (step_all x (new (iwant time id n)) room)
  unfolding new_effect iwant_reply
  silent_iwant time id n =
      first (iwant time id n)
      (by_slot_lem Silent x (λ a e. refl) id _ (λ s l on i.
      cond_case Silent (is_served x n s) _ (ignored_all x time) (λ e. refl) (λ e. refl)))
