-- For a program that makes turns and readings: the window, the table and the buffer that it holds are where some run of them stands.
-- Assumes nothing.
use Prim.Native.Nat.{ℕ, suc, ◌≤◌}
use mathlib.Core.Path.{◌≡◌, refl}
use mathlib.Core.Logic.{inl, inr}
use mathlib.Core.List.{List, [], ◌++◌}
use lib.ListN.{length, take, drop}
use Rattle.index.proofs.Flags.{by_test}
use Rattle.trace_events.specs.Lines.{line_room}
use Rattle.trace_feed.specs.declared.Window.{Window}
use Rattle.trace_feed.specs.Turns.{Inside, Refills, start_window, front_room, Turns}
use Rattle.trace_feed.specs.Cuts.{Ran}
use Rattle.trace_feed.proofs.Cuts.{every_cut}

pub record Moves (w : Window) (table buf : List ℕ) : Type 0 where
  turns : ℕ
  given : List ℕ
  told : List ℕ
  ran : Ran turns (record { given = given; told = told; window = w; table = table; buffer = buf })

pub moves_start : (w : Window) (table buf : List ℕ) → w ≡ start_window → front_room ≤ length buf → Moves w table buf
unfolding Ran
moves_start w table buf e h =
    record { turns = 0; given = []; told = []; ran = record { given = refl; told = refl; window = e; size = h } }

pub moves_inside : (w : Window) (table buf : List ℕ) → Moves w table buf → Inside w buf
moves_inside w table buf m = (every_cut m.turns _ m.ran).inside

module _ (w w' : Window) (table table' buf buf' : List ℕ) (m : Moves w table buf) where
  -- a turn, whose text the program writes
  pub moves_turn : (out out' : List ℕ) → line_room ≤ length out → Turns w w' table table' buf buf' out out' → Moves w' table' buf'
  unfolding Ran
  moves_turn out out' h t =
      record {
        turns = suc m.turns;
        given = m.given;
        told = m.told ++ take w'.written out';
        ran = (_, m.ran, inl (record { out = out; out' = out'; room = h; turns = t; given = refl; told = refl }));
      }

  pub moves_fill : table' ≡ table → Refills w w' buf buf' → Moves w' table' buf'
  unfolding Ran
  moves_fill same f =
      rw same
      (by_test (Moves w' table buf') w.wants
      (λ e.
      record {
        turns = suc m.turns;
        given = m.given ++ take (f.wanted e).n (drop w.end buf');
        told = m.told;
        ran = (_, m.ran, inr (record { wanted = e; fills = f.wanted e; table = refl; given = refl; told = refl }));
      })
      (λ e. rw ((f.idle e).0, (f.idle e).1) m))
