-- A table's state in the old form has a table's sizes.
-- Assumes nothing.
use Prim.Native.Nat.{ℕ, zero, suc}
use mathlib.Core.Path.{◌≡◌, refl, ◌∙◌}
use mathlib.Core.List.{List, [], ◌∷◌, map}
use lib.ListN.{length, get_or, length-map}
use Rattle.records.specs.Records.{no_peer, peer_in, slot_count, topic_count, param_count}
use Rattle.layout.specs.View.{place_count, Sized}
use Rattle.rows.specs.Rows.{rows}
use Rattle.rows.specs.View.{joined_at, codes_at, peers_at, peer_cells, topics_at, topic_cells, peer_of, topic_of, state_of_rows}
use Rattle.rows.proofs.RowLaws.{length_rows, length_span}

ends_length : (r : List ℕ) → length (peer_of r).backoff ≡ 8
unfolding peer_of
ends_length r = refl

map_ends : (l : List (List ℕ)) (s : ℕ) → length (get_or (map peer_of l) s no_peer).backoff ≡ 8
map_ends [] s = refl
map_ends (r ∷ l) zero = ends_length r
map_ends (r ∷ l) (suc s) = map_ends l s

pub sized_of : (cells : List ℕ) → Sized (state_of_rows cells)
unfolding state_of_rows peer_in
sized_of cells =
    record {
      joined = length_span cells joined_at topic_count;
      codes = length_span cells codes_at param_count;
      peers = length-map (rows cells peers_at peer_cells slot_count) peer_of ∙ length_rows cells peers_at peer_cells slot_count;
      topics = length-map (rows cells topics_at topic_cells place_count) topic_of ∙ length_rows cells topics_at topic_cells place_count;
      ends = map_ends (rows cells peers_at peer_cells slot_count);
    }
