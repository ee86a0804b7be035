-- The worked examples: the definitions compute.
-- Assumes nothing.
use mathlib.Core.Path.{refl}
use Rattle.index.specs.Index.{every, first}
use Rattle.message_ids.specs.Ids.{is_id, row_of, number_row, digits, id_ok, ids_ok, place_ok, numbers_ok, table_ok}
use Rattle.message_ids.specs.Examples.{Examples}

pub examples : Examples
unfolding every first is_id row_of number_row digits id_ok ids_ok place_ok numbers_ok table_ok
examples =
    record {
      accepted = refl;
      empty = refl;
      number_twice = refl;
      row_twice = refl;
      id_twice = refl;
      longer_first = refl;
      larger_first = refl;
      no_bytes = refl;
      bytes_65 = refl;
      row_cut = refl;
      second = refl;
      prefix = refl;
      longer = refl;
      none = refl;
      nine = refl;
      one = refl;
    }
