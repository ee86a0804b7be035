-- The worked examples, by computation.
-- Assumes nothing.
use mathlib.Core.Path.{refl}
use Rattle.index.specs.Index.{every, first, iter, gather}
use Rattle.varint.specs.Groups.{groups, encode, decode, read_at}
use Rattle.params.specs.Ordinary.{ordinary_numbers}
use Rattle.records.specs.Records.{code_in, peer_in, topic_in}
use Rattle.rows.specs.Rows.{span, joins}
use Rattle.validity.specs.Valid.{topic_param}
use Rattle.lookup.specs.Fresh.{fresh_state}
use Rattle.effects.specs.Effects.{retained_to, reclaimable}
use Rattle.saves.specs.Save.{topic_row, row_of, as_left, is_saved, saved_row, insert, placed, order, body_of, numbers_of, bytes_of, save_of}
use Rattle.saves.specs.Load.{parse_from, place_of, most_of, prior, ascends, outside, end_from, loaded_peer, loaded_topic, loaded_state}
use Rattle.saves.specs.Load.{slots_of, records, load_of}
use Rattle.saves.specs.Examples.{peers, evening, written, Examples}

pub examples : Examples
unfolding every first iter gather groups encode decode read_at ordinary_numbers code_in peer_in topic_in span joins topic_param fresh_state
    retained_to reclaimable topic_row row_of as_left is_saved saved_row insert placed order body_of numbers_of bytes_of save_of
    parse_from place_of most_of prior ascends outside end_from loaded_peer loaded_topic loaded_state slots_of records load_of peers evening written
examples =
    record {
      saves = refl;
      none = refl;
      older = refl;
      empty = refl;
      cut = refl;
      left_over = refl;
      edition = refl;
      count = refl;
      older_count = refl;
      short = refl;
      older_short = refl;
      id = refl;
      first = refl;
      twice = refl;
      backoff = refl;
      set_up = refl;
      clock = refl;
      back = refl;
    }
