-- The worked examples: the definitions compute.
-- Assumes nothing.
use mathlib.Core.Path.{refl}
use Rattle.index.specs.Index.{every, first, gather}
use Rattle.varint.specs.Groups.{encode, groups}
use Rattle.message_ids.specs.Ids.{number_row}
use Rattle.rpc_write.specs.Writing.{value_field, part_field, name_size, name_of, id_of, named_bytes, entry_bytes, one_bytes, kind_bytes}
use Rattle.rpc_write.specs.Writing.{inner_field, control_bytes, message_of, named_ok, notice_ok, entry_ok, list_ok}
use Rattle.rpc_write.specs.Examples.{Examples}

pub examples : Examples
unfolding every first gather encode groups number_row value_field part_field name_size name_of id_of named_bytes entry_bytes one_bytes kind_bytes
    inner_field control_bytes message_of named_ok notice_ok entry_ok list_ok
examples = record { one_field = refl; none = refl; known_number = refl; unknown = refl; third = refl }
