-- What the second pass is lent, as lists.
use Rattle.rpc.specs.Reading.{Known, known}
use Rattle.rpc.specs.declared.lent.Tables.{Tables}

abbrev pub known_by : Tables → Known
known_by t = known t.names.now t.table.ids.now t.table.numbers.now
