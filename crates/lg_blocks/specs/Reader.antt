-- What a reader has read.
use Rattle.std.specs.Prelude.{List}
use Rattle.lg_blocks.specs.Rows.{Row}
use Rattle.lg_blocks.specs.Unfinished.{unfinished_rows}
use Rattle.lg_blocks.specs.declared.reader.Reader.{Reader}

abbrev pub rows_read : Reader → List Row
rows_read reader = unfinished_rows reader.read
