-- What the contracts of the adapters over std's readers and writers see of them.
use Rattle.std.specs.Prelude.{ℕ}
use Rattle.lg_outside.specs.declared.standard.StdSource.{StdSource}
use Rattle.lg_outside.specs.declared.standard.StdSink.{StdSink}

-- the reader that the source reads from
abbrev pub reader_of : {R : Type 0} → StdSource R → R
reader_of source = source.reader

-- how many reads failed
abbrev pub reader_faults : {R : Type 0} → StdSource R → ℕ
reader_faults source = source.faults

-- the writer that the sink writes to
abbrev pub writer_of : {W : Type 0} → StdSink W → W
writer_of sink = sink.writer

-- how many writes failed, or took nothing of a piece that has a byte
abbrev pub writer_faults : {W : Type 0} → StdSink W → ℕ
writer_faults sink = sink.faults
