-- What the contracts of the streams in memory see of them.
use Rattle.std.specs.Prelude.{ℕ, ◌-◌, List, length, drop}
use Rattle.lg_outside.specs.declared.memory.MemorySource.{MemorySource}
use Rattle.lg_outside.specs.declared.memory.MemorySink.{MemorySink}

-- the bytes that the source has not given yet
abbrev pub source_left : MemorySource → List ℕ
source_left source = drop source.taken source.bytes.items

-- the most bytes that one call gives
abbrev pub source_piece : MemorySource → ℕ
source_piece source = source.piece

-- the numbers, from 1, of the calls that fail
abbrev pub source_failing : MemorySource → List ℕ
source_failing source = source.failing.items

-- how many calls there were, which is the number of the last
abbrev pub source_calls : MemorySource → ℕ
source_calls source = source.calls

-- how many of them failed
abbrev pub source_faults : MemorySource → ℕ
source_faults source = source.faults

-- the bytes that the sink took
abbrev pub sink_written : MemorySink → List ℕ
sink_written sink = sink.bytes.items

-- the most bytes that the sink takes in all
abbrev pub sink_room : MemorySink → ℕ
sink_room sink = sink.room

-- how many more bytes it takes
abbrev pub sink_room_left : MemorySink → ℕ
sink_room_left sink = sink_room sink - length (sink_written sink)

-- the numbers, from 1, of the calls that fail
abbrev pub sink_failing : MemorySink → List ℕ
sink_failing sink = sink.failing.items

-- how many calls there were, which is the number of the last
abbrev pub sink_calls : MemorySink → ℕ
sink_calls sink = sink.calls

-- how many of them failed
abbrev pub sink_faults : MemorySink → ℕ
sink_faults sink = sink.faults
