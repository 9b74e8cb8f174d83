-- What a caller knows of the streams in memory.
use Rattle.std.specs.Prelude.{◌≡◌, ◌+◌, ◌-◌, ◌^◌, ℕ, List, min, drop}
use Rattle.streams.specs.declared.memory.MemorySource.{MemorySource}
use Rattle.streams.specs.declared.memory.HonestSource.{HonestSource}
use Rattle.streams.specs.declared.memory.MemorySink.{MemorySink}
use Rattle.streams.specs.declared.memory.HonestSink.{HonestSink}

-- the bytes that are still to come
abbrev pub source_left : MemorySource → List ℕ
source_left source = drop source.at source.bytes.items

-- how many faults there were, up to 2^64 - 1
abbrev pub source_faults : MemorySource → ℕ
source_faults source = source.faults

-- the numbers, from 0, of the calls that are to fail
abbrev pub source_fails : MemorySource → List ℕ
source_fails source = source.fails.items

-- how many calls there were, up to 2^64 - 1
abbrev pub source_calls : MemorySource → ℕ
source_calls source = source.calls

-- the most bytes of one call
abbrev pub source_piece : MemorySource → ℕ
source_piece source = source.piece

-- a call was counted, and what was chosen stays
pub record SourceCounts (old new : MemorySource) : Type 0 where
  pub calls : source_calls new ≡ min (source_calls old + 1) (2 ^ 64 - 1)
  pub fails : source_fails new ≡ source_fails old
  pub piece : source_piece new ≡ source_piece old

-- the bytes that are still to come
abbrev pub honest_left : HonestSource → List ℕ
honest_left source = drop source.at source.bytes.items

-- the bytes that were written
abbrev pub sink_written : MemorySink → List ℕ
sink_written sink = sink.bytes.items

-- how many faults there were, up to 2^64 - 1
abbrev pub sink_faults : MemorySink → ℕ
sink_faults sink = sink.faults

-- how many bytes the sink holds at most
abbrev pub sink_room : MemorySink → ℕ
sink_room sink = sink.room

-- the numbers, from 0, of the calls that are to fail
abbrev pub sink_fails : MemorySink → List ℕ
sink_fails sink = sink.fails.items

-- how many calls there were, up to 2^64 - 1
abbrev pub sink_calls : MemorySink → ℕ
sink_calls sink = sink.calls

-- the most bytes of one call
abbrev pub sink_piece : MemorySink → ℕ
sink_piece sink = sink.piece

-- a call was counted, and what was chosen stays
pub record SinkCounts (old new : MemorySink) : Type 0 where
  pub calls : sink_calls new ≡ min (sink_calls old + 1) (2 ^ 64 - 1)
  pub fails : sink_fails new ≡ sink_fails old
  pub piece : sink_piece new ≡ sink_piece old
  pub room : sink_room new ≡ sink_room old

-- the bytes that were written
abbrev pub honest_written : HonestSink → List ℕ
honest_written sink = sink.bytes.items

-- how many faults there were, up to 2^64 - 1
abbrev pub honest_faults : HonestSink → ℕ
honest_faults sink = sink.faults

-- how many bytes the sink holds at most
abbrev pub honest_room : HonestSink → ℕ
honest_room sink = sink.room
