-- The source and the sink in memory: what each call makes of them.
use Rattle.std.specs.Prelude.{ℕ, ◌+◌, ◌-◌, ◌^◌, ◌==◌, min, Bool, ◌||◌, if◌then◌else◌, List, [], ◌++◌, length, take, drop}
use Rattle.std.specs.List.{list_any}

-- A count of 32 or 64 bits goes up by one, and stands still at its end.
abbrev pub one_more : ℕ → ℕ → ℕ
one_more bits count = min (count + 1) (2 ^ bits - 1)

-- A source: the bytes that are left, the numbers of the calls that fail, the number of the next call, the count of faults.
pub record SourceState : Type 0 where
  pub left : List ℕ
  pub fails : List ℕ
  pub calls : ℕ
  pub faults : ℕ

-- A sink: the bytes that it holds, how many it can hold, and the rest as in a source.
pub record SinkState : Type 0 where
  pub held : List ℕ
  pub room : ℕ
  pub fails : List ℕ
  pub calls : ℕ
  pub faults : ℕ

-- The call of this number fails.
abbrev pub is_failing : List ℕ → ℕ → Bool
is_failing fails call = list_any (λ f. f == call) fails

-- A TAKE

abbrev pub new_source : List ℕ → List ℕ → SourceState
new_source bytes fails = record { left = bytes; fails = fails; calls = 0; faults = 0 }

abbrev pub take_fails : SourceState → Bool
take_fails s = is_failing s.fails s.calls

-- how many bytes come: as many as the buffer has room for and as are left
abbrev pub take_count : SourceState → List ℕ → ℕ
take_count s buffer = min (length buffer) (length s.left)

abbrev pub after_take : SourceState → List ℕ → SourceState
after_take s buffer =
    if take_fails s then record s { calls = one_more 32 s.calls; faults = one_more 64 s.faults }
    else record s { left = drop (take_count s buffer) s.left; calls = one_more 32 s.calls }

-- the buffer: the bytes that came stand in its front, and the rest of it is as before
abbrev pub filled : SourceState → List ℕ → List ℕ
filled s buffer =
    if take_fails s then buffer
    else take (take_count s buffer) s.left ++ drop (take_count s buffer) buffer

-- A PUT

abbrev pub new_sink : ℕ → List ℕ → SinkState
new_sink room fails = record { held = []; room = room; fails = fails; calls = 0; faults = 0 }

abbrev pub put_fails : SinkState → Bool
put_fails s = is_failing s.fails s.calls || length s.held == s.room

-- how many bytes are appended: as many as the piece has and as there is room for
abbrev pub put_count : SinkState → List ℕ → ℕ
put_count s piece = min (length piece) (s.room - length s.held)

abbrev pub after_put : SinkState → List ℕ → SinkState
after_put s piece =
    if put_fails s then record s { calls = one_more 32 s.calls; faults = one_more 64 s.faults }
    else record s { held = s.held ++ take (put_count s piece) piece; calls = one_more 32 s.calls }
