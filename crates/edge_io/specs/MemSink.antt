use Rattle.std.specs.Prelude.{◌≡◌, ◌⊎◌, ◌<◌, ◌-◌, ℕ, length}
use Rattle.edge_io.specs.Calls.{CallCount, IsListed}
use Rattle.edge_io.specs.Reserved.{RoomedBytes}

-- own: what contracts see of a sink in memory: the bytes given with their room, and the calls so far
pub record SinkState : Type 0 where
  pub text : RoomedBytes
  pub calls : CallCount

-- own: a put of so many bytes fails: the call is listed, or there are bytes and none fits the room
abbrev pub FailsToPut : SinkState → ℕ → Type 0
FailsToPut sink count = IsListed sink.calls ⊎ ((0 < count) × (sink.text.room - length sink.text.bytes ≡ 0))
