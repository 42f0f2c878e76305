use Rattle.std.specs.Prelude.{◌≡◌, ◌⊎◌, ◌<◌, ℕ, List, Option, IsNone}
use Rattle.edge_io.specs.declared.entries.Entry.{Entry}
use Rattle.edge_io.specs.declared.outputs.Output.{Output}
use Rattle.edge_io.specs.Entries.{value_of}
use Rattle.edge_io.specs.Outputs.{room_in, spare_in, written_in}
use Rattle.edge_io.specs.Calls.{CallCount, IsListed}

-- own: what contracts see of a shelf in memory: texts that were placed, texts that are written, and the calls so far
pub record ShelfState : Type 0 where
  pub placed : List (Entry (List ℕ))
  pub outputs : List (Entry Output)
  pub calls : CallCount

-- own: the bytes that were last placed under a name
abbrev pub placed_bytes : ShelfState → List ℕ → Option (List ℕ)
placed_bytes shelf name = value_of shelf.placed name

-- own: the bytes written under a name since it was last started
abbrev pub written_bytes : ShelfState → List ℕ → Option (List ℕ)
written_bytes shelf name = written_in shelf.outputs name

-- own: how many bytes may be written under a name, where room was made for it
abbrev pub room_of : ShelfState → List ℕ → Option ℕ
room_of shelf name = room_in shelf.outputs name

-- own: how many of them are left
abbrev pub spare_room : ShelfState → List ℕ → ℕ
spare_room shelf name = spare_in shelf.outputs name

-- own: a read fails: the call is listed, or nothing was placed under the name
abbrev pub FailsToRead : ShelfState → List ℕ → Type 0
FailsToRead shelf name = IsListed shelf.calls ⊎ IsNone (placed_bytes shelf name)

-- own: a start fails: the call is listed, or no room was made for the name
abbrev pub FailsToStart : ShelfState → List ℕ → Type 0
FailsToStart shelf name = IsListed shelf.calls ⊎ IsNone (room_of shelf name)

-- own: an append of so many bytes fails: the call is listed, the name wasn't started, or there are bytes and none fits
abbrev pub FailsToAppend : ShelfState → List ℕ → ℕ → Type 0
FailsToAppend shelf name count = IsListed shelf.calls
    ⊎ (IsNone (written_bytes shelf name) ⊎ ((0 < count) × (spare_room shelf name ≡ 0)))
