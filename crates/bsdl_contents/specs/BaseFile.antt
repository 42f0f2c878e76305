-- own: the file without the entries of the design's own registers.
use Rattle.std.specs.Prelude.{◌≡◌, ℕ, ◌+◌, List, length, take, drop, Option, None, option_and_then}
use Rattle.std.specs.Option.{option_map}
use Rattle.bsdl_device.specs.declared.written.File.{File}
use Rattle.bsdl_device.specs.declared.entries.AccessEntry.{AccessEntry}
use Rattle.bsdl_device.specs.Runs.{content_words}
use Rattle.bsdl_device.specs.Shape.{joined}
use Rattle.bsdl_device.specs.Spelled.{HoldAccess}
use Rattle.bsdl_device.specs.declared.registers.values.RegisterEntry.{RegisterEntry}
use Rattle.bsdl_device.specs.Entries.{HoldExtended}
use Rattle.bsdl_contents.specs.declared.entries.parted.Parted.{Parted}
use Rattle.bsdl_contents.specs.declared.entries.parted.OwnEntries.{OwnEntries}
use Rattle.bsdl_contents.specs.EntriesReader.{entries_in}
use Rattle.bsdl_contents.specs.OwnPlaces.{place_from}

-- the entries behind the last comma before the first `[`, where there are some
abbrev pub own_at : List ℕ → ℕ → Option OwnEntries
own_at bytes at = option_map (λ entries. let own : OwnEntries = record { place = at; entries = entries } in own) (entries_in (content_words (drop (at + 1) bytes)))

abbrev pub own_in : List ℕ → Option OwnEntries
own_in bytes = option_and_then (own_at bytes) (place_from None 0 bytes)

-- the file with other strings of REGISTER_ACCESS
abbrev pub with_access : File → List (List ℕ) → File
with_access f strings = record {
  entity = f.entity;
  default_package = f.default_package;
  declarations = f.declarations;
  conformance_entity = f.conformance_entity;
  pin_map_entity = f.pin_map_entity;
  «package» = f.«package»;
  pin_map = f.pin_map;
  tap = f.tap;
  clock = f.clock;
  stop = f.stop;
  length = f.length;
  opcodes = f.opcodes;
  capture = f.capture;
  idcode = f.idcode;
  usercode = f.usercode;
  access = record { entity = f.access.entity; strings = strings };
  boundary_length = f.boundary_length;
  boundary = f.boundary;
  end = f.end;
}

-- as many strings as the file has hold just the profile's registers, and these are the entries behind them
pub record IsParted (f : File) (p : Parted) : Type 0 where
  pub same : p.file ≡ with_access f p.file.access.strings
  pub many : length p.file.access.strings ≡ length f.access.strings
  pub to : (list : List AccessEntry) → HoldAccess p.file.access.strings list → HoldExtended f.access.strings list p.entries
  pub from : (list : List AccessEntry) (others : List RegisterEntry) → HoldExtended f.access.strings list others → HoldAccess p.file.access.strings list
  pub only : (list : List AccessEntry) (others : List RegisterEntry) → HoldExtended f.access.strings list others → others ≡ p.entries

abbrev pub IsPartedAs : File → File → List RegisterEntry → Type 0
IsPartedAs f g entries = IsParted f (record { file = g; entries = entries })

-- as many strings as before hold the bytes before this place
pub record KeepsFront (f g : File) (bytes : List ℕ) (place : ℕ) : Type 0 where
  pub same : g ≡ with_access f g.access.strings
  pub front : joined g.access.strings ≡ take place bytes
  pub many : length g.access.strings ≡ length f.access.strings
