-- What ties contents to the strings that hold them.
use Rattle.std.specs.Prelude.{◌≡◌}
use Rattle.bsdl_device.specs.declared.written.File.{File}
use Rattle.bsdl_device.specs.declared.entries.Contents.{Contents}
use Rattle.bsdl_device.specs.Spelled.{HasContents}

-- The strings of a file hold one list of contents at most.
abbrev pub HoldOneContents : Type 0
HoldOneContents = (f : File) (c other : Contents) → HasContents f c → HasContents f other → other ≡ c
