-- own: the word at which wrong contents are told.
use Rattle.std.specs.Prelude.{ℕ}
use Rattle.bsdl_device.specs.declared.written.File.{File}
use Rattle.bsdl_device.specs.Faults.{string_word}
use Rattle.bsdl_contents.specs.declared.fault.HeldSection.{HeldSection}
use Rattle.bsdl_contents.specs.Outcomes.{section_of}

-- the number of the first word of a section's strings
unfoldable pub contents_word : File → HeldSection → ℕ
contents_word f s = string_word f (section_of s)
