-- The words at which wrong contents are told, by the first words of their sections.
use Rattle.std.proofs.Common.{◌≡◌, ◌+◌, length, refl}
use Rattle.bsdl_device.specs.declared.written.File.{File}
use Rattle.bsdl_device.specs.Shape.{code_words}
use Rattle.bsdl_contents.specs.declared.fault.HeldSection.TheVariants as section
use Rattle.bsdl_checks.specs.Counts.{first_word}
use Rattle.bsdl_values.specs.RegistersPlaces.{contents_word}

pub contents_word-pin_map : (f : File) → contents_word f section.PinMap ≡ first_word f 7 + 5
unfolding contents_word first_word
contents_word-pin_map f = refl

pub contents_word-opcodes : (f : File) → contents_word f section.Opcodes ≡ first_word f 11 + 7
unfolding contents_word first_word
contents_word-opcodes f = refl

pub contents_word-capture : (f : File) → contents_word f section.Capture ≡ first_word f 12 + 7
unfolding contents_word first_word
contents_word-capture f = refl

pub contents_word-idcode : (f : File) → contents_word f section.Idcode ≡ first_word f 13 + 7
unfolding contents_word first_word
contents_word-idcode f = refl

pub contents_word-usercode : (f : File) → contents_word f section.Usercode ≡ first_word f 13 + length (code_words f) + 7
unfolding contents_word first_word
contents_word-usercode f = refl

pub contents_word-access : (f : File) → contents_word f section.Access ≡ first_word f 14 + 7
unfolding contents_word first_word
contents_word-access f = refl

pub contents_word-rows : (f : File) → contents_word f section.Rows ≡ first_word f 16 + 7
unfolding contents_word first_word
contents_word-rows f = refl

pub ruleset contents_words = (contents_word-pin_map, contents_word-opcodes, contents_word-capture, contents_word-idcode, contents_word-usercode, contents_word-access, contents_word-rows)
