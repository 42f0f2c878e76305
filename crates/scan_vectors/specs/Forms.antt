-- own: what a reader sees of a line.
use Rattle.std.specs.Prelude.{◌≡◌, ℕ, true, false, List, Some, None}
use Rattle.scan_vectors.specs.declared.form.Form.{Form}
use Rattle.scan_vectors.specs.declared.form.Form.TheVariants as form
use Rattle.word_cutter.specs.LinesWords.{is_kept}
use Rattle.scan_vectors.specs.Faults.{event_of, is_header, line_of}

-- what these words are of, where they aren't skipped
abbrev pub HasShape : List (List ℕ) → Form → Type 0
HasShape words form.Skipped = ⊥
HasShape words form.Header = (is_header words ≡ true) × (event_of words ≡ None)
HasShape words (form.Event act pin value) = (is_header words ≡ false) × (event_of words ≡ Some (line_of act pin.now value))
HasShape words form.Other = (is_header words ≡ false) × (event_of words ≡ None)

abbrev pub HasForm : List (List ℕ) → Form → Type 0
HasForm words form.Skipped = is_kept words ≡ false
HasForm words form.Header = (is_kept words ≡ true) × HasShape words form.Header
HasForm words (form.Event act pin value) = (is_kept words ≡ true) × HasShape words (form.Event act pin value)
HasForm words form.Other = (is_kept words ≡ true) × HasShape words form.Other
