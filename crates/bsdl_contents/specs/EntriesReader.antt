-- own: how entries of the design's own registers are read.
-- IEEE Std 1149.1-2001: the annex on BSDL (register access).
use Rattle.std.specs.Prelude.{ℕ, List, [], ◌∷◌, Option}
use Rattle.bsdl_device.specs.Runs.{ContentWord, MarkByte, left_parenthesis, right_parenthesis}
use Rattle.bsdl_device.specs.Readers.{Read, pair_at, ended_at, made_at}
use Rattle.bsdl_contents.specs.Reader.{views, name_at, integer_at, identifier_at, list_at, whole_at}
use Rattle.bsdl_device.specs.declared.registers.values.RegisterEntry.{RegisterEntry}

-- `NAME [`
unfoldable pub head_at : List ContentWord → Read ContentWord (List ℕ)
head_at ws = ended_at name_at (views (MarkByte 91 ∷ [])) ws

-- `length ] (`
unfoldable pub length_at : List ContentWord → Read ContentWord ℕ
length_at ws = ended_at integer_at (views (MarkByte 93 ∷ left_parenthesis ∷ [])) ws

-- `INSTRUCTION )`
unfoldable pub instruction_at : List ContentWord → Read ContentWord (List ℕ)
instruction_at ws = ended_at identifier_at (views (right_parenthesis ∷ [])) ws

abbrev pub entry_of : (List ℕ) × (ℕ × List ℕ) → RegisterEntry
entry_of z = record { name = z.0; length = z.1.0; instruction = z.1.1 }

-- `NAME [length] (INSTRUCTION)`
unfoldable pub entry_at : List ContentWord → Read ContentWord RegisterEntry
entry_at ws = made_at entry_of (pair_at head_at (λ _. pair_at length_at (λ _ a. instruction_at a))) ws

-- the entries that the words are, if they are some
abbrev pub entries_in : List ContentWord → Option (List RegisterEntry)
entries_in ws = (whole_at (list_at entry_at) ws).0
