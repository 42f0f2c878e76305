-- What ties reading to the words of files.
use Rattle.std.specs.Prelude.{◌≡◌, ◌≤◌, ◌-◌, List, [], length, Some, None}
use Rattle.bsdl_lexicon.specs.declared.token.BsdlToken.{BsdlToken}
use Rattle.bsdl_device.specs.declared.written.PortDeclaration.{PortDeclaration}
use Rattle.bsdl_device.specs.declared.written.File.{File}
use Rattle.bsdl_device.specs.Spelled.{SpellsFile}
use Rattle.bsdl_device.specs.Faults.{IsShapeFault}
use Rattle.bsdl_device.specs.Readers.{Read, after, done, end_at}
use Rattle.bsdl_device.specs.Files as files

-- a whole file and nothing behind it
abbrev pub file_at : List BsdlToken → Read BsdlToken File
file_at ws = after (files.sections_at ws) (λ f a. after (end_at a) (λ _ b. done f b))

-- The words of a file are read as it.
abbrev pub ReadsEachFile : Type 0
ReadsEachFile = (f : File) (ws : List BsdlToken) → SpellsFile ws f → file_at ws ≡ (Some f, [])

-- What is read is a file, and these are its words.
abbrev pub ReadsOnlyFiles : Type 0
ReadsOnlyFiles = (ws : List BsdlToken) (f : File) (left : List BsdlToken) → file_at ws ≡ (Some f, left) → SpellsFile ws f

-- Words spell one file at most.
abbrev pub SpellsOneFile : Type 0
SpellsOneFile = (ws : List BsdlToken) (f g : File) → SpellsFile ws f → SpellsFile ws g → f ≡ g

-- Where reading stops at a fault, the words spell no file.
abbrev pub FaultsSpellNothing : Type 0
FaultsSpellNothing = (ws left : List BsdlToken) (f : File) → file_at ws ≡ (None, left) → SpellsFile ws f → ⊥

-- Where reading stops at a fault, it stops at the fault's word.
abbrev pub FaultsAtFaultWord : Type 0
FaultsAtFaultWord = (ws left : List BsdlToken) → file_at ws ≡ (None, left) → IsShapeFault ws (length ws - length left)

-- Behind a declaration of ports no more words are left than before it.
abbrev pub DeclarationsLeaveNoMore : Type 0
DeclarationsLeaveNoMore = (ws : List BsdlToken) (d : PortDeclaration) (left : List BsdlToken) → files.declaration_at ws ≡ (Some d, left) → length left ≤ length ws
