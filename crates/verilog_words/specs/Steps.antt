use Rattle.std.specs.Prelude.{◌≡◌, ℕ, ◌+◌, ◌<◌, List, [], Option, Some, Result, Ok, Err}
use Rattle.verilog_lexicon.specs.declared.word.Spanned.{Spanned}
use Rattle.word_cutter.specs.declared.fault.CutFault.{CutFault}
use Rattle.word_cutter.specs.declared.fault.CutFault.TheVariants.{BadByte, OutOfMemory}
use Rattle.word_cutter.specs.Run.{IsStepFault}
use Rattle.word_cutter.specs.Run as taken
use Rattle.verilog_words.specs.declared.machine.WordMachine.{WordMachine}
use Rattle.verilog_words.specs.declared.mode.Mode.{Mode}
use Rattle.verilog_words.specs.declared.mode.Mode.TheVariants as in_
use Rattle.verilog_words.specs.Machine.{State, state, step}

-- How the code follows the machine (own).

-- where the piece that was begun has its offset: in the modes of a word
abbrev pub from_in : Mode → ℕ → ℕ
from_in in_.Between from = 0
from_in in_.Slash from = 0
from_in in_.Line from = 0
from_in in_.Open from = from
from_in (in_.Enclosed e) from = 0
from_in (in_.EnclosedStar e) from = 0
from_in in_.Backquote from = 0
from_in (in_.Directive d) from = 0
from_in in_.Name from = from
from_in in_.Escaped from = from
from_in in_.Number from = from
from_in in_.Quote from = from
from_in in_.Base from = from
from_in (in_.Constant value) from = from

-- the modes that keep the bytes of what was begun
abbrev pub pending_in : Mode → List ℕ → List ℕ
pending_in in_.Between pending = []
pending_in in_.Slash pending = []
pending_in in_.Line pending = []
pending_in in_.Open pending = []
pending_in (in_.Enclosed e) pending = []
pending_in (in_.EnclosedStar e) pending = []
pending_in in_.Backquote pending = []
pending_in (in_.Directive d) pending = pending
pending_in in_.Name pending = pending
pending_in in_.Escaped pending = pending
pending_in in_.Number pending = pending
pending_in in_.Quote pending = []
pending_in in_.Base pending = []
pending_in (in_.Constant value) pending = []

abbrev pub state_of : WordMachine → State
state_of m = state m.words.list m.mode (from_in m.mode m.from) (pending_in m.mode m.pending)

-- one step of the machine, unless memory runs out
abbrev pub Steps : WordMachine → ℕ → Option State → Result (Unit {0}) CutFault → Type 0
Steps new at s (Ok _) = s ≡ Some (state_of new)
Steps new at s (Err e) = IsStepFault e at s

-- what was begun is whole, and these are the words, unless memory runs out
abbrev pub Closes : WordMachine → List Spanned → Result (Unit {0}) CutFault → Type 0
Closes new words (Ok _) = (new.words.list ≡ words) × (new.mode ≡ in_.Between)
Closes new words (Err e) = e ≡ OutOfMemory

-- the words of the text that ends here
abbrev pub EndsAs : WordMachine → ℕ → Option (List Spanned) → Result (Unit {0}) CutFault → Type 0
EndsAs new at words (Ok _) = words ≡ Some new.words.list
EndsAs new at words (Err e) = IsStepFault e at words

-- some bytes at the front of a piece
abbrev pub Takes : WordMachine → State → ℕ → List ℕ → Result ℕ CutFault → Type 0
Takes new s at piece r = taken.Takes step at s piece (state_of new) r

-- so many bytes more, of which those up to 255 in all are kept
abbrev pub IsTooLong : ℕ → ℕ → ℕ → CutFault → Type 0
IsTooLong at had more OutOfMemory = Unit {0}
IsTooLong at had more (BadByte place) = (place + had ≡ at + 255) × (255 < had + more)
