use Rattle.std.specs.Prelude.{◌≡◌, ℕ, List, [], Option, Some, Result, Ok, Err}
use Rattle.bsdl_lexicon.specs.declared.token.BsdlSpanned.{BsdlSpanned}
use Rattle.word_cutter.specs.declared.fault.CutFault.{CutFault}
use Rattle.word_cutter.specs.declared.fault.CutFault.TheVariants.{OutOfMemory}
use Rattle.word_cutter.specs.Run.{IsStepFault}
use Rattle.word_cutter.specs.Run as taken
use Rattle.bsdl_words.specs.declared.machine.BsdlMachine.{BsdlMachine}
use Rattle.bsdl_words.specs.declared.mode.Mode.{Mode}
use Rattle.bsdl_words.specs.declared.mode.Mode.TheVariants as in_
use Rattle.bsdl_words.specs.Machine.{State, state, step}

-- How the code follows the machine (own).

-- where the piece that was begun has its offset: in the modes of a word
abbrev pub from_in : Mode → ℕ → ℕ
from_in in_.Between from = 0
from_in in_.Dash from = 0
from_in in_.Comment from = 0
from_in in_.Colon from = from
from_in in_.Name from = from
from_in in_.Underscore from = from
from_in in_.Digits from = from
from_in in_.Point from = from
from_in in_.Fraction from = from
from_in in_.Exponent from = from
from_in in_.Sign from = from
from_in in_.Power from = from
from_in in_.Quoted from = from

-- the modes that keep the bytes of what was begun
abbrev pub pending_in : Mode → List ℕ → List ℕ
pending_in in_.Between pending = []
pending_in in_.Dash pending = []
pending_in in_.Comment pending = []
pending_in in_.Colon pending = []
pending_in in_.Name pending = pending
pending_in in_.Underscore pending = pending
pending_in in_.Digits pending = pending
pending_in in_.Point pending = pending
pending_in in_.Fraction pending = pending
pending_in in_.Exponent pending = pending
pending_in in_.Sign pending = pending
pending_in in_.Power pending = pending
pending_in in_.Quoted pending = pending

abbrev pub state_of : BsdlMachine → State
state_of m = state m.words m.mode (from_in m.mode m.from) (pending_in m.mode m.pending)

-- one step of the machine, unless memory runs out
abbrev pub Steps : BsdlMachine → ℕ → Option State → Result (Unit {0}) CutFault → Type 0
Steps new at s (Ok _) = s ≡ Some (state_of new)
Steps new at s (Err e) = IsStepFault e at s

-- what was begun is whole, and these are the words, unless memory runs out
abbrev pub Closes : BsdlMachine → List BsdlSpanned → Result (Unit {0}) CutFault → Type 0
Closes new words (Ok _) = (new.words ≡ words) × (new.mode ≡ in_.Between)
Closes new words (Err e) = e ≡ OutOfMemory

-- the words of the text that ends here
abbrev pub EndsAs : BsdlMachine → ℕ → Option (List BsdlSpanned) → Result (Unit {0}) CutFault → Type 0
EndsAs new at words (Ok _) = words ≡ Some new.words
EndsAs new at words (Err e) = IsStepFault e at words

-- some bytes at the front of a piece
abbrev pub Takes : BsdlMachine → State → ℕ → List ℕ → Result ℕ CutFault → Type 0
Takes new s at piece r = taken.Takes step at s piece (state_of new) r
