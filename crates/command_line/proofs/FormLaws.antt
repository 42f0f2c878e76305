-- Words are one command at most.
use Rattle.std.proofs.Common.{◌≡◌, ℕ, List, [], ◌∷◌, sym, subst, ap, ◌∙◌, codes, Option, Some, None, if◌then◌else◌}
use Rattle.std.specs.Bool.{IsFalse}
use Rattle.std.specs.List.{list_any}
use Rattle.std.specs.Str.{bytes_eq}
use Rattle.bsdl_device.specs.Runs.{value_after}
use Rattle.text_command.specs.declared.convert.conversion.Conversion.TheVariants.{Canon, ShowBsdl}
use Rattle.command_line.specs.declared.command.Command.{Command}
use Rattle.command_line.specs.Forms.{Form, HasWords, HasForm, begins_with_dash}
use Rattle.command_line.specs.Parsed.{IsPlainOf, IsCommandOf}

-- the command of two names, three, four, five or six, with this word
abbrev from_two : List ℕ → List ℕ → List ℕ → Option Form
from_two word a b =
    if bytes_eq word (codes "canon") then Some (Form.Converts Canon a b)
    else if bytes_eq word (codes "showbsdl") then Some (Form.Converts ShowBsdl a b)
    else if bytes_eq word (codes "statusbsdl") then Some (Form.ShowsStatus a b)
    else if bytes_eq word (codes "sim") then Some (Form.Simulates a b None)
    else Some (Form.MakesVectors a b)

abbrev from_three : List ℕ → List ℕ → List ℕ → List ℕ → Option Form
from_three word a b c =
    if bytes_eq word (codes "check") then Some (Form.Checks a b c None)
    else if bytes_eq word (codes "flatten") then Some (Form.Flattens a b c None)
    else if bytes_eq word (codes "sim") then Some (Form.Simulates a b (Some c))
    else Some (Form.Demonstrates (value_after 10 0 a) b c)

abbrev from_four : List ℕ → List ℕ → List ℕ → List ℕ → List ℕ → Option Form
from_four word a b c d =
    if bytes_eq word (codes "check") then Some (Form.Checks a b c (Some d))
    else if bytes_eq word (codes "flatten") then Some (Form.Flattens a b c (Some d))
    else if bytes_eq word (codes "strip") then Some (Form.Strips a b c d None)
    else Some (Form.Inserts a b c d None)

abbrev from_five : List ℕ → List ℕ → List ℕ → List ℕ → List ℕ → List ℕ → Option Form
from_five word a b c d e =
    if bytes_eq word (codes "strip") then Some (Form.Strips a b c d (Some e))
    else if bytes_eq word (codes "status") then Some (Form.InsertsStatus a b c d e None)
    else Some (Form.Inserts a b c d (Some e))

abbrev from_six : List ℕ → List ℕ → List ℕ → List ℕ → List ℕ → List ℕ → Option Form
from_six a b c d e f = Some (Form.InsertsStatus a b c d e (Some f))

abbrev form_from : List (List ℕ) → Option Form
form_from [] = None
form_from (word ∷ []) = None
form_from (word ∷ a ∷ []) = None
form_from (word ∷ a ∷ b ∷ []) = from_two word a b
form_from (word ∷ a ∷ b ∷ c ∷ []) = from_three word a b c
form_from (word ∷ a ∷ b ∷ c ∷ d ∷ []) = from_four word a b c d
form_from (word ∷ a ∷ b ∷ c ∷ d ∷ e ∷ []) = from_five word a b c d e
form_from (word ∷ a ∷ b ∷ c ∷ d ∷ e ∷ f ∷ []) = from_six a b c d e f
form_from (word ∷ a ∷ b ∷ c ∷ d ∷ e ∷ f ∷ g ∷ more) = None

from_words : (words : List (List ℕ)) (form : Form) → HasWords words form → form_from words ≡ Some form
from_words words (Form.Converts Canon input output) are = ap form_from are
from_words words (Form.Converts ShowBsdl input output) are = ap form_from are
from_words words (Form.ShowsStatus input output) are = ap form_from are
from_words words (Form.Flattens input top output None) are = ap form_from are
from_words words (Form.Flattens input top output (Some library)) are = ap form_from are
from_words words (Form.Simulates netlist events None) are = ap form_from are
from_words words (Form.Simulates netlist events (Some library)) are = ap form_from are
from_words words (Form.Inserts netlist plan outnet outbsdl None) are = ap form_from are
from_words words (Form.Inserts netlist plan outnet outbsdl (Some library)) are = ap form_from are
from_words words (Form.InsertsStatus netlist plan registers outnet outbsdl None) are = ap form_from are
from_words words (Form.InsertsStatus netlist plan registers outnet outbsdl (Some library)) are = ap form_from are
from_words words (Form.Strips netlist bsdl outnet outplan None) are = ap form_from are
from_words words (Form.Strips netlist bsdl outnet outplan (Some library)) are = ap form_from are
from_words words (Form.MakesVectors bsdl output) are = ap form_from are
from_words words (Form.Checks netlist bsdl events None) are = ap form_from are
from_words words (Form.Checks netlist bsdl events (Some library)) are = ap form_from are
from_words words (Form.Demonstrates number outnet outbsdl) (digits, (numeral, are)) =
    ap form_from are ∙ ap (λ (n : ℕ). Some (Form.Demonstrates n outnet outbsdl)) (sym numeral.value)

same_some : (a b : Form) → Some a ≡ Some b → a ≡ b
same_some a b e = cc

pub form_once : (words : List (List ℕ)) (a b : Form) → HasForm words a → HasForm words b → a ≡ b
form_once words a b one other = same_some a b (sym (from_words words a one.words_are) ∙ from_words words b other.words_are)

-- Commands from their words.

pub plain_as : (words other : List (List ℕ)) (c : Option Command) → words ≡ other → IsPlainOf other c → IsPlainOf words c
plain_as words other c same is = subst (λ (ws : List (List ℕ)). IsPlainOf ws c) (sym same) is

pub plain_form : (words : List (List ℕ)) (c : Option Command) → IsFalse (list_any begins_with_dash words) → IsPlainOf words c → IsCommandOf words c
plain_form words None plain absent = λ form has. absent form has.words_are
plain_form words (Some c) plain are = record { words_are = are; plain_words = plain }
