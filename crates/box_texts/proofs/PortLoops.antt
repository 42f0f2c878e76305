-- The words of ports, from borrowed words.
use Rattle.std.proofs.Common.{◌≡◌, ◌≤◌, ℕ, suc, ◌+◌, List, [], ◌∷◌, ◌++◌, take, drop, length, position, slice_get, Option, Some, None, option_and_then, Result, Ok, Err, IfOk, Bor, refl, sym, ap, ◌∙◌, arith, append_assoc, append-nil}
use Rattle.list_laws.proofs.Lists.{left_at, none_left}
use Rattle.texts.specs.Repeated.{texts}
use Rattle.cell_text.specs.Words.{Words, is_colon}
use Rattle.cell_text.proofs.Borrowed.{texts_length, texts_take, texts_drop, position_texts}
use Rattle.texts.specs.declared.text.OutOfMemory.{OutOfMemory}
use Rattle.box_model.specs.declared.boxes.BoxCell.{BoxCell}
use Rattle.box_model.specs.declared.boxes.BoxDir.{BoxDir}
use Rattle.box_model.specs.declared.boxes.BoxPort.{BoxPort}
use Rattle.box_texts.specs.Ports.{port_in}
use Rattle.box_texts.specs.Boxes.{put_before, ports_in, behind_those, box_of, box_behind}

joined : (done : List BoxPort) (p : BoxPort) (o : Option (List BoxPort)) → behind_those done (put_before (Some p) o) ≡ behind_those (done ++ p ∷ []) o
joined done p None = refl
joined done p (Some ports) = ap (λ (l : List BoxPort). Some l) (sym (append_assoc done (p ∷ []) ports))

-- what is read of the words from this place on
read_at : (dir : BoxDir) (words : Words) (k : ℕ) (w : List ℕ) (o : Option BoxPort) (done : List BoxPort) → slice_get words k ≡ Some w → port_in dir w ≡ o
    → behind_those done (ports_in dir (drop k words)) ≡ behind_those done (put_before o (ports_in dir (drop (suc k) words)))
read_at dir words k w o done at is =
    ap (λ (l : Words). behind_those done (ports_in dir l)) (left_at words k w at) ∙ ap (λ (q : Option BoxPort). behind_those done (put_before q (ports_in dir (drop (suc k) words)))) is

pub port_taken : (dir : BoxDir) (words : Words) (k : ℕ) (w : List ℕ) (p : BoxPort) (done new : List BoxPort) (all : Option (List BoxPort)) → slice_get words k ≡ Some w → port_in dir w ≡ Some p → new ≡ done ++ p ∷ []
    → behind_those done (ports_in dir (drop k words)) ≡ all → behind_those new (ports_in dir (drop (k + 1) words)) ≡ all
port_taken dir words k w p done new all at is grown same =
    let more : k + 1 ≡ suc k = omega arith in
    ap (λ (l : List BoxPort). behind_those l (ports_in dir (drop (k + 1) words))) grown
    ∙ ap (λ (n : ℕ). behind_those (done ++ p ∷ []) (ports_in dir (drop n words))) more
    ∙ sym (joined done p (ports_in dir (drop (suc k) words)))
    ∙ sym (read_at dir words k w (Some p) done at is)
    ∙ same

pub no_port : (dir : BoxDir) (words : Words) (k : ℕ) (w : List ℕ) (done : List BoxPort) (all : Option (List BoxPort)) → slice_get words k ≡ Some w → port_in dir w ≡ None
    → behind_those done (ports_in dir (drop k words)) ≡ all → None ≡ all
no_port dir words k w done all at is same = sym (read_at dir words k w None done at is) ∙ same

pub ports_done : (dir : BoxDir) (words : List (Bor (List ℕ))) (k : ℕ) (done : List BoxPort) (all : Option (List BoxPort)) → length words ≤ k → behind_those done (ports_in dir (drop k (texts words))) ≡ all → Some done ≡ all
ports_done dir words k done all past same =
    let l = texts_length words in
    ap (λ (d : List BoxPort). Some d) (sym (append-nil done)) ∙ sym (ap (λ (w : Words). behind_those done (ports_in dir w)) (none_left (texts words) k (omega arith))) ∙ same

-- The words on both sides of the colon.

found_at : (words : List (Bor (List ℕ))) (o : Option ℕ) → position (λ (w : Bor (List ℕ)). is_colon w.now) words ≡ o → position is_colon (texts words) ≡ o
found_at words o is = position_texts is_colon words ∙ is

pub no_sides : (name : List ℕ) (words : List (Bor (List ℕ))) → position (λ (w : Bor (List ℕ)). is_colon w.now) words ≡ None → None ≡ box_behind name (texts words)
no_sides name words none = sym (ap (option_and_then (λ (place : ℕ). box_of name (take place (texts words)) (drop (place + 1) (texts words)))) (found_at words None none))

pub sides_read : (name : List ℕ) (words gives takes : List (Bor (List ℕ))) (place : ℕ) (r : Result (Option BoxCell) OutOfMemory) → position (λ (w : Bor (List ℕ)). is_colon w.now) words ≡ Some place
    → IfOk r (λ found. found ≡ box_of name (texts gives) (texts takes)) → gives ≡ take place words → takes ≡ drop (place + 1) words → IfOk r (λ found. found ≡ box_behind name (texts words))
sides_read name words gives takes place (Err e) at is a b = tt
sides_read name words gives takes place (Ok found) at is a b =
    is
    ∙ ap (λ (l : Words). box_of name l (texts takes)) (ap texts a ∙ texts_take place words)
    ∙ ap (box_of name (take place (texts words))) (ap texts b ∙ texts_drop (place + 1) words)
    ∙ sym (ap (option_and_then (λ (place : ℕ). box_of name (take place (texts words)) (drop (place + 1) (texts words)))) (found_at words (Some place) at))
