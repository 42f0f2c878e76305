-- What is put of bits and lines, in terms of the run.
use Rattle.std.proofs.Common.{◌≡◌, ℕ, ◌+◌, ◌<◌, List, [], ◌∷◌, ◌++◌, length, ◌≤◌, take, drop, set, get_or, add-one, refl, sym, ◌∙◌, ap, arith, append-nil, Option, Some, None}
use Rattle.std.specs.Option.{option_map}
use Rattle.std.specs.List.{slice_get, flat_map}
use Rattle.std.proofs.lemmas.Option.{slice_get_within, get_or_from_slice_get, same_Some}
use Rattle.edge_io.specs.Shelf.{appended}
use Rattle.signal_values.specs.declared.PinSig.{PinSig}
use Rattle.netlist_model.specs.declared.NetId.{NetId}
use Rattle.netlist_model.specs.declared.PinBit.{PinBit}
use Rattle.netlist_meaning.specs.Pins.{net_of}
use Rattle.netlist_model.specs.Lists.{NetlistView}
use Rattle.netlist_model.specs.Runs.{Moment, reading_at}
use Rattle.netlist_model.specs.LawsRuns.{SameMoment}
use Rattle.netlist_link.specs.Linked.{LinkedView}
use Rattle.output_lines.proofs.Pieces.{front-of_parts, appended-twice, appended-front, take-front}
use Rattle.scan_vectors.specs.declared.lines.Act.{Act}
use Rattle.scan_vectors.specs.declared.lines.Act.TheVariants.{Start, Set, Expect}
use Rattle.scan_vectors.specs.declared.scripts.script.ScriptLine.{ScriptLine}
use Rattle.sim_runs.specs.declared.shown.Shown.{Shown}
use Rattle.sim_runs.specs.Shown.{shown_nets}
use Rattle.sim_runs.specs.Runs.{net_number}
use Rattle.sim_runs.specs.Outputs.{reading_line, first_readings, changed_line, changed_readings, mark_text, expect_text, expect_misses, line_text, line_misses, sets_with}
use Rattle.sim_runs.specs.Bits.{net_at, AreBits, untold, told_at, told_line, told_of, bit_line, bits_text}
use Rattle.sim_runs.proofs.Lists.{front_next, flat_map-over, flat_map-same, flat_map-push, renewed_at, renewed_next, mapped_at}
use Rattle.sim_runs.proofs.Same.{reading_same}

-- nothing is added
pub appended-none : (told : Option (List ℕ)) → told ≡ appended [] told
appended-none None = refl
appended-none (Some bytes) = ap (λ (l : List ℕ). Some l) (sym (append-nil bytes))

-- one part more was put
pub given_next : {X : Type 0} (f : X → List ℕ) (xs : List X) (i : ℕ) (x : X) (text : List ℕ) (told mid now : Option (List ℕ)) → slice_get xs i ≡ Some x → text ≡ f x
    → mid ≡ appended (flat_map f (take i xs)) told → now ≡ appended text mid → now ≡ appended (flat_map f (take (i + 1) xs)) told
given_next f xs i x text told mid now at is so_far last =
    last ∙ ap (λ (o : Option (List ℕ)). appended text o) so_far ∙ appended-twice told (flat_map f (take i xs)) text
    ∙ ap (λ (l : List ℕ). appended l told) (ap (λ (l : List ℕ). flat_map f (take i xs) ++ l) is ∙ sym (flat_map-push f (take i xs) x) ∙ ap (λ ys. flat_map f ys) (front_next xs i x at))

-- a front of the whole was put
abbrev pub IsFront : List ℕ → Option (List ℕ) → Option (List ℕ) → Type 0
IsFront whole told now = (n : ℕ) × (now ≡ appended (take n whole) told)

pub given_cut : {X : Type 0} (f : X → List ℕ) (xs : List X) (i : ℕ) (x : X) (text : List ℕ) (told mid now : Option (List ℕ)) (k : ℕ) → slice_get xs i ≡ Some x → text ≡ f x
    → mid ≡ appended (flat_map f (take i xs)) told → now ≡ appended (take k text) mid → IsFront (flat_map f xs) told now
given_cut f xs i x text told mid now k at is so_far last =
    let within = slice_get_within xs i x at in
    let here : text ≡ f (get_or xs i x) = is ∙ ap f (sym (get_or_from_slice_get xs i x x at)) in
    front-of_parts f xs i x told mid now k within so_far (last ∙ ap (λ (l : List ℕ). appended (take k l) mid) here)

-- two parts
pub front_one : (a b : List ℕ) (told now : Option (List ℕ)) (k : ℕ) → now ≡ appended (take k a) told → IsFront (a ++ b) told now
front_one a b told now k last = (length (take k a), last ∙ ap (λ (l : List ℕ). appended l told) (sym (take-front k a b)))

pub front_two : (a b : List ℕ) (told mid now : Option (List ℕ)) (k : ℕ) → mid ≡ appended a told → now ≡ appended (take k b) mid → IsFront (a ++ b) told now
front_two a b told mid now k first last =
    let whole = appended-front told a b [] k in (
      length a + length (take k b),
      last ∙ ap (λ (o : Option (List ℕ)). appended (take k b) o) first ∙ whole
          ∙ ap (λ (l : List ℕ). appended (take (length a + length (take k b)) (a ++ l)) told) (append-nil b),
    )

-- a whole is a front of itself
pub front_whole : (a b : List ℕ) (told now : Option (List ℕ)) → now ≡ appended a told → IsFront (a ++ b) told now
front_whole a b told now last = (length a, last ∙ ap (λ (l : List ℕ). appended l told) (whole a b))
  where
    whole : (xs ys : List ℕ) → xs ≡ take (length xs) (xs ++ ys)
    whole [] ys = refl
    whole (x ∷ xs) ys = ap (λ (l : List ℕ). x ∷ l) (whole xs ys)

-- what is put of all bits at first, and after a set
pub first_text : (L : LinkedView) (m : Moment) (bits : List Shown) → AreBits L.arena.lists bits → bits_text L untold m bits ≡ first_readings L m
first_text L m bits are =
    let line : NetId → List ℕ = λ net. reading_line L net (reading_at L.arena.lists m net.0) in
    flat_map-over line net_at bits ∙ ap (λ (nets : List NetId). flat_map line nets) are.nets

pub changed_text : (L : LinkedView) (before after : Moment) (bits : List Shown) → AreBits L.arena.lists bits
    → bits_text L (told_at L.arena.lists before) after bits ≡ changed_readings L before after
changed_text L before after bits are =
    let line : NetId → List ℕ = λ net. changed_line L net (reading_at L.arena.lists before net.0) (reading_at L.arena.lists after net.0) in
    flat_map-over line net_at bits ∙ ap (λ (nets : List NetId). flat_map line nets) are.nets

-- the same at moments that are the same
pub first_same : (L : LinkedView) (m m' : Moment) → SameMoment L.arena.lists m m' → first_readings L m ≡ first_readings L m'
first_same L m m' same =
    flat_map-same (λ (net : NetId). reading_line L net (reading_at L.arena.lists m net.0)) (λ net. reading_line L net (reading_at L.arena.lists m' net.0)) (shown_nets L.arena.lists)
    (λ net. ap (λ (x : PinSig). reading_line L net x) (reading_same L.arena.lists m m' same net.0))

pub changed_same : (L : LinkedView) (m m' n n' : Moment) → SameMoment L.arena.lists m m' → SameMoment L.arena.lists n n' → changed_readings L m n ≡ changed_readings L m' n'
changed_same L m m' n n' same next =
    flat_map-same (λ (net : NetId). changed_line L net (reading_at L.arena.lists m net.0) (reading_at L.arena.lists n net.0))
    (λ net. changed_line L net (reading_at L.arena.lists m' net.0) (reading_at L.arena.lists n' net.0)) (shown_nets L.arena.lists)
    (λ net. ap (λ (x : PinSig). changed_line L net x (reading_at L.arena.lists n net.0)) (reading_same L.arena.lists m m' same net.0)
    ∙ ap (λ (x : PinSig). changed_line L net (reading_at L.arena.lists m' net.0) x) (reading_same L.arena.lists n n' next net.0))

-- what a line puts, and how many expectations it misses
pub line_same : (L : LinkedView) (act : Act) (line : ScriptLine) (word : List ℕ) (m m' n n' : Moment) → SameMoment L.arena.lists m m' → (act ≡ Set → SameMoment L.arena.lists n n')
    → line_text L act line word m n ≡ line_text L act line word m' n'
line_same L Start line word m m' n n' same next = refl
line_same L Set line word m m' n n' same next = ap (λ (l : List ℕ). mark_text line.number ++ l) (changed_same L m m' n n' same (next refl))
line_same L Expect line word m m' n n' same next =
    ap (λ (x : PinSig). expect_text line.number word line.value x) (reading_same L.arena.lists m m' same (net_number L.arena.lists line.pin))

pub misses_same : (L : LinkedView) (act : Act) (line : ScriptLine) (m m' : Moment) → SameMoment L.arena.lists m m' → line_misses L act line m ≡ line_misses L act line m'
misses_same L Start line m m' same = refl
misses_same L Set line m m' same = refl
misses_same L Expect line m m' same = ap (λ (x : PinSig). expect_misses line.value x) (reading_same L.arena.lists m m' same (net_number L.arena.lists line.pin))

-- what a call of `reading` answers
pub reading_is : (S L : LinkedView) (m : Moment) (pin : PinBit) (net : NetId) (reading : PinSig) → S ≡ L → net_of L.arena.lists.ports pin ≡ Some net
    → option_map (λ (n : NetId). reading_at S.arena.lists m n.0) (net_of S.arena.lists.ports pin) ≡ Some reading → reading ≡ reading_at L.arena.lists m net.0
reading_is S L m pin net reading same named is =
    let own : option_map (λ (n : NetId). reading_at L.arena.lists m n.0) (net_of L.arena.lists.ports pin) ≡ Some reading = rw same at is in
    let some : Some (reading_at L.arena.lists m net.0) ≡ Some reading = rw named at own in
    sym (same_Some (reading_at L.arena.lists m net.0) reading some)

-- what was told last of a bit
pub last_is : (last new : ℕ → Option PinSig) (bits : List Shown) (place : ℕ) (bit : Shown) (old now : List (Option PinSig)) (d : Option PinSig) → slice_get bits place ≡ Some bit
    → length old ≡ length bits → old ≡ told_of last bits → now ≡ told_of new (take place bits) ++ drop place old → get_or now place d ≡ last bit.net.0
last_is last new bits place bit old now d at long is so_far =
    let f : Shown → Option PinSig = λ b. new b.net.0 in
    let g : Shown → Option PinSig = λ b. last b.net.0 in
    ap (λ (xs : List (Option PinSig)). get_or xs place d) so_far ∙ renewed_at f bits place old d (slice_get_within bits place bit at) long
    ∙ ap (λ (xs : List (Option PinSig)). get_or xs place d) is ∙ mapped_at g bits place bit d at

-- what is put of a bit
pub told_is : (L : LinkedView) (last : ℕ → Option PinSig) (m : Moment) (bit : Shown) (before : Option PinSig) (reading : PinSig) → before ≡ last bit.net.0 → reading ≡ reading_at L.arena.lists m bit.net.0
    → told_line L bit.net before reading ≡ bit_line L last m bit
told_is L last m bit before reading is reads = ap (λ (o : Option PinSig). told_line L bit.net o reading) is ∙ ap (λ (x : PinSig). told_line L bit.net (last bit.net.0) x) reads

-- one bit more was told
pub told_next : (N : NetlistView) (m : Moment) (bits : List Shown) (place : ℕ) (bit : Shown) (old now : List (Option PinSig)) (reading : PinSig) → slice_get bits place ≡ Some bit → length old ≡ length bits
    → reading ≡ reading_at N m bit.net.0 → now ≡ told_of (told_at N m) (take place bits) ++ drop place old
    → set now place (Some reading) ≡ told_of (told_at N m) (take (place + 1) bits) ++ drop (place + 1) old
told_next N m bits place bit old now reading at long reads so_far =
    let f : Shown → Option PinSig = λ b. told_at N m b.net.0 in
    rw (add-one place) (ap (λ (xs : List (Option PinSig)). set xs place (Some reading)) so_far
    ∙ ap (λ (x : PinSig). set (told_of (told_at N m) (take place bits) ++ drop place old) place (Some x)) reads ∙ renewed_next f bits place bit old at long)

-- how many sets there can be
pub sets_more : (act : Act) (sets : ℕ) → sets_with act sets ≤ sets + 1
sets_more Start sets = omega arith
sets_more Set sets = omega arith
sets_more Expect sets = omega arith
