-- What is read along a list of names, and where reading stops.
use Rattle.std.proofs.Common.{◌≡◌, ℕ, zero, suc, ◌+◌, ◌<◌, ◌≤◌, length, get_or, Bor, List, [], ◌∷◌, ◌++◌, take, Option, Some, None, subst, sym, refl, inl, inr, arith, slice_get}
use Rattle.std.proofs.lemmas.Option.{same_Some}
use Rattle.list_laws.proofs.Lists.{taken_more}
use Rattle.edge_io.specs.Shelf.{Access, RoseAt, SameTold, WhereTold}
use Rattle.command_faults.specs.declared.fault.Fault.{Fault}
use Rattle.command_faults.specs.declared.fault.Fault.TheVariants as fault
use Rattle.command_edges.specs.Lengths.{IsShort, IsLong}
use Rattle.command_edges.specs.Seen.{ShelfSeen}
use Rattle.command_edges.specs.EdgeFaults.{StandsInReading}
use Rattle.command_edges.specs.Names.{names_of}
use Rattle.command_edges.specs.Texts.{AreRead, StandsInReadings}
use Rattle.command_edges.proofs.Told.{rose_earlier}

-- one more text is read
pub read_more : (held : List ℕ → Option (List ℕ)) (names texts : List (List ℕ)) (name text : List ℕ) → AreRead held names texts → WhereTold (held name) (λ bytes. text ≡ bytes) → IsShort text
    → AreRead held (names ++ name ∷ []) (texts ++ text ∷ [])
read_more held [] [] name text read is short = ((is, short), tt)
read_more held (n ∷ ns) (t ∷ ts) name text read is short = (read.0, read_more held ns ts name text read.1 is short)
read_more held [] (t ∷ ts) name text read is short = absurd read
read_more held (n ∷ ns) [] name text read is short = absurd read

-- a text that was read is short where it is told
short_told : (o : Option (List ℕ)) (text : List ℕ) → WhereTold o (λ bytes. text ≡ bytes) → IsShort text → WhereTold o IsShort
short_told None text is short = tt
short_told (Some bytes) text is short = subst IsShort is short

-- reading stops behind what was read
pub stops_behind : (shelf : ShelfSeen) (f : Fault) (names texts : List (List ℕ)) (i : ℕ) (name : List ℕ) → AreRead shelf.held (take i names) texts → slice_get names i ≡ Some name
    → StandsInReading name shelf f → StandsInReadings names shelf f
stops_behind shelf f [] texts i name read at stands = absurd (cc)
stops_behind shelf f (n ∷ ns) texts zero name read at stands = inl (subst (λ (x : List ℕ). StandsInReading x shelf f) (sym (same_Some n name at)) stands)
stops_behind shelf f (n ∷ ns) [] (suc i) name read at stands = absurd read
stops_behind shelf f (n ∷ ns) (t ∷ ts) (suc i) name read at stands =
    inr (short_told (shelf.held n) t read.0.0 read.0.1, stops_behind shelf f ns ts i name read.1 at stands)

-- a fault in reading stands as well over a longer time
pub stands_longer : (name : List ℕ) (short long : ShelfSeen) (f : Fault) → short.held name ≡ long.held name → short.faults_after ≡ long.faults_after
    → ((access : Access) (n : List ℕ) → long.faults access n ≤ short.faults access n) → StandsInReading name short f → StandsInReading name long f
stands_longer name short long (fault.ReadFault n) same after later stands =
    (stands.0, subst (λ (now : Access → List ℕ → ℕ). RoseAt long.faults now Access.reading name) after (rose_earlier (long.faults Access.reading name) (short.faults Access.reading name) (short.faults_after Access.reading name) (later Access.reading name) stands.1))
stands_longer name short long (fault.TooLong n) same after later stands = (stands.0, subst (λ (o : Option (List ℕ)). WhereTold o IsLong) same stands.1)
stands_longer name short long fault.OutOfMemory same after later stands = tt
stands_longer name short long f same after later stands = absurd stands

-- the name at a place
pub name_at : (names : List (Bor (List ℕ))) (i : ℕ) (d : Bor (List ℕ)) → i < length names → slice_get (names_of names) i ≡ Some ((get_or names i d).now)
name_at [] i d low = absurd (omega arith)
name_at (n ∷ ns) zero d low = refl
name_at (n ∷ ns) (suc i) d low = name_at ns i d (omega arith)

pub read_next : (held before : List ℕ → Option (List ℕ)) (names : List (List ℕ)) (texts new : List (List ℕ)) (i : ℕ) (name text : List ℕ) → AreRead held (take i names) texts
    → slice_get names i ≡ Some name → SameTold held before → WhereTold (before name) (λ bytes. text ≡ bytes) → IsShort text → new ≡ texts ++ text ∷ [] → AreRead held (take (i + 1) names) new
read_next held before names texts new i name text read at same is short grown =
    let more : AreRead held (take i names ++ name ∷ []) (texts ++ text ∷ []) =
    read_more held (take i names) texts name text read (subst (λ (o : Option (List ℕ)). WhereTold o (λ bytes. text ≡ bytes)) (same name) is) short in
    subst (AreRead held (take (i + 1) names)) (sym grown) (subst (λ (front : List (List ℕ)). AreRead held front (texts ++ text ∷ [])) (taken_more names i name (take i names) (take i names ++ name ∷ []) at refl refl) more)

-- a fault in reading stands as well where more names follow
pub stands_before : (names more : List (List ℕ)) (shelf : ShelfSeen) (f : Fault) → StandsInReadings names shelf f → StandsInReadings (names ++ more) shelf f
stands_before [] more shelf f stands = absurd stands
stands_before (n ∷ ns) more shelf f (inl stands) = inl stands
stands_before (n ∷ ns) more shelf f (inr (short, stands)) = inr (short, stands_before ns more shelf f stands)

-- reading stops at the last name
pub stops_last : (shelf : ShelfSeen) (f : Fault) (names texts : List (List ℕ)) (name : List ℕ) → AreRead shelf.held names texts → StandsInReading name shelf f → StandsInReadings (names ++ name ∷ []) shelf f
stops_last shelf f [] texts name read stands = inl stands
stops_last shelf f (n ∷ ns) [] name read stands = absurd read
stops_last shelf f (n ∷ ns) (t ∷ ts) name read stands = inr (short_told (shelf.held n) t read.0.0 read.0.1, stops_last shelf f ns ts name read.1 stands)

-- one text more is read, after the others
pub read_last : (held before : List ℕ → Option (List ℕ)) (names texts new : List (List ℕ)) (name text : List ℕ) → AreRead held names texts → SameTold held before → WhereTold (before name) (λ bytes. text ≡ bytes) → IsShort text → new ≡ texts ++ text ∷ [] → AreRead held (names ++ name ∷ []) new
read_last held before names texts new name text read same is short grown =
    subst (AreRead held (names ++ name ∷ [])) (sym grown) (read_more held names texts name text read (subst (λ (o : Option (List ℕ)). WhereTold o (λ bytes. text ≡ bytes)) (same name) is) short)
