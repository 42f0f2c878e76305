-- The loop over the names that a direction item declares, against the reading of such names.
use Rattle.std.proofs.Common.{◌≡◌, ℕ, suc, zero, Bool, true, false, ◌<◌, ◌≤◌, List, [], ◌∷◌, ◌++◌, length, map, Option, Some, None, is_some, cond, sym, ap, subst, ◌∙◌, arith, append_assoc, Result, Ok, Err, IsErrAnd}
use Rattle.std.specs.Option.{option_map_or}
use Rattle.list_laws.proofs.Options.{unit_there, unit_absent}
use Rattle.verilog_lexicon.specs.declared.word.Word.{Word}
use Rattle.verilog_lexicon.specs.declared.symbol.Symbol.TheVariants.{Comma}
use Rattle.verilog_lexicon.specs.Words.{front, rest, rest_if, symbol_in}
use Rattle.verilog_tree.specs.declared.tree.Port.{Port}
use Rattle.verilog_tree.specs.Sources.{DeclarationHead}
use Rattle.verilog_tree.specs.Trees.{port_of}
use Rattle.verilog_tree.specs.Reader.{Read, done, after, either, take_at, close, close_all, is_none_left, open_name_in, declared_at}
use Rattle.verilog_modules.specs.declared.fault.ParseFault.{ParseFault}
use Rattle.verilog_modules.specs.declared.fault.ParseFault.TheVariants as fault
use Rattle.verilog_modules.specs.declared.declarations.Declarations.{Declarations}
use Rattle.verilog_modules.specs.Tables.{Tracks}
use Rattle.verilog_modules.specs.Items.{Declares, DeclaresAll, GivesDeclared, GivesDirections}
use Rattle.verilog_modules.proofs.Lists.{shorter_behind}

-- what follows a declared name
abbrev behind_name : ℕ → List (List ℕ) → List ℕ → List Word → Read (List ℕ × List (List ℕ))
behind_name fuel names_left name a = cond (is_none_left (close name names_left)) (done (name, []) a) (either (symbol_in Comma) a
    (λ _ b. after (declared_at fuel (close name names_left) b) (λ more c. done (name, more.0 ∷ more.1) c))
    (λ b. done (name, []) b))

declared_at-name : (fuel : ℕ) (names_left : List (List ℕ)) (ws a : List Word) (name : List ℕ) → take_at (open_name_in names_left) ws ≡ (Some name, a) → declared_at (suc fuel) names_left ws ≡ behind_name fuel names_left name a
declared_at-name fuel names_left ws a name read = ap (λ (r : Read (List ℕ)). after r (behind_name fuel names_left)) read

declared_at-fault : (fuel : ℕ) (names_left : List (List ℕ)) (ws a : List Word) → take_at (open_name_in names_left) ws ≡ (None, a) → declared_at fuel names_left ws ≡ (None, a)
declared_at-fault zero names_left ws a read =
    let stays : ws ≡ a = sym (ap (λ (o : Option (List ℕ)). rest_if o ws) (ap (λ (r : Read (List ℕ)). r.0) read)) ∙ ap (λ (r : Read (List ℕ)). r.1) read in
    ap (λ (w : List Word). let r : Read (List ℕ × List (List ℕ)) = (None, w) in r) stays
declared_at-fault (suc fuel) names_left ws a read = ap (λ (r : Read (List ℕ)). after r (behind_name fuel names_left)) read

-- The loop stands at ws, and the names that it still declares complete those that are declared in all.
pub record GoesOn (head : DeclarationHead) (names : List (List ℕ)) (ports : List Port) (now : Declarations) (ws : List Word) (all : Read (List ℕ × List (List ℕ))) : Type 0 where
  pub names_left : List (List ℕ)
  pub declared : List Port
  pub fuel : ℕ
  pub enough : length ws ≤ fuel
  pub tracks : Tracks names_left declared now
  pub complete : (new : Declarations) (left : List Word) → DeclaresAll head names_left declared new left (declared_at fuel names_left ws) → DeclaresAll head names ports new left all
  pub faulty : (left : List Word) → declared_at fuel names_left ws ≡ (None, left) → all ≡ (None, left)

pub goes_on-start : (head : DeclarationHead) (names : List (List ℕ)) (ports : List Port) (now : Declarations) (ws : List Word) → Tracks names ports now → GoesOn head names ports now ws (declared_at (length ws) names ws)
goes_on-start head names ports now ws tracks = record {
  names_left = names;
  declared = ports;
  fuel = length ws;
  enough = omega arith;
  tracks = tracks;
  complete = λ new left d. d;
  faulty = λ left h. h;
}

-- The name is at fault.
pub goes_on-fault : (head : DeclarationHead) (names : List (List ℕ)) (ports : List Port) (now new : Declarations) (ws left : List Word) (all : Read (List ℕ × List (List ℕ))) (result : Result (Unit {0}) ParseFault) (e : ParseFault) → (k : GoesOn head names ports now ws all)
    → IsErrAnd result (λ f. f ≡ e) → GivesDeclared head k.names_left k.declared new (Err e) left (take_at (open_name_in k.names_left) ws) → GivesDirections head names ports new result left all
goes_on-fault head names ports now new ws left all (Ok x) e k same read = absurd same
goes_on-fault head names ports now new ws left all (Err fault.OutOfMemory) e k same read = tt
goes_on-fault head names ports now new ws left all (Err fault.Syntax) fault.OutOfMemory k same read = absurd (cc)
goes_on-fault head names ports now new ws left all (Err fault.Syntax) fault.Syntax k same read = k.faulty left (declared_at-fault k.fuel k.names_left ws left read)

-- The name is the last.
last_name : (head : DeclarationHead) (names : List (List ℕ)) (ports : List Port) (now new : Declarations) (ws left : List Word) (all : Read (List ℕ × List (List ℕ))) → (k : GoesOn head names ports now ws all) → (d : Declares head k.names_left k.declared new left (take_at (open_name_in k.names_left) ws)) → length left < length ws
    → ((fuel : ℕ) → behind_name fuel k.names_left d.name left ≡ (Some (d.name, []), left)) → DeclaresAll head names ports new left all
last_name head names ports now new ws left all k d less ends = k.complete new left (record {
  first = d.name;
  more = [];
  reads = by k.fuel k.enough;
  tracks = d.tracks;
})
  where
    by : (fuel : ℕ) → length ws ≤ fuel → declared_at fuel k.names_left ws ≡ (Some (d.name, []), left)
    by zero enough = absurd (omega arith)
    by (suc fuel) enough = declared_at-name fuel k.names_left ws left d.name d.reads ∙ ends fuel

pub goes_on-none_left : (head : DeclarationHead) (names : List (List ℕ)) (ports : List Port) (now new : Declarations) (ws left : List Word) (all : Read (List ℕ × List (List ℕ))) → (k : GoesOn head names ports now ws all) → (d : Declares head k.names_left k.declared new left (take_at (open_name_in k.names_left) ws)) → length left < length ws
    → is_none_left (close d.name k.names_left) ≡ true → DeclaresAll head names ports new left all
goes_on-none_left head names ports now new ws left all k d less none = last_name head names ports now new ws left all k d less (λ fuel. ap (λ (b : Bool). let r : Read (List ℕ × List (List ℕ)) = cond b (done (d.name, []) left) (either (symbol_in Comma) left
    (λ _ b. after (declared_at fuel (close d.name k.names_left) b) (λ more c. done (d.name, more.0 ∷ more.1) c))
    (λ b. done (d.name, []) b)) in r) none)

-- No comma follows the name.
pub goes_on-no_comma : (head : DeclarationHead) (names : List (List ℕ)) (ports : List Port) (now new : Declarations) (ws left end : List Word) (all : Read (List ℕ × List (List ℕ))) → (k : GoesOn head names ports now ws all) → (d : Declares head k.names_left k.declared new left (take_at (open_name_in k.names_left) ws)) → length left < length ws
    → is_none_left (close d.name k.names_left) ≡ false → is_some (front (symbol_in Comma) left) ≡ false → end ≡ rest_if (front (symbol_in Comma) left) left → DeclaresAll head names ports new end all
goes_on-no_comma head names ports now new ws left end all k d less some absent moved =
    let P : List Word → Type 0 = λ w. DeclaresAll head names ports new w all in
    subst P (sym (moved ∙ ap (λ (o : Option (Unit {0})). rest_if o left) (unit_absent (front (symbol_in Comma) left) absent))) (last_name head names ports now new ws left all k d less (λ fuel.
    ap (λ (b : Bool). let r : Read (List ℕ × List (List ℕ)) = cond b (done (d.name, []) left) (either (symbol_in Comma) left
    (λ _ b. after (declared_at fuel (close d.name k.names_left) b) (λ more c. done (d.name, more.0 ∷ more.1) c))
    (λ b. done (d.name, []) b)) in r) some
    ∙ ap (λ (o : Option (Unit {0})). option_map_or (λ _. after (declared_at fuel (close d.name k.names_left) (rest left)) (λ more c. done (d.name, more.0 ∷ more.1) c)) o (done (d.name, []) left)) (unit_absent (front (symbol_in Comma) left) absent)))

-- A comma follows the name.
pub goes_on-comma : (head : DeclarationHead) (names : List (List ℕ)) (ports : List Port) (now new : Declarations) (ws left end : List Word) (all : Read (List ℕ × List (List ℕ))) → (k : GoesOn head names ports now ws all) → (d : Declares head k.names_left k.declared new left (take_at (open_name_in k.names_left) ws)) → length left < length ws
    → is_none_left (close d.name k.names_left) ≡ false → is_some (front (symbol_in Comma) left) ≡ true → end ≡ rest_if (front (symbol_in Comma) left) left → GoesOn head names ports new end all
goes_on-comma head names ports now new ws left end all k d less some there moved = by k.fuel k.enough k.complete k.faulty (shorter_behind left end there moved)
  where
    ends_at : end ≡ rest left
    ends_at = moved ∙ ap (λ (o : Option (Unit {0})). rest_if o left) (unit_there (front (symbol_in Comma) left) there)

    step : (fuel : ℕ) → declared_at (suc fuel) k.names_left ws ≡ after (declared_at fuel (close d.name k.names_left) end) (λ more c. done (d.name, more.0 ∷ more.1) c)
    step fuel =
        declared_at-name fuel k.names_left ws left d.name d.reads
        ∙ ap (λ (b : Bool). let r : Read (List ℕ × List (List ℕ)) = cond b (done (d.name, []) left) (either (symbol_in Comma) left
        (λ _ b. after (declared_at fuel (close d.name k.names_left) b) (λ more c. done (d.name, more.0 ∷ more.1) c))
        (λ b. done (d.name, []) b)) in r) some
        ∙ ap (λ (o : Option (Unit {0})). option_map_or (λ _. after (declared_at fuel (close d.name k.names_left) (rest left)) (λ more c. done (d.name, more.0 ∷ more.1) c)) o (done (d.name, []) left)) (unit_there (front (symbol_in Comma) left) there)
        ∙ ap (λ (w : List Word). after (declared_at fuel (close d.name k.names_left) w) (λ more c. done (d.name, more.0 ∷ more.1) c)) (sym ends_at)

    by : (fuel : ℕ) → length ws ≤ fuel → ((last : Declarations) (w : List Word) → DeclaresAll head k.names_left k.declared last w (declared_at fuel k.names_left ws) → DeclaresAll head names ports last w all)
        → ((w : List Word) → declared_at fuel k.names_left ws ≡ (None, w) → all ≡ (None, w)) → length end < length left → GoesOn head names ports new end all
    by zero enough complete faulty shorter = absurd (omega arith)
    by (suc fuel) enough complete faulty shorter = record {
      names_left = close d.name k.names_left;
      declared = k.declared ++ port_of head d.name ∷ [];
      fuel = fuel;
      enough = omega arith;
      tracks = d.tracks;
      complete = λ last w m. complete last w (record {
        first = d.name;
        more = m.first ∷ m.more;
        reads = step fuel ∙ ap (λ (r : Read (List ℕ × List (List ℕ))). after r (λ more c. done (d.name, more.0 ∷ more.1) c)) m.reads;
        tracks = (let P : List Port → Type 0 = λ ps. Tracks (close_all (m.first ∷ m.more) (close d.name k.names_left)) ps last in subst P (append_assoc k.declared (port_of head d.name ∷ []) (map (port_of head) (m.first ∷ m.more))) m.tracks);
      });
      faulty = λ w h. faulty w (step fuel ∙ ap (λ (r : Read (List ℕ × List (List ℕ))). after r (λ more c. done (d.name, more.0 ∷ more.1) c)) h);
    }
