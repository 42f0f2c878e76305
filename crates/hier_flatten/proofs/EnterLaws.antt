-- Loops that check flat names: along a list, and along a walk.
use Rattle.std.proofs.Common.{◌≡◌, ℕ, ◌+◌, ◌<◌, ◌≤◌, Bool, true, false, if◌then◌else◌, ◌||◌, List, [], ◌∷◌, ◌++◌, drop, get_or, length, map, position, take, Option, Some, None, Result, IsTrue, refl, sym, ap, subst, ◌∙◌, arith, ltb-true, append-nil}
use Rattle.std.specs.Prelude.{is_some, slice_get, IfOk, IfSome}
use Rattle.std.specs.List.{flat_map}
use Rattle.std.specs.Option.{option_map_or}
use Rattle.std.specs.Str.{bytes_eq}
use Rattle.std.proofs.lemmas.Result.{IfOk-weaker}
use Rattle.std.proofs.lemmas.List.{take_more, take_all, take-append-drop, map-append}
use Rattle.std.proofs.lemmas.List.Concat.{flat_map-append}
use Rattle.list_laws.specs.Options.{or_else}
use Rattle.list_laws.proofs.Lists.{map_push}
use Rattle.list_laws.proofs.Options.{none_some}
use Rattle.texts.specs.Repeated.{has_name}
use Rattle.link_arena.specs.NameTableNames.{with_name}
use Rattle.verilog_tree.specs.declared.tree.Bit.{Bit}
use Rattle.verilog_tree.specs.declared.tree.Port.{Port}
use Rattle.verilog_tree.specs.declared.tree.Wire.{Wire}
use Rattle.verilog_tree.specs.declared.tree.Module.{Module}
use Rattle.hier_model.specs.declared.walk.walk.Step.{Step}
use Rattle.hier_model.specs.declared.walk.walk.Walk.{Walk}
use Rattle.hier_model.specs.Visits.{Visit, visits, has_levels}
use Rattle.hier_model.specs.Walks.{left_in, Goes, Begins}
use Rattle.hier_model.specs.declared.fault.HierFault.{HierFault}
use Rattle.hier_model.specs.declared.fault.HierFault.TheVariants as fault
use Rattle.hier_model.specs.Names.{flat_name}
use Rattle.hier_model.specs.Entries.{Place, place, turn_places, places, level_limit}
use Rattle.hier_model.specs.Faults.{NameCheck, enters, is_long, bad_name_after, place_names, turn_checks, declared_flat, bad_name_in}
use Rattle.hier_flatten.specs.Visited.{IsListed}
use Rattle.hier_flatten.specs.NameChecks.{Checks, port_checks, checks_at, net_checks}
use Rattle.hier_flatten.proofs.NameLaws.{stops, goes_on}
use Rattle.hier_flatten.proofs.Walks.{visit_in, Makes, makes_more, makes_all}
use Rattle.hier_flatten.proofs.EnteredNames.{enter_fault, enter_clear, name_found, name_absent, nets_behind, front_stays, all_entered}
use Rattle.hier_flatten.proofs.FlatLaws.{makes_first, nested}

-- One name.

-- a name that is found is there
pub found_there : (names : List (List ℕ)) (name : List ℕ) (found : Option ℕ) → found ≡ position (bytes_eq name) names → ((number : ℕ) → found ≡ Some number → slice_get names number ≡ Some name) → is_some found ≡ has_name names name
found_there names name None is at = sym (name_absent names name (sym is))
found_there names name (Some number) is at = sym (name_found names name number (at number refl))

pub enter_bad : (declared seen new : List (List ℕ)) (flat name bytes : List ℕ) (b : Bool) → flat ≡ name → bytes ≡ flat → b ≡ (is_long bytes || has_name seen bytes) → b ≡ true → Checks declared seen (enters name ∷ []) (Some (fault.FlatName flat)) new
enter_bad declared seen new flat name bytes b same read is bad =
    let long : (is_long flat || has_name seen flat) ≡ true = sym (ap (λ (x : List ℕ). is_long x || has_name seen x) read) ∙ sym is ∙ bad in
    let c = enter_fault declared seen flat long in
    subst (λ (x : List ℕ). Checks declared seen (enters x ∷ []) (Some (fault.FlatName flat)) new) same (record { fault_is = c.fault_is; seen_is = λ none. none_some (sym none) })

pub enter_good : (declared seen new : List (List ℕ)) (flat name bytes text : List ℕ) (b : Bool) → flat ≡ name → bytes ≡ flat → b ≡ (is_long bytes || has_name seen bytes) → b ≡ false → text ≡ flat → new ≡ with_name text seen
    → Checks declared seen (enters name ∷ []) None new
enter_good declared seen new flat name bytes text b same read is good other made =
    let short : (is_long flat || has_name seen flat) ≡ false = sym (ap (λ (x : List ℕ). is_long x || has_name seen x) read) ∙ sym is ∙ good in
    let c = enter_clear declared seen new flat short
    (made ∙ ap (λ (x : List ℕ). with_name x seen) other
    ∙ ap (λ (x : Bool). if x then seen else seen ++ flat ∷ []) (fresh (is_long flat) (has_name seen flat) short)) in
    subst (λ (x : List ℕ). Checks declared seen (enters x ∷ []) None new) same c
  where
    fresh : (x y : Bool) → (x || y) ≡ false → y ≡ false
    fresh true y e = absurd (let no : true ≡ false = e in cc)
    fresh false y e = e

-- Along a list.

taken_more : {X Y : Type 0} (g : X → Y) (xs : List X) (k : ℕ) (x : X) → k < length xs → x ≡ get_or xs k x → map g (take k xs) ++ g x ∷ [] ≡ map g (take (k + 1) xs)
taken_more {X} g xs k x low is =
    sym (map_push g (take k xs) x) ∙ ap (map g) (ap (λ (y : X). take k xs ++ y ∷ []) is ∙ sym (take_more xs k x low))

map_split : {X Y : Type 0} (g : X → Y) (xs : List X) (n : ℕ) → map g (take n xs) ++ map g (drop n xs) ≡ map g xs
map_split g xs n = sym (map-append g (take n xs) (drop n xs)) ∙ ap (map g) (take-append-drop n xs)

-- one more name
pub part_more : {X : Type 0} (g : X → NameCheck) (declared old mid new : List (List ℕ)) (xs : List X) (k : ℕ) (x : X) (found : Option HierFault) → k < length xs → x ≡ get_or xs k x → Checks declared old (map g (take k xs)) None mid → Checks declared mid (g x ∷ []) found new
    → Checks declared old (map g (take (k + 1) xs)) found new
part_more g declared old mid new xs k x found low is c d =
    subst (λ (cs : List NameCheck). Checks declared old cs found new) (taken_more g xs k x low is) (goes_on declared old (map g (take k xs)) (g x ∷ []) mid new found c d)

-- one at fault ends it
pub part_stops : {X : Type 0} (g : X → NameCheck) (declared old mid new : List (List ℕ)) (xs : List X) (k : ℕ) (x : X) (f : HierFault) → k < length xs → x ≡ get_or xs k x → Checks declared old (map g (take k xs)) None mid → Checks declared mid (g x ∷ []) (Some f) new
    → Checks declared old (map g xs) (Some f) new
part_stops g declared old mid new xs k x f low is c d =
    subst (λ (cs : List NameCheck). Checks declared old cs (Some f) new) (map_split g xs (k + 1))
    (stops declared old (map g (take (k + 1) xs)) (map g (drop (k + 1) xs)) f new new (part_more g declared old mid new xs k x (Some f) low is c d))

-- Nets that items name.

bits_more : {X : Type 0} (bits : X → List Bit) (xs : List X) (k : ℕ) (x : X) → k < length xs → x ≡ get_or xs k x → flat_map bits (take k xs) ++ bits x ≡ flat_map bits (take (k + 1) xs)
bits_more {X} bits xs k x low is =
    ap (λ (l : List Bit). flat_map bits (take k xs) ++ l) (sym (append-nil (bits x)))
    ∙ sym (flat_map-append bits (take k xs) (x ∷ []))
    ∙ ap (flat_map bits) (ap (λ (y : X). take k xs ++ y ∷ []) is ∙ sym (take_more xs k x low))

bits_split : {X : Type 0} (bits : X → List Bit) (xs : List X) (n : ℕ) → flat_map bits (take n xs) ++ flat_map bits (drop n xs) ≡ flat_map bits xs
bits_split bits xs n = sym (flat_map-append bits (take n xs) (drop n xs)) ∙ ap (flat_map bits) (take-append-drop n xs)

-- one more operand or link
pub nets_more : {X : Type 0} (bits : X → List Bit) (declared seen at : List (List ℕ)) (m : Module) (xs : List X) (k : ℕ) (x : X) (found : Option HierFault) → k < length xs → x ≡ get_or xs k x
    → None ≡ bad_name_after declared seen (net_checks at m (flat_map bits (take k xs))) → found ≡ bad_name_after declared seen (net_checks at m (bits x))
    → found ≡ bad_name_after declared seen (net_checks at m (flat_map bits (take (k + 1) xs)))
nets_more bits declared seen at m xs k x found low is none last =
    last
    ∙ ap (λ (o : Option HierFault). or_else o (bad_name_after declared seen (net_checks at m (bits x)))) none
    ∙ sym (nets_behind declared seen at m (flat_map bits (take k xs)) (bits x))
    ∙ ap (λ (bs : List Bit). bad_name_after declared seen (net_checks at m bs)) (bits_more bits xs k x low is)

pub nets_stop : {X : Type 0} (bits : X → List Bit) (declared seen at : List (List ℕ)) (m : Module) (xs : List X) (k : ℕ) (x : X) (f : HierFault) → k < length xs → x ≡ get_or xs k x
    → None ≡ bad_name_after declared seen (net_checks at m (flat_map bits (take k xs))) → Some f ≡ bad_name_after declared seen (net_checks at m (bits x))
    → Some f ≡ bad_name_after declared seen (net_checks at m (flat_map bits xs))
nets_stop bits declared seen at m xs k x f low is none last =
    ap (λ (o : Option HierFault). or_else o (bad_name_after declared seen (net_checks at m (flat_map bits (drop (k + 1) xs))))) (nets_more bits declared seen at m xs k x (Some f) low is none last)
    ∙ sym (nets_behind declared seen at m (flat_map bits (take (k + 1) xs)) (flat_map bits (drop (k + 1) xs)))
    ∙ ap (λ (bs : List Bit). bad_name_after declared seen (net_checks at m bs)) (bits_split bits xs (k + 1))

-- Along a walk.

-- what a loop knows before each step: the checks that were made found nothing, and they are those before what is left
pub record Checking (levels : ℕ) (modules : List Module) (make : Visit → List NameCheck) (all : List NameCheck) (declared old : List (List ℕ)) (w : Walk) (now : List (List ℕ)) : Type 0 where
  pub made : List NameCheck
  pub makes : Makes levels modules make all w made
  pub checked : Checks declared old made None now

pub checking_first : (levels : ℕ) (modules own : List Module) (top : Module) (make : Visit → List NameCheck) (all front : List NameCheck) (declared old now : List (List ℕ)) (w : Walk) → own ≡ modules → Begins own top w → IsTrue (has_levels levels modules top)
    → IsListed modules top → front ++ flat_map make (visits levels modules [] top) ≡ all → Checks declared old front None now → Checking levels modules make all declared old w now
checking_first levels modules own top make all front declared old now w same begins deep here is c = record {
  made = front;
  makes = makes_first levels modules own top make all front w same begins deep here is;
  checked = c;
}

pub checking_on : (levels : ℕ) (modules : List Module) (make : Visit → List NameCheck) (all : List NameCheck) (declared old mid new : List (List ℕ)) (w v : Walk) (s : Step) → Goes levels w v (Some s) → Checking levels modules make all declared old w mid
    → Checks declared mid (make (visit_in v s)) None new → Checking levels modules make all declared old v new
checking_on levels modules make all declared old mid new w v s goes k c = record {
  made = k.made ++ make (visit_in v s);
  makes = makes_more levels modules make all w v s k.made (k.made ++ make (visit_in v s)) goes k.makes refl;
  checked = goes_on declared old k.made (make (visit_in v s)) mid new None k.checked c;
}

pub checking_stops : (levels : ℕ) (modules : List Module) (make : Visit → List NameCheck) (all : List NameCheck) (declared old mid new : List (List ℕ)) (w v : Walk) (s : Step) (f : HierFault) → Goes levels w v (Some s) → Checking levels modules make all declared old w mid
    → Checks declared mid (make (visit_in v s)) (Some f) new → Checks declared old all (Some f) new
checking_stops levels modules make all declared old mid new w v s f goes k c =
    let m = makes_more levels modules make all w v s k.made (k.made ++ make (visit_in v s)) goes k.makes refl in
    subst (λ (cs : List NameCheck). Checks declared old cs (Some f) new) m.rest
    (stops declared old (k.made ++ make (visit_in v s)) (flat_map make (left_in levels v)) f new new (goes_on declared old k.made (make (visit_in v s)) mid new (Some f) k.checked c))

pub checking_ends : (levels : ℕ) (modules : List Module) (make : Visit → List NameCheck) (all : List NameCheck) (declared old now : List (List ℕ)) (w v : Walk) → Goes levels w v None → Checking levels modules make all declared old w now → Checks declared old all None now
checking_ends levels modules make all declared old now w v goes k =
    subst (λ (cs : List NameCheck). Checks declared old cs None now) (makes_all levels modules make all w v k.made goes k.makes) k.checked

-- The names of ports and wires.

-- what a visit enters of them
abbrev pub visit_nets : Visit → List NameCheck
visit_nets v = flat_map checks_at (turn_places v.at v.turn)

-- what the hierarchy enters of them, the top's first
abbrev pub all_nets : List Module → Module → List NameCheck
all_nets modules top = checks_at (place [] top) ++ flat_map visit_nets (visits level_limit modules [] top)

map_twice : {X Y Z : Type 0} (g : Y → Z) (f : X → Y) (xs : List X) → map g (map f xs) ≡ map (λ x. g (f x)) xs
map_twice g f [] = refl
map_twice {X} {Y} {Z} g f (x ∷ xs) = ap (λ (l : List Z). g (f x) ∷ l) (map_twice g f xs)

place_enters : (p : Place) → map (λ (name : List ℕ). enters name) (place_names p) ≡ checks_at p
place_enters p =
    map-append (λ (name : List ℕ). enters name) (map (λ (port : Port). flat_name p.at port.name) p.here.ports) (map (λ (wire : Wire). flat_name p.at wire.name) p.here.wires)
    ∙ ap (λ (l : List NameCheck). l ++ map (λ (name : List ℕ). enters name) (map (λ (wire : Wire). flat_name p.at wire.name) p.here.wires)) (map_twice (λ (name : List ℕ). enters name) (λ (port : Port). flat_name p.at port.name) p.here.ports)
    ∙ ap (λ (l : List NameCheck). port_checks p.at p.here.ports ++ l) (map_twice (λ (name : List ℕ). enters name) (λ (wire : Wire). flat_name p.at wire.name) p.here.wires)

places_enter : (ps : List Place) → map (λ (name : List ℕ). enters name) (flat_map place_names ps) ≡ flat_map checks_at ps
places_enter [] = refl
places_enter (p ∷ ps) =
    map-append (λ (name : List ℕ). enters name) (place_names p) (flat_map place_names ps)
    ∙ ap (λ (l : List NameCheck). l ++ map (λ (name : List ℕ). enters name) (flat_map place_names ps)) (place_enters p)
    ∙ ap (λ (l : List NameCheck). checks_at p ++ l) (places_enter ps)

pub nets_all : (modules : List Module) (top : Module) → all_nets modules top ≡ map (λ (name : List ℕ). enters name) (declared_flat modules top)
nets_all modules top =
    ap (λ (l : List NameCheck). checks_at (place [] top) ++ l) (nested checks_at (λ (v : Visit). turn_places v.at v.turn) (visits level_limit modules [] top))
    ∙ sym (places_enter (places modules top))

-- The whole.

abbrev pub visit_checks : Visit → List NameCheck
visit_checks v = turn_checks v.at v.within v.turn

abbrev pub all_checks : List Module → Module → List NameCheck
all_checks modules top = flat_map visit_checks (visits level_limit modules [] top)

-- behind the ports and wires, a fault of the items is the whole's
pub whole_fault : (modules : List Module) (top : Module) (seen new : List (List ℕ)) (found : Option HierFault) → Checks (declared_flat modules top) [] (map (λ (name : List ℕ). enters name) (declared_flat modules top)) None seen
    → Checks (declared_flat modules top) seen (all_checks modules top) found new → found ≡ bad_name_in modules top
whole_fault modules top seen new found first then_checks =
    (goes_on (declared_flat modules top) [] (map (λ (name : List ℕ). enters name) (declared_flat modules top)) (all_checks modules top) seen new found first then_checks).fault_is

pub early_fault : (modules : List Module) (top : Module) (new : List (List ℕ)) (f : HierFault) → Checks (declared_flat modules top) [] (map (λ (name : List ℕ). enters name) (declared_flat modules top)) (Some f) new → Some f ≡ bad_name_in modules top
early_fault modules top new f c =
    (stops (declared_flat modules top) [] (map (λ (name : List ℕ). enters name) (declared_flat modules top)) (all_checks modules top) f new new c).fault_is

-- the names of ports and wires are those that were entered
pub nets_seen : (modules : List Module) (top : Module) (declared seen : List (List ℕ)) → Checks declared [] (map (λ (name : List ℕ). enters name) (declared_flat modules top)) None seen → seen ≡ declared_flat modules top
nets_seen modules top declared seen c = c.seen_is refl ∙ all_entered [] (declared_flat modules top)

-- they stay in front
pub declared_stay : (declared old now : List (List ℕ)) (made : List NameCheck) (d : ℕ) → d ≡ length old → declared ≡ old → Checks declared old made None now → (take d now ≡ declared) × (d ≤ length now)
declared_stay declared old now made d long same c =
    let low : d ≤ length old = omega (arith, long) in
    let t = front_stays old now made d low (c.seen_is refl) in
    (t.0 ∙ all_front old d long ∙ sym same, t.1)
  where
    all_front : {X : Type 0} (xs : List X) (n : ℕ) → n ≡ length xs → take n xs ≡ xs
    all_front xs n is = let low : length xs ≤ n = omega (arith, is) in take_all n xs low

-- Results of calls.

-- what a last call finds stands behind what was checked
pub then_rest : {E : Type 0} (old mid new : List (List ℕ)) (one other : List NameCheck) (r : Result (Option HierFault) E) → ((declared : List (List ℕ)) → Checks declared old one None mid) → IfOk r (λ found. (declared : List (List ℕ)) → Checks declared mid other found new)
    → IfOk r (λ found. (declared : List (List ℕ)) → Checks declared old (one ++ other) found new)
then_rest old mid new one other r first rest =
    IfOk-weaker r (λ (found : Option HierFault). (declared : List (List ℕ)) → Checks declared mid other found new) (λ (found : Option HierFault). (declared : List (List ℕ)) → Checks declared old (one ++ other) found new)
    (λ found c declared. goes_on declared old one other mid new found (first declared) (c declared)) rest

-- what it finds is told of equal checks
pub of_equal : {E : Type 0} (old new : List (List ℕ)) (one other : List NameCheck) (r : Result (Option HierFault) E) → one ≡ other → IfOk r (λ found. (declared : List (List ℕ)) → Checks declared old one found new) → IfOk r (λ found. (declared : List (List ℕ)) → Checks declared old other found new)
of_equal old new one other r same is =
    IfOk-weaker r (λ (found : Option HierFault). (declared : List (List ℕ)) → Checks declared old one found new) (λ (found : Option HierFault). (declared : List (List ℕ)) → Checks declared old other found new)
    (λ found c declared. subst (λ (cs : List NameCheck). Checks declared old cs found new) same (c declared)) is

-- for the names that are declared
pub of_declared : {E : Type 0} (declared old new : List (List ℕ)) (one other : List NameCheck) (r : Result (Option HierFault) E) → one ≡ other → IfOk r (λ found. (names : List (List ℕ)) → Checks names old one found new) → IfOk r (λ found. Checks declared old other found new)
of_declared declared old new one other r same is =
    IfOk-weaker r (λ (found : Option HierFault). (names : List (List ℕ)) → Checks names old one found new) (λ (found : Option HierFault). Checks declared old other found new)
    (λ found c. subst (λ (cs : List NameCheck). Checks declared old cs found new) same (c declared)) is

-- a name as its bytes were read, and a fault as it was matched
pub found_as : (declared old new : List (List ℕ)) (name bytes : List ℕ) (at : List (List ℕ)) (found matched : Option HierFault) → bytes ≡ name → found ≡ matched → Checks declared old (enters (flat_name at bytes) ∷ []) found new
    → Checks declared old (enters (flat_name at name) ∷ []) matched new
found_as declared old new name bytes at found matched read is c =
    subst (λ (o : Option HierFault). Checks declared old (enters (flat_name at name) ∷ []) o new) is
    (subst (λ (b : List ℕ). Checks declared old (enters (flat_name at b) ∷ []) found new) read c)

-- an equation of what a last call finds
pub equal_nets : {E : Type 0} (declared seen at : List (List ℕ)) (m : Module) (one other : List Bit) (r : Result (Option HierFault) E) → one ≡ other → IfOk r (λ found. found ≡ bad_name_after declared seen (net_checks at m one))
    → IfOk r (λ found. found ≡ bad_name_after declared seen (net_checks at m other))
equal_nets declared seen at m one other r same is =
    IfOk-weaker r (λ (found : Option HierFault). found ≡ bad_name_after declared seen (net_checks at m one)) (λ (found : Option HierFault). found ≡ bad_name_after declared seen (net_checks at m other))
    (λ found e. e ∙ ap (λ (bs : List Bit). bad_name_after declared seen (net_checks at m bs)) same) is

-- ports as a slice told them, and a fault as it was matched
pub ports_as : (declared old new at : List (List ℕ)) (ports slice : List Port) (found matched : Option HierFault) → slice ≡ ports → found ≡ matched → Checks declared old (port_checks at slice) found new → Checks declared old (port_checks at ports) matched new
ports_as declared old new at ports slice found matched same is c =
    subst (λ (o : Option HierFault). Checks declared old (port_checks at ports) o new) is
    (subst (λ (ps : List Port). Checks declared old (port_checks at ps) found new) same c)

-- the name of a gate
pub own_name : (at : List (List ℕ)) (o : Option (List ℕ)) (name bytes : List ℕ) → o ≡ Some name → bytes ≡ name → enters (flat_name at bytes) ∷ [] ≡ option_map_or (λ n. enters (flat_name at n) ∷ []) o []
own_name at o name bytes is read =
    ap (λ (b : List ℕ). enters (flat_name at b) ∷ []) read
    ∙ ap (λ (x : Option (List ℕ)). option_map_or (λ (n : List ℕ). enters (flat_name at n) ∷ []) x []) (sym is)

-- a name that isn't long is at fault where it came before
pub taken_is : (names : List (List ℕ)) (name : List ℕ) (found : Option ℕ) (there : Bool) → length name ≤ 255 → found ≡ position (bytes_eq name) names → IfSome found (λ number. slice_get names number ≡ Some name) → there ≡ is_some found
    → there ≡ (is_long name || has_name names name)
taken_is names name found there short is at there_is =
    there_is ∙ known found is at ∙ ap (λ (b : Bool). b || has_name names name) (sym (low (is_long name) refl))
  where
    known : (o : Option ℕ) → o ≡ position (bytes_eq name) names → IfSome o (λ number. slice_get names number ≡ Some name) → is_some o ≡ has_name names name
    known None e at = found_there names name None e (λ number no. none_some no)
    known (Some number) e at = sym (name_found names name number at)

    low : (b : Bool) → is_long name ≡ b → b ≡ false
    low true e = let more = ltb-true 255 (length name) e in absurd (omega (arith, more, short))
    low false e = refl
