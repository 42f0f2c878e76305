-- Links that have the bits of their ports.
use Rattle.std.proofs.Common.{◌≡◌, ℕ, Bool, true, false, not, ◌||◌, if◌then◌else◌, List, [], ◌∷◌, ◌++◌, Option, Some, None, refl, sym, ap, ◌∙◌}
use Rattle.std.specs.Option.{option_map, option_map_or}
use Rattle.std.specs.Str.{bytes_eq}
use Rattle.std.specs.Cmp.Lexicographic.{bytes_decides}
use Rattle.std.proofs.lemmas.List.Folds.{list_any-append}
use Rattle.list_laws.proofs.Bytes.{bytes_eq-sym}
use Rattle.list_laws.proofs.Tests.{or_false}
use Rattle.list_laws.proofs.Options.{none_some}
use Rattle.texts.specs.Repeated.{has_name}
use Rattle.verilog_tree.specs.declared.tree.Range.{Range}
use Rattle.verilog_tree.specs.declared.tree.Bit.{Bit}
use Rattle.verilog_tree.specs.declared.tree.Operand.{Operand}
use Rattle.verilog_tree.specs.declared.tree.Operand.TheVariants as operand
use Rattle.verilog_tree.specs.declared.tree.Link.{Link}
use Rattle.verilog_tree.specs.declared.tree.Module.{Module}
use Rattle.link_model.specs.Nets.{Declared, declared_as, declared_names}
use Rattle.box_model.specs.declared.boxes.BoxPort.{BoxPort}
use Rattle.box_model.specs.Faults.{fits_net, fits_operand, port_named, is_bad_link, bad_link}
use Rattle.box_tables.specs.Nets.{range_named}
use Rattle.box_trees.specs.Fits.{fits_range}
use Rattle.box_trees.proofs.Ranges.{declared_range}

fits_declared : (p : BoxPort) (index : Option ℕ) (d : Declared) → fits_net p index d ≡ fits_range p index d.range
fits_declared p None d = refl
fits_declared p (Some index) d = refl

fits_named : (p : BoxPort) (index : Option ℕ) (d : Option Declared) (r : Option (Option Range)) → option_map (λ (x : Declared). x.range) d ≡ r → option_map_or (fits_net p index) d false ≡ option_map_or (fits_range p index) r false
fits_named p index None None e = refl
fits_named p index None (Some r) e = none_some e
fits_named p index (Some d) None e = none_some (sym e)
fits_named p index (Some d) (Some r) e = let same : d.range ≡ r = cc in fits_declared p index d ∙ ap (fits_range p index) same

fits_by_range : (m : Module) (p : BoxPort) (b : Bit) → fits_operand m p (operand.Bit b) ≡ option_map_or (fits_range p b.index) (range_named m b.net) false
fits_by_range m p b = fits_named p b.index (declared_as (declared_names m) b.net) (range_named m b.net) (declared_range m b.net)

pub fits_nothing : (m : Module) (p : BoxPort) (b : Bit) (name : List ℕ) → name ≡ b.net → None ≡ range_named m name → false ≡ fits_operand m p (operand.Bit b)
fits_nothing m p b name same none =
    ap (λ (r : Option (Option Range)). option_map_or (fits_range p b.index) r false) (none ∙ ap (range_named m) same) ∙ sym (fits_by_range m p b)

pub fits_something : (m : Module) (p : BoxPort) (b : Bit) (name : List ℕ) (range : Option Range) → name ≡ b.net → Some range ≡ range_named m name → fits_range p b.index range ≡ fits_operand m p (operand.Bit b)
fits_something m p b name range same some =
    ap (λ (r : Option (Option Range)). option_map_or (fits_range p b.index) r false) (some ∙ ap (range_named m) same) ∙ sym (fits_by_range m p b)

-- Ports that were linked before.

has_pushed : (had : List (List ℕ)) (n name : List ℕ) → has_name (had ++ n ∷ []) name ≡ (has_name had name || bytes_eq n name)
has_pushed had n name = list_any-append (bytes_eq name) had (n ∷ []) ∙ ap (λ (b : Bool). has_name had name || b) (or_false (bytes_eq name n) ∙ bytes_eq-sym name n)

-- a name that is noted stands as if it had been added
noted : (old new : List (List ℕ)) (n : List ℕ) (fresh : Bool) → fresh ≡ not (has_name old n) → new ≡ (if fresh then old ++ n ∷ [] else old) → (name : List ℕ) → has_name new name ≡ has_name (old ++ n ∷ []) name
noted old new n fresh is made name = by (has_name old n) (bytes_eq n name) refl refl
  where
    by : (a b : Bool) → has_name old n ≡ a → bytes_eq n name ≡ b → has_name new name ≡ has_name (old ++ n ∷ []) name
    by false b e f =
        let yes : fresh ≡ true = is ∙ ap not e in
        ap (λ (l : List (List ℕ)). has_name l name) (made ∙ ap (λ (c : Bool). if c then old ++ n ∷ [] else old) yes)
    by true false e f =
        let no : fresh ≡ false = is ∙ ap not e in
        ap (λ (l : List (List ℕ)). has_name l name) (made ∙ ap (λ (c : Bool). if c then old ++ n ∷ [] else old) no)
        ∙ sym (has_pushed old n name ∙ ap (λ (c : Bool). has_name old name || c) f ∙ or_false (has_name old name))
    by true true e f =
        let no : fresh ≡ false = is ∙ ap not e in
        let same : n ≡ name = (bytes_decides n name).0 f in
        let there : has_name old name ≡ true = ap (has_name old) (sym same) ∙ e in
        ap (λ (l : List (List ℕ)). has_name l name) (made ∙ ap (λ (c : Bool). if c then old ++ n ∷ [] else old) no) ∙ there ∙ sym (has_pushed old n name ∙ ap (λ (c : Bool). c || bytes_eq n name) there)

abbrev pub bad_by : Module → List BoxPort → Bool → Bool → Link → Bool
bad_by m ports whole before l = option_map_or (λ (p : BoxPort). before || option_map_or (λ (o : Operand). not (fits_operand m p o)) l.operand false) (port_named ports l.port) whole

-- names that stand in one list as in the other tell the same
bad_same : (m : Module) (ports : List BoxPort) (whole : Bool) (a b : List (List ℕ)) (links : List Link) → ((name : List ℕ) → has_name a name ≡ has_name b name) → bad_link m ports whole a links ≡ bad_link m ports whole b links
bad_same m ports whole a b [] same = refl
bad_same m ports whole a b (l ∷ links) same =
    ap (λ (c : Bool). if bad_by m ports whole c l then Some l.port else bad_link m ports whole (a ++ l.port ∷ []) links) (same l.port)
    ∙ ap (λ (o : Option (List ℕ)). if is_bad_link m ports whole b l then Some l.port else o)
    (bad_same m ports whole (a ++ l.port ∷ []) (b ++ l.port ∷ []) links (λ name. has_pushed a l.port name ∙ ap (λ (c : Bool). c || bytes_eq l.port name) (same name) ∙ sym (has_pushed b l.port name)))

twice_not : (b : Bool) → not (not b) ≡ b
twice_not true = refl
twice_not false = refl

told_bad : (m : Module) (ports : List BoxPort) (whole fresh bad : Bool) (had : List (List ℕ)) (l : Link) → fresh ≡ not (has_name had l.port) → bad ≡ bad_by m ports whole (not fresh) l → bad ≡ is_bad_link m ports whole had l
told_bad m ports whole fresh bad had l is told = told ∙ ap (λ (c : Bool). bad_by m ports whole c l) (ap not is ∙ twice_not (has_name had l.port))

pub bad_next : (m : Module) (ports : List BoxPort) (whole fresh bad : Bool) (had new : List (List ℕ)) (l : Link) (left rest : List Link) → left ≡ l ∷ rest → fresh ≡ not (has_name had l.port) → new ≡ (if fresh then had ++ l.port ∷ [] else had)
    → bad ≡ bad_by m ports whole (not fresh) l → bad ≡ false → bad_link m ports whole new rest ≡ bad_link m ports whole had left
bad_next m ports whole fresh bad had new l left rest here is made told good =
    bad_same m ports whole new (had ++ l.port ∷ []) rest (noted had new l.port fresh is made)
    ∙ sym (ap (λ (c : Bool). if c then Some l.port else bad_link m ports whole (had ++ l.port ∷ []) rest) (sym (told_bad m ports whole fresh bad had l is told) ∙ good))
    ∙ ap (bad_link m ports whole had) (sym here)

pub bad_here : (m : Module) (ports : List BoxPort) (whole fresh bad : Bool) (had : List (List ℕ)) (l : Link) (left rest : List Link) (name : List ℕ) → left ≡ l ∷ rest → fresh ≡ not (has_name had l.port)
    → bad ≡ bad_by m ports whole (not fresh) l → bad ≡ true → name ≡ l.port → Some name ≡ bad_link m ports whole had left
bad_here m ports whole fresh bad had l left rest name here is told bad_is same =
    ap (λ (n : List ℕ). Some n) same
    ∙ sym (ap (λ (c : Bool). if c then Some l.port else bad_link m ports whole (had ++ l.port ∷ []) rest) (sym (told_bad m ports whole fresh bad had l is told) ∙ bad_is))
    ∙ ap (bad_link m ports whole had) (sym here)
