-- The items that ways take are those that opening puts behind the instance.
use Rattle.std.proofs.Common.{◌≡◌, ℕ, ◌+◌, Bool, true, false, not, cond, List, [], ◌∷◌, ◌++◌, map, drop, length, Option, Some, None, refl, sym, ap, subst, ◌∙◌, eqb-true, eq-eqb, append_assoc, drop-drop, if◌then◌else◌}
use Rattle.std.specs.Prelude.{filter}
use Rattle.std.specs.List.{AllByRecursion, flat_map}
use Rattle.std.specs.Option.{option_map, option_or}
use Rattle.list_laws.proofs.Lists.{all_append}
use Rattle.verilog_tree.specs.declared.tree.Operand.{Operand}
use Rattle.verilog_tree.specs.declared.tree.Instance.{Instance}
use Rattle.verilog_tree.specs.declared.tree.Item.{Item}
use Rattle.verilog_tree.specs.declared.tree.Module.{Module}
use Rattle.link_model.specs.Lists.{has_name}
use Rattle.link_model.specs.Nets.{width}
use Rattle.box_model.specs.declared.boxes.BoxCell.{BoxCell}
use Rattle.box_model.specs.declared.boxes.BoxLibrary.{BoxLibrary}
use Rattle.box_model.specs.declared.boxes.BoxPort.{BoxPort}
use Rattle.box_model.specs.Ports.{box_named, is_narrow, narrow_first, flop_output, given_scalar, cut_ports, hidden_name, hidden_bits}
use Rattle.box_model.specs.Opened.{assigns}
use Rattle.box_model.specs.Closed.{own_run, joint, has_port}
use Rattle.box_model.proofs.Counting.{passing}
use Rattle.box_model.proofs.LinkFits.{length-bits_of}
use Rattle.box_model.proofs.Assigns.{IsAssign, assigns_are}
use Rattle.box_model.proofs.Reruns.{own_run_is}
use Rattle.box_model.proofs.Ways.{Way, Linked, Wired, way_port, collect, joint_ways, run_ways, ways}

abbrev pub way_items : Instance → Way → List Item
way_items i (Linked p os o) = assigns p.dir (hidden_bits i p) os
way_items i (Wired p) = []

pub ways_are_assigns : (i : Instance) (ws : List Way) → AllByRecursion IsAssign (flat_map (way_items i) ws)
ways_are_assigns i [] = tt
ways_are_assigns i (Linked p os o ∷ ws) = all_append IsAssign (assigns p.dir (hidden_bits i p) os) (flat_map (way_items i) ws) (assigns_are p.dir (hidden_bits i p) os) (ways_are_assigns i ws)
ways_are_assigns i (Wired p ∷ ws) = ways_are_assigns i ws

-- Ports of one bit stand first.

abbrev pub IsWide : BoxPort → Type 0
IsWide p = is_narrow p ≡ false

abbrev pub NarrowFirst : List BoxPort → Type 0
NarrowFirst [] = Unit {0}
NarrowFirst (p ∷ ports) = (is_narrow p ≡ false → AllByRecursion IsWide ports) × NarrowFirst ports

wide_narrow : (ports : List BoxPort) → AllByRecursion IsWide ports → NarrowFirst ports
wide_narrow [] all = tt
wide_narrow (p ∷ ports) all = (λ wide. all.1, wide_narrow ports all.1)

both_narrow : (xs ys : List BoxPort) → AllByRecursion (λ p. is_narrow p ≡ true) xs → AllByRecursion IsWide ys → NarrowFirst (xs ++ ys)
both_narrow [] ys narrow wide = wide_narrow ys wide
both_narrow (x ∷ xs) ys narrow wide = (λ never. absurd (let no_way : true ≡ false = sym narrow.0 ∙ never in cc), both_narrow xs ys narrow.1 wide)

wide_kept : (ports : List BoxPort) → AllByRecursion IsWide (filter (λ p. not (is_narrow p)) ports)
wide_kept [] = tt
wide_kept (p ∷ ports) = by (is_narrow p) refl (wide_kept ports)
  where
    by : (b : Bool) → is_narrow p ≡ b → AllByRecursion IsWide (filter (λ q. not (is_narrow q)) ports) → AllByRecursion IsWide (cond (not b) (p ∷ filter (λ q. not (is_narrow q)) ports) (filter (λ q. not (is_narrow q)) ports))
    by true e rest = rest
    by false e rest = (e, rest)

pub cut_narrow_first : (B : BoxLibrary) (i : Instance) (ports : List BoxPort) → cut_ports B i ≡ Some ports → NarrowFirst ports
cut_narrow_first B i ports h = boxed (box_named B i.cell) h
  where
    scalar : (o : Option (List ℕ)) → option_map given_scalar o ≡ Some ports → NarrowFirst ports
    scalar None k = absurd (cc)
    scalar (Some name) k = let it : given_scalar name ≡ ports = cc in subst NarrowFirst it (λ wide. tt, tt)

    cut : (b : Bool) → (if b then option_map given_scalar (flop_output B i.cell) else None) ≡ Some ports → NarrowFirst ports
    cut true k = scalar (flop_output B i.cell) k
    cut false k = absurd (cc)

    boxed : (o : Option BoxCell) → option_or (option_map (λ (b : BoxCell). narrow_first b.ports) o) (if has_name B.cuts i.name then option_map given_scalar (flop_output B i.cell) else None) ≡ Some ports → NarrowFirst ports
    boxed None k = cut (has_name B.cuts i.name) k
    boxed (Some b) k =
        let it : narrow_first b.ports ≡ ports = cc in
        subst NarrowFirst it (both_narrow (filter is_narrow b.ports) (filter (λ p. not (is_narrow p)) b.ports) (passing is_narrow b.ports) (wide_kept b.ports))

-- Joints.

wide_run : (p : BoxPort) (os : List Operand) → length os ≡ width p.range → is_narrow p ≡ false → (m : Module) → joint m true os ≡ None
wide_run p [] wide many m = refl
wide_run p (o ∷ []) wide many m = absurd (let one = eq-eqb (width p.range) 1 (sym wide) in let no_way : true ≡ false = sym one ∙ many in cc)
wide_run p (o ∷ other ∷ os) wide many m = refl

unjoint_wide : (m : Module) (p : BoxPort) (os : List Operand) → length os ≡ width p.range → joint m false os ≡ None → is_narrow p ≡ false
unjoint_wide m p os wide none = by (is_narrow p) refl
  where
    one : (xs : List Operand) → length xs ≡ 1 → joint m false xs ≡ None → true ≡ false
    one [] e k = absurd (cc)
    one (x ∷ []) e k = absurd (cc)
    one (x ∷ y ∷ xs) e k = absurd (cc)

    by : (b : Bool) → is_narrow p ≡ b → b ≡ false
    by true e = one os (wide ∙ eqb-true (width p.range) 1 e) none
    by false e = refl

run_long : (m : Module) (i : Instance) (p : BoxPort) (items : List Item) (os : List Operand) → own_run m i p items ≡ Some os → length os ≡ width p.range
run_long m i p items os h = let run = own_run_is m i p items os h in run.run.wide ∙ length-bits_of (hidden_name i.name p.name) p.range

-- behind a parted port each comes back by a wire

abbrev IsWired : Way → Type 0
IsWired (Linked p os o) = ⊥
IsWired (Wired p) = Unit {0}

parted_wired : (m : Module) (i : Instance) (ports : List BoxPort) (items : List Item) → AllByRecursion IsWide ports → AllByRecursion IsWired (ways m i true ports items)
parted_wired m i [] items all = tt
parted_wired m i (p ∷ ports) items all = by (has_port m (hidden_name i.name p.name)) (λ rest. parted_wired m i ports rest all.1)
  where
    joined : (os : List Operand) (o : Option Operand) → o ≡ None → ((rest : List Item) → AllByRecursion IsWired (ways m i true ports rest))
        → AllByRecursion IsWired (joint_ways p os (ways m i true ports (drop (length os) items)) (ways m i true ports (drop (length os) items)) o)
    joined os None none more = (tt, more (drop (length os) items))
    joined os (Some o) none more = absurd (cc)

    ran : (r : Option (List Operand)) → own_run m i p items ≡ r → ((rest : List Item) → AllByRecursion IsWired (ways m i true ports rest))
        → AllByRecursion IsWired (run_ways m p true items (λ b rest. ways m i b ports rest) r)
    ran None e more = (tt, more items)
    ran (Some os) e more = joined os (joint m true os) (wide_run p os (run_long m i p items os e) all.0 m) more

    by : (there : Bool) → ((rest : List Item) → AllByRecursion IsWired (ways m i true ports rest))
        → AllByRecursion IsWired (if not there then ways m i true ports items else run_ways m p true items (λ b rest. ways m i b ports rest) (own_run m i p items))
    by true more = ran (own_run m i p items) refl more
    by false more = more items

wired_items : (i : Instance) (ws : List Way) → AllByRecursion IsWired ws → (items : List Item) → flat_map (way_items i) ws ++ drop (collect i ws).gone items ≡ items
wired_items i [] all items = refl
wired_items i (Linked p os o ∷ ws) all items = absurd all.0
wired_items i (Wired p ∷ ws) all items = wired_items i ws all.1 items

-- The items.

pub ways_split : (m : Module) (i : Instance) (ports : List BoxPort) (items : List Item) → NarrowFirst ports
    → flat_map (way_items i) (ways m i false ports items) ++ drop (collect i (ways m i false ports items)).gone items ≡ items
ways_split m i [] items first = refl
ways_split m i (p ∷ ports) items first = by (has_port m (hidden_name i.name p.name)) (λ rest. ways_split m i ports rest first.1)
  where
    joined : (os : List Operand) → own_run m i p items ≡ Some os → (o : Option Operand) → joint m false os ≡ o
        → ((rest : List Item) → flat_map (way_items i) (ways m i false ports rest) ++ drop (collect i (ways m i false ports rest)).gone rest ≡ rest)
        → flat_map (way_items i) (joint_ways p os (ways m i false ports (drop (length os) items)) (ways m i true ports (drop (length os) items)) o)
        ++ drop (collect i (joint_ways p os (ways m i false ports (drop (length os) items)) (ways m i true ports (drop (length os) items)) o)).gone items ≡ items
    joined os run (Some o) is more =
        let rest = drop (length os) items in
        let ws = ways m i false ports rest in
        let mine = assigns p.dir (hidden_bits i p) os in
        let gone = (collect i ws).gone in
        append_assoc mine (flat_map (way_items i) ws) (drop (length os + gone) items)
        ∙ ap (λ (xs : List Item). mine ++ (flat_map (way_items i) ws ++ xs)) (sym (drop-drop gone (length os) items))
        ∙ ap (λ (xs : List Item). mine ++ xs) (more rest)
        ∙ (own_run_is m i p items os run).run.is
    joined os run None is more =
        let many = unjoint_wide m p os (run_long m i p items os run) is in
        wired_items i (ways m i true ports (drop (length os) items)) (parted_wired m i ports (drop (length os) items) (first.0 many)) items

    ran : (r : Option (List Operand)) → own_run m i p items ≡ r
        → ((rest : List Item) → flat_map (way_items i) (ways m i false ports rest) ++ drop (collect i (ways m i false ports rest)).gone rest ≡ rest)
        → flat_map (way_items i) (run_ways m p false items (λ b rest. ways m i b ports rest) r) ++ drop (collect i (run_ways m p false items (λ b rest. ways m i b ports rest) r)).gone items ≡ items
    ran None e more = more items
    ran (Some os) e more = joined os e (joint m false os) refl more

    by : (there : Bool) → ((rest : List Item) → flat_map (way_items i) (ways m i false ports rest) ++ drop (collect i (ways m i false ports rest)).gone rest ≡ rest)
        → flat_map (way_items i) (if not there then ways m i false ports items else run_ways m p false items (λ b rest. ways m i b ports rest) (own_run m i p items))
        ++ drop (collect i (if not there then ways m i false ports items else run_ways m p false items (λ b rest. ways m i b ports rest) (own_run m i p items))).gone items ≡ items
    by true more = ran (own_run m i p items) refl more
    by false more = more items

-- The ports.

-- a port whose hidden port stands there
abbrev pub is_there : Module → Instance → BoxPort → Bool
is_there m i p = has_port m (hidden_name i.name p.name)

pub ways_ports : (m : Module) (i : Instance) (parted : Bool) (ports : List BoxPort) (items : List Item) → map way_port (ways m i parted ports items) ≡ filter (is_there m i) ports
ways_ports m i parted [] items = refl
ways_ports m i parted (p ∷ ports) items = by (has_port m (hidden_name i.name p.name)) (λ b rest. ways_ports m i b ports rest)
  where
    joined : (os : List Operand) (o : Option Operand) → ((b : Bool) (rest : List Item) → map way_port (ways m i b ports rest) ≡ filter (is_there m i) ports)
        → map way_port (joint_ways p os (ways m i parted ports (drop (length os) items)) (ways m i true ports (drop (length os) items)) o) ≡ p ∷ filter (is_there m i) ports
    joined os (Some o) more = ap (λ (ps : List BoxPort). p ∷ ps) (more parted (drop (length os) items))
    joined os None more = ap (λ (ps : List BoxPort). p ∷ ps) (more true (drop (length os) items))

    ran : (r : Option (List Operand)) → ((b : Bool) (rest : List Item) → map way_port (ways m i b ports rest) ≡ filter (is_there m i) ports)
        → map way_port (run_ways m p parted items (λ b rest. ways m i b ports rest) r) ≡ p ∷ filter (is_there m i) ports
    ran None more = ap (λ (ps : List BoxPort). p ∷ ps) (more parted items)
    ran (Some os) more = joined os (joint m parted os) more

    by : (there : Bool) → ((b : Bool) (rest : List Item) → map way_port (ways m i b ports rest) ≡ filter (is_there m i) ports)
        → map way_port (if not there then ways m i parted ports items else run_ways m p parted items (λ b rest. ways m i b ports rest) (own_run m i p items)) ≡ cond there (p ∷ filter (is_there m i) ports) (filter (is_there m i) ports)
    by true more = ran (own_run m i p items) more
    by false more = more parted items
