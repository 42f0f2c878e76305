-- Closing an instance behind which the assigns of its ports stand gives back its links.
use Rattle.std.proofs.Common.{◌≡◌, ℕ, zero, suc, Bool, false, List, [], ◌∷◌, ◌++◌, drop, length, Option, Some, None, refl, ap, ◌∙◌, append_assoc, length-append, eq-eqb, if◌then◌else◌}
use Rattle.std.specs.Prelude.{is_some}
use Rattle.std.specs.List.{flat_map, AllByRecursion}
use Rattle.std.specs.Option.{option_map_or}
use Rattle.verilog_tree.specs.declared.tree.Bit.{Bit}
use Rattle.verilog_tree.specs.declared.tree.Operand.{Operand}
use Rattle.verilog_tree.specs.declared.tree.Operand.TheVariants as operand
use Rattle.verilog_tree.specs.declared.tree.Link.{Link}
use Rattle.verilog_tree.specs.declared.tree.Instance.{Instance}
use Rattle.verilog_tree.specs.declared.tree.Item.{Item}
use Rattle.verilog_tree.specs.declared.tree.Module.{Module}
use Rattle.link_model.specs.Nets.{width}
use Rattle.box_model.specs.declared.boxes.BoxPort.{BoxPort}
use Rattle.box_model.specs.declared.boxes.BoxDir.{BoxDir}
use Rattle.box_model.specs.declared.boxes.BoxDir.TheVariants.{Takes, Gives}
use Rattle.box_model.specs.Ports.{hidden_name, hidden_bits, linked_to}
use Rattle.box_model.specs.Opened.{is_joined, link_bits, assigns, port_items}
use Rattle.box_model.specs.Closed.{times_named, own_run, run_of, joint, Closing, link, has_port, closing}
use Rattle.box_model.proofs.Runs.{AllLinked, run_of_assigns}

-- as many assigns as bits, and none of them is lost
pub as_many : (d : BoxDir) (bs : List Bit) (os : List Operand) → AllLinked d os → length os ≡ length bs → length (assigns d bs os) ≡ length os
as_many d [] [] all same = refl
as_many d [] (o ∷ os) all same = absurd (cc)
as_many d (b ∷ bs) [] all same = absurd (cc)
as_many Gives (b ∷ bs) (operand.Bit c ∷ os) all same = ap suc (as_many Gives bs os all.1 (cc))
as_many Gives (b ∷ bs) (operand.Const value ∷ os) all same = absurd all.0
as_many Takes (b ∷ bs) (o ∷ os) all same = ap suc (as_many Takes bs os all.1 (cc))

pub behind : {X : Type 0} (xs ys : List X) (n : ℕ) → length xs ≡ n → drop n (xs ++ ys) ≡ ys
behind [] ys zero e = refl
behind [] ys (suc n) e = absurd (cc)
behind (x ∷ xs) ys zero e = absurd (cc)
behind (x ∷ xs) ys (suc n) e = behind xs ys n (cc)

-- a port whose link, if it has one, is given back: the opened module has its hidden port then, nothing but its assigns
-- names it, and the link's bits are joined again to what it was
pub record IsBackAt (m m' : Module) (i : Instance) (p : BoxPort) (o : Operand) : Type 0 where
  pub apart : is_joined m i p o ≡ false
  pub linked : AllLinked p.dir (link_bits m p o)
  pub wide : length (link_bits m p o) ≡ length (hidden_bits i p)
  pub alone : times_named m' (hidden_name i.name p.name) ≡ width p.range
  pub whole : joint m' false (link_bits m p o) ≡ Some o

pub record GoesBack (m m' : Module) (i : Instance) (p : BoxPort) : Type 0 where
  pub hidden : has_port m' (hidden_name i.name p.name) ≡ is_some (linked_to i.links p.name)
  pub at : (o : Operand) → linked_to i.links p.name ≡ Some o → IsBackAt m m' i p o

abbrev pub AllGoBack : Module → Module → Instance → List BoxPort → Type 0
AllGoBack m m' i ports = AllByRecursion (GoesBack m m' i) ports

abbrev pub back_links : Instance → List BoxPort → List Link
back_links i ports = flat_map (λ (p : BoxPort). option_map_or (λ o. link p.name o ∷ []) (linked_to i.links p.name) []) ports

abbrev pub back : Module → Instance → List BoxPort → Closing
back m i ports = record { links = back_links i ports; gone = length (flat_map (port_items m i) ports); wires = [] }

-- the bare instance
abbrev pub bare : Instance → List Link → Instance
bare i links = record i { links = links }

run_back : (m m' : Module) (i : Instance) (links : List Link) (p : BoxPort) (o : Operand) (more : List Item) → IsBackAt m m' i p o
    → own_run m' (bare i links) p (assigns p.dir (hidden_bits i p) (link_bits m p o) ++ more) ≡ Some (link_bits m p o)
run_back m m' i links p o more here =
    let mine = assigns p.dir (hidden_bits i p) (link_bits m p o) ++ more in
    let chosen : Bool → Option (List Operand) = λ b. if b then run_of p.dir (hidden_bits i p) mine else None in
    ap chosen (eq-eqb (times_named m' (hidden_name i.name p.name)) (width p.range) here.alone)
    ∙ run_of_assigns p.dir (hidden_bits i p) (link_bits m p o) more here.linked here.wide

pub closing_back : (m m' : Module) (i : Instance) (links : List Link) (ports : List BoxPort) (rest : List Item) → AllGoBack m m' i ports
    → closing m' (bare i links) false ports (flat_map (port_items m i) ports ++ rest) ≡ back m i ports
closing_back m m' i links [] rest all = refl
closing_back m m' i links (p ∷ ports) rest all = by (linked_to i.links p.name) refl (closing_back m m' i links ports rest all.1)
  where
    by : (o : Option Operand) → linked_to i.links p.name ≡ o
        → closing m' (bare i links) false ports (flat_map (port_items m i) ports ++ rest) ≡ back m i ports
        → closing m' (bare i links) false (p ∷ ports) (flat_map (port_items m i) (p ∷ ports) ++ rest) ≡ back m i (p ∷ ports)
    by None e next = rw (all.0.hidden, e) next
    by (Some o) e next =
        let here = all.0.at o e in
        let os = link_bits m p o in
        let mine = assigns p.dir (hidden_bits i p) os in
        let more = flat_map (port_items m i) ports ++ rest in
        rw (
          all.0.hidden,
          e,
          here.apart,
          append_assoc mine (flat_map (port_items m i) ports) rest,
          run_back m m' i links p o more here,
          here.whole,
          behind mine more (length os) (as_many p.dir (hidden_bits i p) os here.linked here.wide),
          next,
          length-append mine (flat_map (port_items m i) ports),
          as_many p.dir (hidden_bits i p) os here.linked here.wide,
        ) refl
