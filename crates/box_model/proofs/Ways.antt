-- Which of an instance's ports come back by a link, and which by a wire.
use Rattle.std.proofs.Common.{◌≡◌, ℕ, Bool, true, false, not, List, [], ◌∷◌, drop, length, Option, Some, None, refl, ap, if◌then◌else◌}
use Rattle.std.specs.List.{AllByRecursion}
use Rattle.verilog_tree.specs.declared.tree.Operand.{Operand}
use Rattle.verilog_tree.specs.declared.tree.Instance.{Instance}
use Rattle.verilog_tree.specs.declared.tree.Item.{Item}
use Rattle.verilog_tree.specs.declared.tree.Module.{Module}
use Rattle.box_model.specs.declared.boxes.BoxPort.{BoxPort}
use Rattle.box_model.specs.Ports.{hidden_name}
use Rattle.box_model.specs.Closed.{own_run, joint, Closing, by_wire, by_link, by_joint, by_run, has_port, closing}

pub data Way : Type 0 where
  -- a port by a link to the last, with the other sides of its assigns
  Linked : BoxPort → List Operand → Operand → Way
  -- a port by a wire
  Wired : BoxPort → Way

abbrev pub way_port : Way → BoxPort
way_port (Linked p os o) = p
way_port (Wired p) = p

abbrev pub collect : Instance → List Way → Closing
collect i [] = record { links = []; gone = 0; wires = [] }
collect i (Linked p os o ∷ ws) = by_link p o (length os) (collect i ws)
collect i (Wired p ∷ ws) = by_wire i p (collect i ws)

abbrev pub joint_ways : BoxPort → List Operand → List Way → List Way → Option Operand → List Way
joint_ways p os direct behind (Some o) = Linked p os o ∷ direct
joint_ways p os direct behind None = Wired p ∷ behind

abbrev pub run_ways : Module → BoxPort → Bool → List Item → (Bool → List Item → List Way) → Option (List Operand) → List Way
run_ways m p parted items more (Some os) = joint_ways p os (more parted (drop (length os) items)) (more true (drop (length os) items)) (joint m parted os)
run_ways m p parted items more None = Wired p ∷ more parted items

abbrev pub ways : Module → Instance → Bool → List BoxPort → List Item → List Way
ways m i parted [] items = []
ways m i parted (p ∷ ports) items =
    if not (has_port m (hidden_name i.name p.name)) then ways m i parted ports items
    else run_ways m p parted items (λ b rest. ways m i b ports rest) (own_run m i p items)

pub closing_ways : (m : Module) (i : Instance) (parted : Bool) (ports : List BoxPort) (items : List Item) → closing m i parted ports items ≡ collect i (ways m i parted ports items)
closing_ways m i parted [] items = refl
closing_ways m i parted (p ∷ ports) items = by (has_port m (hidden_name i.name p.name)) (λ b rest. closing_ways m i b ports rest)
  where
    more : Bool → List Item → Closing
    more b rest = closing m i b ports rest

    joined : (os : List Operand) (o : Option Operand) → ((b : Bool) (rest : List Item) → closing m i b ports rest ≡ collect i (ways m i b ports rest))
        → by_joint i p (length os) (closing m i parted ports (drop (length os) items)) (closing m i true ports (drop (length os) items)) o
        ≡ collect i (joint_ways p os (ways m i parted ports (drop (length os) items)) (ways m i true ports (drop (length os) items)) o)
    joined os (Some o) same = ap (by_link p o (length os)) (same parted (drop (length os) items))
    joined os None same = ap (by_wire i p) (same true (drop (length os) items))

    ran : (r : Option (List Operand)) → ((b : Bool) (rest : List Item) → closing m i b ports rest ≡ collect i (ways m i b ports rest))
        → by_run m i p parted items (λ b rest. closing m i b ports rest) r ≡ collect i (run_ways m p parted items (λ b rest. ways m i b ports rest) r)
    ran (Some os) same = joined os (joint m parted os) same
    ran None same = ap (by_wire i p) (same parted items)

    by : (there : Bool) → ((b : Bool) (rest : List Item) → closing m i b ports rest ≡ collect i (ways m i b ports rest))
        → (if not there then closing m i parted ports items else by_run m i p parted items (λ b rest. closing m i b ports rest) (own_run m i p items))
        ≡ collect i (if not there then ways m i parted ports items else run_ways m p parted items (λ b rest. ways m i b ports rest) (own_run m i p items))
    by true same = ran (own_run m i p items) same
    by false same = same parted items

-- what holds of each way, where it holds of each port that stands there; R holds of the items, and of what is left of them
pub record Holds (P : Way → Type 0) (R : List Item → Type 0) (m : Module) (i : Instance) (p : BoxPort) : Type 0 where
  pub wired : has_port m (hidden_name i.name p.name) ≡ true → P (Wired p)
  pub linked : has_port m (hidden_name i.name p.name) ≡ true → (parted : Bool) (items : List Item) (os : List Operand) (o : Operand) → R items → own_run m i p items ≡ Some os → joint m parted os ≡ Some o
      → P (Linked p os o)

pub all_ways : (P : Way → Type 0) (R : List Item → Type 0) → ((n : ℕ) (items : List Item) → R items → R (drop n items))
    → (m : Module) (i : Instance) (parted : Bool) (ports : List BoxPort) (items : List Item) → AllByRecursion (Holds P R m i) ports → R items → AllByRecursion P (ways m i parted ports items)
all_ways P R less m i parted [] items all here = tt
all_ways P R less m i parted (p ∷ ports) items all here = by (has_port m (hidden_name i.name p.name)) refl (λ b rest left. all_ways P R less m i b ports rest all.1 left)
  where
    joined : has_port m (hidden_name i.name p.name) ≡ true → (os : List Operand) → own_run m i p items ≡ Some os → (o : Option Operand) → joint m parted os ≡ o
        → ((b : Bool) (rest : List Item) → R rest → AllByRecursion P (ways m i b ports rest))
        → AllByRecursion P (joint_ways p os (ways m i parted ports (drop (length os) items)) (ways m i true ports (drop (length os) items)) o)
    joined there os run (Some o) is more = (all.0.linked there parted items os o here run is, more parted (drop (length os) items) (less (length os) items here))
    joined there os run None is more = (all.0.wired there, more true (drop (length os) items) (less (length os) items here))

    ran : has_port m (hidden_name i.name p.name) ≡ true → (r : Option (List Operand)) → own_run m i p items ≡ r → ((b : Bool) (rest : List Item) → R rest → AllByRecursion P (ways m i b ports rest))
        → AllByRecursion P (run_ways m p parted items (λ b rest. ways m i b ports rest) r)
    ran there (Some os) is more = joined there os is (joint m parted os) refl more
    ran there None is more = (all.0.wired there, more parted items here)

    by : (there : Bool) → has_port m (hidden_name i.name p.name) ≡ there → ((b : Bool) (rest : List Item) → R rest → AllByRecursion P (ways m i b ports rest))
        → AllByRecursion P (if not there then ways m i parted ports items else run_ways m p parted items (λ b rest. ways m i b ports rest) (own_run m i p items))
    by true e more = ran e (own_run m i p items) refl more
    by false e more = more parted items here
