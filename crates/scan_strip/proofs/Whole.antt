-- What is answered, and what is refused.
use Rattle.std.proofs.Common.{◌≡◌, List, length, sym, ◌∙◌, ap, subst, Option, Some, None, Result, Ok, Err, IfOk, IfErr, OnOk, option_map}
use Rattle.cell_library.specs.declared.listed.ListedCell.{ListedCell}
use Rattle.cell_library.specs.Sound.{IsLibrary}
use Rattle.verilog_tree.specs.declared.tree.Module.{Module}
use Rattle.verilog_tree.specs.IsTree.{IsTree}
use Rattle.bsdl_device.specs.declared.values.Device.{Device}
use Rattle.link_model.specs.Late.{IsLinkable}
use Rattle.netlist_model.specs.Lists.{PortView}
use Rattle.netlist_link.specs.declared.straight.Straight.{Straight}
use Rattle.netlist_link.specs.Linked.{LinkedView, HidesNone}
use Rattle.netlist_link.specs.Links.{IsLinkOf}
use Rattle.netlist_link.specs.ViewLaws.{IsSameView, LinkViewsAgree}
use Rattle.plan_texts.specs.declared.plan.Plan.{Plan}
use Rattle.plan_fitting.proofs.NoneHidden.{none_straight, none_ends, none_open}
use Rattle.strip_model.specs.Recovered.{recovered}
use Rattle.strip_model.specs.Gives.{Gives, GivesByTheView}
use Rattle.strip_model.specs.Answer.{IsNotInserted, RefusedByAll}
use Rattle.strip_model.specs.RecoveryLaw.{RecoveredIsTheNetlist}
use Rattle.netlist_recovery.specs.declared.recovery.Recovered.{Recovered}
use Rattle.netlist_recovery.specs.Pairs.{pair_of}
use Rattle.strip_model.specs.Tree.{CoreIsTree}
use Rattle.scan_strip.specs.declared.fault.StripFault.{StripFault}
use Rattle.scan_strip.specs.declared.fault.StripFault.TheVariants.{NotInserted}
use Rattle.scan_strip.specs.Stripped.{GivesBy, IsFound, IsGivenBy, IsStripped, IsStrippedTree}

inside : (x y : Module × Plan) → ◌≡◌ {A = Option (Module × Plan)} (Some x) (Some y) → x ≡ y
inside x y e = cc

none_some : (x : Module × Plan) → None ≡ Some x → ⊥
none_some x e = cc

-- nothing is recovered
pub not_found : RefusedByAll → (library : List ListedCell) (inserted : Module) (d : Device) → IsTree inserted → None ≡ recovered inserted d → IsNotInserted library inserted d
not_found refused library inserted d is none = refused library inserted d is (λ found L same hides rec gives. none_some found (none ∙ rec))

-- what is recovered is this alone
recovered_gives : (core : Module) (q : Plan) (inserted : Module) (d : Device) → Some (core, q) ≡ recovered inserted d → (found : Module × Plan) (L : LinkedView) → recovered inserted d ≡ Some found
    → Gives found.0 L found.1 inserted d → Gives core L q inserted d
recovered_gives core q inserted d is found L rec gives =
    subst (λ (pair : Module × Plan). Gives pair.0 L pair.1 inserted d) (inside found (core, q) (sym rec ∙ sym is)) gives

-- it can't be linked
pub not_linked : RefusedByAll → (library : List ListedCell) (core : Module) (q : Plan) (inserted : Module) (d : Device) → IsTree inserted → Some (core, q) ≡ recovered inserted d
    → (IsLinkable library core → ⊥) → IsNotInserted library inserted d
not_linked refused library core q inserted d is found cannot = refused library inserted d is (λ pair L same hides rec gives.
    let g : Gives core L q inserted d = recovered_gives core q inserted d found pair L rec gives in
    cannot (subst (λ (l : List ListedCell). IsLinkable l core) same g.links.linkable))

-- where neither hides anything, both hide the same
same_marks : (one other : LinkedView) → IsSameView one other → HidesNone one → HidesNone other → one.straight ≡ other.straight
same_marks one other same none never =
    none.straight
    ∙ ap (λ (ports : List PortView). let straight : Straight = record { first = length ports; count = 0 } in straight) same.ports
    ∙ sym never.straight

-- it doesn't give the two
pub not_given : RefusedByAll → LinkViewsAgree → GivesByTheView → (library : List ListedCell) (core : Module) (q : Plan) (linked : LinkedView) (inserted : Module) (d : Device) → IsTree inserted
    → Some (core, q) ≡ recovered inserted d → IsLinkOf core linked → linked.arena.lists.library ≡ library → HidesNone linked → (GivesBy linked q inserted d → ⊥) → IsNotInserted library inserted d
not_given refused agree view library core q linked inserted d is found links library_is none cannot = refused library inserted d is (λ pair L same hides rec gives.
    let g : Gives core L q inserted d = recovered_gives core q inserted d found pair L rec gives in
    let one : IsSameView L linked = agree core L linked (same ∙ sym library_is) g.links links in
    cannot (record { plan = g.plan; at = view L linked q inserted d one (same_marks L linked one hides none) g.at }))

pub ok_with : {T E : Type 0} (r : Result T E) (P Q : T → Type 0) → ((x : T) → P x → Q x) → IfOk r P → IfOk r Q
ok_with (Ok x) P Q law is = law x is
ok_with (Err e) P Q law is = tt

-- Of a module and a plan that were recovered.

-- its netlist is one that a plan is to fit
pub is_found : (library : List ListedCell) (core : Module) (q : Plan) (linked : LinkedView) (inserted : Module) (d : Device) → IsTree core → IsLibrary library → IsLinkOf core linked
    → linked.arena.lists.library ≡ library → HidesNone linked → recovered inserted d ≡ Some (core, q) → IsFound linked q inserted d
is_found library core q linked inserted d is listed links library_is hides found = record {
  tree = record { tree = core; is = is; listed = subst IsLibrary (sym library_is) listed; links = links; hides = hides };
  found = found;
}

-- what is told where it can't be linked
pub link_told : RefusedByAll → (library : List ListedCell) (core : Module) (q : Plan) (inserted : Module) (d : Device) (f : StripFault) → IsTree inserted → recovered inserted d ≡ Some (core, q)
    → (f ≡ NotInserted → IsLinkable library core → ⊥) → f ≡ NotInserted → IsNotInserted library inserted d
link_told refused library core q inserted d f is found cannot told = not_linked refused library core q inserted d is (sym found) (cannot told)

-- and where it gives another module, or another device
pub give_told : RefusedByAll → LinkViewsAgree → GivesByTheView → (library : List ListedCell) (core : Module) (q : Plan) (linked : LinkedView) (inserted : Module) (d : Device) (f : StripFault) → IsTree inserted
    → recovered inserted d ≡ Some (core, q) → IsLinkOf core linked → linked.arena.lists.library ≡ library → HidesNone linked → (f ≡ NotInserted → GivesBy linked q inserted d → ⊥)
    → f ≡ NotInserted → IsNotInserted library inserted d
give_told refused agree view library core q linked inserted d f is found links library_is hides cannot told =
    not_given refused agree view library core q linked inserted d is (sym found) links library_is hides (cannot told)

pub given_by : (r : Result (Unit {0}) StripFault) (library : List ListedCell) (core : Module) (q : Plan) (linked : LinkedView) (inserted : Module) (d : Device) → IsLinkOf core linked
    → linked.arena.lists.library ≡ library → HidesNone linked → OnOk r (GivesBy linked q inserted d) → OnOk r (IsGivenBy library core q inserted d)
given_by (Ok done) library core q linked inserted d links library_is hides by = record { linked = linked; links = links; library_is = library_is; hides = hides; by = by }
given_by (Err f) library core q linked inserted d links library_is hides by = tt

pub told_by : (r : Result (Unit {0}) StripFault) (P Q : StripFault → Type 0) → ((f : StripFault) → P f → Q f) → IfErr r P → IfErr r Q
told_by (Ok done) P Q law is = tt
told_by (Err f) P Q law is = law f is

-- what gives the two is its netlist as it is written
pub stripped_tree : RecoveredIsTheNetlist → (library : List ListedCell) (core : Module) (q : Plan) (inserted : Module) (d : Device) → IsTree core → IsLibrary library
    → recovered inserted d ≡ Some (core, q) → IsGivenBy library core q inserted d → IsStrippedTree library inserted d core q
stripped_tree law library core q inserted d is listed found g =
    let gives : Gives core g.linked q inserted d = record {
      is = is;
      listed = subst IsLibrary (sym g.library_is) listed;
      links = g.links;
      straight = none_straight g.linked g.hides;
      ends = none_ends g.linked g.hides;
      open_names = none_open g.linked g.hides;
      plan = g.by.plan;
      at = g.by.at;
    } in
    record {
      linked = g.linked;
      found = found;
      library_is = g.library_is;
      hides = g.hides;
      gives = gives;
      written = ap (λ (pair : Module × Plan). pair.0) (inside (core, q) _ (sym found ∙ law core g.linked q inserted d gives));
    }

-- Of a module and a plan that give the two.

-- it can be linked
pub tree_links : (library : List ListedCell) (core : Module) (q : Plan) (inserted : Module) (d : Device) → IsStrippedTree library inserted d core q → IsLinkable library core
tree_links library core q inserted d s = subst (λ (l : List ListedCell). IsLinkable l core) s.library_is s.gives.links.linkable

-- what is linked anew gives the two as well
pub stripped : LinkViewsAgree → GivesByTheView → (library : List ListedCell) (core : Module) (q : Plan) (answer : LinkedView) (inserted : Module) (d : Device)
    → IsStrippedTree library inserted d core q → IsLinkOf core answer → answer.arena.lists.library ≡ library → HidesNone answer → IsStripped library inserted d answer q
stripped agree view library core q answer inserted d s answers answer_is hides =
    let same = s.library_is ∙ sym answer_is in
    let one : IsSameView s.linked answer = agree core s.linked answer same s.gives.links answers in
    record {
      tree = core;
      found = s.found;
      library_is = answer_is;
      hides = hides;
      gives = record {
        is = s.gives.is;
        listed = subst IsLibrary same s.gives.listed;
        links = answers;
        straight = none_straight answer hides;
        ends = none_ends answer hides;
        open_names = none_open answer hides;
        plan = s.gives.plan;
        at = view s.linked answer q inserted d one (same_marks s.linked answer one s.hides hides) s.gives.at;
      };
    }

-- What `recover` answers.

pub pair_found : (o : Option Recovered) (found : Recovered) (inserted : Module) (d : Device) → option_map pair_of o ≡ recovered inserted d → o ≡ Some found
    → recovered inserted d ≡ Some (found.module, found.plan)
pair_found o found inserted d told is = sym told ∙ ap (option_map pair_of) is

pub core_found : CoreIsTree → (o : Option Recovered) (found : Recovered) (inserted : Module) (d : Device) → IsTree inserted → option_map pair_of o ≡ recovered inserted d → o ≡ Some found → IsTree found.module
core_found law o found inserted d is told same = law inserted found.module d found.plan is (pair_found o found inserted d told same)

pub none_found : RefusedByAll → (o : Option Recovered) (library : List ListedCell) (inserted : Module) (d : Device) → IsTree inserted → option_map pair_of o ≡ recovered inserted d → o ≡ None
    → IsNotInserted library inserted d
none_found refused o library inserted d is told same = not_found refused library inserted d is (sym (ap (option_map pair_of) same) ∙ told)
