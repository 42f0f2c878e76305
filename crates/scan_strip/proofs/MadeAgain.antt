-- What is inserted again gives the module and the device, or nothing does with the plan and the netlist.
use Rattle.std.proofs.Common.{◌≡◌, ℕ, List, sym, ◌∙◌, ap, subst, Option, Some, None}
use Rattle.verilog_tree.specs.declared.tree.Module.{Module}
use Rattle.bsdl_device.specs.declared.values.Device.{Device}
use Rattle.netlist_arena.specs.Room.{too_many}
use Rattle.netlist_link.specs.Linked.{LinkedView}
use Rattle.netlist_link.specs.WellNamed.{IsWellNamed}
use Rattle.netlist_link.specs.ViewLaws.{LinkViewIsNamed}
use Rattle.netlist_unlink.specs.Prefixes.{IsFreePrefix}
use Rattle.netlist_unlink.specs.Trees.{tree_of}
use Rattle.plan_texts.specs.declared.plan.Plan.{Plan}
use Rattle.plan_texts.specs.Canonical.{canonical_plan, IsPlan}
use Rattle.plan_texts.specs.Exactly.{SpelledOnce}
use Rattle.plan_texts.specs.Grammar.{SpellsPlan}
use Rattle.plan_texts.specs.Spells.{CanonicalPlansSpell}
use Rattle.plan_fitting.specs.declared.fitted.Fitted.{Fitted}
use Rattle.plan_fitting.specs.Pins.{PinSeen, AreSeen}
use Rattle.plan_fitting.specs.Devices.{IsFitted, fitted_of, device_of}
use Rattle.plan_fitting.specs.DevicesLaws.{FittedIsFitting}
use Rattle.plan_fitting.proofs.NoneHidden.{none_straight, none_ends, none_open}
use Rattle.stitched_netlist.specs.declared.model.TapNames.{TapNames}
use Rattle.written_netlists.specs.InsertedLaws.{with_test_logic}
use Rattle.written_netlists.specs.NamesLaws.{TapNamesAreEntered}
use Rattle.written_netlists.specs.Prepared.{room_of, ports_of, prepared, with_tap_names, AreTapNames}
use Rattle.insertion_inputs.specs.Inputs.{IsFittingAs, IsLinkedTree}
use Rattle.insertion_inputs.specs.scan_stitch.Stitch.{CanStitch, IsStitched}
use Rattle.written_netlists.specs.Written.{IsStitchedOf}
use Rattle.written_netlists.specs.ModulesLaws.{IsStitching, StitchedCanBeWritten}
use Rattle.strip_model.specs.Gives.{GivesAt, Gives}
use Rattle.strip_model.specs.Laid.{LinkViewIsLaidOut}
use Rattle.strip_model.specs.RecoveryLaw.{LawOfStripping, Recovers}
use Rattle.strip_model.specs.Once.{PinsAreSeenOnce}
use Rattle.scan_strip.specs.Stripped.{GivesBy, IsFound, IsMadeAgain}
use Rattle.scan_strip.proofs.Trees.{tree_is}

-- Stitching.

stitched_of : (before ready after : LinkedView) (f : Fitted) → ready ≡ prepared f before → IsStitched ready after f → IsStitchedOf before f after
stitched_of before ready after f is made =
    let s : IsStitched (prepared f before) after f = subst (λ (l : LinkedView). IsStitched l after f) is made in
    record { names = s.tap; table = s.names; are = s.tap_is; same = s.netlist }

title_kept : (before ready after : LinkedView) (f : Fitted) → ready ≡ prepared f before → IsStitched ready after f → after.module_name ≡ before.module_name
title_kept before ready after f is made = made.title ∙ ap (λ (l : LinkedView). l.module_name) is

pub can_stitch : FittedIsFitting → (text : List ℕ) (before readied : LinkedView) (p : Plan) (f : Fitted) (d : Device) → IsLinkedTree before → IsFittingAs text before p f d readied → CanStitch readied f
can_stitch law text before readied p f d is made = record {
  before = before;
  plan = p;
  fitted = made.prepares.ready.fits;
  fitting = law is.tree before p f is.is is.listed is.links (text, made.spells) made.prepares.ready.fits;
  dense = is.links.dense;
  prepared_is = made.prepares.after_is;
  small = made.prepares.ready.small;
  few = made.prepares.room;
}

pub free_prefix : StitchedCanBeWritten → LinkViewIsLaidOut → (text : List ℕ) (before readied after : LinkedView) (p : Plan) (f : Fitted) (d : Device) → IsLinkedTree before
    → IsFittingAs text before p f d readied → IsStitched readied after f → IsFreePrefix after p.prefix
free_prefix law laid text before readied after p f d is made built =
    let stitching : IsStitching is.tree before p f after = record {
      tree = is.is;
      listed = is.listed;
      linked = is.links;
      laid = laid is.tree before is.is is.links;
      plan = (text, made.spells);
      fits = made.prepares.ready.fits;
      room = made.prepares.room;
      is = stitched_of before readied after f made.prepares.after_is built;
    } in
    law is.tree before p f after stitching

pub made_again : (text : List ℕ) (before readied after : LinkedView) (p : Plan) (f : Fitted) (d : Device) (tree : Module) → IsFittingAs text before p f d readied → IsStitched readied after f
    → tree ≡ tree_of after p.prefix → IsMadeAgain before p f tree
made_again text before readied after p f d tree made built is =
    let s : IsStitchedOf before f after = stitched_of before readied after f made.prepares.after_is built in
    record {
      names = s.names;
      are = s.are;
      tree_is = is ∙ tree_is before after s.names f p.prefix (title_kept before readied after f made.prepares.after_is built) s.table s.same;
    }

-- What is given.

given : (text : List ℕ) (before after : LinkedView) (p : Plan) (f : Fitted) (d device : Device) (tree inserted : Module) → IsFittingAs text before p f d after → IsMadeAgain before p f tree
    → d ≡ device → tree ≡ inserted → GivesAt before p inserted device
given text before after p f d device tree inserted made again same_device same_tree =
    let fits : IsFitted before p f = made.prepares.ready.fits in
    record {
      fits = record { seen = fits.seen; are_seen = fits.are_seen; faultless = fits.faultless };
      room = subst (λ (g : Fitted). too_many before.arena.lists (room_of g) (room_of g) (ports_of g) ≡ None) fits.is made.prepares.room;
      names = again.names;
      names_are = subst (λ (g : Fitted). AreTapNames (with_tap_names g before.names) g again.names) fits.is again.are;
      inserted_is = sym same_tree ∙ again.tree_is ∙ ap (λ (g : Fitted). tree_of (with_test_logic before again.names g) p.prefix) fits.is;
      device_is = sym same_device ∙ made.device_is;
    }

inside : (x y : Module × Plan) → ◌≡◌ {A = Option (Module × Plan)} (Some x) (Some y) → x ≡ y
inside x y e = cc

-- what gives the same is recovered, so it is the plan that was recovered
pub found_gives : LawOfStripping → (text : List ℕ) (before after : LinkedView) (q p : Plan) (f : Fitted) (d device : Device) (tree inserted : Module) → IsFound before q inserted device
    → IsFittingAs text before p f d after → IsMadeAgain before p f tree → d ≡ device → tree ≡ inserted → GivesBy before q inserted device
found_gives law text before after q p f d device tree inserted found made again same_device same_tree =
    let t : IsLinkedTree before = found.tree in
    let g : Gives t.tree before p inserted device = record {
      is = t.is;
      listed = t.listed;
      links = t.links;
      straight = none_straight before t.hides;
      ends = none_ends before t.hides;
      open_names = none_open before t.hides;
      plan = (text, made.spells);
      at = given text before after p f d device tree inserted made again same_device same_tree;
    } in
    let r : Recovers t.tree before inserted device = law t.tree before p inserted device g in
    let same : r.plan ≡ q = ap (λ (pair : Module × Plan). pair.1) (inside (r.tree, r.plan) (t.tree, q) (sym r.found ∙ found.found)) in
    record { plan = subst IsPlan same r.gives.plan; at = subst (λ (x : Plan). GivesAt before x inserted device) same r.gives.at }

-- Where they give the two.

-- own: the laws by which what is read is what was written
pub record Laws : Type 0 where
  pub once : SpelledOnce
  pub canonical : CanonicalPlansSpell
  pub seen : PinsAreSeenOnce
  pub entered : TapNamesAreEntered
  pub named : LinkViewIsNamed

pub well_named : LinkViewIsNamed → (L : LinkedView) → IsLinkedTree L → IsWellNamed L.names L.arena.lists
well_named named L t = named t.tree L t.is t.listed t.links

same_plan : Laws → (q p : Plan) → IsPlan q → SpellsPlan (canonical_plan q) p → p ≡ q
same_plan laws q p is spells = laws.once (canonical_plan q) p q spells (laws.canonical q is)

same_seen : Laws → (before : LinkedView) (q p : Plan) (one other : List PinSeen) → IsLinkedTree before → p ≡ q → AreSeen before p.pins one → AreSeen before q.pins other → one ≡ other
same_seen laws before q p one other t same a b =
    laws.seen before q.pins one other (well_named laws.named before t) (subst (λ (x : Plan). AreSeen before x.pins one) same a) b

pub same_device : Laws → (before after : LinkedView) (q p : Plan) (f : Fitted) (d device : Device) (inserted : Module) → IsLinkedTree before → IsFittingAs (canonical_plan q) before p f d after
    → GivesBy before q inserted device → d ≡ device
same_device laws before after q p f d device inserted t made g =
    let fits : IsFitted before p f = made.prepares.ready.fits in
    let plan = same_plan laws q p g.plan made.spells in
    let seen = same_seen laws before q p fits.seen g.at.fits.seen t plan fits.are_seen g.at.fits.are_seen in
    made.device_is ∙ ap (λ (x : Plan). device_of before x fits.seen) plan ∙ ap (device_of before q) seen ∙ sym g.at.device_is

pub same_module : Laws → (before after : LinkedView) (q p : Plan) (f : Fitted) (d device : Device) (tree inserted : Module) → IsLinkedTree before → IsFittingAs (canonical_plan q) before p f d after
    → IsMadeAgain before p f tree → GivesBy before q inserted device → tree ≡ inserted
same_module laws before after q p f d device tree inserted t made again g =
    let fits : IsFitted before p f = made.prepares.ready.fits in
    let F : Fitted = fitted_of before q g.at.fits.seen in
    let plan = same_plan laws q p g.plan made.spells in
    let seen = same_seen laws before q p fits.seen g.at.fits.seen t plan fits.are_seen g.at.fits.are_seen in
    let fitted : f ≡ F = fits.is ∙ ap (λ (x : Plan). fitted_of before x fits.seen) plan ∙ ap (fitted_of before q) seen in
    let are : AreTapNames (with_tap_names F before.names) F again.names = subst (λ (x : Fitted). AreTapNames (with_tap_names x before.names) x again.names) fitted again.are in
    let names : again.names ≡ g.at.names = (laws.entered before.names F).same (well_named laws.named before t).once again.names g.at.names are g.at.names_are in
    again.tree_is
    ∙ ap (λ (x : Plan). tree_of (with_test_logic before again.names f) x.prefix) plan
    ∙ ap (λ (x : Fitted). tree_of (with_test_logic before again.names x) q.prefix) fitted
    ∙ ap (λ (n : TapNames). tree_of (with_test_logic before n F) q.prefix) names
    ∙ sym g.at.inserted_is
