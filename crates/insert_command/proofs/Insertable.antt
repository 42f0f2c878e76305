-- No fault stands in the texts of a demonstration, and a fault that stands in such texts is want of memory.
use Rattle.std.proofs.Common.{◌≡◌, ℕ, [], ◌+◌, ◌*◌, ◌<◌, ◌≤◌, Bool, cond, length, Option, Some, None, sym, ap, ◌∙◌, subst, arith, le-ltb}
use Rattle.std.specs.Option.{option_or}
use Rattle.std.proofs.lemmas.List.Elements.{All-nil}
use Rattle.verilog_tree.specs.declared.tree.Module.{Module}
use Rattle.verilog_tree.specs.IsTree.{IsTree}
use Rattle.verilog_tree.specs.Texts.{SpellsText}
use Rattle.verilog_tree.specs.Canonical.{canonical}
use Rattle.cell_library.specs.Sound.{IsSoundCell, IsLibrary}
use Rattle.netlist_model.specs.declared.What.{What}
use Rattle.netlist_model.specs.declared.What.TheVariants.{Cells, Nets, Ports}
use Rattle.netlist_model.specs.Lists.{NetlistView, cell_count}
use Rattle.netlist_arena.specs.declared.room.ReserveFault.{ReserveFault}
use Rattle.netlist_arena.specs.declared.room.ReserveFault.TheVariants as reserve
use Rattle.netlist_arena.specs.Arena.{bit_count}
use Rattle.netlist_arena.specs.Room.{excess_of, too_many}
use Rattle.netlist_link.specs.Linked.{LinkedView, HidesNone}
use Rattle.netlist_link.specs.Links.{IsLinkOf}
use Rattle.plan_fitting.specs.declared.fitted.Fitted.{Fitted}
use Rattle.plan_fitting.specs.Rows.{rows}
use Rattle.plan_fitting.specs.Devices.{IsFitted}
use Rattle.status_insertions.specs.insertion_inputs.Inputs.{HasRoomFor}
use Rattle.insert_command.specs.Free.{HasNoFault}
use Rattle.demo_chips.specs.Netlists.{gate_count, demo_module}
use Rattle.demo_chips.specs.Plans.{demo_plan}
use Rattle.demo_chips.specs.NetlistsLaws.{DemoHasItsCells}
use Rattle.demo_chips.specs.PlansLaws.{PlanIsSpelled, PlanFits, ChipsAreCounted, ChipsAreShort, PlanIsShort, IsCounted, net_count}
use Rattle.insert_command.specs.Insertable.{TextsAreInsertable}

-- what the laws on the netlists and the plan say
pub record Laws : Type 0 where
  pub printed : (tree : Module) → IsTree tree → SpellsText (canonical tree) tree
  pub spelled : PlanIsSpelled
  pub fits : PlanFits
  pub cells : DemoHasItsCells
  pub counted : ChipsAreCounted
  pub netlists : ChipsAreShort
  pub plan : PlanIsShort

no_excess : (what : What) (count limit : ℕ) → count ≤ limit → excess_of what count limit ≡ None
no_excess what count limit few = ap (λ (b : Bool). cond b (Some (reserve.TooMany what count limit)) None) (le-ltb limit count few)

room_there : (N : NetlistView) (cells nets bits : ℕ) → cell_count N + cells ≤ 262144 → length N.nets + nets ≤ 524288 → bit_count N.ports + bits ≤ 4096 → too_many N cells nets bits ≡ None
room_there N cells nets bits a b c =
    ap (λ (o : Option ReserveFault). option_or (option_or o (excess_of Nets (length N.nets + nets) 524288)) (excess_of Ports (bit_count N.ports + bits) 4096)) (no_excess Cells (cell_count N + cells) 262144 a)
    ∙ ap (λ (o : Option ReserveFault). option_or o (excess_of Ports (bit_count N.ports + bits) 4096)) (no_excess Nets (length N.nets + nets) 524288 b)
    ∙ no_excess Ports (bit_count N.ports + bits) 4096 c

room_of_chip : (number : ℕ) (L : LinkedView) → number < 10000 → cell_count L.arena.lists ≡ gate_count number + 48 → IsCounted number L → (f : Fitted) → IsFitted L demo_plan f → HasRoomFor L f
room_of_chip number L low cells counted f is = subst (HasRoomFor L) (sym is.is) (
    let rows_are : length (rows demo_plan is.seen) ≡ 35 = counted.boundary is.seen is.are_seen in
    let nets : length L.arena.lists.nets ≡ net_count number = counted.nets in
    let bits : bit_count L.arena.lists.ports ≡ 34 = counted.bits in
    room_there L.arena.lists (410 + 64 * 4 + 24 * length (rows demo_plan is.seen)) (410 + 64 * 4 + 24 * length (rows demo_plan is.seen)) 5
    (omega (arith, rows_are, cells, low)) (omega (arith, rows_are, nets, low)) (omega (arith, bits))
    )

free : Laws → (number : ℕ) (L : LinkedView) → number < 10000 → IsTree (demo_module number) → IsLibrary L.arena.lists.library → IsLinkOf (demo_module number) L → HidesNone L
    → HasNoFault L demo_plan
free laws number L low tree listed links hides =
    let fits = laws.fits number L tree listed links hides in
    record { named = fits.named; faultless = fits.faultless; room = λ f is. room_of_chip number L low (laws.cells number L links) (laws.counted number L tree listed links) f is }

-- no cells make a library
no_library : IsLibrary []
no_library = record {
  few = omega arith;
  sound = All-nil IsSoundCell;
  named = λ number cell at. absurd (cc);
  once = λ i j cell other at there same. absurd (cc);
}

pub texts_are_insertable : Laws → TextsAreInsertable
texts_are_insertable laws number low tree linkable = record {
  short = laws.netlists number low;
  short_plan = laws.plan;
  tree = demo_module number;
  spells = laws.printed (demo_module number) tree;
  linkable = linkable;
  plan = demo_plan;
  spells_plan = laws.spelled;
  free = λ linked is links hides. free laws number linked low tree (subst IsLibrary (sym is) no_library) links hides;
}
