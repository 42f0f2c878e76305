-- Cones of the netlist and of its named cells.
use Rattle.std.proofs.Common.{◌≡◌, ℕ, List, Option, Some, None, refl, true, ◌⊎◌, inl, inr, ap, sym, ◌∙◌}
use Rattle.std.specs.Prelude.{slice_get, is_some, ◌↔◌}
use Rattle.cell_library.specs.declared.FlopKind.{FlopKind}
use Rattle.cell_library.specs.Gates.{flop_of, is_flop}
use Rattle.netlist_model.specs.Lists.{NetlistView}
use Rattle.netlist_model.specs.Cones as model
use Rattle.netlist_model.specs.Cones.{InCone, GateReads}
use Rattle.netlist_model.specs.Cones.InCone.{itself, behind}
use Rattle.link_model.specs.Cells.{NamedCell}
use Rattle.link_model.specs.Late as late
use Rattle.link_rules.specs.Cones as named
use Rattle.link_model.specs.Denoted.{AreCells}
use Rattle.link_rules.proofs.ClocksCells.{named_at, live_at, Keeps}

-- what is there is something
some_kind : (o : Option FlopKind) → is_some o ≡ true → (k : FlopKind) × (o ≡ Some k)
some_kind (Some k) e = (k, refl)
some_kind None e = absurd (cc)

gate_reads-named : (table : List (List ℕ)) (N : NetlistView) (cells : List NamedCell) (net other : ℕ) → AreCells table N cells → Keeps N cells → GateReads N net other → late.GateReads cells net other
gate_reads-named table N cells net other all keeps g =
    let n = named_at table N cells g.number g.cell all g.drives.live in
    record {
      number = g.number;
      cell = n.named;
      gate = record { there = n.there; gate = keeps g.number n.named n.there ∙ ap (is_flop N.library) (sym n.is.kind) ∙ g.gate };
      drives = sym n.is.output ∙ g.drives.output;
      reads = record { place = g.place; operand = ap (λ feeds. slice_get feeds g.place) (sym n.is.feeds) ∙ g.reads.operand };
    }

pub gate_reads-live : (table : List (List ℕ)) (N : NetlistView) (cells : List NamedCell) (net other : ℕ) → AreCells table N cells → Keeps N cells → late.GateReads cells net other → GateReads N net other
gate_reads-live table N cells net other all keeps g =
    let l = live_at table N cells g.number g.cell all g.gate.there in
    record {
      number = g.number;
      cell = l.cell;
      place = g.reads.place;
      gate = ap (is_flop N.library) l.is.kind ∙ sym (keeps g.number g.cell g.gate.there) ∙ g.gate.gate;
      drives = record { live = l.live; output = l.is.output ∙ g.drives };
      reads = record { live = l.live; operand = ap (λ feeds. slice_get feeds g.reads.place) l.is.feeds ∙ g.reads.operand };
    }

pub cone-named : (table : List (List ℕ)) (N : NetlistView) (cells : List NamedCell) (root net : ℕ) → AreCells table N cells → Keeps N cells → InCone N root net → late.InCone cells root net
cone-named table N cells root net all keeps itself = late.InCone.itself
cone-named table N cells root net all keeps (behind {net = mid} before reads) =
    late.InCone.behind (cone-named table N cells root mid all keeps before) (gate_reads-named table N cells mid net all keeps reads)

pub cone-live : (table : List (List ℕ)) (N : NetlistView) (cells : List NamedCell) (root net : ℕ) → AreCells table N cells → Keeps N cells → late.InCone cells root net → InCone N root net
cone-live table N cells root net all keeps late.InCone.itself = itself
cone-live table N cells root net all keeps (late.InCone.behind {net = mid} before reads) =
    behind (cone-live table N cells root mid all keeps before) (gate_reads-live table N cells mid net all keeps reads)

pub flop_reads-named : (table : List (List ℕ)) (N : NetlistView) (cells : List NamedCell) (place net : ℕ) → AreCells table N cells → Keeps N cells → model.FlopReads N place net → named.FlopReads cells place net
flop_reads-named table N cells place net all keeps f =
    let n = named_at table N cells f.number f.cell all f.reads.live in
    record {
      number = f.number;
      cell = n.named;
      there = n.there;
      flop = keeps f.number n.named n.there ∙ ap (is_flop N.library) (sym n.is.kind) ∙ ap is_some f.flop;
      operand = ap (λ feeds. slice_get feeds place) (sym n.is.feeds) ∙ f.reads.operand;
    }

pub flop_reads-live : (table : List (List ℕ)) (N : NetlistView) (cells : List NamedCell) (place net : ℕ) → AreCells table N cells → Keeps N cells → named.FlopReads cells place net → model.FlopReads N place net
flop_reads-live table N cells place net all keeps f =
    let l = live_at table N cells f.number f.cell all f.there in
    let kind = some_kind (flop_of N.library l.cell.kind) (ap (is_flop N.library) l.is.kind ∙ sym (keeps f.number f.cell f.there) ∙ f.flop) in
    record {
      number = f.number;
      cell = l.cell;
      kind = kind.0;
      flop = kind.1;
      reads = record { live = l.live; operand = ap (λ feeds. slice_get feeds place) l.is.feeds ∙ f.operand };
    }

operand-live : (table : List (List ℕ)) (N : NetlistView) (cells : List NamedCell) (net : ℕ) → AreCells table N cells → Keeps N cells → named.FlopReads cells 1 net ⊎ named.FlopReads cells 2 net
    → model.FlopReads N 1 net ⊎ model.FlopReads N 2 net
operand-live table N cells net all keeps (inl f) = inl (flop_reads-live table N cells 1 net all keeps f)
operand-live table N cells net all keeps (inr f) = inr (flop_reads-live table N cells 2 net all keeps f)

pub operand-named : (table : List (List ℕ)) (N : NetlistView) (cells : List NamedCell) (net : ℕ) → AreCells table N cells → Keeps N cells → model.FlopReads N 1 net ⊎ model.FlopReads N 2 net
    → named.FlopReads cells 1 net ⊎ named.FlopReads cells 2 net
operand-named table N cells net all keeps (inl f) = inl (flop_reads-named table N cells 1 net all keeps f)
operand-named table N cells net all keeps (inr f) = inr (flop_reads-named table N cells 2 net all keeps f)

-- the nets in the cones of clocks, clears and presets are the same
pub control_nets : (table : List (List ℕ)) (N : NetlistView) (cells : List NamedCell) (net : ℕ) → AreCells table N cells → Keeps N cells → named.IsControlNet cells net ↔ model.IsControlNet N net
control_nets table N cells net all keeps = (
  λ c. record { root = c.root; operand = operand-live table N cells c.root all keeps c.operand; cone = cone-live table N cells c.root net all keeps c.cone },
  λ c. record { root = c.root; operand = operand-named table N cells c.root all keeps c.operand; cone = cone-named table N cells c.root net all keeps c.cone },
)
