-- That the device of a plan tells the plan, but for what doesn't matter: the spelling of words that name bits, the kind
-- of control cells where there are none, and version 2 where there is no usercode.
-- IEEE Std 1149.1-2001: the annex on BSDL; the statements are own.
use Rattle.std.specs.Prelude.{◌≡◌, ℕ, List, [], ◌∷◌, ◌++◌, map, slice_get, Some}
use Rattle.std.specs.Option.{option_map_or}
use Rattle.netlist_model.specs.declared.PinBit.{PinBit}
use Rattle.netlist_model.specs.Lists.{PortView}
use Rattle.netlist_link.specs.Linked.{LinkedView}
use Rattle.netlist_link.specs.WellNamed.{index_from}
use Rattle.plan_texts.specs.declared.plan.PinLine.{PinLine}
use Rattle.plan_texts.specs.declared.plan.Plan.{Plan}
use Rattle.strip_model.specs.Others.{with_lines}
use Rattle.plan_fitting.specs.Names.{port_name, index_word}
use Rattle.plan_fitting.specs.Pins.{PinSeen}
use Rattle.plan_fitting.specs.Rows.{rows}
use Rattle.plan_fitting.specs.Devices.{cell_row, fitted_of, device_of}
use Rattle.plan_fitting.specs.FittingPlan.{IsFitting}
use Rattle.strip_model.specs.Plans.{control_of, plan_of}

-- the word of a bit: the name of its port, and its index without leading zeros
abbrev pub word_at : LinkedView → PinBit → List ℕ
word_at L pin = option_map_or (λ (port : PortView). port_name L port ++ index_word (index_from port.range pin.bit)) (slice_get L.arena.lists.ports pin.port.0) []

abbrev pub told_lines : LinkedView → List PinLine → List PinSeen → List PinLine
told_lines L [] seen = []
told_lines L (line ∷ lines) [] = []
told_lines L (line ∷ lines) (one ∷ seen) = record { port = word_at L one.pin; pin = line.pin; cell = line.cell } ∷ told_lines L lines seen

-- the plan with these words, with the kind of its control cells, if it has any, and with the version that
-- its usercode wants
abbrev pub told_plan : LinkedView → Plan → List PinSeen → Plan
told_plan L p seen = with_lines p (control_of (map (cell_row (fitted_of L p seen)) (rows p seen))) (told_lines L p.pins seen)

abbrev pub PlanIsTold : Type 0
PlanIsTold = (L : LinkedView) (p : Plan) (seen : List PinSeen) → IsFitting L p seen → plan_of p.prefix (device_of L p seen) ≡ Some (told_plan L p seen)

-- it comes to the same cells, ports and codes
abbrev pub SameIsFitted : Type 0
SameIsFitted = (L : LinkedView) (p : Plan) (seen : List PinSeen) → IsFitting L p seen → fitted_of L (told_plan L p seen) seen ≡ fitted_of L p seen
