-- own: faults of names, where these are the names of a netlist's own ports, and those of its nets, gates and instances.
use Rattle.std.specs.Prelude.{ℕ, Bool, true, false, List, [], ◌∷◌, ◌++◌, filter_map, Option}
use Rattle.std.specs.List.{enumerate_from}
use Rattle.netlist_model.specs.Lists.{NetView}
use Rattle.netlist_link.specs.Linked.{LinkedView}
use Rattle.texts.specs.First.{or_else, first_in}
use Rattle.plan_texts.specs.declared.plan.Plan.{Plan}
use Rattle.plan_fitting.specs.declared.fault.FitFault.{FitFault}
use Rattle.plan_fitting.specs.Names.{own_net_name, hidden_net_name, net_names, cell_names, hidden_names}
use Rattle.plan_fitting.specs.Fits.{barred_after, begun_fault, names_of, tap_lines}

-- the entity and the pin map
abbrev pub own_names : Plan → List (List ℕ)
own_names p = p.entity ∷ p.«package» ∷ []

abbrev pub tap_names : Plan → List (List ℕ)
tap_names p = names_of (tap_lines p)

abbrev pub name_fault_among : Plan → List (List ℕ) → List (List ℕ) → Option FitFault
name_fault_among p ports inner =
    or_else (barred_after [] [] (own_names p))
    (or_else (barred_after [] (own_names p) ports)
    (or_else (barred_after inner (own_names p ++ ports) (tap_names p))
    (barred_after [] ((own_names p ++ ports) ++ tap_names p) (names_of p.linkage))))

abbrev pub prefix_fault_among : Plan → List (List ℕ) → List (List ℕ) → Option FitFault
prefix_fault_among p ports inner =
    or_else (first_in (begun_fault p.prefix) ports)
    (or_else (first_in (begun_fault p.prefix) inner)
    (first_in (begun_fault p.prefix) (tap_names p)))

-- the name of a net, if it is hidden as is asked
abbrev pub net_name_if : LinkedView → Bool → ℕ × NetView → Option (List ℕ)
net_name_if L true = hidden_net_name L
net_name_if L false = own_net_name L

abbrev pub net_names_if : LinkedView → Bool → List (List ℕ)
net_names_if L are_hidden = filter_map (net_name_if L are_hidden) (enumerate_from 0 L.arena.lists.nets)

-- all names but those of ports
abbrev pub inner_names : LinkedView → List (List ℕ)
inner_names L = net_names L ++ (cell_names L ++ hidden_names L)
