use Rattle.netlist_link.proofs.DraftLawsNamed.{entered_unused}
use Rattle.netlist_link.proofs.draft_laws.entered_is_unused.Goals as goal

pub returns : goal.returns
returns c = entered_unused
