use Rattle.std.proofs.Common.{◌∙◌, ℕ, List, ap, sym, subst}
use Rattle.verilog_lexicon.specs.Entries.{list_of, AreKept}
use Rattle.verilog_lexicon.proofs.Entries.{kept_longer, list_longer}
use Rattle.verilog_lexicon.proofs.words.push_bytes.Goals as goal

pub returns-clause-kept : goal.returns-clause-kept
returns-clause-kept c = λ entries are.
    subst (λ (l : List ℕ). AreKept l entries) (sym c.in_ok-extend_from_slice.ensures.items) (kept_longer c.args.names.now.items c.args.name.now entries are)

pub returns-clause-same : goal.returns-clause-same
returns-clause-same c = λ entries are.
    ap (λ (l : List ℕ). list_of l entries) c.in_ok-extend_from_slice.ensures.items ∙ list_longer c.args.names.now.items c.args.name.now entries are
