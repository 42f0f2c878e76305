use Rattle.std.proofs.Common.{◌∙◌, ap, sym}
use Rattle.bsdl_device.specs.declared.meaning.MeaningKind.{MeaningKind}
use Rattle.bsdl_checks.specs.Counts.{first_word}
use Rattle.bsdl_checks.specs.Ordered.{section_of}
use Rattle.bsdl_checks.proofs.Words.{word_none}
use Rattle.bsdl_checks.proofs.first.word_of.Goals as goal

pub returns-in-Ports : goal.returns-in-Ports
returns-in-Ports c = sym (ap (λ (k : MeaningKind). first_word c.args.file.now (section_of k)) c.in-Ports.is ∙ word_none c.args.file.now)
