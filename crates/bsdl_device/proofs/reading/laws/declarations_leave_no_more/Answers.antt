use Rattle.std.proofs.Common.{List, length, ap, arith, length-append}
use Rattle.bsdl_lexicon.specs.declared.token.BsdlToken.{BsdlToken}
use Rattle.bsdl_device.proofs.Sections.{declaration_law}
use Rattle.bsdl_device.proofs.reading.laws.declarations_leave_no_more.Goals as goal

pub returns : goal.returns
returns c = λ ws d left h. let s = declaration_law.sound ws d left h in omega (arith, ap (λ (l : List BsdlToken). length l) s.1, length-append s.0 left)
