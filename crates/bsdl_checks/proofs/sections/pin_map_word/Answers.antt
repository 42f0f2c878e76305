use Rattle.std.proofs.Common.{List, length, ap, arith}
use Rattle.bsdl_device.specs.declared.written.PortDeclaration.{PortDeclaration}
use Rattle.bsdl_checks.specs.Counts.{after_semicolons}
use Rattle.bsdl_checks.proofs.Words.{word-pin_map, fits-pin_map}
use Rattle.bsdl_checks.proofs.sections.pin_map_word.Goals as goal

pub declarations_count-declarations-requires : goal.declarations_count-declarations-requires
declarations_count-declarations-requires c = omega (arith, word-pin_map c.args.file.now, fits-pin_map c.args.file.now, ap (λ (d : List PortDeclaration). length (after_semicolons d)) c.as_slice.ensures)

pub overflow_add-result : goal.overflow_add-result
overflow_add-result c = omega (arith, word-pin_map c.args.file.now, fits-pin_map c.args.file.now, ap (λ (d : List PortDeclaration). length (after_semicolons d)) c.as_slice.ensures)

pub returns-then-declarations-eq0 : goal.returns-then-declarations-eq0
returns-then-declarations-eq0 c = omega (arith, word-pin_map c.args.file.now, ap (λ (d : List PortDeclaration). length (after_semicolons d)) c.as_slice.ensures)

pub returns-else-declarations-eq0 : goal.returns-else-declarations-eq0
returns-else-declarations-eq0 c = omega (arith, word-pin_map c.args.file.now, ap (λ (d : List PortDeclaration). length (after_semicolons d)) c.as_slice.ensures)
