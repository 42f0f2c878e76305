use Rattle.std.proofs.Common.{◌≡◌, ap, sym, None, ◌∙◌}
use Rattle.texts.specs.Repeated.{bytes_of}
use Rattle.box_texts.proofs.KeptRows.{kept_name, name_found, can_be, all_told}
use Rattle.box_texts.proofs.reader.read_boxed.Goals as goal

pub library_of-requires : goal.library_of-requires
library_of-requires c =
    let kept = c.in_ok-kept.kept in
    let none : None ≡ kept_name kept = ap bytes_of (sym c.in-None.is)
    ∙ name_found kept c.as_slice.result.now c.as_slice-2.result.now c.as_slice-3.result.now c.in_ok-name.field-0 c.as_slice.ensures.value c.as_slice-2.ensures.value c.as_slice-3.ensures.value c.in_ok-name.ensures in
    can_be c.args.bytes.now kept c.requires c.in_ok-kept.ensures.kept c.if-kept-gt-LIMIT.false none

pub returns-clause-spelled : goal.returns-clause-spelled
returns-clause-spelled c =
    let kept = c.in_ok-kept.kept in
    let none : None ≡ kept_name kept = ap bytes_of (sym c.in-None.is)
    ∙ name_found kept c.as_slice.result.now c.as_slice-2.result.now c.as_slice-3.result.now c.in_ok-name.field-0 c.as_slice.ensures.value c.as_slice-2.ensures.value c.as_slice-3.ensures.value c.in_ok-name.ensures in
    all_told c.own_names_are_exact.ensures c.args.bytes.now kept c.library_of.result c.requires c.in_ok-kept.ensures.kept c.if-kept-gt-LIMIT.false none c.library_of.ensures.library
