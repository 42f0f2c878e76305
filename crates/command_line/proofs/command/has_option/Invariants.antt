use Rattle.std.proofs.Common.{◌≡◌, drop, map, string_bytes, Global}
use Rattle.std.specs.List.{list_any}
use Rattle.command_line.specs.Forms as forms
use Rattle.command_line.proofs.command.has_option.Given as goal

abbrev pub invariant-loop-word : goal.invariant-loop-word
invariant-loop-word l = list_any forms.begins_with_dash (map (string_bytes {Z = Global}) (drop l.word-index l.words)) ≡ list_any forms.begins_with_dash (map (string_bytes {Z = Global}) l.words)
