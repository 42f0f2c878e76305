use Rattle.box_texts.proofs.Spelled.{spelled_once, spelled_is_faultless, faultless_is_spelled}
use Rattle.box_texts.proofs.laws.texts_of_boxes_are_spelled_or_at_fault.Goals as goal

pub returns-clause-once : goal.returns-clause-once
returns-clause-once c = spelled_once

pub returns-clause-faultless : goal.returns-clause-faultless
returns-clause-faultless c = spelled_is_faultless

pub returns-clause-spelled : goal.returns-clause-spelled
returns-clause-spelled c = faultless_is_spelled c.own_names_are_exact.ensures
