use Rattle.std.proofs.Common.{sym}
use Rattle.bsdl_values.proofs.RegisterTextsTexts.{end_fault}
use Rattle.bsdl_values.proofs.register_texts.reader.cut.Goals as goal

pub returns-clause-fault : goal.returns-clause-fault
returns-clause-fault c = rw c.word_fault.ensures (rw (sym c.as_bytes.ensures) (end_fault c.in-Err.fault c.as_bytes.result.now c.in-Err.ensures.fault))

pub returns-in-Ok-clause-words : goal.returns-in-Ok-clause-words
returns-in-Ok-clause-words c =
    rw (sym c.as_bytes.ensures) (record {
      cut = c.in-Ok.ensures.words;
      only = c.in-Ok.ensures.only;
      end_is = c.in-Ok.ensures.end;
    })
