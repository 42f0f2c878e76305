use Rattle.status_fitting.proofs.Exact.{spelled_once, spelled_is_faultless, faultless_is_spelled, at_fault_once}
use Rattle.status_fitting.proofs.register_texts.laws.texts_of_registers_are_spelled_or_at_fault.Goals as goal

pub returns : goal.returns
returns c = record {
  once = spelled_once;
  faultless = spelled_is_faultless;
  spelled = faultless_is_spelled;
  fault = at_fault_once;
}
