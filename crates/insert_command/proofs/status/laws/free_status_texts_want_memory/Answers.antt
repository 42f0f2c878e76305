use Rattle.insert_command.proofs.StatusComplete.{free_memory}
use Rattle.insert_command.proofs.status.laws.free_status_texts_want_memory.Goals as goal

pub returns : goal.returns
returns c = free_memory (record {
  links = c.status_faults_stand_apart.ensures.links;
  once = c.status_faults_stand_apart.ensures.once;
  faultless = c.status_faults_stand_apart.ensures.faultless;
  registers_once = c.status_faults_stand_apart.ensures.registers_once;
  registers_faultless = c.status_faults_stand_apart.ensures.registers_faultless;
  one_library = c.status_faults_stand_apart.ensures.one_library;
  no_library_fault = c.status_faults_stand_apart.ensures.no_library_fault;
})
