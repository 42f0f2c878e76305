use Rattle.insert_command.proofs.Complete.{free_memory}
use Rattle.insert_command.proofs.laws.free_texts_want_memory.Goals as goal

pub returns : goal.returns
returns c = free_memory (record {
  links = c.insertion_faults_stand_apart.ensures.links;
  once = c.insertion_faults_stand_apart.ensures.once;
  faultless = c.insertion_faults_stand_apart.ensures.faultless;
  one_library = c.insertion_faults_stand_apart.ensures.one_library;
  no_library_fault = c.insertion_faults_stand_apart.ensures.no_library_fault;
})
