use Rattle.std.proofs.Common.{◌≡◌, ℕ, ◌≤◌, List, ◌++◌, inl, inr, refl, ◌∙◌, arith}
use Rattle.command_line.proofs.NameLaws.{repeated_as, apart_as, apart_once, before_as}
use Rattle.command_line.proofs.dispatch.run_files.Goals as goal

no_less : (n : ℕ) → n ≤ n
no_less n = omega arith

pub returns-in-Some : goal.returns-in-Some
returns-in-Some g c =
    inl (record {
      name = c.in-Some.name;
      is = refl;
      repeated = repeated_as c.in-Some.name.now _ _ _ _ (before_as _ _ _ _ c.as_slice-reads.ensures c.files-files.ensures.reads) (c.as_slice-writes.ensures ∙ c.files-files.ensures.writes) c.in-Some.ensures.same;
      keeps = record { others = λ name none. refl; held = λ name. refl; later = λ access name. no_less _; puts_later = no_less _ };
      given = refl;
    })

pub returns : goal.returns
returns g c =
    inr (record {
      apart = apart_as _ _ _ _ (before_as _ _ _ _ c.as_slice-reads.ensures c.files-files.ensures.reads) (c.as_slice-writes.ensures ∙ c.files-files.ensures.writes) (c.same_name.ensures.apart c.in-None.is);
      done = c.run_task.ensures.done;
      ended = c.run_task.ensures.ended;
      stands = c.run_task.ensures.fault;
      complete = c.run_task.ensures.complete;
      keeps = c.run_task.ensures.keeps;
    })

pub run_task-requires-clause-reads : goal.run_task-requires-clause-reads
run_task-requires-clause-reads g c = before_as _ _ _ _ c.as_slice-reads.ensures c.files-files.ensures.reads

pub run_task-requires-clause-writes : goal.run_task-requires-clause-writes
run_task-requires-clause-writes g c = c.as_slice-writes.ensures ∙ c.files-files.ensures.writes

pub run_task-requires-clause-apart : goal.run_task-requires-clause-apart
run_task-requires-clause-apart g c = apart_once _ _ (c.same_name.ensures.apart c.in-None.is)
