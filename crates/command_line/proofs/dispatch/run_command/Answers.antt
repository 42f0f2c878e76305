-- What each command's own call gives, of the command that it is.
use Rattle.std.proofs.Common.{inr}
use Rattle.command_line.proofs.CommandLaws.{came_as}
use Rattle.command_line.proofs.dispatch.run_command.Goals as goal

pub returns-in-Convert : goal.returns-in-Convert
returns-in-Convert g c = came_as _ _ _ _ _ c.in-Convert.is c.run_files.ensures

pub returns-in-StatusBsdl : goal.returns-in-StatusBsdl
returns-in-StatusBsdl g c = came_as _ _ _ _ _ c.in-StatusBsdl.is c.run_files-in-StatusBsdl.ensures

pub returns-in-Flatten : goal.returns-in-Flatten
returns-in-Flatten g c = came_as _ _ _ _ _ c.in-Flatten.is c.run_files-in-Flatten.ensures

pub returns-in-Insert : goal.returns-in-Insert
returns-in-Insert g c = came_as _ _ _ _ _ c.in-Insert.is c.run_files-in-Insert.ensures

pub returns-in-InsertStatus : goal.returns-in-InsertStatus
returns-in-InsertStatus g c = came_as _ _ _ _ _ c.in-InsertStatus.is c.run_files-in-InsertStatus.ensures

pub returns-in-Strip : goal.returns-in-Strip
returns-in-Strip g c = came_as _ _ _ _ _ c.in-Strip.is c.run_files-in-Strip.ensures

pub returns-in-Vectors : goal.returns-in-Vectors
returns-in-Vectors g c = came_as _ _ _ _ _ c.in-Vectors.is c.run_files-in-Vectors.ensures

pub returns-in-Check : goal.returns-in-Check
returns-in-Check g c = came_as _ _ _ _ _ c.in-Check.is c.run_files-in-Check.ensures

pub returns-in-Demo : goal.returns-in-Demo
returns-in-Demo g c = came_as _ _ _ _ _ c.in-Demo.is c.run_files-in-Demo.ensures

pub returns-in-Sim : goal.returns-in-Sim
returns-in-Sim g c =
    came_as _ _ _ _ _ c.in-Sim.is
    (inr (record {
      apart = tt;
      done = c.simulate.ensures.done;
      ended = c.simulate.ensures.ended;
      stands = c.simulate.ensures.fault;
      complete = c.simulate.ensures.complete;
      keeps = c.simulate.ensures.keeps;
    }))
