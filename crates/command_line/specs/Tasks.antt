-- The task of each command. Own.
use Rattle.std.specs.Prelude.{ℕ}
use Rattle.command_edges.specs.Tasks.{Task}
use Rattle.text_command.specs.ConvertTasks.{convert_task}
use Rattle.text_command.specs.ExtendedTasks.{statusbsdl_task}
use Rattle.text_command.specs.FlattenTasks.{flatten_task}
use Rattle.play_command.specs.SimTasks.{sim_task}
use Rattle.insert_command.specs.Tasks.{insert_task}
use Rattle.insert_command.specs.StatusTasks.{status_task}
use Rattle.strip_command.specs.Tasks.{strip_task}
use Rattle.play_command.specs.VectorsTasks.{vectors_task}
use Rattle.play_command.specs.CheckTasks.{check_task}
use Rattle.insert_command.specs.Demonstrations.{demo_task}
use Rattle.command_line.specs.Forms.{Form}

abbrev pub task_of : Form → Task
task_of (Form.Converts c input output) = convert_task c input output
task_of (Form.ShowsStatus input output) = statusbsdl_task input output
task_of (Form.Flattens input top output library) = flatten_task input top output library
task_of (Form.Simulates netlist events library) = sim_task netlist events library
task_of (Form.Inserts netlist plan outnet outbsdl library) = insert_task netlist plan outnet outbsdl library
task_of (Form.InsertsStatus netlist plan registers outnet outbsdl library) = status_task netlist plan registers outnet outbsdl library
task_of (Form.Strips netlist bsdl outnet outplan library) = strip_task netlist bsdl outnet outplan library
task_of (Form.MakesVectors bsdl output) = vectors_task bsdl output
task_of (Form.Checks netlist bsdl events library) = check_task netlist bsdl events library
task_of (Form.Demonstrates number outnet outbsdl) = demo_task number outnet outbsdl
