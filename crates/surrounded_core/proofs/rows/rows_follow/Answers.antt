use Rattle.surrounded_core.proofs.RowsRuns.{rows_follow as lemma}
use Rattle.surrounded_core.proofs.rows.rows_follow.Goals as goal

pub returns : goal.returns
returns c =
    lemma (record {
      observe = c.observe_cells_follow.ensures;
      input = c.input_cells_follow.ensures;
      output = c.output_cells_follow.ensures;
      control = c.control_cells_follow.ensures;
      bidir = c.bidir_cells_follow.ensures;
      rows = c.rows_step_as_bits.ensures;
      moments = c.moments_of_a_run.ensures;
    })
