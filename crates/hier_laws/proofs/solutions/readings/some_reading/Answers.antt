use Rattle.hier_laws.proofs.ReadingLaws.{some_reading}
use Rattle.hier_laws.proofs.solutions.readings.some_reading.Goals as goal

pub returns : goal.returns
returns c = some_reading
