use Rattle.insertion_laws.proofs.Stripped.{insertion, stripped, comes_back}
use Rattle.insertion_laws.proofs.laws.insertions_are_stripped.Goals as goal

pub returns-clause-gives : goal.returns-clause-gives
returns-clause-gives c = insertion

pub returns-clause-stripped : goal.returns-clause-stripped
returns-clause-stripped c = stripped c.recovered_gives.ensures c.spelled_trees_keep_the_conditions.ensures

pub returns-clause-comes_back : goal.returns-clause-comes_back
returns-clause-comes_back c = comes_back c.one_netlist_gives.ensures
