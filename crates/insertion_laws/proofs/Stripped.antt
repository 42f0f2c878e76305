-- What an insertion wrote is stripped.
use Rattle.std.proofs.Common.{refl, sym, subst, ◌∙◌}
use Rattle.cell_library.specs.Sound.{IsLibrary}
use Rattle.verilog_tree.specs.Conditions.{SpelledTreesKeepConditions}
use Rattle.plan_fitting.specs.Devices.{device_of}
use Rattle.plan_fitting.proofs.NoneHidden.{none_straight, none_ends, none_open}
use Rattle.strip_model.specs.RecoveryLaw.{OneNetlistGives}
use Rattle.strip_model.specs.Answer.{RecoveredGives}
use Rattle.insertion_laws.specs.Laws.{InsertionGives, InsertionIsStripped, InsertionComesBack}

pub insertion : InsertionGives
insertion library net plan verilog bsdl report i = record {
  is = i.can_be_written;
  listed = subst IsLibrary (sym i.is.library_is) i.is.listed;
  links = i.is.links;
  straight = none_straight i.is.linked i.is.hides;
  ends = none_ends i.is.linked i.is.hides;
  open_names = none_open i.is.linked i.is.hides;
  plan = (plan, i.is.spells_plan);
  at = record {
    fits = i.is.fits;
    room = i.room;
    names = i.names;
    names_are = i.names_are;
    inserted_is = i.written_is;
    device_is = refl;
  };
}

pub stripped : RecoveredGives → SpelledTreesKeepConditions → InsertionIsStripped
stripped answers keep library net plan verilog bsdl report i =
    answers i.is.tree i.is.linked i.is.wanted i.is.written_tree (device_of i.is.linked i.is.wanted i.is.fits.seen) (keep verilog i.is.written_tree i.is.spells_written)
    (insertion library net plan verilog bsdl report i)

pub comes_back : OneNetlistGives → InsertionComesBack
comes_back one library net plan verilog bsdl report i m L p is given =
    one m i.is.tree L i.is.linked p i.is.wanted i.is.written_tree (device_of i.is.linked i.is.wanted i.is.fits.seen) (is ∙ sym i.is.library_is) given
    (insertion library net plan verilog bsdl report i)
