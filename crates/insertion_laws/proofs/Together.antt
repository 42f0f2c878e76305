-- What an insertion wrote belongs together.
use Rattle.std.proofs.Common.{refl, sym, subst, ◌∙◌}
use Rattle.cell_library.specs.Sound.{IsLibrary}
use Rattle.verilog_tree.specs.Conditions.{SpelledTreesKeepConditions}
use Rattle.plan_fitting.specs.Devices.{fitted_of, device_of}
use Rattle.plan_fitting.specs.DevicesLaws.{FittedIsFitting}
use Rattle.plan_fitting.proofs.NoneHidden.{not_straight, none_straight, none_ends, none_open}
use Rattle.insertion_laws.specs.Laws.{InsertionsBelongTogether}
use Rattle.insertion_laws.proofs.Chips.{is_own}

pub insertions_belong_together : FittedIsFitting → SpelledTreesKeepConditions → InsertionsBelongTogether
insertions_belong_together fitting keep library net plan verilog bsdl i = record {
  linked = i.written;
  read = record { tree = i.written_tree; spells = i.spells_written; listed = i.listed; library_is = i.written_library; links = i.links_written; hides = i.written_hides };
  device = device_of i.linked i.wanted i.fits.seen;
  spells = i.spells_device;
  chip = record {
    core = i.linked;
    plan = i.wanted;
    seen = i.fits.seen;
    fits = fitting i.tree i.linked i.wanted (fitted_of i.linked i.wanted i.fits.seen) (keep net i.tree i.spells) (subst IsLibrary (sym i.library_is) i.listed) i.links (plan, i.spells_plan)
        (record {
          seen = i.fits.seen;
          are_seen = i.fits.are_seen;
          faultless = i.fits.faultless;
          is = refl;
          straight = none_straight i.linked i.hides;
          ends = none_ends i.linked i.hides;
        });
    device_is = refl;
    hides = record {
      numbers = λ number. is_own i.written i.written_hides number ∙ sym (is_own i.linked i.hides number);
      open_names = none_open i.written i.written_hides;
      controls = λ net there bit hidden. absurd (not_straight i.written i.written_hides bit.port hidden);
    };
    keeps = i.keeps;
    realises = i.realises;
  };
}
