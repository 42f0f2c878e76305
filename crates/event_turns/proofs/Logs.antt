-- What is logged.
use Rattle.std.proofs.Common.{◌≡◌, ◌≢◌, ℕ, ◌<◌, List, set, inl, inr, refl, ◌∙◌, get_or-set_other}
use Rattle.signal_values.specs.declared.Sig.{Sig}
use Rattle.signal_values.specs.declared.PinSig.{PinSig}
use Rattle.netlist_settling.specs.Values.{value_at, pin_at}
use Rattle.event_parts.specs.QueuesLaws.{Pushes}
use Rattle.event_turns.specs.Logs.{Logs}

pub logs_none : (count : ℕ) (values : List Sig) (drives : List PinSig) (words : List ℕ) → Logs count values values drives drives words words
logs_none count values drives words = record {
  long = refl;
  kept = λ net is. is;
  nets = λ net is. inl is;
  values_stay = λ net not. refl;
  drives_stay = λ net not. refl;
}

-- the net that is logged may have another value, and another drive
pub logs_one : (count net : ℕ) (values values' : List Sig) (drives drives' : List PinSig) (words words' : List ℕ) → net < count → Pushes net words words'
    → ((other : ℕ) → other ≢ net → value_at values' other ≡ value_at values other) → ((other : ℕ) → other ≢ net → pin_at drives' other ≡ pin_at drives other)
    → Logs count values values' drives drives' words words'
logs_one count net values values' drives drives' words words' below pushed same kept = record {
  long = pushed.long;
  kept = λ other is. (pushed.each other).1 (inr is);
  nets = λ other is. elim ((pushed.each other).0 is) [
    | inl e ↦ inr (rw e below)
    | inr was ↦ inl was
  ];
  values_stay = λ other not. same other (λ e. not ((pushed.each other).1 (inl e)));
  drives_stay = λ other not. kept other (λ e. not ((pushed.each other).1 (inl e)));
}

pub logs_value : (count net : ℕ) (values : List Sig) (given : Sig) (drives : List PinSig) (words words' : List ℕ) → net < count → Pushes net words words' → Logs count values (set values net given) drives drives words words'
logs_value count net values given drives words words' below pushed =
    logs_one count net values (set values net given) drives drives words words' below pushed (λ other ne. get_or-set_other values net other given _ ne) (λ other ne. refl)

pub logs_drive : (count net : ℕ) (values : List Sig) (drives : List PinSig) (drive : PinSig) (words words' : List ℕ) → net < count → Pushes net words words' → Logs count values values drives (set drives net drive) words words'
logs_drive count net values drives drive words words' below pushed =
    logs_one count net values values drives (set drives net drive) words words' below pushed (λ other ne. refl) (λ other ne. get_or-set_other drives net other drive _ ne)

pub logs_push : (count net : ℕ) (values : List Sig) (drives : List PinSig) (words words' : List ℕ) → net < count → Pushes net words words' → Logs count values values drives drives words words'
logs_push count net values drives words words' below pushed = logs_one count net values values drives drives words words' below pushed (λ other ne. refl) (λ other ne. refl)

-- one after another
pub logs_then : (count : ℕ) (values mid values' : List Sig) (drives between drives' : List PinSig) (words middle words' : List ℕ) → Logs count values mid drives between words middle
    → Logs count mid values' between drives' middle words' → Logs count values values' drives drives' words words'
logs_then count values mid values' drives between drives' words middle words' first next = record {
  long = next.long ∙ first.long;
  kept = λ net is. next.kept net (first.kept net is);
  nets = λ net is. elim (next.nets net is) [
    | inl was ↦ first.nets net was
    | inr new ↦ inr new
  ];
  values_stay = λ net not. next.values_stay net not ∙ first.values_stay net (λ is. not (next.kept net is));
  drives_stay = λ net not. next.drives_stay net not ∙ first.drives_stay net (λ is. not (next.kept net is));
}
