-- The file of the canonical text breaks no rule and describes the device.
use Rattle.std.proofs.Common.{◌≡◌, Bool, true, false, cond, Option, Some, None, refl}
use Rattle.std.specs.Option.{option_map}
use Rattle.list_laws.proofs.Options.{not_found}
use Rattle.bsdl_device.specs.declared.written.File.{File}
use Rattle.bsdl_device.specs.declared.entries.Contents.{Contents}
use Rattle.bsdl_device.specs.Checks.{name_fails, pin_map_fails, tap_fails, length_fails, opcode_fails, capture_fails, idcode_fails, usercode_fails, register_fails, boundary_fails}
use Rattle.bsdl_device.specs.RowRules.{row_fails}
use Rattle.bsdl_device.specs.Meanings.{first_meaning_fault, fault_of}

-- The rules, one by one.

-- a file that breaks none
pub record Keeps (f : File) (c : Contents) : Type 0 where
  pub name : name_fails f ≡ false
  pub pin_map : pin_map_fails f c ≡ false
  pub tap : tap_fails f ≡ false
  pub length : length_fails f ≡ false
  pub opcode : opcode_fails f c ≡ false
  pub capture : capture_fails f c ≡ false
  pub idcode : idcode_fails c ≡ false
  pub usercode : usercode_fails c ≡ false
  pub register : register_fails c ≡ false
  pub boundary : boundary_fails f c ≡ false
  pub row : row_fails f c ≡ false

not_later : {A B : Type 0} (g : A → B) (b : Bool) (x : A) (rest : Option A) → option_map g (cond b (Some x) rest) ≡ None → option_map g rest ≡ None
not_later g true x rest h = absurd (cc)
not_later g false x rest h = h

none_yet : {A B : Type 0} (g : A → B) (b : Bool) (x : A) (rest : Option A) → b ≡ false → option_map g rest ≡ None → option_map g (cond b (Some x) rest) ≡ None
none_yet g true x rest h k = absurd (cc)
none_yet g false x rest h k = k

pub keeps : (f : File) (c : Contents) → first_meaning_fault f c ≡ None → Keeps f c
keeps f c h1 =
    let h2 = not_later (fault_of f) (name_fails f) _ _ h1 in
    let h3 = not_later (fault_of f) (pin_map_fails f c) _ _ h2 in
    let h4 = not_later (fault_of f) (tap_fails f) _ _ h3 in
    let h5 = not_later (fault_of f) (length_fails f) _ _ h4 in
    let h6 = not_later (fault_of f) (opcode_fails f c) _ _ h5 in
    let h7 = not_later (fault_of f) (capture_fails f c) _ _ h6 in
    let h8 = not_later (fault_of f) (idcode_fails c) _ _ h7 in
    let h9 = not_later (fault_of f) (usercode_fails c) _ _ h8 in
    let h10 = not_later (fault_of f) (register_fails c) _ _ h9 in
    let h11 = not_later (fault_of f) (boundary_fails f c) _ _ h10 in
    record {
      name = not_found (fault_of f) (name_fails f) _ _ h1;
      pin_map = not_found (fault_of f) (pin_map_fails f c) _ _ h2;
      tap = not_found (fault_of f) (tap_fails f) _ _ h3;
      length = not_found (fault_of f) (length_fails f) _ _ h4;
      opcode = not_found (fault_of f) (opcode_fails f c) _ _ h5;
      capture = not_found (fault_of f) (capture_fails f c) _ _ h6;
      idcode = not_found (fault_of f) (idcode_fails c) _ _ h7;
      usercode = not_found (fault_of f) (usercode_fails c) _ _ h8;
      register = not_found (fault_of f) (register_fails c) _ _ h9;
      boundary = not_found (fault_of f) (boundary_fails f c) _ _ h10;
      row = not_found (fault_of f) (row_fails f c) _ _ h11;
    }

pub none_broken : (f : File) (c : Contents) → Keeps f c → first_meaning_fault f c ≡ None
none_broken f c k =
    none_yet (fault_of f) (name_fails f) _ _ k.name
    (none_yet (fault_of f) (pin_map_fails f c) _ _ k.pin_map
    (none_yet (fault_of f) (tap_fails f) _ _ k.tap
    (none_yet (fault_of f) (length_fails f) _ _ k.length
    (none_yet (fault_of f) (opcode_fails f c) _ _ k.opcode
    (none_yet (fault_of f) (capture_fails f c) _ _ k.capture
    (none_yet (fault_of f) (idcode_fails c) _ _ k.idcode
    (none_yet (fault_of f) (usercode_fails c) _ _ k.usercode
    (none_yet (fault_of f) (register_fails c) _ _ k.register
    (none_yet (fault_of f) (boundary_fails f c) _ _ k.boundary
    (none_yet (fault_of f) (row_fails f c) _ _ k.row refl))))))))))
