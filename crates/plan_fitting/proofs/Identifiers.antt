-- An identifier by its test is one of the lexical elements.
use Rattle.std.proofs.Common.{◌≡◌, ℕ, List, [], true, false}
use Rattle.bsdl_lexicon.specs.Reserved.{is_reserved}
use Rattle.bsdl_device.specs.Runs.{is_identifier}
use Rattle.bsdl_device.specs.IsDevice.{IsDeviceName}
use Rattle.bsdl_device.proofs.Identifiers.{identifier_from}

pub is_device_name : (name : List ℕ) → is_identifier name ≡ true → is_reserved name ≡ false → IsDeviceName name
is_device_name name h k = record { identifier = identifier_from name h; free = k }
