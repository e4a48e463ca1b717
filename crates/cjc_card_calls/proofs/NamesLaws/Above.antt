-- What stands above a class.
use Rattle.std.proofs.Common.{◌≡◌, List, Some, None}
use Rattle.std.specs.Prelude.{if◌then◌else◌}
use Rattle.cjc_card_semantics.specs.Machine.Loaded.{Loaded}
use Rattle.cjc_card_semantics.specs.Machine.Classes.{Class, is_there, upwards}
use Rattle.cjc_card_semantics.proofs.BytesBools.{bool_kept}

-- the line of a class that is there
pub line_above : (l : Loaded) (c : Class) (line : List Class) → Some line ≡ (if is_there l c then Some (upwards l c)
    else None) → line ≡ upwards l c
line_above l c line e = bool_kept (is_there l c) line (upwards l c) e
