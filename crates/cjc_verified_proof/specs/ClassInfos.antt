-- The class infos that a package's class files and Descriptor ask for.
use Rattle.std.specs.Prelude.{true, false, map, if◌then◌else◌}
use Rattle.cjc_bytes.specs.AccessFlags.{is_interface}
use Rattle.cjc_capread.specs.declared.tree.ClassInfo.{ClassInfo}
use Rattle.cjc_world.specs.Classes.{Class}
use Rattle.cjc_world.specs.Order.{in_order}
use Rattle.cjc_card_semantics.specs.Machine.Classes.{Info, IsInterface, IsClass}
use Rattle.cjc_components.specs.Class.{interface_entry}
use Rattle.cjc_verify.specs.Pairs.{Pair, class_ref, world}
use Rattle.cjc_verify.specs.WantedInfos.{wanted_entry}

-- an info
abbrev pub wanted_info : Pair → Class → Info
wanted_info p c = if is_interface c.flags then IsInterface (interface_entry (class_ref p) (world p) c)
    else IsClass (wanted_entry p c)

-- all of them
abbrev pub wanted_infos : Pair → ClassInfo
wanted_infos p = record {
  interfaces = map (interface_entry (class_ref p) (world p)) (in_order (world p) true);
  classes = map (wanted_entry p) (in_order (world p) false);
}
