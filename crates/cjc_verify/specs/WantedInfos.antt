-- The infos that a package wants of Class (Java Card Virtual Machine Specification 2.2.2, section 6.8).
use Rattle.std.specs.Prelude.{List, map, if◌then◌else◌}
use Rattle.cjc_bytes.specs.AccessFlags.{is_interface}
use Rattle.cjc_capread.specs.declared.tree.ClassEntry.{ClassEntry}
use Rattle.cjc_world.specs.Classes.{Class}
use Rattle.cjc_world.specs.Order.{class_order}
use Rattle.cjc_methods.specs.Tokens.Fields.{instance_cells}
use Rattle.cjc_classes.specs.VTable.Tables.{table_of}
use Rattle.cjc_classes.specs.LowerComponents.Class.{fields_of, first_reference_token, implemented, info_flags}
use Rattle.cjc_classes.specs.LowerComponents.Class.{interface_entry}
use Rattle.cjc_classes.specs.LowerComponents.Class.{reference_count, superclass}
use Rattle.cjc_verify.specs.Pairs.{Pair, class_ref, method_offset, world}
use Rattle.cjc_verify.specs.Infos.{public_entry}
use Rattle.cjc_verify.specs.declared.infos.wanted.Wanted.{Wanted}
use Rattle.cjc_verify.specs.declared.infos.wanted.Wanted.TheVariants as wanted

-- of a class
abbrev pub wanted_entry : Pair → Class → ClassEntry
wanted_entry p c =
    let fields = fields_of p.files c in
    let table = table_of (world p) c in
    record {
      flags = info_flags (world p) c;
      superclass = class_ref p (superclass c);
      declared_instance_size = instance_cells fields;
      first_reference_token = first_reference_token fields;
      reference_count = reference_count fields;
      public_base = table.public_base;
      package_base = table.package_base;
      public_methods = map (public_entry p) table.public;
      package_methods = map (method_offset p) table.«package»;
      interfaces = map (implemented (class_ref p)) table.maps;
    }

-- of an interface or a class
abbrev pub wanted_info : Pair → Class → Wanted
wanted_info p c = if is_interface c.flags then wanted.Interface (interface_entry (class_ref p) (world p) c)
    else wanted.Class (wanted_entry p c)

-- of all, in the order of Class
abbrev pub wanted_infos : Pair → List Wanted
wanted_infos p = map (wanted_info p) (class_order (world p))
