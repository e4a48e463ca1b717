-- The methods of the package that calls and entries begin.
use Rattle.std.specs.Prelude.{◌≡◌, ℕ, Bool, not, List}
use Rattle.cjc_bytes.specs.AccessFlags.{is_static}
use Rattle.cjc_world.specs.Classes.{all_classes}
use Rattle.cjc_world.specs.Files.{Files}
use Rattle.cjc_jvm_semantics.specs.Linked.{Method}
use Rattle.cjc_narrow.specs.Rows.Resolved.{method_found}
use Rattle.cjc_narrow.specs.Rows.Package.{flags_of}
use Rattle.cjc_narrow_proof.specs.Runs.Tables.{Tables, HasTables}

-- The method has tables and this descriptor, and a receiver or none.
pub record IsBegun (files : Files) (tables : Tables) (has_receiver : Bool) (written : List ℕ) (m : Method) :
    Type 0 where
  pub has_tables : HasTables files tables m
  pub desc : (let id = m.id in id.desc) ≡ written
  pub flags : (let id = m.id in is_static (flags_of (method_found (all_classes files) id))) ≡ not has_receiver
