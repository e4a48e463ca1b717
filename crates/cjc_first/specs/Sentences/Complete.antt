-- The components of a package of which only Applet and Export may be absent (Java Card Virtual Machine Specification 2.2.2, chapter 6).
use Rattle.std.specs.Prelude.{Option, Some, None}
use Rattle.cjc_capread.specs.declared.tree.Applet.{Applet}
use Rattle.cjc_capread.specs.declared.tree.Import.{Import}
use Rattle.cjc_capread.specs.declared.tree.ConstantPool.{ConstantPool}
use Rattle.cjc_capread.specs.declared.tree.ClassInfo.{ClassInfo}
use Rattle.cjc_capread.specs.declared.tree.Method.{Method}
use Rattle.cjc_capread.specs.declared.tree.StaticField.{StaticField}
use Rattle.cjc_capread.specs.declared.tree.ReferenceLocation.{ReferenceLocation}
use Rattle.cjc_capread.specs.declared.tree.Export.{Export}
use Rattle.cjc_capread.specs.declared.tree.Descriptor.{Descriptor}
use Rattle.cjc_capread.specs.declared.tree.CapTree.{CapTree}

pub record Complete : Type 0 where
  pub applet : Option Applet
  pub import : Import
  pub pool : ConstantPool
  pub class : ClassInfo
  pub method : Method
  pub statics : StaticField
  pub locations : ReferenceLocation
  pub export : Option Export
  pub descriptor : Descriptor

abbrev pub complete_with : CapTree → Option Import → Option ConstantPool → Option ClassInfo → Option Method → Option StaticField → Option ReferenceLocation → Option Descriptor → Option Complete
complete_with cap (Some import) (Some pool) (Some class) (Some method) (Some statics) (Some locations) (Some descriptor) = Some (record {
  applet = cap.applet;
  import = import;
  pool = pool;
  class = class;
  method = method;
  statics = statics;
  locations = locations;
  export = cap.export;
  descriptor = descriptor;
})
complete_with cap import pool class method statics locations descriptor = None

-- the components, where no other one is absent
abbrev pub complete : CapTree → Option Complete
complete cap = complete_with cap cap.import cap.pool cap.class cap.method cap.statics cap.locations cap.descriptor
