-- What a component says, where it is of one kind.
use Rattle.std.specs.Prelude.{Option, Some, None}
use Rattle.cjc_capread.specs.declared.tree.Component.{Component}
use Rattle.cjc_capread.specs.declared.tree.Component.TheVariants as components
use Rattle.cjc_capread.specs.declared.tree.Header.{Header}
use Rattle.cjc_capread.specs.declared.tree.Directory.{Directory}
use Rattle.cjc_capread.specs.declared.tree.Applet.{Applet}
use Rattle.cjc_capread.specs.declared.tree.Import.{Import}
use Rattle.cjc_capread.specs.declared.tree.ConstantPool.{ConstantPool}
use Rattle.cjc_capread.specs.declared.tree.ClassInfo.{ClassInfo}
use Rattle.cjc_capread.specs.declared.tree.Method.{Method}
use Rattle.cjc_capread.specs.declared.tree.StaticField.{StaticField}
use Rattle.cjc_capread.specs.declared.tree.ReferenceLocation.{ReferenceLocation}
use Rattle.cjc_capread.specs.declared.tree.Export.{Export}
use Rattle.cjc_capread.specs.declared.tree.Descriptor.{Descriptor}

-- the content of a Header component, None of any other
abbrev pub header_of : Component → Option Header
header_of (components.Header x) = Some x
header_of other = None

-- the content of a Directory component, None of any other
abbrev pub directory_of : Component → Option Directory
directory_of (components.Directory x) = Some x
directory_of other = None

-- the content of an Applet component, None of any other
abbrev pub applet_of : Component → Option Applet
applet_of (components.Applet x) = Some x
applet_of other = None

-- the content of an Import component, None of any other
abbrev pub import_of : Component → Option Import
import_of (components.Import x) = Some x
import_of other = None

-- the content of a Constant Pool component, None of any other
abbrev pub pool_of : Component → Option ConstantPool
pool_of (components.Pool x) = Some x
pool_of other = None

-- the content of a Class component, None of any other
abbrev pub class_of : Component → Option ClassInfo
class_of (components.Class x) = Some x
class_of other = None

-- the content of a Method component, None of any other
abbrev pub method_of : Component → Option Method
method_of (components.Method x) = Some x
method_of other = None

-- the content of a Static Field component, None of any other
abbrev pub statics_of : Component → Option StaticField
statics_of (components.Statics x) = Some x
statics_of other = None

-- the content of a Reference Location component, None of any other
abbrev pub locations_of : Component → Option ReferenceLocation
locations_of (components.Locations x) = Some x
locations_of other = None

-- the content of an Export component, None of any other
abbrev pub export_of : Component → Option Export
export_of (components.Export x) = Some x
export_of other = None

-- the content of a Descriptor component, None of any other
abbrev pub descriptor_of : Component → Option Descriptor
descriptor_of (components.Descriptor x) = Some x
descriptor_of other = None
