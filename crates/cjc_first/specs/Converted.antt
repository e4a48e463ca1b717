-- What is written for a package of one class with one public static method: the components as trees.
use Rattle.std.specs.Prelude.{ℕ, ◌+◌, ◌-◌, ◌/◌, List, [], ◌∷◌, ◌++◌, length, replicate, Some, None}
use Rattle.cjc_capread.specs.declared.tree.ClassRef.TheVariants.{Inside, Outside}
use Rattle.cjc_capread.specs.declared.tree.Header.{Header}
use Rattle.cjc_capread.specs.declared.tree.Directory.{Directory}
use Rattle.cjc_capread.specs.declared.tree.Import.{Import}
use Rattle.cjc_capread.specs.declared.tree.ConstantPool.{ConstantPool}
use Rattle.cjc_capread.specs.declared.tree.ClassInfo.{ClassInfo}
use Rattle.cjc_capread.specs.declared.tree.Method.{Method}
use Rattle.cjc_capread.specs.declared.tree.StaticField.{StaticField}
use Rattle.cjc_capread.specs.declared.tree.ReferenceLocation.{ReferenceLocation}
use Rattle.cjc_capread.specs.declared.tree.Export.{Export}
use Rattle.cjc_capread.specs.declared.tree.Descriptor.{Descriptor}
use Rattle.cjc_capread.specs.declared.tree.CapTree.{CapTree}
use Rattle.cjc_classfile.specs.declared.tree.ClassTree.{ClassTree}
use Rattle.cjc_classfile.specs.Code.{CodeTree}
use Rattle.cjc_code.specs.declared.insn.JOp.{JOp}
use Rattle.cjc_export.specs.declared.tree.ExportClass.{ExportClass}
use Rattle.cjc_export.specs.declared.tree.ExportTree.{ExportTree}
use Rattle.cjc_first.specs.Above.{free_token}
use Rattle.cjc_first.specs.FirstForm.{PackageLine, IsFirstForm, ops_of}
use Rattle.cjc_first.specs.Selected.{header, selected_code}

-- the bytes of the method: its header and its code
abbrev pub method_bytes : (params : ℕ) → CodeTree → List JOp → List ℕ
method_bytes params code ops = header code.max_stack params (code.max_locals - params) ++ selected_code ops

abbrev pub header_part : PackageLine → Header
header_part line = record { flags = 2; minor = line.minor; major = line.major; aid = line.aid; name = line.name }

-- the sizes of the components, tags 1 to 12
abbrev pub sizes : PackageLine → (lang_aid : List ℕ) → (params methods : ℕ) → List ℕ
sizes line lang_aid params methods =
    (11 + length line.aid + length line.name)
    ∷ 33 ∷ 0
    ∷ (4 + length lang_aid)
    ∷ 2 ∷ 12
    ∷ (1 + methods)
    ∷ 10 ∷ 4 ∷ 7
    ∷ (25 + (params + 2) / 2)
    ∷ 0 ∷ []

abbrev pub directory_part : PackageLine → (lang_aid : List ℕ) → (params methods : ℕ) → Directory
directory_part line lang_aid params methods = record {
  component_sizes = sizes line lang_aid params methods;
  image_size = 0;
  array_init_count = 0;
  array_init_size = 0;
  import_count = 1;
  applet_count = 0;
}

abbrev pub import_part : ExportTree → Import
import_part lang = record { packages = record { minor = lang.minor; major = lang.major; aid = lang.aid } ∷ [] }

abbrev pub pool_part : ConstantPool
pool_part = record { entries = [] }

-- one class without virtual methods, a subclass of this class of the first import
abbrev pub class_part : (root : ExportClass) → ClassInfo
class_part root = record {
  interfaces = [];
  classes = record {
    flags = 0;
    superclass = Outside 0 root.token;
    declared_instance_size = 0;
    first_reference_token = 0xFF;
    reference_count = 0;
    public_base = free_token root.methods;
    package_base = 0;
    public_methods = [];
    package_methods = [];
    interfaces = [];
  } ∷ [];
}

abbrev pub method_part : List ℕ → Method
method_part bytes = record { handlers = []; methods = bytes }

abbrev pub static_part : StaticField
static_part = record { image_size = 0; reference_count = 0; array_inits = []; default_value_count = 0; values = [] }

abbrev pub location_part : ReferenceLocation
location_part = record { one_byte = []; two_byte = [] }

-- the class begins behind the two bytes of an empty signature pool, and the method behind the number of handlers
abbrev pub export_part : Export
export_part = record { classes = record { class_offset = 2; fields = []; methods = 1 ∷ [] } ∷ [] }

-- the type of the method stands behind the two bytes of the number of pool entries; nibble 4 is short
abbrev pub descriptor_part : (params code_bytes : ℕ) → Descriptor
descriptor_part params code_bytes = record {
  classes = record {
    token = 0;
    flags = 0x01;
    this_class = Inside 2;
    interfaces = [];
    fields = [];
    methods = record {
      token = 0;
      flags = 0x09;
      offset = 1;
      type_offset = 2;
      bytecode_count = code_bytes;
      handler_count = 0;
      first_handler = 0;
    } ∷ [];
  } ∷ [];
  pool_types = [];
  types = record { nibbles = replicate (params + 1) 4 } ∷ [];
}

-- the components for a code of these instructions, of a class below a class of this export file
unfoldable pub tree_for : PackageLine → ExportTree → (root : ExportClass) → (params : ℕ) → CodeTree → List JOp → CapTree
tree_for line lang root params code ops = record {
  header = header_part line;
  directory = directory_part line lang.aid params (length (method_bytes params code ops));
  applet = None;
  import = Some (import_part lang);
  pool = Some pool_part;
  class = Some (class_part root);
  method = Some (method_part (method_bytes params code ops));
  statics = Some static_part;
  locations = Some location_part;
  export = Some export_part;
  descriptor = Some (descriptor_part params (length (selected_code ops)));
}

-- The components that are written for a package of the form.
abbrev pub converted : (line : PackageLine) (lang : ExportTree) (root : ExportClass) (tree : ClassTree) → IsFirstForm line tree → CapTree
converted line lang root tree form = tree_for line lang root form.params form.code (ops_of form.insns)
