-- The files of a tree, and the limits that they keep.
use Rattle.std.specs.Prelude.{ℕ, Bool, false, List, [], ◌∷◌, ◌++◌, length, Option, Some, None, is_some, nat_lt, ◌||◌}
use Rattle.std.specs.Prelude.{if◌then◌else◌}
use Rattle.std.specs.List.{list_any}
use Rattle.cjc_capread.specs.declared.tree.CapTree.{CapTree}
use Rattle.cjc_capread.specs.declared.tree.Descriptor.{Descriptor}
use Rattle.cjc_capread.specs.declared.tree.TypeDescriptor.{TypeDescriptor}
use Rattle.cjc_capwrite.specs.declared.files.CapFiles.{CapFiles}
use Rattle.cjc_capwrite.specs.Parts.{two}
use Rattle.cjc_capwrite.specs.Package.{header_bytes, directory_bytes, applet_bytes, import_bytes}
use Rattle.cjc_capwrite.specs.Pool.{pool_bytes}
use Rattle.cjc_capwrite.specs.Class.{class_info_bytes}
use Rattle.cjc_capwrite.specs.Method.{method_bytes}
use Rattle.cjc_capwrite.specs.Statics.{static_field_bytes, reference_location_bytes}
use Rattle.cjc_capwrite.specs.Export.{export_bytes}
use Rattle.cjc_capwrite.specs.Descriptor.{types_bytes, descriptor_bytes}

-- the bytes of what may be absent: none where it is
abbrev pub part : {A : Type 0} → (A → List ℕ) → Option A → List ℕ
part f None = []
part f (Some x) = f x

-- what stands behind the tag and the size of each component
pub record Infos : Type 0 where
  pub header : List ℕ
  pub directory : List ℕ
  pub applet : List ℕ
  pub import : List ℕ
  pub pool : List ℕ
  pub class : List ℕ
  pub method : List ℕ
  pub statics : List ℕ
  pub locations : List ℕ
  pub export : List ℕ
  pub descriptor : List ℕ

-- the content of each component of a CAP file; an optional component that is absent has none
abbrev pub infos_of : CapTree → Infos
infos_of t = record {
  header = header_bytes t.header;
  directory = directory_bytes t.directory;
  applet = part applet_bytes t.applet;
  import = part import_bytes t.import;
  pool = part pool_bytes t.pool;
  class = part class_info_bytes t.class;
  method = part method_bytes t.method;
  statics = part static_field_bytes t.statics;
  locations = part reference_location_bytes t.locations;
  export = part export_bytes t.export;
  descriptor = part descriptor_bytes t.descriptor;
}

-- a file: a tag, the number of bytes behind it, and these
unfoldable pub file : ℕ → List ℕ → List ℕ
file tag info = tag ∷ [] ++ (two (length info) ++ info)

-- the file of a component that may be absent
abbrev pub file_where : Bool → ℕ → List ℕ → Option (List ℕ)
file_where there tag info = if there then Some (file tag info) else None

-- the files of all components
abbrev pub files_of : CapTree → CapFiles
files_of t = record {
  header = file 1 (header_bytes t.header);
  directory = file 2 (directory_bytes t.directory);
  applet = file_where (is_some t.applet) 3 (part applet_bytes t.applet);
  import = file 4 (part import_bytes t.import);
  pool = file 5 (part pool_bytes t.pool);
  class = file 6 (part class_info_bytes t.class);
  method = file 7 (part method_bytes t.method);
  statics = file 8 (part static_field_bytes t.statics);
  locations = file 9 (part reference_location_bytes t.locations);
  export = file_where (is_some t.export) 10 (part export_bytes t.export);
  descriptor = file 11 (part descriptor_bytes t.descriptor);
}

-- more nibbles than the byte of their count can tell
abbrev pub is_wide : TypeDescriptor → Bool
is_wide x = nat_lt 255 (length x.nibbles)

-- the types end beyond 32,767; a type that is too wide to be written counts as one that does
abbrev pub ends_too_far : Option Descriptor → Bool
ends_too_far None = false
ends_too_far (Some x) = list_any is_wide x.types || nat_lt 32767 (length (types_bytes x))

-- beyond 65,535 bytes
abbrev pub is_long : List ℕ → Bool
is_long info = nat_lt 65535 (length info)

-- Class above its limit, or another component above its own. Method is not counted.
abbrev pub is_too_large : Infos → Bool
is_too_large i =
    nat_lt 32767 (length i.class) || (is_long i.header || (is_long i.directory
    || (is_long i.applet || (is_long i.import || (is_long i.pool
    || (is_long i.statics || (is_long i.locations || (is_long i.export || is_long i.descriptor))))))))

-- the rule that a tree breaks, if it breaks a limit: 411 where the types end too far, else 416 where a component is too
-- large
abbrev pub limit_of : CapTree → Option ℕ
limit_of t = if ends_too_far t.descriptor then Some 411 else if is_too_large (infos_of t) then Some 416 else None
