-- The export file (Java Card Virtual Machine Specification 2.2.2, chapter 5).
use Rattle.std.specs.Prelude.{ℕ, Bool, List, [], Option, Some, None, option_and_then, nat_lt, ◌==◌, ◌&&◌, ◌||◌}
use Rattle.std.specs.Prelude.{if◌then◌else◌}
use Rattle.std.specs.List.{list_any}
use Rattle.std.specs.Int.{w8, w16, w32}
use Rattle.std.specs.Str.{bytes_eq}
use Rattle.cjc_bytes.specs.Format.{Format, number, looked_up, gives, ◌>>=◌, iterated, repeated, u1, u2}
use Rattle.cjc_bytes.specs.Found.{all_of}
use Rattle.cjc_export.specs.declared.tree.ExportClass.{ExportClass}
use Rattle.cjc_export.specs.declared.tree.ExportTree.{ExportTree}
use Rattle.cjc_export.specs.Words.{exactly}
use Rattle.cjc_bytes.specs.AccessFlags.{is_interface}
use Rattle.cjc_export.specs.Entry.{Entry}
use Rattle.cjc_export.specs.Pool.{entry, tested, class_name_at}
use Rattle.cjc_export.specs.Package.{package_field}
use Rattle.cjc_export.specs.Members.{grown, class_field, field, method}
use Rattle.cjc_export.specs.Root.{with_root}

-- ---- classes

-- an earlier class has the token
abbrev pub token_taken : List ExportClass → ℕ → Bool
token_taken so_far token = list_any (λ c. c.token == token) so_far

-- a token that no earlier class has
abbrev pub class_token : List ExportClass → ℕ → Option ℕ
class_token so_far token = if token_taken so_far token then None else Some token

-- an earlier class has the name
abbrev pub name_taken : List ExportClass → List ℕ → Bool
name_taken so_far name = list_any (λ c. bytes_eq c.name name) so_far

-- a name that no earlier class has
abbrev pub new_name : List ExportClass → List ℕ → Option (List ℕ)
new_name so_far name = if name_taken so_far name then None else Some name

-- the name of the class at an index, where no earlier class has it
unfoldable pub new_name_at : List Entry → List ExportClass → ℕ → Option (List ℕ)
new_name_at pool so_far i = option_and_then (new_name so_far) (class_name_at pool i)

-- how many methods: of an interface 255 at most
abbrev pub method_count : Bool → ℕ → Option ℕ
method_count interface n = if interface && nat_lt 255 n then None else Some n

-- the class_info of one class, with the classes before it known
unfoldable pub class_tree : List Entry → List ExportClass → Format ExportClass
class_tree pool so_far = do
  token ← number w8 (class_token so_far)
  flags ← u2
  name ← number w16 (new_name_at pool so_far)
  super_count ← u2
  listed ← repeated super_count (class_field pool)
  interface_count ← u1
  interfaces ← repeated interface_count (class_field pool)
  field_count ← u2
  fields ← iterated field_count (grown (field pool)) []
  count ← number w16 (method_count (is_interface flags))
  methods ← iterated count (grown (method pool (is_interface flags) count)) []
  gives (record {
    token = token;
    flags = flags;
    name = name;
    listed = listed;
    supers = with_root name listed;
    interfaces = interfaces;
    fields = fields;
    methods = methods;
  })

-- ---- the file

-- the minor version of the format: 1 or 2
abbrev pub minor_version : ℕ → Option ℕ
minor_version n = if (n == 1) || (n == 2) then Some n else None

-- up to the pool
unfoldable pub front_part : Format (List Entry)
front_part = do
  magic ← number w32 (exactly 0x00FACADE)
  minor ← number w8 minor_version
  major ← number w8 (exactly 2)
  count ← u2
  repeated count entry

-- a whole export file: its pool, its package and its classes
unfoldable pub export_file : Format ExportTree
export_file = do
  pool ← front_part
  passed ← looked_up (all_of (tested pool) pool)
  this ← package_field pool
  count ← u1
  classes ← iterated count (grown (class_tree pool)) []
  gives (record {
    name = this.name;
    aid = this.aid;
    major = this.major;
    minor = this.minor;
    library = this.library;
    classes = classes;
  })
