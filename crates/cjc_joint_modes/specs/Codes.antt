-- The methods of several packages, some of them in int mode, each in the package that has it, and the narrow code that
-- is written for each by its mode, which asks for that package.
use Rattle.std.specs.Prelude.{◌≡◌, ℕ, Bool, true, false, not, List, codes, Option, Some, None}
use Rattle.cjc_bytes.specs.AccessFlags.{is_static}
use Rattle.cjc_bytes.specs.Descriptor.{IsClassName}
use Rattle.cjc_script.specs.Sorts.{Sort, result_by, shape_name}
use Rattle.cjc_world.specs.Classes.{all_classes}
use Rattle.cjc_world.specs.Files.{Files}
use Rattle.cjc_world.specs.Subtype.{is_subtype}
use Rattle.cjc_world.specs.declared.image.StaticImage.{StaticImage}
use Rattle.cjc_types.specs.Tables.{Breach}
use Rattle.cjc_types.specs.Types.{parts}
use Rattle.cjc_ncode.specs.declared.narrow.NMethod.{NMethod}
use Rattle.cjc_ncode.specs.ByLabel.{Named}
use Rattle.cjc_ncode.specs.Written.{Resolution}
use Rattle.cjc_jvm_semantics.specs.Linked.{Method}
use Rattle.cjc_narrow.specs.Rows.Package.{flags_of, start_of, tree_of}
use Rattle.cjc_narrow.specs.Rows.Resolved.{method_found, resolution}
use Rattle.cjc_narrow_proof.specs.Runs.Tables.{Tables, body_in}
use Rattle.cjc_narrow_proof.specs.Selection.Replies.{result_kinds}
use Rattle.cjc_narrow_proof.specs.Tables.Analysis.{Analysis, Found}
use Rattle.cjc_int_mode.specs.Written.{written_in_int_mode}
use Rattle.cjc_int_runs.specs.IntFrames.{IntBody}
use Rattle.cjc_int_alike.specs.ByModes.{HasIntTables, codes_by_mode}
use Rattle.cjc_int_alike.specs.Method.{int_body}
use Rattle.cjc_joint_theorem.specs.Asked.{resolved_by, group_named}
use Rattle.cjc_joint_theorem.specs.Together.Homes.{Homes, files_for, resolution_for, group_codes, group_analysis}
use Rattle.cjc_joint_theorem.specs.Together.Homes.{joint_world, HasTablesIn, IsAtHome}

-- ---- what is written

-- what is written for each method by its package alone, by its mode
abbrev pub own_codes_by_mode : StaticImage → Homes → Tables → (is_int : Method → Bool) → Method → NMethod
own_codes_by_mode image homes tables is_int m = let h = homes m in codes_by_mode h.files image h.near tables is_int m

module _ (homes : Homes) (tables : Tables) where
  -- what is found of a method
  abbrev pub found_for : Method → Found
  found_for m = record { body = body_in (files_for homes m) m; types = tables.types m; ranges = tables.ranges m }

  -- what names stand for in a method in int mode, where no load of this is written as one with a field instruction
  abbrev pub int_resolution_for : Method → Resolution
  int_resolution_for m = let id = m.id in let h = homes m in resolved_by h.number (resolution h.files h.near id.class)

  -- the same by the mode
  abbrev pub resolution_by : (int : Bool) → Method → Resolution
  resolution_by true m = int_resolution_for m
  resolution_by false m = resolution_for homes tables m

  -- what is written for a method whose calls tell who asks, by its mode
  abbrev pub group_code_by : (int : Bool) → Method → NMethod
  group_code_by true m = written_in_int_mode (int_resolution_for m) (tree_of m) (body_in (files_for homes m) m)
      (tables.types m) (tables.ranges m)
  group_code_by false m = group_codes homes tables m

  abbrev pub group_codes_by_mode : (is_int : Method → Bool) → Method → NMethod
  group_codes_by_mode is_int m = group_code_by (is_int m) m

-- the type of a method's result, where it has one
abbrev pub result_for : Method → Option Sort
result_for m = let id = m.id in let p = (parts id.desc).result in result_by p.kind p

module _ (group : List Files) (image : StaticImage) (homes : Homes) (tables : Tables) (is_int : Method → Bool) where
  -- the look-ups of that code
  abbrev pub group_look_ups_by_mode : Named
  group_look_ups_by_mode = group_named group image (group_codes_by_mode homes tables is_int)

  -- what is found of the packages' methods
  abbrev pub group_analysis_by_mode : Analysis
  group_analysis_by_mode = record {
    found = found_for homes tables;
    narrowed = start_of (group_codes_by_mode homes tables is_int);
    resolution = λ m. resolution_by homes tables (is_int m) m;
    opened = (let a = group_analysis group image homes tables in a.opened);
    results = λ m. result_kinds group_look_ups_by_mode (result_for m);
    may_throw = λ kind. is_subtype (joint_world group) (shape_name kind) (codes "java/lang/Throwable");
  }

  -- what whole runs go by in a method in int mode
  abbrev pub group_body_by : (int : Bool) → Method → Option IntBody
  group_body_by true m = Some (int_body group_look_ups_by_mode (int_resolution_for homes tables m)
      (found_for homes tables m) (group_code_by homes tables true m))
  group_body_by false m = None

  abbrev pub group_bodies_by_mode : Method → Option IntBody
  group_bodies_by_mode m = group_body_by (is_int m) m

-- ---- methods

-- A method in int mode has its tables in its package, and in the joint world too they break none of 501 to 503.
pub record HasIntTablesIn (group : List Files) (homes : Homes) (tables : Tables) (m : Method) : Type 0 where
  pub home : IsAtHome group homes m
  pub has : HasIntTables (files_for homes m) tables m
  pub unbroken : (place rule : ℕ) → Breach (joint_world group) (body_in (files_for homes m) m) (tables.types m) place
      rule → ⊥

module _ (group : List Files) (homes : Homes) (tables : Tables) (is_int : Method → Bool) where
  -- a method with code that is reached, with the tables of its mode
  pub data HasTablesByMode (m : Method) : Type 0 where
    in_int_mode : is_int m ≡ true → HasIntTablesIn group homes tables m → HasTablesByMode m
    in_short_mode : is_int m ≡ false → HasTablesIn group homes tables m → HasTablesByMode m

  -- The method has tables of its mode and this descriptor, and a receiver or none. Its class has the name of a class.
  pub record IsBegunByModeIn (has_receiver : Bool) (written : List ℕ) (m : Method) : Type 0 where
    pub has_tables : HasTablesByMode m
    pub desc : (let id = m.id in id.desc) ≡ written
    pub flags : (let id = m.id in is_static (flags_of (method_found (all_classes (files_for homes m)) id)))
        ≡ not has_receiver
    pub named : IsClassName (let id = m.id in id.class)
