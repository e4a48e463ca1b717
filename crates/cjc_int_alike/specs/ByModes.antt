-- The methods of a package, some of them in int mode, with their least tables, what is written for each by its mode,
-- and the look-ups of that code.
use Rattle.std.specs.Prelude.{◌≡◌, ℕ, Bool, true, false, List, codes, Option, Some, None}
use Rattle.std.specs.List.{Contains}
use Rattle.cjc_bytes.specs.Descriptor.{IsClassName}
use Rattle.cjc_bytes.specs.declared.fault.MemberId.{MemberId}
use Rattle.cjc_code.specs.ClassFile.Code.{CodeTree}
use Rattle.cjc_code.specs.ClassFile.declared.tree.Catch.{Catch}
use Rattle.cjc_code.specs.ClassFile.declared.tree.ClassTree.{ClassTree}
use Rattle.cjc_code.specs.ClassFile.declared.tree.MethodTree.{MethodTree}
use Rattle.cjc_code.specs.declared.method_code.MethodCode.{MethodCode}
use Rattle.cjc_script.specs.Sorts.{Sort, result_by, shape_name}
use Rattle.cjc_world.specs.Classes.{all_classes}
use Rattle.cjc_world.specs.Files.{Files}
use Rattle.cjc_world.specs.Subtype.{is_subtype}
use Rattle.cjc_world.specs.declared.image.StaticImage.{StaticImage}
use Rattle.cjc_types.specs.Flow.{Body, body_of}
use Rattle.cjc_types.specs.Tables.{Breach, IsLeastTable, IsMethodOf}
use Rattle.cjc_types.specs.Types.{parts}
use Rattle.cjc_types.specs.declared.state.State.{State}
use Rattle.cjc_intervals.specs.Frames.{RangeState}
use Rattle.cjc_intervals.specs.Tables.{IsLeastRanges}
use Rattle.cjc_flow.specs.Tests.Breaches.{NoBreach}
use Rattle.cjc_ncode.specs.declared.narrow.NMethod.{NMethod}
use Rattle.cjc_ncode.specs.ByLabel.{Named}
use Rattle.cjc_ncode.specs.Written.{Resolution}
use Rattle.cjc_jvm_semantics.specs.Linked.{Method}
use Rattle.cjc_jvm_semantics.specs.OnePackage.{method_by}
use Rattle.cjc_narrow.specs.Rows.Package.{code_of, flags_of, named, start_of, tree_of}
use Rattle.cjc_narrow.specs.Rows.Resolved.{constant_named, method_found, resolution}
use Rattle.cjc_narrow_proof.specs.Runs.Tables.{Tables, analysis, body_in, paired_in}
use Rattle.cjc_narrow_proof.specs.Selection.Replies.{result_kinds}
use Rattle.cjc_narrow_proof.specs.Tables.Analysis.{Analysis, Found, HasRoomToBegin}
use Rattle.cjc_int_mode.specs.declared.modes.Mode.TheVariants as modes
use Rattle.cjc_int_mode.specs.Modes.{binds}
use Rattle.cjc_int_mode.specs.Room.{IsRoom}
use Rattle.cjc_int_mode.specs.Written.{written_in_int_mode}
use Rattle.cjc_int_runs.specs.IntFrames.{IntBody}
use Rattle.cjc_int_alike.specs.Calls.{IsIntDesc}
use Rattle.cjc_int_alike.specs.Method.{int_body}

-- ---- what is written

module _ (files : Files) (image : StaticImage) (near : List MemberId) (tables : Tables) (is_int : Method → Bool) where
  -- what is found of a method
  abbrev pub found_in : Method → Found
  found_in m = record { body = body_in files m; types = tables.types m; ranges = tables.ranges m }

  -- what names stand for in a method in int mode, where no load of this is written as one with a field instruction
  abbrev pub int_resolution : Method → Resolution
  int_resolution m = let id = m.id in resolution files near id.class

  -- the same by the mode
  abbrev pub resolution_by : (int : Bool) → Method → Resolution
  resolution_by true m = int_resolution m
  resolution_by false m = paired_in files near tables m

  -- what is written for a method, by its mode
  abbrev pub code_by : (int : Bool) → Method → NMethod
  code_by true m = written_in_int_mode (int_resolution m) (tree_of m) (body_in files m) (tables.types m)
      (tables.ranges m)
  code_by false m = code_of files near tables.types m

  abbrev pub codes_by_mode : Method → NMethod
  codes_by_mode m = code_by (is_int m) m

  -- the look-ups of that code
  abbrev pub look_ups_by_mode : Named
  look_ups_by_mode = named files image codes_by_mode

  -- the type of a method's result, where it has one
  abbrev pub result_in : Method → Option Sort
  result_in m = let id = m.id in let p = (parts id.desc).result in result_by p.kind p

  -- what is found of the package's methods
  abbrev pub analysis_by_mode : Analysis
  analysis_by_mode = record {
    found = found_in;
    narrowed = start_of codes_by_mode;
    resolution = λ m. resolution_by (is_int m) m;
    opened = (let a = analysis files image near tables in a.opened);
    results = λ m. result_kinds look_ups_by_mode (result_in m);
    may_throw = λ kind. is_subtype (all_classes files) (shape_name kind) (codes "java/lang/Throwable");
  }

  -- what whole runs go by in a method in int mode
  abbrev pub body_by : (int : Bool) → Method → Option IntBody
  body_by true m = Some (int_body look_ups_by_mode (int_resolution m) (found_in m) (code_by true m))
  body_by false m = None

  abbrev pub bodies_by_mode : Method → Option IntBody
  bodies_by_mode m = body_by (is_int m) m

-- ---- a method

-- no operand of a method in int mode breaks one of 605 and 607 to 609, where these are known before its instructions
abbrev pub PassesInIntMode : Body → List (Option State) → List (Option RangeState) → Type 0
PassesInIntMode b types ranges = NoBreach (binds modes.Int) b types ranges

-- A method of the package with code, in int mode: its type table is the least, and breaks none of the rules 501 to 503,
-- and its intervals are the least over it, and break none of 605 and 607 to 609; there is room for what is written
-- (417). It is found by its own name (202), its parameters and its result are of types of some values (301), its
-- parameters have locals (103), and its handlers catch classes (203).
pub record HasIntTables (files : Files) (tables : Tables) (m : Method) : Type 0 where
  pub code : MethodCode
  pub class : ClassTree
  pub method : MethodTree
  pub tree : CodeTree
  pub of_package : IsMethodOf files code class method tree
  pub is : m ≡ method_by class method (Some tree)
  pub least : IsLeastTable (body_of class method tree code.insns) (tables.types (method_by class method (Some tree)))
  pub unbroken : (place rule : ℕ) → Breach (all_classes files) (body_of class method tree code.insns)
      (tables.types (method_by class method (Some tree))) place rule → ⊥
  pub ranges : IsLeastRanges (body_of class method tree code.insns) (constant_named files (all_classes files))
      (tables.types (method_by class method (Some tree))) (tables.ranges (method_by class method (Some tree)))
  pub passes : PassesInIntMode (body_of class method tree code.insns)
      (tables.types (method_by class method (Some tree))) (tables.ranges (method_by class method (Some tree)))
  pub room : IsRoom (body_of class method tree code.insns) (tables.types (method_by class method (Some tree))) modes.Int
      true
  pub found : flags_of (method_found (all_classes files) (record {
    class = class.name;
    name = method.name;
    desc = method.desc;
  })) ≡ method.flags
  pub desc : IsIntDesc method.desc
  pub begins : HasRoomToBegin (body_of class method tree code.insns)
  pub caught : (c : Catch) (name : List ℕ) → Contains tree.catches c → c.class ≡ Some name → IsClassName name
