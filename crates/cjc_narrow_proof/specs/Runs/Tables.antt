-- The methods of a package with their least tables, the narrow code that is written for them, and its look-ups.
use Rattle.std.specs.Prelude.{◌≡◌, ℕ, List, codes, Option, Some}
use Rattle.std.specs.List.{Contains}
use Rattle.cjc_bytes.specs.Descriptor.{IsClassName}
use Rattle.cjc_bytes.specs.declared.fault.MemberId.{MemberId}
use Rattle.cjc_code.specs.ClassFile.Code.{CodeTree}
use Rattle.cjc_code.specs.ClassFile.declared.tree.Catch.{Catch}
use Rattle.cjc_code.specs.ClassFile.declared.tree.ClassTree.{ClassTree}
use Rattle.cjc_code.specs.ClassFile.declared.tree.MethodTree.{MethodTree}
use Rattle.cjc_code.specs.declared.method_code.MethodCode.{MethodCode}
use Rattle.cjc_script.specs.Sorts.{shape_name, result_by}
use Rattle.cjc_world.specs.Files.{Files}
use Rattle.cjc_world.specs.Classes.{all_classes}
use Rattle.cjc_world.specs.Subtype.{is_subtype}
use Rattle.cjc_world.specs.declared.image.StaticImage.{StaticImage}
use Rattle.cjc_types.specs.declared.state.State.{State}
use Rattle.cjc_types.specs.Types.{parts}
use Rattle.cjc_types.specs.Flow.{Body, body_of}
use Rattle.cjc_types.specs.declared.table.TypeTable.{TypeTable}
use Rattle.cjc_types.specs.Tables.{IsMethodOf, rows_of, IsTypeTable}
use Rattle.cjc_intervals.specs.Frames.{RangeState}
use Rattle.cjc_intervals.specs.Tables.{IsLeastRanges, Passes}
use Rattle.cjc_ncode.specs.declared.narrow.NMethod.{NMethod}
use Rattle.cjc_ncode.specs.ByLabel.{Named}
use Rattle.cjc_jvm_semantics.specs.Linked.{Method}
use Rattle.cjc_jvm_semantics.specs.OnePackage.{method_by}
use Rattle.cjc_narrow_proof.specs.Selection.Replies.{result_kinds}
use Rattle.cjc_narrow_proof.specs.Tables.Analysis.{Analysis, HasRoomToBegin}
use Rattle.cjc_narrow_proof.specs.Tables.Calls.{IsWordDesc}
use Rattle.cjc_narrow.specs.Rows.Resolved.{method_found, constant_named, resolution}
use Rattle.cjc_narrow.specs.Pairs.Open.{closed, open_at}
use Rattle.cjc_narrow.specs.Pairs.Roles.{steps_of, with_pairs}
use Rattle.cjc_narrow.specs.Written.Rows.{has_rows}
use Rattle.cjc_ncode.specs.Written.{Resolution}
use Rattle.cjc_narrow.specs.Rows.Package.{flags_of, start_of, code_of, named}

-- The type table and the range table of each method; none of what is no method of the package with code.
pub record Tables : Type 0 where
  pub types : Method → List (Option State)
  pub ranges : Method → List (Option RangeState)

-- what is written for each method, by the instructions that its type table reaches
abbrev pub narrow_codes : Files → (near : List MemberId) → Tables → Method → NMethod
narrow_codes files near tables = code_of files near tables.types

-- the look-ups of that narrow code
abbrev pub look_ups : Files → StaticImage → (near : List MemberId) → Tables → Named
look_ups files image near tables = named files image (narrow_codes files near tables)

-- a method as inference reads it
abbrev pub body_in : Files → Method → Body
body_in files m = let id = m.id in record {
  class = id.class;
  flags = flags_of (method_found (all_classes files) id);
  desc = id.desc;
  max_stack = m.max_stack;
  max_locals = m.max_locals;
  catches = m.catches;
  insns = m.insns;
}

-- what names in a method stand for, and the roles of its instructions
abbrev pub paired_in : Files → (near : List MemberId) → Tables → Method → Resolution
paired_in files near tables m = let id = m.id in with_pairs (resolution files near id.class) (body_in files m)
    (has_rows (tables.types m))

-- what is found of the package's methods
abbrev pub analysis : Files → StaticImage → (near : List MemberId) → Tables → Analysis
analysis files image near tables = record {
  found = λ m. record { body = body_in files m; types = tables.types m; ranges = tables.ranges m };
  narrowed = start_of (narrow_codes files near tables);
  resolution = paired_in files near tables;
  opened = λ m. (let id = m.id in open_at closed (steps_of (resolution files near id.class) (body_in files m)
      (has_rows (tables.types m))));
  results = λ m. (let id = m.id in let p = (parts id.desc).result in result_kinds (look_ups files image near tables)
      (result_by p.kind p));
  may_throw = λ kind. is_subtype (all_classes files) (shape_name kind) (codes "java/lang/Throwable");
}

-- A method of the package with code: it is decoded, its type table is the least, as inference answers it, which breaks
-- none of the rules 501 to
-- 503, and its intervals are the least over it and break none of 601 to 609. It is found by its own name (202) in a
-- class of the package (201), each of its parameters
-- and its result is one word (301 and 302), its parameters have locals (103), and its handlers catch classes (203).
pub record HasTables (files : Files) (tables : Tables) (m : Method) : Type 0 where
  pub code : MethodCode
  pub class : ClassTree
  pub method : MethodTree
  pub tree : CodeTree
  pub of_package : IsMethodOf files code class method tree
  pub is : m ≡ method_by class method (Some tree)
  pub table : TypeTable
  pub is_table : IsTypeTable (all_classes files) (body_of class method tree code.insns) table
  pub types : tables.types m ≡ rows_of (body_of class method tree code.insns) table
  pub ranges : IsLeastRanges (body_of class method tree code.insns) (constant_named files (all_classes files))
      (tables.types m) (tables.ranges m)
  pub passes : Passes (body_of class method tree code.insns) (tables.types m) (tables.ranges m)
  pub found : flags_of (method_found (all_classes files) (record {
    class = class.name;
    name = method.name;
    desc = method.desc;
  })) ≡ method.flags
  pub desc : IsWordDesc method.desc
  pub named : IsClassName class.name
  pub begins : HasRoomToBegin (body_of class method tree code.insns)
  pub caught : (c : Catch) (name : List ℕ) → Contains tree.catches c → c.class ≡ Some name → IsClassName name
