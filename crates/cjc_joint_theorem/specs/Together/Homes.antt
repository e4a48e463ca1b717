-- The methods of several packages with their least tables, each in the package that has it, and the narrow code that is
-- written for them, which asks for that package.
use Rattle.std.specs.Prelude.{◌≡◌, ℕ, List, codes, slice_get, Some, Bool}
use Rattle.cjc_bytes.specs.declared.fault.MemberId.{MemberId}
use Rattle.cjc_script.specs.Sorts.{Shape, shape_name, result_by}
use Rattle.cjc_world.specs.Files.{Files}
use Rattle.cjc_world.specs.Classes.{Class, all_classes}
use Rattle.cjc_world.specs.Subtype.{is_subtype}
use Rattle.cjc_world.specs.declared.image.StaticImage.{StaticImage}
use Rattle.cjc_types.specs.Types.{parts}
use Rattle.cjc_types.specs.Tables.{Breach}
use Rattle.cjc_ncode.specs.declared.narrow.NMethod.{NMethod}
use Rattle.cjc_ncode.specs.Written.{Resolution, narrow_method}
use Rattle.cjc_ncode.specs.ByLabel.{Named}
use Rattle.cjc_jvm_semantics.specs.Linked.{Method}
use Rattle.cjc_jvm_semantics.specs.Group.{joint, files_of_class}
use Rattle.cjc_narrow.specs.Rows.Resolved.{resolution, argument_words}
use Rattle.cjc_narrow.specs.Rows.Package.{start_of, tree_of}
use Rattle.cjc_narrow.specs.Pairs.Open.{closed, open_at}
use Rattle.cjc_narrow.specs.Pairs.Roles.{steps_of}
use Rattle.cjc_narrow.specs.Written.Rows.{has_rows}
use Rattle.cjc_narrow_proof.specs.Selection.Replies.{result_kinds}
use Rattle.cjc_narrow_proof.specs.Tables.Analysis.{Analysis}
use Rattle.cjc_narrow_proof.specs.Runs.Tables.{Tables, HasTables, body_in, paired_in, narrow_codes}
use Rattle.cjc_narrow_proof.specs.Runs.Begun.{IsBegun}
use Rattle.cjc_narrow_proof.specs.Runs.Types.{IsThere}
use Rattle.cjc_joint_theorem.specs.Asked.{resolved_by, group_named}

-- The package of a method: its number in the group, its files, and which of its instance fields have an index of one
-- byte.
pub record Home : Type 0 where
  pub number : ℕ
  pub files : Files
  pub near : List MemberId

-- that of each method
abbrev pub Homes : Type 0
Homes = Method → Home

-- the files of a method's package
abbrev pub files_for : Homes → Method → Files
files_for homes m = let h = homes m in h.files

-- what names in a method stand for, and the roles of its instructions
abbrev pub resolution_for : Homes → Tables → Method → Resolution
resolution_for homes tables m = let h = homes m in resolved_by h.number (paired_in h.files h.near tables m)

-- what is written for each method
abbrev pub group_codes : Homes → Tables → Method → NMethod
group_codes homes tables m =
    let b = body_in (files_for homes m) m in
    narrow_method (resolution_for homes tables m) (tree_of m) (argument_words b.flags b.desc) m.insns (tables.types m)

-- what is written for each method by its package alone
abbrev pub own_codes : Homes → Tables → Method → NMethod
own_codes homes tables m = let h = homes m in narrow_codes h.files h.near tables m

-- the look-ups of narrow code whose calls tell who asks
abbrev pub group_look_ups : (group : List Files) → StaticImage → Homes → Tables → Named
group_look_ups group image homes tables = group_named group image (group_codes homes tables)

-- the classes of all packages
abbrev pub joint_world : (group : List Files) → List Class
joint_world group = all_classes (joint group)

-- what is found of the packages' methods
abbrev pub group_analysis : (group : List Files) → StaticImage → Homes → Tables → Analysis
group_analysis group image homes tables = record {
  found = λ m. record { body = body_in (files_for homes m) m; types = tables.types m; ranges = tables.ranges m };
  narrowed = start_of (group_codes homes tables);
  resolution = resolution_for homes tables;
  opened = λ m. (let id = m.id in let h = homes m in open_at closed (steps_of (resolution h.files h.near id.class)
      (body_in h.files m) (has_rows (tables.types m))));
  results = λ m. (let id = m.id in let p = (parts id.desc).result in result_kinds (group_look_ups group image homes
      tables) (result_by p.kind p));
  may_throw = λ kind. is_subtype (joint_world group) (shape_name kind) (codes "java/lang/Throwable");
}

-- The package of a method is the one of the group that asks for the method's class.
pub record IsAtHome (group : List Files) (homes : Homes) (m : Method) : Type 0 where
  pub member : slice_get group (let h = homes m in h.number) ≡ Some (files_for homes m)
  pub asks : files_of_class group (let id = m.id in id.class) ≡ Some (files_for homes m)

-- A method with code has its tables in its package, and in the joint world too they break none of 501 to 503.
pub record HasTablesIn (group : List Files) (homes : Homes) (tables : Tables) (m : Method) : Type 0 where
  pub home : IsAtHome group homes m
  pub has : HasTables (files_for homes m) tables m
  pub unbroken : (place rule : ℕ) → Breach (joint_world group) (body_in (files_for homes m) m) (tables.types m) place
      rule → ⊥

-- The method has tables and this descriptor, and a receiver or none.
pub record IsBegunIn (group : List Files) (homes : Homes) (tables : Tables) (has_receiver : Bool) (written : List ℕ)
    (m : Method) : Type 0 where
  pub has_tables : HasTablesIn group homes tables m
  pub begun : IsBegun (files_for homes m) tables has_receiver written m

-- The class that a type names is there for a package that asks, and in the joint world.
pub record IsThereIn (group : List Files) (p : Files) (kind : Shape (List ℕ)) : Type 0 where
  pub own : IsThere (all_classes p) kind
  pub together : IsThere (joint_world group) kind
