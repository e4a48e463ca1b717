-- What is written for a package some of whose methods are in int mode: the narrow code of each by its mode, at the
-- least choice of wide jumps.
use Rattle.std.specs.Prelude.{◌≡◌, ℕ, List, map, slice_get, Option, Some, None}
use Rattle.cjc_int_mode.specs.Bytes.declared.fault.MemberId.{MemberId}
use Rattle.cjc_world.specs.Classes.{all_classes, class_at}
use Rattle.cjc_world.specs.Files.{Files}
use Rattle.cjc_world.specs.Order.{method_order}
use Rattle.cjc_world.specs.declared.found.Found.{Found}
use Rattle.cjc_components.specs.LowerClinit.Image.{IsImage}
use Rattle.cjc_components.specs.Bytecode.declared.method_code.MethodCode.{MethodCode}
use Rattle.cjc_components.specs.LowerJvmSemantics.Linked.{Method}
use Rattle.cjc_components.specs.LowerJvmSemantics.OnePackage.{method_at}
use Rattle.cjc_components.specs.LowerNCode.declared.narrow.NMethod.{NMethod}
use Rattle.cjc_components.specs.LowerNarrow.Rows.Package.{code_of, flags_of, read_of, tree_of}
use Rattle.cjc_components.specs.LowerNarrow.Rows.Resolved.{method_found, resolution}
use Rattle.cjc_components.specs.LowerNarrow.Rows.Selected.{near_fields}
use Rattle.cjc_components.specs.LowerLayout.Legal.{IsLeast}
use Rattle.cjc_components.specs.LowerList.Listed.{ListTree}
use Rattle.cjc_components.specs.Package.{LaidMethod, Package, pool}
use Rattle.cjc_components.specs.Written.{added_words, is_abstract_at, no_code}
use Rattle.cjc_int_mode.specs.Written.{written_in_int_mode}
use Rattle.cjc_int_mode.specs.declared.modes.Mode.{Mode}
use Rattle.cjc_int_mode.specs.declared.modes.Mode.TheVariants as modes
use Rattle.cjc_int_package.specs.Modes.{Tables}

-- ---- one method

module _ (files : Files) (near : List MemberId) (t : Tables) where
  -- of a method in int mode: no pair of its instructions is written as one
  abbrev pub int_code_of : Method → NMethod
  int_code_of m =
      let id = m.id in
      let flags = flags_of (method_found (all_classes files) id) in
      written_in_int_mode (resolution files near id.class) (tree_of m) (read_of m flags) (t.types m) (t.ranges m)

  -- of a method in this mode
  abbrev pub code_in : Mode → Method → NMethod
  code_in modes.Short m = code_of files near t.types m
  code_in modes.Int m = int_code_of m

  -- of a method of a class file by its mode; none of one that is added to its class
  abbrev pub code_by_mode : Found → Option Method → NMethod
  code_by_mode f None = no_code (added_words (all_classes files) f (class_at (all_classes files) f.imported f.class))
  code_by_mode f (Some m) = code_in (t.mode m) m

  -- The narrow code of a method of Method, where these instance fields have an index of one byte.
  abbrev pub code_by_mode_at : Found → NMethod
  code_by_mode_at f = code_by_mode f (method_at files f)

  -- A method as it is written.
  pub record IsWrittenByMode (m : LaidMethod) : Type 0 where
    pub is_abstract : m.is_abstract ≡ is_abstract_at files m.member
    pub code : m.code ≡ code_by_mode_at m.member
    pub wide : (let code = m.code in IsLeast code.insns m.wide)

-- ---- all methods

-- The package of a list and its files, whose methods have these instructions, these tables and these modes.
pub record IsPackageByModes (list : ListTree) (files : Files) (codes : List MethodCode) (t : Tables) (p : Package) :
    Type 0 where
  pub by_list : p.list ≡ list
  pub by_files : p.files ≡ files
  pub image : IsImage files codes p.image
  -- in the order of Method
  pub members : map (λ m. m.member) p.methods ≡ method_order (all_classes files)
  -- those instance fields have short indices that stand first in the pool
  pub methods : (k : ℕ) (m : LaidMethod) → slice_get p.methods k ≡ Some m
      → IsWrittenByMode files (near_fields (pool p)) t m
