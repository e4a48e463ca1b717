-- What is written for a package: the narrow code of each of its methods, at the least choice of wide jumps.
use Rattle.std.specs.Prelude.{◌≡◌, ℕ, List, [], map, slice_get, Bool, true, Option, Some, None}
use Rattle.cjc_list.specs.Bytes.declared.fault.MemberId.{MemberId}
use Rattle.cjc_clinit.specs.Bytecode.declared.method_code.MethodCode.{MethodCode}
use Rattle.cjc_list.specs.Listed.{ListTree}
use Rattle.cjc_clinit.specs.World.declared.found.Found.{Found}
use Rattle.cjc_clinit.specs.World.Files.{Files}
use Rattle.cjc_clinit.specs.World.Classes.{Class, all_classes, class_at}
use Rattle.cjc_clinit.specs.World.Order.{method_order}
use Rattle.cjc_narrow.specs.LowerJvmSemantics.Linked.{Method}
use Rattle.cjc_narrow.specs.LowerJvmSemantics.OnePackage.{method_at}
use Rattle.cjc_clinit.specs.Image.{IsImage}
use Rattle.cjc_emit.specs.NCode.declared.narrow.NMethod.{NMethod}
use Rattle.cjc_narrow.specs.Rows.Resolved.{argument_words}
use Rattle.cjc_narrow.specs.Rows.Package.{code_of}
use Rattle.cjc_narrow.specs.Rows.Selected.{near_fields}
use Rattle.cjc_emit.specs.LowerLayout.Legal.{IsLeast}
use Rattle.cjc_components.specs.Package.{LaidMethod, Package, pool}
use Rattle.cjc_components.specs.Descriptor.{method_in}

-- ---- one method

-- the code of a method that has none and takes so many words of arguments
abbrev pub no_code : (nargs : ℕ) → NMethod
no_code nargs = record { insns = []; from = []; catches = []; max_stack = 0; nargs = nargs; max_locals = 0; widest = 0 }

-- the words of arguments of a method that is added to a class
abbrev pub added_words : List Class → Found → Option Class → ℕ
added_words w f None = 0
added_words w f (Some c) = let m = method_in w c f.member in argument_words m.flags m.desc

module _ {A : Type 0} (files : Files) (near : List MemberId) (rows : Method → List (Option A)) where
  -- of a method of a class file, by the rows of its least table; none of one that is added to its class
  abbrev pub code_by : Found → Option Method → NMethod
  code_by f None = no_code (added_words (all_classes files) f (class_at (all_classes files) f.imported f.class))
  code_by f (Some m) = code_of files near rows m

  -- the narrow code of a method of Method, where these instance fields have an index of one byte
  abbrev pub code_at : Found → NMethod
  code_at f = code_by f (method_at files f)

-- a method of a class file says so itself; one that is added to its class is abstract
abbrev pub is_abstract_by : Option Method → Bool
is_abstract_by None = true
is_abstract_by (Some m) = m.is_abstract

-- a method of Method is abstract
abbrev pub is_abstract_at : Files → Found → Bool
is_abstract_at files f = is_abstract_by (method_at files f)

-- A method as it is written.
pub record IsWritten {A : Type 0} (files : Files) (near : List MemberId) (rows : Method
    → List (Option A)) (m : LaidMethod) : Type 0 where
  pub is_abstract : m.is_abstract ≡ is_abstract_at files m.member
  pub code : m.code ≡ code_at files near rows m.member
  pub wide : (let code = m.code in IsLeast code.insns m.wide)

-- ---- all methods

-- The package of a list and its files, whose methods have these instructions and these rows in their least tables.
pub record IsPackage {A : Type 0} (list : ListTree) (files : Files) (codes : List MethodCode) (rows : Method
    → List (Option A)) (p : Package) : Type 0 where
  pub by_list : p.list ≡ list
  pub by_files : p.files ≡ files
  pub image : IsImage files codes p.image
  -- in the order of Method
  pub members : map (λ m. m.member) p.methods ≡ method_order (all_classes files)
  -- those instance fields have short indices that stand first in the pool
  pub methods : (k : ℕ) (m : LaidMethod) → slice_get p.methods k ≡ Some m
      → IsWritten files (near_fields (pool p)) rows m
