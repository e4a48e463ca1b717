-- What the members of a class that bytes spell are.
use Rattle.std.specs.Prelude.{◌≡◌, ◌<◌, ℕ, Bool, true, false, List, slice_get, Some, ℤ}
use Rattle.std.specs.List.{AllByRecursion}
use Rattle.cjc_bytes.specs.Descriptor.{Parts}
use Rattle.cjc_bytes.specs.Spots.{desc_of}
use Rattle.cjc_classfile.specs.Code.{CodeTree}
use Rattle.cjc_classfile.specs.declared.tree.ClassTree.{ClassTree}
use Rattle.cjc_classfile.specs.declared.tree.FieldTree.{FieldTree}
use Rattle.cjc_classfile.specs.declared.tree.MethodTree.{MethodTree}
use Rattle.cjc_classfile.specs.PoolItem.{PoolItem}
use Rattle.cjc_classfile.specs.PoolItem as items
use Rattle.cjc_range.specs.Span.{Holds, full}

-- a descriptor, of a method or of a field
abbrev pub IsDescOf : (is_method : Bool) → List ℕ → Type 0
IsDescOf is_method desc = (d : Parts) × (desc_of desc ≡ Some d) × (d.is_method ≡ is_method)

-- the numbers of a constant pool have 32 bits
abbrev pub AreWords : List PoolItem → Type 0
AreWords pool = (k : ℕ) (z : ℤ) → slice_get pool k ≡ Some (items.Int z) → Holds full z

-- The descriptors of its fields and methods are such, the value of a constant and the numbers of the pool have 32 bits,
-- and codes are bytes.
pub record IsReadClass (class : ClassTree) : Type 0 where
  pub fields : (k : ℕ) (f : FieldTree) → slice_get class.fields k ≡ Some f → IsDescOf false f.desc
  pub methods : (k : ℕ) (m : MethodTree) → slice_get class.methods k ≡ Some m → IsDescOf true m.desc
  pub constants : (k : ℕ) (f : FieldTree) (z : ℤ) → slice_get class.fields k ≡ Some f → f.constant ≡ Some z
      → Holds full z
  pub integers : AreWords class.pool
  pub bytes : (k : ℕ) (m : MethodTree) (tree : CodeTree) → slice_get class.methods k ≡ Some m → m.code ≡ Some tree
      → AllByRecursion (λ b. b < 256) tree.bytes
