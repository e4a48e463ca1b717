-- What the laws on Descriptor rest on: the types of a package are on the card, and the entries of its pool name members
-- of their descriptors.
use Rattle.std.specs.Prelude.{◌≡◌, ℕ, List, Some, slice_get, true}
use Rattle.cjc_types.specs.ClassFile.declared.tree.FieldTree.{FieldTree}
use Rattle.cjc_types.specs.World.Classes.{Class}
use Rattle.cjc_types.specs.World.Order.{class_order, methods_of_class}
use Rattle.cjc_types.specs.World.declared.found.Found.{Found}
use Rattle.cjc_verify.specs.Script.Sorts.{signature_of}
use Rattle.cjc_check_proof.specs.NCode.Lowering.Naming.{entry_of}
use Rattle.cjc_check_proof.specs.NCode.declared.narrow.PoolKey.{PoolKey}
use Rattle.cjc_verify.specs.Components.Class.{fields_of}
use Rattle.cjc_verify.specs.Components.Descriptor.{method_in}
use Rattle.cjc_verify.specs.Components.Names.{names}
use Rattle.cjc_verify.specs.Components.Package.{Package, pool, world}
use Rattle.cjc_verify.specs.Components.Types.{desc_of_key}
use Rattle.cjc_verify.specs.Named.{named_desc}
use Rattle.cjc_verify.specs.Pairs.{is_card_type}
use Rattle.cjc_accepted_proof.specs.Written.{written_pair}
use Rattle.std.specs.List.{AllByRecursion}

-- the card has values of the types of a descriptor
abbrev pub IsOnCard : (desc : List ℕ) → Type 0
IsOnCard desc = is_card_type desc (signature_of desc) ≡ true

-- The card has values of the types of all fields and methods of a package, and of the members that its pool names.
pub record HasCardTypes (p : Package) : Type 0 where
  pub fields : (k : ℕ) (c : Class) → slice_get (class_order (world p)) k ≡ Some c → (i : ℕ) (f : FieldTree)
      → slice_get (fields_of p.files c) i ≡ Some f → IsOnCard f.desc
  pub methods : (k : ℕ) (c : Class) → slice_get (class_order (world p)) k ≡ Some c → (i : ℕ) (f : Found)
      → slice_get (methods_of_class (world p) c) i ≡ Some f → (let m = method_in (world p) c f.member in IsOnCard
      m.desc)
  pub entries : (k : ℕ) (key : PoolKey) → slice_get (pool p) k ≡ Some key → AllByRecursion IsOnCard (desc_of_key key)

-- Each entry of the constant pool names a member of the descriptor of its key.
abbrev pub EntriesAreNamed : Package → Type 0
EntriesAreNamed p = (k : ℕ) (key : PoolKey) → slice_get (pool p) k ≡ Some key
    → AllByRecursion (λ (desc : List ℕ). named_desc (written_pair p) (entry_of (names p) key) ≡ Some desc)
    (desc_of_key key)
