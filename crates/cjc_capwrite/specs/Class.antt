-- The component Class as bytes (Java Card Virtual Machine Specification 2.2.2, section 6.8): what the writer is
-- proved to write.
use Rattle.std.specs.Prelude.{ℕ, ◌+◌, ◌*◌, ◌%◌, List, [], ◌∷◌, ◌++◌, length}
use Rattle.std.specs.List.{flat_map}
use Rattle.cjc_capread.specs.declared.tree.ClassInfo.{ClassInfo}
use Rattle.cjc_capread.specs.declared.tree.InterfaceEntry.{InterfaceEntry}
use Rattle.cjc_capread.specs.declared.tree.ClassEntry.{ClassEntry}
use Rattle.cjc_capread.specs.declared.tree.ImplementedInterface.{ImplementedInterface}
use Rattle.cjc_capwrite.specs.Parts.{one, two, bytes1, class_bytes}

-- two nibbles in a byte
abbrev pub nibbles : ℕ → ℕ → List ℕ
nibbles high low = (high % 16 * 16 + low % 16) ∷ []

-- an interface: flags and the number of its superinterfaces, then these (section 6.8.1)
unfoldable pub interface_bytes : InterfaceEntry → List ℕ
interface_bytes x = nibbles x.flags (length x.superinterfaces) ++ flat_map class_bytes x.superinterfaces

-- an interface that a class implements, and the token of the virtual method for each of its tokens (section 6.8.2)
unfoldable pub implemented_bytes : ImplementedInterface → List ℕ
implemented_bytes x = class_bytes x.interface ++ bytes1 x.index

-- a class: its counts, its tables and its interfaces (section 6.8.2)
unfoldable pub class_entry_bytes : ClassEntry → List ℕ
class_entry_bytes x =
    nibbles x.flags (length x.interfaces) ++ (class_bytes x.superclass ++ (x.declared_instance_size ∷ []
    ++ (x.first_reference_token ∷ [] ++ (x.reference_count ∷ []
    ++ (x.public_base ∷ [] ++ (one (length x.public_methods) ++ (x.package_base ∷ [] ++ (one (length x.package_methods)
    ++ (flat_map two x.public_methods ++ (flat_map two x.package_methods
    ++ flat_map implemented_bytes x.interfaces))))))))))

-- the info of Class: an empty signature pool, the interfaces, the classes (section 6.8)
unfoldable pub class_info_bytes : ClassInfo → List ℕ
class_info_bytes x = two 0 ++ (flat_map interface_bytes x.interfaces ++ flat_map class_entry_bytes x.classes)
