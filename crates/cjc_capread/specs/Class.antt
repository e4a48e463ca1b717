-- The interfaces and classes of the package (section 6.8).
use Rattle.std.specs.Prelude.{ℕ, ◌/◌, ◌%◌, Bool, true, false, List, [], ◌∷◌, ◌++◌, Option, Some, None, nat_lt}
use Rattle.std.specs.Prelude.{if◌then◌else◌}
use Rattle.std.specs.Int.{w8, w16}
use Rattle.cjc_bytes.specs.Format.{Format, number, gives, ◌>>=◌, repeated, u1, u2}
use Rattle.cjc_capread.specs.declared.tree.ClassInfo.{ClassInfo}
use Rattle.cjc_capread.specs.declared.tree.InterfaceEntry.{InterfaceEntry}
use Rattle.cjc_capread.specs.declared.tree.ClassEntry.{ClassEntry}
use Rattle.cjc_capread.specs.declared.tree.ImplementedInterface.{ImplementedInterface}
use Rattle.cjc_capread.specs.Parts.{exactly, class_ref, items1}
use Rattle.cjc_capread.specs.Until.{until}

-- an interface behind its flags and the number of its superinterfaces
unfoldable pub interface_entry : ℕ → ℕ → Format InterfaceEntry
interface_entry flags count = do
  superinterfaces ← repeated count class_ref
  gives (record { flags = flags; superinterfaces = superinterfaces })

-- an interface that a class implements, and the token of the virtual method for each of its tokens
unfoldable pub implemented_interface : Format ImplementedInterface
implemented_interface = do
  interface ← class_ref
  index ← items1
  gives (record { interface = interface; index = index })

-- a class behind its flags and the number of its interfaces
unfoldable pub class_entry : ℕ → ℕ → Format ClassEntry
class_entry flags count = do
  superclass ← class_ref
  declared_instance_size ← u1
  first_reference_token ← u1
  reference_count ← u1
  public_base ← u1
  public_count ← u1
  package_base ← u1
  package_count ← u1
  public_methods ← repeated public_count u2
  package_methods ← repeated package_count u2
  interfaces ← repeated count implemented_interface
  gives (record {
    flags = flags;
    superclass = superclass;
    declared_instance_size = declared_instance_size;
    first_reference_token = first_reference_token;
    reference_count = reference_count;
    public_base = public_base;
    package_base = package_base;
    public_methods = public_methods;
    package_methods = package_methods;
    interfaces =
        interfaces;
  })

-- whether a list is empty
abbrev pub is_none : {A : Type 0} → List A → Bool
is_none [] = true
is_none (x ∷ xs) = false

-- the first byte of an info, flags and a count; no interface stands behind a class
abbrev pub first_byte : ClassInfo → ℕ → Option ℕ
first_byte so_far n = if nat_lt n 0x80 then Some n else if is_none so_far.classes then Some n else None

-- one interface more
abbrev pub with_interface : ClassInfo → InterfaceEntry → ClassInfo
with_interface so_far x = record { interfaces = so_far.interfaces ++ x ∷ []; classes = so_far.classes }

-- one class more
abbrev pub with_class : ClassInfo → ClassEntry → ClassInfo
with_class so_far x = record { interfaces = so_far.interfaces; classes = so_far.classes ++ x ∷ [] }

-- what stands behind the first byte: a class or an interface
unfoldable pub entry_content : ClassInfo → Bool → ℕ → Format ClassInfo
entry_content so_far true n = do
  x ← class_entry (n / 16) (n % 16)
  gives (with_class so_far x)
entry_content so_far false n = do
  x ← interface_entry (n / 16) (n % 16)
  gives (with_interface so_far x)

-- the next interface or class, after these
unfoldable pub next_entry : ClassInfo → Format ClassInfo
next_entry so_far = number w8 (first_byte so_far) >>= λ n. entry_content so_far (nat_lt n 0x80) n

-- neither interfaces nor classes
abbrev pub no_entries : ClassInfo
no_entries = record { interfaces = []; classes = [] }

-- the infos up to the end of the file, which has so many bytes
unfoldable pub class_info : ℕ → Format ClassInfo
class_info end = do
  signature_pool ← number w16 (exactly 0)
  until end end next_entry no_entries
