-- Access to members (Java Virtual Machine Specification, section 5.4.4). Access to classes is not tested.
use Rattle.std.specs.Prelude.{ℕ, List, Bool, not, ◌&&◌, ◌||◌, if◌then◌else◌}
use Rattle.std.specs.Str.{bytes_eq}
use Rattle.cjc_world.specs.Classes.{Class}
use Rattle.cjc_bytes.specs.AccessFlags.{is_public, is_protected, is_private, is_static}
use Rattle.cjc_world.specs.Supertypes.{is_below}

-- Whether code of the class `holder`, which is of the package, may use a member with these flags that the class
-- `owner` declares and that it names by the class `named`.
unfoldable pub is_accessible : List Class → (holder named : List ℕ) → (owner : Class) → (flags : ℕ) → Bool
is_accessible w holder named owner flags =
    is_public flags
    || (if is_private flags then not owner.is_imported && bytes_eq owner.name holder
    else not owner.is_imported
    || (is_protected flags && is_below w holder owner.name && (is_static flags || is_below w named holder
    || is_below w holder named)))
