-- Rule 304: flags that a class, a field or a method may not have.
use Rattle.std.specs.Prelude.{ℕ, List, Bool, not, ◌&&◌, ◌||◌}
use Rattle.cjc_bytes.specs.AccessFlags.{acc_annotation, acc_enum, acc_native, acc_strict, acc_synchronized}
use Rattle.cjc_bytes.specs.AccessFlags.{acc_transient, acc_volatile, has, is_abstract, is_private, is_protected}
use Rattle.cjc_bytes.specs.AccessFlags.{is_public, is_static}
use Rattle.cjc_subset.specs.Members.{is_constructor, is_initialiser}

-- more than one of public, private and protected
abbrev pub has_two_accesses : ℕ → Bool
has_two_accesses flags =
    (is_public flags && is_private flags) || (is_public flags && is_protected flags)
    || (is_private flags && is_protected flags)

-- enum or annotation
abbrev pub is_unfit_class : ℕ → Bool
is_unfit_class flags = has flags acc_enum || has flags acc_annotation

-- of a field of a class or of an interface
abbrev pub is_unfit_field : (interface : Bool) → ℕ → Bool
is_unfit_field interface flags =
    has_two_accesses flags
    -- a field of an interface that is not static
    || (interface && not (is_static flags))
    -- volatile or transient
    || has flags acc_volatile
    || has flags acc_transient

-- of a method, whatever its name
abbrev pub is_unfit_method_kind : ℕ → Bool
is_unfit_method_kind flags =
    -- native, synchronized or strictfp
    has flags acc_native
    || has flags acc_synchronized
    || has flags acc_strict
    || has_two_accesses flags
    -- abstract beside static or private
    || (is_abstract flags && (is_static flags || is_private flags))

-- of a method of a class or of an interface, by its name and whether it has code
abbrev pub is_unfit_method : (interface : Bool) → (flags : ℕ) → (name : List ℕ) → (has_code : Bool) → Bool
is_unfit_method interface flags name has_code =
    is_unfit_method_kind flags
    -- abstract on a constructor or <clinit>
    || (is_abstract flags && (is_constructor name || is_initialiser name))
    -- a <clinit> that is not static
    || (is_initialiser name && not (is_static flags))
    -- a method of an interface with code, <clinit> aside
    || (interface && has_code && not (is_initialiser name))
