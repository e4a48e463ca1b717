-- Which kinds of methods a class of the package has, told by flags alone: what is broken against another class follows
-- from
-- the kinds of both where neither name nor descriptor is looked at.
use Rattle.std.specs.Prelude.{ℕ, List, Bool, not, ◌&&◌, ◌||◌}
use Rattle.std.specs.List.{list_any}
use Rattle.cjc_code.specs.ClassFile.declared.tree.ClassTree.{ClassTree}
use Rattle.cjc_code.specs.ClassFile.declared.tree.MethodTree.{MethodTree}
use Rattle.cjc_bytes.specs.AccessFlags.{is_abstract, is_interface, is_private, is_static}
use Rattle.cjc_subset.specs.declared.kinds.Kinds.{Kinds}
use Rattle.cjc_subset.specs.Overriding.{is_open, is_package_visible, is_special}

-- private or static
abbrev pub is_closed : ℕ → Bool
is_closed flags = is_private flags || is_static flags

-- neither private nor static
abbrev pub is_instance : ℕ → Bool
is_instance flags = not (is_closed flags)

-- static and not private
abbrev pub is_shared : ℕ → Bool
is_shared flags = not (is_private flags) && is_static flags

-- some method that is no constructor and no <clinit> has such flags
abbrev pub has_kind : (ℕ → Bool) → List MethodTree → Bool
has_kind test ms = list_any (λ m. not (is_special m.name) && test m.flags) ms

-- some method is abstract or an interface's
abbrev pub asks : ClassTree → Bool
asks c = list_any (λ m. is_abstract m.flags || is_interface c.flags) c.methods

-- the kinds that a class has
abbrev pub kinds_of : ClassTree → Kinds
kinds_of c = record {
  has_open = has_kind is_open c.methods;
  has_package_visible = has_kind is_package_visible c.methods;
  has_closed = has_kind is_closed c.methods;
  has_instance = has_kind is_instance c.methods;
  has_shared = has_kind is_shared c.methods;
  has_asking = asks c;
}

-- a class of the first kinds may break 305, 306 or 307 against one of the second
abbrev pub may_break : Kinds → Kinds → Bool
may_break own other =
    other.has_asking
    || (own.has_package_visible && other.has_open)
    || (own.has_open && other.has_package_visible)
    || (own.has_closed && other.has_instance)
    || (own.has_instance && other.has_shared)
