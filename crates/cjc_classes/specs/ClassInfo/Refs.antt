-- The class_refs that are kept by the names of classes (Java Card Virtual Machine Specification 2.2.2, section 6.1).
use Rattle.std.specs.Prelude.{◌≡◌, ℕ, List, Option, unwrap_or}
use Rattle.std.specs.HashMap.{get_by}
use Rattle.std.specs.Str.{bytes_eq}
use Rattle.cjc_components.specs.LowerCapRead.declared.tree.ClassRef.{ClassRef}
use Rattle.cjc_components.specs.LowerCapRead.declared.tree.ClassRef.TheVariants.{Inside}
use Rattle.cjc_components.specs.Package.{Package}
use Rattle.cjc_components.specs.Names.{class_ref}
use Rattle.cjc_classes.specs.declared.class_info.refs.ClassRefs.{ClassRefs}

-- what is noted for a name
abbrev pub ref_in : ClassRefs → (name : List ℕ) → Option ClassRef
ref_in r name = get_by (λ k. bytes_eq name k.items) r.refs

-- the class_ref of a name; the offset 0 where nothing is noted
unfoldable pub ref_of : ClassRefs → (name : List ℕ) → ClassRef
ref_of r name = unwrap_or (ref_in r name) (Inside 0)

-- They are those of a package.
abbrev pub AreRefs : Package → ClassRefs → Type 0
AreRefs p r = (name : List ℕ) → ref_of r name ≡ class_ref p name
