-- What each class of a package that breaks no rule of classes and names keeps itself.
use Rattle.std.specs.Prelude.{◌≡◌, ℕ, List, false, true, slice_get, Some}
use Rattle.cjc_world.specs.Classes.{Class, Member}
use Rattle.cjc_world.specs.Rules.{is_of_package, is_second, is_twice, lists_missing, lists_wrong}

-- 201 and 203, of the package alone; 202 of the class and of its members; 208.
pub record KeepsRules (package_name : List ℕ) (w : List Class) (c : Class) : Type 0 where
  pub of_package : c.is_imported ≡ false → is_of_package package_name c.name ≡ true
  pub once : is_second w c ≡ false
  pub there : c.is_imported ≡ false → lists_missing w c ≡ false
  pub supers : lists_wrong w c ≡ false
  pub fields : (k : ℕ) (m : Member) → slice_get c.fields k ≡ Some m → is_twice c.fields k m.name m.desc ≡ false
  pub methods : (k : ℕ) (m : Member) → slice_get c.methods k ≡ Some m → is_twice c.methods k m.name m.desc ≡ false
