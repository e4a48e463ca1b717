-- What is asked of classes in export files that implement interfaces.
use Rattle.std.specs.Prelude.{◌≡◌, ℕ, List, Some, false, true}
use Rattle.cjc_bytes.specs.AccessFlags.{is_interface}
use Rattle.cjc_tokens.specs.Members.{In, all_methods, chosen, is_exposed, signature_of}
use Rattle.cjc_vtable.specs.Calls.{selects}
use Rattle.cjc_world.specs.Classes.{Class, Member, class_named}
use Rattle.cjc_world.specs.Kin.{line}
use Rattle.cjc_world.specs.Subtype.{is_subtype}

-- For a method of one of its interfaces, selection on a class of an export file gives none that is package-visible: what implements a public method
-- is public (Java Language Specification, section 8.4.8.3).
abbrev pub ExportsImplement : List Class → Type 0
ExportsImplement w =
    (x : List ℕ) (c i : Class) (asked given : Member) → class_named w x ≡ Some c → c.is_imported ≡ true → is_interface c.flags ≡ false → class_named w i.name ≡ Some i → is_interface i.flags ≡ true → is_subtype w x i.name ≡ true
    → In asked i.methods → chosen selects (signature_of asked) (all_methods (line w x)) ≡ Some given → is_exposed given.flags ≡ true
