-- What export files say of the access of methods.
use Rattle.std.specs.Prelude.{◌≡◌, ℕ, List, Some, true, false}
use Rattle.cjc_bytes.specs.AccessFlags.{is_private}
use Rattle.cjc_world.specs.Classes.{Class, Member, class_named}
use Rattle.cjc_tokens.specs.Members.{In, is_exposed}

-- No method of an imported class is private beside public or protected.
abbrev pub ExportsHaveOneAccess : List Class → Type 0
ExportsHaveOneAccess w =
    (x : List ℕ) (c : Class) (m : Member) → class_named w x ≡ Some c → c.is_imported ≡ true
    → In m c.methods → is_exposed m.flags ≡ true → is_private m.flags ≡ false
