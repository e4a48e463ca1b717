-- What the tokens of virtual methods mean on the objects of a class (Java Card Virtual Machine Specification 2.2.2,
-- sections 4.3.7.6 and 7.5).
use Rattle.std.specs.Prelude.{◌≡◌, ℕ, List, Some, slice_get, true, false}
use Rattle.cjc_world.specs.Bytes.AccessFlags.{is_interface, is_private}
use Rattle.cjc_world.specs.declared.found.Found.{Found}
use Rattle.cjc_world.specs.Classes.{Class, Member, class_at, class_named}
use Rattle.cjc_world.specs.Interfaces.{known}
use Rattle.cjc_tokens.specs.Lines.{line_of}
use Rattle.cjc_tokens.specs.Members.{In, Signature, is_exposed}
use Rattle.cjc_tokens.specs.Methods.{interface_methods, interfaces_at}
use Rattle.cjc_tokens.specs.Slots.{hidden_slots, implementing, implementing_hidden, slots, token}
use Rattle.cjc_vtable.specs.Dispatch.{dispatched, dispatched_hidden, tower_of}
use Rattle.cjc_vtable.specs.Naming.{named}

-- The method that a token of a class means: the nearest class that has one of the name and the descriptor has it.
pub record IsMeant (w : List Class) (x : List ℕ) (s : Signature) (t : ℕ) : Type 0 where
  pub method : Found
  pub nearest : implementing (line_of w x) s ≡ Some method
  pub by_token : dispatched (tower_of w x) t ≡ Some method
  pub name : named w method ≡ Some s

-- the same of a package-visible method, by its token without the high bit
pub record IsMeantHere (w : List Class) (x : List ℕ) (s : Signature) (t : ℕ) : Type 0 where
  pub method : Found
  pub nearest : implementing_hidden (line_of w x) s ≡ Some method
  pub by_token : dispatched_hidden (tower_of w x) t ≡ Some method
  pub own : method.imported ≡ false

-- Each token of each class that is no interface means a method, and so does each package-visible one of each class.
abbrev pub TokensMean : List Class → Type 0
TokensMean w = (x : List ℕ) (c : Class) → class_named w x ≡ Some c → is_interface c.flags ≡ false
    → (s : Signature) (t : ℕ) → token (slots (line_of w x)) s ≡ Some t → IsMeant w x s t

-- each token of a package-visible method means a method of the package
abbrev pub PackageTokensMean : List Class → Type 0
PackageTokensMean w = (x : List ℕ) (c : Class) → class_named w x ≡ Some c → (s : Signature) (t : ℕ)
    → token (hidden_slots (line_of w x)) s ≡ Some t → IsMeantHere w x s t

-- Each method of an interface of a class of the package has a token there.
abbrev pub AskedHaveTokens : List Class → Type 0
AskedHaveTokens w =
    (x : List ℕ) (c : Class) → class_named w x ≡ Some c → c.is_imported ≡ false → is_interface c.flags ≡ false
    → (j : ℕ) (i : Class) → slice_get (known (interfaces_at w c)) j ≡ Some i
    → (k : ℕ) (s : Signature) → slice_get (interface_methods w i) k ≡ Some s → (t : ℕ)
    × (token (slots (line_of w x)) s ≡ Some t)

-- a class that a name finds is the one of its number
abbrev pub AreNumbered : List Class → Type 0
AreNumbered w = (x : List ℕ) (c : Class) → class_named w x ≡ Some c → class_at w c.is_imported c.number ≡ Some c

-- No method is private beside public or protected.
abbrev pub HaveOneAccess : List Class → Type 0
HaveOneAccess w = (x : List ℕ) (c : Class) (m : Member) → class_named w x ≡ Some c → In m c.methods
    → is_exposed m.flags ≡ true → is_private m.flags ≡ false
