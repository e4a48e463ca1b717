-- Dispatch by token is selection by name, over the names of the classes of a world.
use Rattle.std.specs.Prelude.{◌≡◌, ℕ, List, [], ◌∷◌, ◌++◌, true, false, Option, Some, None, slice_get, ◌&&◌}
use Rattle.std.specs.Prelude.{if◌then◌else◌}
use Rattle.std.specs.Str.{bytes_eq}
use Rattle.cjc_world.specs.declared.found.Found.{Found}
use Rattle.cjc_world.specs.Classes.{Member, Class, class_named}
use Rattle.cjc_world.specs.Bytes.AccessFlags.{is_abstract, is_public, is_interface}
use Rattle.cjc_world.specs.Supertypes.{Lists, IsAcyclic, supertypes, upwards, line}
use Rattle.cjc_world.specs.Interfaces.{known}
use Rattle.cjc_world.specs.Added.{asked_by, own_methods}
use Rattle.cjc_world.specs.Lookup.{first, own_method}
use Rattle.cjc_tokens.specs.Members.{Signature, signature_of, all_methods, is_hidden, is_shown, In, chosen}
use Rattle.cjc_tokens.specs.Lines.{line_in, line_of}
use Rattle.cjc_tokens.specs.Slots.{slots, hidden_slots, token}
use Rattle.cjc_tokens.specs.Methods.{interfaces_at, interface_methods}
use Rattle.cjc_vtable.specs.Dispatch.{tower_of, dispatched, dispatched_hidden, dispatched_interface}
use Rattle.cjc_vtable.specs.Calls.{IsOneToOne, is_special, is_clash, is_package_visible, finds_shown, finds_hidden}
use Rattle.cjc_vtable.specs.Calls.{selects, selects_shown, imported_methods}

-- the class is the other, or stands below it over superclasses
pub data Under (w : List Class) : List ℕ → List ℕ → Type 0 where
  itself : {x : List ℕ} → Under w x x
  below : {x y z : List ℕ} (c : Class) → class_named w x ≡ Some c → Lists y c.supers → Under w y z → Under w x z

-- What dispatch by class tables rests on.
pub record KeepsRules (w : List Class) : Type 0 where
  -- no class is its own superclass or superinterface
  pub acyclic : IsAcyclic w
  -- a class file names one superclass
  pub single : (x : List ℕ) (c : Class) → class_named w x ≡ Some c → c.is_imported ≡ false → (s : List ℕ)
      × (c.supers ≡ s ∷ [])
  -- no class of an export file lists a class of the package as a super
  pub apart : (x y : List ℕ) (c d : Class) → class_named w x ≡ Some c → c.is_imported ≡ true → Lists y c.supers
      → class_named w y ≡ Some d → d.is_imported ≡ true
  -- what a class or an interface lists as a superclass is no interface
  pub superclasses : (x y : List ℕ) (c d : Class) → class_named w x ≡ Some c → Lists y c.supers
      → class_named w y ≡ Some d → is_interface d.flags ≡ false
  -- along an imported class that is no interface and its supers, export files don't contradict one another
  pub told : (x : List ℕ) (c : Class) → class_named w x ≡ Some c → c.is_imported ≡ true → is_interface c.flags ≡ false
      → IsOneToOne (c.methods ++ all_methods (upwards (supertypes w c.supers)))
  -- of a method and one of a superclass, not one is package-visible and the other public or protected
  pub access : (x : List ℕ) (c : Class) (m n : Member) → class_named w x ≡ Some c → c.is_imported ≡ false
      → In m c.methods → In n (all_methods (upwards (supertypes w c.supers)))
      → signature_of m ≡ signature_of n → is_special (signature_of m) ≡ false → is_clash m.flags n.flags ≡ false

-- The same of interfaces.
pub record KeepsInterfaces (w : List Class) : Type 0 where
  -- A class that is not abstract has a method for each method of its interfaces: selection gives a public one.
  pub methods : (x : List ℕ) (c : Class) (m : Member) → class_named w x ≡ Some c → c.is_imported ≡ false
      → is_abstract c.flags ≡ false → In m (asked_by (supertypes w c.supers) (supertypes w c.interfaces))
      → (n : Member) × (chosen selects (signature_of m) (all_methods (line w x)) ≡ Some n) × (is_public n.flags ≡ true)
  -- no method of an interface is named like a constructor
  pub plain : (x : List ℕ) (c : Class) (m : Member) → class_named w x ≡ Some c → In m (own_methods c)
      → is_interface c.flags ≡ true → is_special (signature_of m) ≡ false
  -- what a class lists as an interface is one
  pub listed : (x y : List ℕ) (c d : Class) → class_named w x ≡ Some c → Lists y c.interfaces → class_named w y ≡ Some d
      → is_interface d.flags ≡ true

-- No class of the package has a package-visible method where an imported superclass has one.
abbrev pub KeepsImported : List Class → Type 0
KeepsImported w = (x : List ℕ) (c : Class) (m n : Member) → class_named w x ≡ Some c → c.is_imported ≡ false
    → In m c.methods → In n (imported_methods (line_in w (supertypes w c.supers)))
    → signature_of m ≡ signature_of n → is_special (signature_of m) ≡ false
    → (is_package_visible m.flags && is_package_visible n.flags) ≡ false

-- what selection on an object of a class gives
abbrev pub selection : List Class → (class : List ℕ) → Signature → Option Found
selection w x s = first (own_method true s.name s.desc) (line w x)

-- A call on an object of class x, by a method that is found from class y.
pub record CallsAlike (w : List Class) (x y : List ℕ) : Type 0 where
  -- a public or protected one
  pub open_method : (s : Signature) → finds_shown (line_of w y) s ≡ true → (t : ℕ)
      × (token (slots (line_of w y)) s ≡ Some t) × (dispatched (tower_of w x) t ≡ selection w x s)
  -- a package-visible one of the package
  pub package_method : (s : Signature) → finds_hidden (line_of w y) s ≡ true → (t : ℕ)
      × (token (hidden_slots (line_of w y)) s ≡ Some t) × (dispatched_hidden (tower_of w x) t ≡ selection w x s)
  -- one that class y has a token for, as for a method that it got, where selection gives a public or protected one
  pub by_token : (s : Signature) (t : ℕ) → token (slots (line_of w y)) s ≡ Some t → selects_shown (line_of w x) s ≡ true
      → dispatched (tower_of w x) t ≡ selection w x s

-- Virtual calls on an object of a class, which is no interface, by a method that is found from it or from a superclass.
abbrev pub VirtualCallsAgree : List Class → Type 0
VirtualCallsAgree w = (x y : List ℕ) (c d : Class) → class_named w x ≡ Some c → is_interface c.flags ≡ false
    → class_named w y ≡ Some d → Under w x y → CallsAlike w x y

-- the first interface of a name
abbrev pub interface_named : List Class → List ℕ → Option Class
interface_named [] name = None
interface_named (i ∷ is) name = if bytes_eq i.name name then Some i else interface_named is name

-- Calls on an object of a class that is not abstract by a method of one of its interfaces, by the token that the
-- interface gives it.
abbrev pub InterfaceCallsAgree : List Class → Type 0
InterfaceCallsAgree w = (x : List ℕ) (c : Class) → class_named w x ≡ Some c → c.is_imported ≡ false
    → is_abstract c.flags ≡ false
    → (name : List ℕ) (i : Class) (k : ℕ) (s : Signature) → interface_named (known (interfaces_at w c)) name ≡ Some i
    → slice_get (interface_methods w i) k ≡ Some s
    → dispatched_interface (tower_of w x) name k ≡ selection w x s

-- Calls of a package-visible method that an imported class lists, which only a script can name, by its token there. The
-- class of the object is no interface.
abbrev pub ImportedCallsAgree : List Class → Type 0
ImportedCallsAgree w = (x y : List ℕ) (c d : Class) (m : Member) → class_named w x ≡ Some c → is_interface c.flags
    ≡ false → class_named w y ≡ Some d → d.is_imported ≡ true → Under w x y
    → In m (d.methods ++ all_methods (upwards (supertypes w d.supers))) → is_hidden m ≡ true
    → dispatched (tower_of w x) m.token ≡ selection w x (signature_of m)

-- A subclass gives a method the token that its superclass gives it, a token is one method's, and a method of an
-- imported class has the token of its export file.
pub record TokensOnce (w : List Class) (x y : List ℕ) : Type 0 where
  pub inherited : (s : Signature) (t : ℕ) → token (slots (line_of w y)) s ≡ Some t → token (slots (line_of w x)) s
      ≡ Some t
  pub hidden_inherited : (s : Signature) (t : ℕ) → token (hidden_slots (line_of w y)) s ≡ Some t
      → token (hidden_slots (line_of w x)) s ≡ Some t
  pub one_method : (s u : Signature) (t : ℕ) → token (slots (line_of w x)) s ≡ Some t → token (slots (line_of w x)) u
      ≡ Some t → s ≡ u
  pub one_hidden_method : (s u : Signature) (t : ℕ) → token (hidden_slots (line_of w x)) s ≡ Some t
      → token (hidden_slots (line_of w x)) u ≡ Some t → s ≡ u
  pub listed : (d : Class) (m : Member) → class_named w y ≡ Some d → d.is_imported ≡ true
      → In m (d.methods ++ all_methods (upwards (supertypes w d.supers))) → is_shown m ≡ true
      → token (slots (line_of w y)) (signature_of m) ≡ Some m.token

-- So it is of each class that is no interface and its superclasses: an interface's methods have tokens of their own,
-- which
-- are also those of methods of java/lang/Object.
abbrev pub TokensAreOnce : List Class → Type 0
TokensAreOnce w = (x y : List ℕ) (c d : Class) → class_named w x ≡ Some c → is_interface c.flags ≡ false
    → class_named w y ≡ Some d → Under w x y → TokensOnce w x y
