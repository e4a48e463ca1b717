-- What calls select by name, and what they select by token (Java Card Virtual Machine Specification 2.2.2, section
-- 7.5).
use Rattle.std.specs.Prelude.{◌≡◌, ℕ, List, Some, true, false, slice_get}
use Rattle.cjc_bytes.specs.AccessFlags.{is_abstract}
use Rattle.cjc_bytes.specs.declared.fault.MemberId.{MemberId}
use Rattle.cjc_card_semantics.specs.Machine.Dispatch.{Open, Hidden, dispatched, dispatched_interface, tower}
use Rattle.cjc_world.specs.declared.found.Found.{Found}
use Rattle.cjc_world.specs.Classes.{Class, class_named}
use Rattle.cjc_world.specs.Interfaces.{known}
use Rattle.cjc_tokens.specs.Members.{Signature}
use Rattle.cjc_tokens.specs.Lines.{line_of}
use Rattle.cjc_tokens.specs.Methods.{interfaces_at, interface_methods}
use Rattle.cjc_tokens.specs.Slots.{slots, hidden_slots, token}
use Rattle.cjc_vtable.specs.Calls.{finds_shown, finds_hidden, selects_shown}
use Rattle.cjc_vtable.specs.Laws.{Under, selection, interface_named}
use Rattle.cjc_vtable.specs.Naming.{named}
use Rattle.cjc_ncode.specs.Lowering.Naming.{Naming}
use Rattle.cjc_jvm_semantics.specs.OnePackage.{is_initialiser}
use Rattle.cjc_token_proof.specs.ByToken.Supers.{has_class}
use Rattle.cjc_token_proof.specs.Calls.Dispatching.{selection_of}

-- the name and the descriptor of a method
abbrev pub signature : MemberId → Signature
signature m = record { name = m.name; desc = m.desc }

-- A virtual method that code names through a class has a token there, by which it is called on objects of class x: a
-- public or protected method that is
-- found from the named class, a package-visible one, or one that the class got, with the high bit for a package-visible
-- one.
pub data SaysToken (w : List Class) (n : Naming) (x : List ℕ) (m : MemberId) : Type 0 where
  open_method : finds_shown (line_of w m.class) (signature m) ≡ true
      → ((t : ℕ) → token (slots (line_of w m.class)) (signature m) ≡ Some t → n.dispatch_token m ≡ Open t)
      → SaysToken w n x m
  package_method : finds_hidden (line_of w m.class) (signature m) ≡ true
      → ((t : ℕ) → token (hidden_slots (line_of w m.class)) (signature m) ≡ Some t
      → n.dispatch_token m ≡ Hidden n.part t) → SaysToken w n x m
  got : (t : ℕ) → token (slots (line_of w m.class)) (signature m) ≡ Some t → n.dispatch_token m ≡ Open t
      → ((f : Found) → Under w x m.class → selection w x (signature m) ≡ Some f
      → selects_shown (line_of w x) (signature m) ≡ true) → SaysToken w n x m

-- A method of an interface has the token of its place among the interface's methods, and the interface is one of the
-- class's.
pub record SaysInterface (w : List Class) (n : Naming) (m : MemberId) (c : Class) : Type 0 where
  pub interface : Class
  pub among : interface_named (known (interfaces_at w c)) m.class ≡ Some interface
  pub there : slice_get (interface_methods w interface) (n.interface_token m) ≡ Some (signature m)
  pub has : has_class w m.class ≡ true
  pub plain : is_initialiser m.name ≡ false

-- Where a call by name selects a method on an object of a class, the call by token selects it: by its offset, or as the
-- event of
-- the first imported class at or above the object's class.
pub record SelectionsAgree (w : List Class) (n : Naming) (offset : Found → ℕ) (x z : List ℕ) : Type 0 where
  pub virtual_call : (m : MemberId) (d : Class) (f : Found) → class_named w m.class ≡ Some d → Under w x m.class
      → SaysToken w n x m → selection w x (signature m) ≡ Some f → named w f ≡ Some (signature m)
      → dispatched (tower n.loaded (n.class x)) (n.dispatch_token m) ≡ selection_of n offset z (signature m) f
  pub interface_call : (m : MemberId) (c : Class) (f : Found) → class_named w x ≡ Some c → c.is_imported ≡ false
      → is_abstract c.flags ≡ false → SaysInterface w n m c → selection w x (signature m) ≡ Some f
      → named w f ≡ Some (signature m)
      → dispatched_interface n.loaded (Some (n.class x)) (n.class m.class) (n.interface_token m)
      ≡ selection_of n offset z (signature m) f
