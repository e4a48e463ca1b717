-- What calls select is the same by name and by token.
use Rattle.std.proofs.Common.{◌≡◌, ℕ, ap, ◌∙◌, false, List}
use Rattle.std.specs.Prelude.{Some}
use Rattle.cjc_bytes.specs.AccessFlags.{is_abstract, is_interface}
use Rattle.cjc_bytes.specs.declared.fault.MemberId.{MemberId}
use Rattle.cjc_card_semantics.specs.Machine.Dispatch.{dispatched, dispatched_interface, tower}
use Rattle.cjc_world.specs.declared.found.Found.{Found}
use Rattle.cjc_world.specs.Classes.{Class, class_named}
use Rattle.cjc_vtable.specs.Laws.{Under, selection, VirtualCallsAgree, InterfaceCallsAgree}
use Rattle.cjc_vtable.specs.Naming.{named}
use Rattle.cjc_ncode.specs.Lowering.Naming.{Naming}
use Rattle.cjc_token_proof.specs.Calls.Dispatching.{selection_of, DispatchAgrees}
use Rattle.cjc_token_proof.specs.Calls.Selecting.{signature, SaysToken, open_method, package_method, got, SaysInterface}
use Rattle.cjc_token_proof.specs.Calls.Selecting.{SelectionsAgree}

module _ (w : List Class) (n : Naming) (offset : Found → ℕ) (x z : List ℕ) (k : Class) (object_class : class_named w x
    ≡ Some k) (class_here : is_interface k.flags ≡ false) (virtual_calls : VirtualCallsAgree w) (interface_calls :
    InterfaceCallsAgree w) (agrees : DispatchAgrees w n offset x z) where
  virtual_same : (m : MemberId) (d : Class) (f : Found) → class_named w m.class ≡ Some d → Under w x m.class
      → SaysToken w n x m → selection w x (signature m) ≡ Some f → named w f ≡ Some (signature m)
      → dispatched (tower n.loaded (n.class x)) (n.dispatch_token m) ≡ selection_of n offset z (signature m) f
  virtual_same m d f known under (open_method finds is_token) selects is =
      let calls = virtual_calls x m.class k d object_class class_here known under in
      let r = calls.open_method (signature m) finds in
      ap (dispatched (tower n.loaded (n.class x))) (is_token r.0 r.1) ∙ agrees.open_method r.0 f (signature m) (r.2
      ∙ selects) is
  virtual_same m d f known under (package_method finds is_token) selects is =
      let calls = virtual_calls x m.class k d object_class class_here known under in
      let r = calls.package_method (signature m) finds in
      ap (dispatched (tower n.loaded (n.class x))) (is_token r.0 r.1) ∙ agrees.package_method r.0 f (signature m) (r.2
      ∙ selects)
  virtual_same m d f known under (got t token_there is_token shown) selects is =
      let calls = virtual_calls x m.class k d object_class class_here known under in
      ap (dispatched (tower n.loaded (n.class x))) is_token
      ∙ agrees.open_method t f (signature m) (calls.by_token (signature m) t token_there (shown f under selects)
      ∙ selects) is

  interface_same : (m : MemberId) (c : Class) (f : Found) → class_named w x ≡ Some c → c.is_imported ≡ false
      → is_abstract c.flags ≡ false → SaysInterface w n m c → selection w x (signature m) ≡ Some f
      → named w f ≡ Some (signature m)
      → dispatched_interface n.loaded (Some (n.class x)) (n.class m.class) (n.interface_token m)
      ≡ selection_of n offset z (signature m) f
  interface_same m c f known own made says selects is =
      agrees.interface_method m.class (n.interface_token m) f (signature m) says.has (interface_calls x c known own made
      m.class says.interface (n.interface_token m) (signature m) says.among says.there ∙ selects) is

  pub selections_agree : SelectionsAgree w n offset x z
  selections_agree = record { virtual_call = virtual_same; interface_call = interface_same }
