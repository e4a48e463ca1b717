-- Whether a call has a receiver is the same by name and by token.
use Rattle.std.proofs.Common.{◌≡◌, refl, Bool}
use Rattle.cjc_bytes.specs.declared.fault.MemberId.{MemberId}
use Rattle.cjc_card_semantics.specs.CapRead.declared.tree.StaticRef.{StaticRef}
use Rattle.cjc_card_semantics.specs.CapRead.declared.tree.StaticRef.TheVariants as refs
use Rattle.cjc_card_semantics.specs.Machine.Calls.{on_object}
use Rattle.cjc_components.specs.Names.{fixed_as, method_ref}
use Rattle.cjc_components.specs.Package.{Package}
use Rattle.cjc_ncode.specs.Lowering.Naming.{callee}
use Rattle.cjc_ncode.specs.ByLabel.{Callee, Fixed, OnInterface, OnObject, OnSuper}
use Rattle.cjc_ncode.specs.ByLabel
use Rattle.cjc_token_proof.specs.Tables.Loading.{naming}

fixed_object : (on : Bool) (m : MemberId) (r : StaticRef) → on_object (fixed_as on m r) ≡ on
fixed_object on m (refs.Inside offset) = refl
fixed_object on m (refs.Outside file class token) = refl

pub objects_alike : (p : Package) (m : Callee) → on_object (callee (naming p) m) ≡ ByLabel.on_object m
objects_alike p (Fixed on m) = fixed_object on m (method_ref p m)
objects_alike p (OnObject m) = refl
objects_alike p (OnSuper m) = refl
objects_alike p (OnInterface words m) = refl
