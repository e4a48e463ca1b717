-- The static methods and constructors that an export file lists are those that the classes of the package declare.
use Rattle.std.proofs.Common.{◌≡◌, ℕ, refl, sym, ap, subst, ◌∙◌, Bool, true, false, List, [], ◌∷◌, map, Some}
use Rattle.std.specs.Prelude.{◌&&◌, ◌==◌, Option, None, slice_get, if◌then◌else◌}
use Rattle.std.proofs.lemmas.Bool.{eqb-true}
use Rattle.cjc_bytes.specs.AccessFlags.{is_interface, is_static}
use Rattle.cjc_bytes.proofs.Gets.{mapped_at}
use Rattle.cjc_check_proof.specs.TokenProof.WrittenCalls.Calls.{NoStaticMethods}
use Rattle.cjc_classes.specs.List.Listed.{ListTree}
use Rattle.cjc_components.specs.ExportFile.{export_class}
use Rattle.cjc_components.specs.Exports.{exported_classes}
use Rattle.cjc_components.specs.Package.{Package, world}
use Rattle.cjc_narrow_proof.specs.CardSemantics.Machine.Operations.{unbound_of}
use Rattle.cjc_shape.proofs.ExportedOwn.{IsOwn, own_class}
use Rattle.cjc_shape.specs.LowerJudge.declared.judged.Judged.{Judged}
use Rattle.cjc_tokens.specs.Members.{is_initialiser}
use Rattle.cjc_vtable.proofs.Filed.{Has, IsFiled, at_front, behind, filed, in_class_file, in_export_file}
use Rattle.cjc_world.specs.Classes.{Class, Member, class_named, declared, method_of_export}
use Rattle.cjc_world.specs.ExportFile.Members.{is_unbound}
use Rattle.cjc_world.specs.ExportFile.declared.tree.ExportMethod.{ExportMethod}
use Rattle.cjc_shape_proof.proofs.WritingLaws.Interfaces.{none_unbound}
use Rattle.cjc_shape_proof.proofs.WrittenLaws.FittingLaws.ClassMethods.{unbound_own}
use Rattle.cjc_shape_proof.specs.Written.Converted.{ExportsArePlain}
use Rattle.cjc_shape_proof.specs.Written.Entries.{IsOwnUnbound, UnboundAreOwn}
use Rattle.cjc_shape_proof.specs.Written.LaidOut.{IsLaidOut}

-- what is found by a token is in the list, unbound, and has the token
pub unbound_in : (xs : List ExportMethod) (t : ℕ) (e : ExportMethod) → unbound_of xs t ≡ Some e → Has e xs
    × (is_unbound e.flags e.name ≡ true) × (e.token ≡ t)
unbound_in [] t e h = cc
unbound_in (x ∷ xs) t e h = by (is_unbound x.flags x.name) refl (x.token == t) refl h (unbound_in xs t e)
  where
    by : (a : Bool) → is_unbound x.flags x.name ≡ a → (b : Bool) → (x.token == t) ≡ b → (if a && b then Some x
        else unbound_of xs t) ≡ Some e → (unbound_of xs t ≡ Some e → Has e xs × (is_unbound e.flags e.name ≡ true)
        × (e.token ≡ t)) → Has e (x ∷ xs) × (is_unbound e.flags e.name ≡ true) × (e.token ≡ t)
    by true f true g i rest = let same : x ≡ e = cc in (
      subst (λ (y : ExportMethod). Has y (x ∷ xs)) same at_front,
      ap (λ (y : ExportMethod). is_unbound y.flags y.name) (sym same) ∙ f,
      ap (λ (y : ExportMethod). y.token) (sym same) ∙ eqb-true x.token t g,
    )
    by true f false g i rest = let r = rest i in (behind r.0, r.1, r.2)
    by false f b g i rest = let r = rest i in (behind r.0, r.1, r.2)

module _ (list : ListTree) (files : List (List ℕ)) (judged : Judged) (p : Package) (is : IsLaidOut list files judged p)
    (plain : ExportsArePlain p.files) (static : NoStaticMethods (world p)) where
  abbrev w : List Class
  w = world p

  -- no method of an interface is static but its initialiser
  bare : (d : Class) (k : ℕ) (m : Member) → class_named w d.name ≡ Some d → is_interface d.flags ≡ true
      → slice_get d.methods k ≡ Some m → is_initialiser m.name ≡ false → is_static m.flags ≡ false
  bare d k m known kind at start = by (filed p.files d.name d known) known kind at
    where
      own : (d : Class) → class_named w d.name ≡ Some d → is_interface d.flags ≡ true → d.is_imported ≡ false
          → slice_get d.methods k ≡ Some m → (b : Bool) → is_static m.flags ≡ b → b ≡ false
      own d e f g h true s = let z : false ≡ true = sym start ∙ static d.name d e g f k m h s in absurd (cc)
      own d e f g h false s = refl

      by : {d : Class} → IsFiled p.files d → class_named w d.name ≡ Some d → is_interface d.flags ≡ true
          → slice_get d.methods k ≡ Some m → is_static m.flags ≡ false
      by {d = d} (in_class_file n t there) e f h = own d e f refl h (is_static m.flags) refl
      by (in_export_file n c there) e f h =
          let r = mapped_at method_of_export c.methods k m h in
          ap (λ (y : Member). is_static y.flags) (sym r.2) ∙ (plain.interfaces n c there f k r.0 r.1).1

  class_unbound : (k : ℕ) (owner : Class) (at : slice_get (exported_classes p) k ≡ Some owner) (e : ExportMethod)
      → Has e (let x = export_class p owner in x.methods) → is_unbound e.flags e.name ≡ true → IsOwnUnbound p owner e
  class_unbound k owner at e h u = subst (λ (d : Class). IsOwnUnbound p d e) (sym own.is)
      (by (let t = own.tree in is_interface t.flags) refl)
    where
      own : IsOwn p owner
      own = own_class p k owner at

      there : Has e (let x = export_class p (declared own.number own.tree) in x.methods)
      there = subst (λ (d : Class). Has e (let x = export_class p d in x.methods)) own.is h

      by : (b : Bool) → (let t = own.tree in is_interface t.flags ≡ b) → IsOwnUnbound p (declared own.number own.tree) e
      by true f = let z : false ≡ true = sym (none_unbound list files judged p is k owner at f bare e there) ∙ u
          in absurd (cc)
      by false f = unbound_own list files judged p is k owner at f e there u

  pub unbound_are_own : UnboundAreOwn p
  unbound_are_own k t c e at h =
      let r = unbound_in (let x = export_class p c in x.methods) t e h in (r.2, class_unbound k c at e r.0 r.1)
