-- The fields of objects, and fields that look-ups find.
use Rattle.std.proofs.Common.{◌≡◌, ℕ, zero, suc, sym, ap, subst, ◌∙◌, Bool, true, false, List, [], ◌∷◌, ◌++◌, reverse}
use Rattle.std.proofs.Common.{⊎_elim}
use Rattle.std.specs.Prelude.{Some, slice_get, if◌then◌else◌}
use Rattle.std.specs.List.{flat_map}
use Rattle.std.proofs.lemmas.List.{reverse-append}
use Rattle.cjc_bytes.specs.AccessFlags.{is_static}
use Rattle.cjc_world.specs.Classes.{Class, Member, all_classes}
use Rattle.cjc_world.specs.Files.{Files}
use Rattle.cjc_world.specs.Supertypes.{line}
use Rattle.cjc_jvm_semantics.specs.OnePackage.{declared_fields, instance_fields, member_of, object_fields}
use Rattle.cjc_world_proof.specs.Calls.Solid.{IsSolid}
use Rattle.cjc_world.specs.Upwards.{Has, OnLine, after, foremost}
use Rattle.cjc_world.proofs.UpwardLaws.Lines.{has-back, has-cons, has-front, in_line}

has-reverse : {A : Type 0} (x : A) (xs : List A) → Has x xs → Has x (reverse xs)
has-reverse x [] h = elim h [ ]
has-reverse x (y ∷ xs) h = subst (Has x) (sym (reverse-append (y ∷ []) xs)) (⊎_elim
    (λ same. subst (λ z. Has z (reverse xs ++ y ∷ [])) (sym same) (has-back y (reverse xs) (y ∷ []) foremost))
    (λ g. has-front x (reverse xs) (y ∷ []) (has-reverse x xs g))
    (has-cons x y xs h))

has-flat : {A B : Type 0} (f : A → List B) (x : A) (y : B) (xs : List A) → Has x xs → Has y (f x)
    → Has y (flat_map f xs)
has-flat f x y [] h g = elim h [ ]
has-flat f x y (z ∷ xs) h g = ⊎_elim (λ same. has-front y (f z) (flat_map f xs) (subst (λ v. Has y (f v)) same g))
    (λ more. has-back y (f z) (flat_map f xs) (has-flat f x y xs more g)) (has-cons x z xs h)

of_objects : (class : List ℕ) (ms : List Member) (i : ℕ) (m : Member) → slice_get ms i ≡ Some m
    → is_static m.flags ≡ false → Has (member_of class m) (instance_fields class ms)
of_objects class [] i m e plain = absurd cc
of_objects class (f ∷ ms) zero m e plain = let same : f ≡ m = cc
    in keep (is_static f.flags) (ap (λ (v : Member). is_static v.flags) same ∙ plain) same
  where
    keep : (b : Bool) → b ≡ false → f ≡ m → Has (member_of class m) (if b then instance_fields class ms
        else member_of class f ∷ instance_fields class ms)
    keep false e same = subst (λ (v : Member). Has (member_of class m) (member_of class v ∷ instance_fields class ms))
        (sym same) foremost
    keep true e same = absurd cc
of_objects class (f ∷ ms) (suc i) m e plain = skip (is_static f.flags) (of_objects class ms i m e plain)
  where
    skip : (b : Bool) → Has (member_of class m) (instance_fields class ms) → Has (member_of class m) (if b
        then instance_fields class ms else member_of class f ∷ instance_fields class ms)
    skip true h = h
    skip false h = after h

-- An object of a class has each field of objects that the class or a superclass in the package declares.
pub object_has : (files : Files) (solid : IsSolid files) (x : List ℕ) (d : Class) (i : ℕ) (m : Member)
    → OnLine (all_classes files) x d → d.is_imported ≡ false → slice_get d.fields i ≡ Some m → is_static m.flags ≡ false
    → Has (member_of d.name m) (object_fields (all_classes files) x)
object_has files solid x d i m on own e plain =
    let w = all_classes files in
    let here : Has (member_of d.name m) (declared_fields d) = subst (λ b. Has (member_of d.name m) (if b then []
    else instance_fields d.name d.fields)) (sym own) (of_objects d.name d.fields i m e plain) in
    has-flat declared_fields d (member_of d.name m) (reverse (line w x)) (has-reverse d (line w x)
    (in_line w solid.ordered.acyclic x d on)) here
