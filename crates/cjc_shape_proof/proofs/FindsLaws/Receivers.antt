-- What may be there, as a receiver of calls and fields.
use Rattle.std.proofs.Common.{◌≡◌, ℕ, refl, sym, ap, subst, ◌∙◌, Bool, true, false, List, [], ◌∷◌, inl, inr}
use Rattle.std.specs.Prelude.{not, ◌&&◌, ◌||◌, Option, Some, None, option_and_then, if◌then◌else◌}
use Rattle.std.specs.List.{list_all}
use Rattle.cjc_bytes.specs.AccessFlags.{is_abstract, is_interface}
use Rattle.cjc_bytes.specs.declared.fault.MemberId.{MemberId}
use Rattle.cjc_classes.specs.JvmSemantics.Linked.{Method}
use Rattle.cjc_classes.specs.JvmSemantics.OnePackage.{is_made, is_plain_import, made_of, object_fields}
use Rattle.cjc_check_proof.specs.WorldProof.Calls.Solid.{IsSolid}
use Rattle.cjc_check_proof.specs.WorldProof.Calls.Targets.{IsReceiver}
use Rattle.cjc_check_proof.specs.WorldProof.Files.{ExportsAreSound}
use Rattle.cjc_check_proof.proofs.WorldProofTypes.{receiver_class}
use Rattle.cjc_classes.specs.Narrow.Rows.Package.{named, plain_import}
use Rattle.cjc_narrow_proof.specs.NCode.ByLabel.{Named}
use Rattle.cjc_narrow_proof.specs.NCode.declared.narrow.NMethod.{NMethod}
use Rattle.cjc_narrow_proof.specs.Script.Sorts.{Booleans, Bytes, Ints, OfClass, OfNumbers, OfReferences, Shape, Shorts}
use Rattle.cjc_narrow_proof.specs.Script.Sorts.{shape_name}
use Rattle.cjc_narrow_proof.specs.Script.Sorts.{shape_named}
use Rattle.cjc_narrow_proof.specs.Selection.Relation.{HasObjects, IsMadeOf, bare, made}
use Rattle.cjc_narrow_proof.specs.Selection.Replies.{is_of_some}
use Rattle.cjc_narrow_proof.specs.Tables.Kinds.{is_named, is_one_of}
use Rattle.cjc_narrow_proof.proofs.TablesLaws.Spelt.{shape_spelt}
use Rattle.cjc_world.specs.Classes.{Class, all_classes, class_named, imported}
use Rattle.cjc_world.specs.Files.{Files}
use Rattle.cjc_world.specs.Lookup.{object, receiver}
use Rattle.cjc_world.specs.Subtype.{is_subtype}
use Rattle.cjc_world.specs.declared.image.StaticImage.{StaticImage}
use Rattle.cjc_world.proofs.Subtypes.{transitive}

both_not : (a b : Bool) → (not a && not b) ≡ true → (a ≡ false) × (b ≡ false)
both_not false false e = (refl, refl)
both_not true b e = absurd cc
both_not false true e = absurd cc

import_open : (a b : Bool) → (a && not b) ≡ true → (a ≡ true) × (b ≡ false)
import_open true false e = (refl, refl)
import_open true true e = absurd cc
import_open false b e = absurd cc

-- Objects are made of a class that is there, no interface and not abstract, with its fields.
pub record IsMadeClass (w : List Class) (name : List ℕ) (fields : List MemberId) : Type 0 where
  pub class : Class
  pub found : class_named w name ≡ Some class
  pub no_interface : is_interface class.flags ≡ false
  pub no_abstract : is_abstract class.flags ≡ false
  pub fields_are : fields ≡ object_fields w name

pub made_class : (w : List Class) (name : List ℕ) (fields : List MemberId) → made_of w name ≡ Some fields
    → IsMadeClass w name fields
made_class w name fields e = by (class_named w name) refl e
  where
    by : (o : Option Class) → class_named w name ≡ o → option_and_then (λ c. if is_made c
        then Some (object_fields w name) else None) o ≡ Some fields → IsMadeClass w name fields
    by None f e = absurd cc
    by (Some c) f e = go (is_made c) refl e
      where
        go : (b : Bool) → is_made c ≡ b → (if b then Some (object_fields w name) else None) ≡ Some fields
            → IsMadeClass w name fields
        go false g e = absurd cc
        go true g e =
            let h = both_not (is_interface c.flags) (is_abstract c.flags) g in
            let same : object_fields w name ≡ fields = cc in
            record { class = c; found = f; no_interface = h.0; no_abstract = h.1; fields_are = sym same }

-- An imported class that is no interface.
pub record IsPlainClass (w : List Class) (name : List ℕ) : Type 0 where
  pub class : Class
  pub found : class_named w name ≡ Some class
  pub imported : class.is_imported ≡ true
  pub no_interface : is_interface class.flags ≡ false

pub plain_class : (w : List Class) (name other : List ℕ) → plain_import w name ≡ Some other → IsPlainClass w name
plain_class w name other e = by (class_named w name) refl e
  where
    by : (o : Option Class) → class_named w name ≡ o → (if is_plain_import o then Some name else None) ≡ Some other
        → IsPlainClass w name
    by None f e = absurd cc
    by (Some c) f e = go (c.is_imported && not (is_interface c.flags)) refl e
      where
        go : (b : Bool) → (c.is_imported && not (is_interface c.flags)) ≡ b → (if b then Some name else None)
            ≡ Some other → IsPlainClass w name
        go false g e = absurd cc
        go true g e = let h = import_open c.is_imported (is_interface c.flags) g in record {
          class = c;
          found = f;
          imported = h.0;
          no_interface = h.1;
        }

-- java/lang/Object, which is imported
pub root_of : (files : Files) → ExportsAreSound files → IsReceiver (all_classes files) object
root_of files sound = let r = sound.root in record {
  class = imported r.number r.class;
  named = r.found;
  no_interface = r.no_interface;
  made = inl refl;
}

pub root_abroad : (files : Files) (sound : ExportsAreSound files) → (let r = root_of files sound in let c = r.class
    in c.is_imported) ≡ true
unfolding root_of
root_abroad files sound = refl

-- whatever is written for the methods of the package
module _ (files : Files) (image : StaticImage) (written : Method → NMethod) (solid : IsSolid files)
    (root : IsReceiver (all_classes files) object) where
  abbrev w : List Class
  w = all_classes files

  abbrev l : Named
  l = named files image written

  of_class : (class : List ℕ) (fields : List MemberId) → HasObjects l class fields → IsReceiver w class
  unfolding named
  of_class class fields (made e) = let m = made_class w class fields e in record {
    class = m.class;
    named = m.found;
    no_interface = m.no_interface;
    made = inr m.no_abstract;
  }
  of_class class fields (bare none e) = let p = plain_class w class class e in record {
    class = p.class;
    named = p.found;
    no_interface = p.no_interface;
    made = inl p.imported;
  }

  -- whatever may be there is a receiver
  pub receiver_of : (kind : Shape (List ℕ)) → IsMadeOf l kind → IsReceiver w (receiver (shape_name kind))
  receiver_of (OfClass class) made_one =
      let r = of_class class made_one.0 made_one.1 in
      subst (IsReceiver w) (sym (receiver_class class (solid.plain class r.class r.named))) r
  receiver_of (OfNumbers Booleans) made_one = root
  receiver_of (OfNumbers Bytes) made_one = root
  receiver_of (OfNumbers Shorts) made_one = root
  receiver_of (OfNumbers Ints) made_one = root
  receiver_of (OfReferences class) made_one = root

  one_named : (name : List ℕ) (kind : Shape (List ℕ)) → is_named l name kind ≡ true
      → is_subtype w (shape_name kind) name ≡ true
  unfolding named
  one_named name kind e = by (shape_named name) refl e
    where
      by : (o : Option (Shape (List ℕ))) → shape_named name ≡ o → is_of_some l kind o ≡ true
          → is_subtype w (shape_name kind) name ≡ true
      by None f e = absurd cc
      by (Some shape) f e = ap (is_subtype w (shape_name kind)) (sym (shape_spelt name shape f)) ∙ e

  -- what is of one of some types is of each class that all of them are of
  pub named_of : (class : List ℕ) (names : List (List ℕ)) (kind : Shape (List ℕ))
      → list_all (λ name. is_subtype w name class) names ≡ true → is_one_of l names kind ≡ true
      → is_subtype w (shape_name kind) class ≡ true
  named_of class [] kind all e = absurd cc
  named_of class (name ∷ names) kind all e = by (is_named l name kind) (is_subtype w name class) refl refl all e
      (named_of class names kind)
    where
      by : (a b : Bool) → is_named l name kind ≡ a → is_subtype w name class ≡ b
          → (b && list_all (λ name. is_subtype w name class) names) ≡ true → (a || is_one_of l names kind) ≡ true
          → (list_all (λ name. is_subtype w name class) names ≡ true → is_one_of l names kind ≡ true
          → is_subtype w (shape_name kind) class ≡ true) → is_subtype w (shape_name kind) class ≡ true
      by true true f g all e rest = transitive w (shape_name kind) name class (one_named name kind f) g
      by false true f g all e rest = rest all e
      by a false f g all e rest = absurd cc
