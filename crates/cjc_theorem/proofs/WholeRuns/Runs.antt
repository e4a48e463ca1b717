-- A whole package with its static image: its class files and its narrow code run alike.
use Rattle.std.proofs.Common.{◌≡◌, ℕ, zero, suc, refl, sym, ap, ◌∙◌, Bool, true, false, List, [], ◌∷◌}
use Rattle.std.specs.Prelude.{◌&&◌, ◌||◌, Some, slice_get}
use Rattle.std.specs.List.{list_any}
use Rattle.cjc_bytes.specs.AccessFlags.{is_interface}
use Rattle.cjc_bytes.specs.Breaks.{Break, broken_at}
use Rattle.cjc_bytes.specs.Order.{file_of}
use Rattle.cjc_bytes.specs.declared.fault.MemberId.{MemberId}
use Rattle.cjc_bytes.specs.declared.settings.Settings.{Settings}
use Rattle.cjc_world.specs.ClassFile.declared.tree.ClassTree.{ClassTree}
use Rattle.cjc_world.specs.ClassFile.declared.tree.FieldTree.{FieldTree}
use Rattle.cjc_token_proof.specs.Clinit.Fields.{has_unfit_value}
use Rattle.cjc_token_proof.specs.Clinit.Image.{IsImage}
use Rattle.cjc_token_proof.specs.Clinit.Initialiser.{is_initialiser}
use Rattle.cjc_token_proof.specs.Clinit.Rules.{BreaksImage, of_class}
use Rattle.cjc_components.specs.Bytecode.declared.method_code.MethodCode.{MethodCode}
use Rattle.cjc_shape_proof.specs.Whole.{IsWhole}
use Rattle.cjc_narrow_proof.specs.Runs.Converted.{IsConverted, IsFirst}
use Rattle.cjc_narrow_proof.specs.Runs.Tables.{Tables, look_ups, narrow_codes}
use Rattle.cjc_token_proof.specs.Subset.Places.{at_class}
use Rattle.cjc_theorem.proofs.WholeRuns.Memory.{first_is}
use Rattle.cjc_theorem.proofs.WholeRuns.Named.{converted}
use Rattle.cjc_theorem.proofs.WholeRuns.Objects.{own_field_values}
use Rattle.cjc_world.specs.declared.image.StaticImage.{StaticImage}
use Rattle.cjc_world.specs.Files.{Files}

no_other : (a b : Bool) → ((a || b) ≡ true → ⊥) → b ≡ false
no_other a false never = refl
no_other true true never = absurd (never refl)
no_other false true never = absurd (never refl)

none_has : (P : FieldTree → Bool) (xs : List FieldTree) → list_any P xs ≡ false → (k : ℕ) (x : FieldTree)
    → slice_get xs k ≡ Some x → P x ≡ false
none_has P [] h k x e = absurd cc
none_has P (y ∷ ys) h k x e = by (P y) refl h k e (none_has P ys)
  where
    by : (b : Bool) → P y ≡ b → (b || list_any P ys) ≡ false → (k : ℕ) → slice_get (y ∷ ys) k ≡ Some x
        → (list_any P ys ≡ false → (k : ℕ) (x : FieldTree) → slice_get ys k ≡ Some x → P x ≡ false) → P x ≡ false
    by true f h k e rest = absurd cc
    by false f h zero e rest = let same : y ≡ x = cc in ap P (sym same) ∙ f
    by false f h (suc k) e rest = rest h k x e

-- 308
module _ (files : Files) (codes : List MethodCode) (fine : (b : Break) → BreaksImage files codes b → ⊥) where
  pub values_fit : (n k : ℕ) (c : ClassTree) (f : FieldTree) → slice_get files.classes n ≡ Some c → slice_get c.fields k
      ≡ Some f → has_unfit_value f ≡ false
  values_fit n k c f e g =
      let b : Break = broken_at (at_class (file_of files.lines n) c) 308 in
      none_has has_unfit_value c.fields (no_other (is_interface c.flags && list_any is_initialiser c.methods)
      (list_any has_unfit_value c.fields)
      (λ wrong. fine b (of_class n c e (record { is_wrong = wrong; is = refl })))) k f g

module _ (list : List ℕ) (files : Files) (codes : List MethodCode) (settings : Settings) (tables : Tables)
    (whole : IsWhole list files codes settings tables) (image : StaticImage) (is : IsImage files codes image)
    (fine : (b : Break) → BreaksImage files codes b → ⊥) (near : List MemberId) where
  pub image_is : IsFirst (look_ups files image near tables) files image
  image_is = first_is files codes image is
      (λ n k c f e g. own_field_values list files codes settings (let u = whole.unbroken in u.checks) whole.read n k c f
      e g)
      (values_fit files codes fine) (narrow_codes files near tables)

  pub whole_is : IsConverted files image near tables
  whole_is = converted list files codes settings tables whole image near image_is
