-- What an exception may be of on the card where a handler of the class file names java/lang/Object: java/lang/Throwable
-- is of all that java/lang/Object is of.
use Rattle.std.proofs.Common.{◌≡◌, ⊎_elim, ℕ, refl, sym, ap, subst, ◌∙◌, inl, Bool, true, false, List, [], ◌∷◌}
use Rattle.std.specs.Prelude.{◌&&◌, ◌||◌, not, Some}
use Rattle.std.specs.Str.{bytes_eq}
use Rattle.std.proofs.lemmas.Slice.Eq.{bytes_eq-Decides}
use Rattle.cjc_verified_proof.specs.Components.Package.{Package, world}
use Rattle.cjc_verified_proof.specs.TokenProof.Tables.Sound.{IsSound}
use Rattle.cjc_verified_proof.proofs.WorldCycles.{class_named-name}
use Rattle.cjc_verified_proof.proofs.WorldLines.{below_on, listed_below}
use Rattle.cjc_verified_proof.proofs.WorldProofTypes.{below_type, type_below}
use Rattle.cjc_verified_proof.specs.World.Classes.{Class, class_named}
use Rattle.cjc_verified_proof.specs.World.Supertypes.{Lists, after, foremost}
use Rattle.cjc_world.proofs.ExportFileRooted.{has_root}
use Rattle.cjc_world.proofs.Settled.{lists-front}
use Rattle.cjc_world.specs.Lookup.{object}
use Rattle.cjc_world.specs.Subtype.{is_subclass, is_subtype, starts}
use Rattle.cjc_world.specs.Upwards.{Below}
use Rattle.cjc_token_proof.proofs.TablesLaws.Rooted.{import_root}
use Rattle.cjc_token_proof.proofs.TablesLaws.Telling.{has_lang}
use Rattle.cjc_check_proof.specs.Types.Rules.{throwable}
use Rattle.cjc_theorem.proofs.VTableFiled.{IsFiled, filed, in_class_file, in_export_file}
use Rattle.cjc_accepted_proof.specs.Coded.{card_type, is_of}
use Rattle.cjc_accepted_proof.specs.Frames.{NamesAgree, SubtypesAgree, its_own, thrown}

lists_root : (xs : List (List ℕ)) → has_root xs ≡ true → Lists object xs
lists_root [] e = absurd cc
lists_root (x ∷ xs) e = by (bytes_eq x object) refl e (lists_root xs)
  where
    by : (b : Bool) → bytes_eq x object ≡ b → (b || has_root xs) ≡ true → (has_root xs ≡ true → Lists object xs)
        → Lists object (x ∷ xs)
    by true f g rest = subst (λ y. Lists object (y ∷ xs)) (sym ((bytes_eq-Decides x object).0 f)) foremost
    by false f g rest = after (rest g)

module _ (list : List ℕ) (p : Package) (sound : IsSound list p.files) where
  abbrev w : List Class
  w = world p

  throwable_below : Below w throwable object
  throwable_below =
      let t = (let l = has_lang list p sound in l.throwable) in
      by t.class (filed p.files throwable t.class t.there) t.there t.imported
    where
      apart : throwable ≡ object → ⊥
      apart e = let same : false ≡ true = ap (λ n. bytes_eq n object) e in cc

      by : (c : Class) → IsFiled p.files c → class_named w throwable ≡ Some c → c.is_imported ≡ true → Below w throwable
          object
      by c (in_class_file n t at) there import = absurd cc
      by c (in_export_file n t at) there import = ⊎_elim
          (λ same. absurd (apart (sym (class_named-name w throwable c there) ∙ same)))
          (λ root. listed_below w throwable object object c there (lists-front object c.supers c.interfaces
          (lists_root c.supers root)) (inl refl))
          (import_root p.files (let r = sound.read in r.exports) n t at)

  no_array : (sup : List ℕ) → starts 91 sup ≡ true → is_subtype w object sup ≡ true → ⊥
  unfolding is_subtype
  no_array sup f g = (let none : false ≡ true = sym (ap (λ b. not b && is_subclass w object sup) f) ∙ g in absurd cc)

  -- it is of what java/lang/Object is of
  throwable_passes : (sup : List ℕ) → is_subtype w object sup ≡ true → is_subtype w throwable sup ≡ true
  throwable_passes sup e = by (starts 91 sup) refl
    where
      by : (b : Bool) → starts 91 sup ≡ b → is_subtype w throwable sup ≡ true
      by true f = absurd (no_array sup f e)
      by false f = below_type w throwable sup f (below_on w throwable object sup throwable_below (type_below w object
          sup f e))

  pub thrown_agree : NamesAgree (card_type p) (is_of p) w → SubtypesAgree (card_type p) (is_of p) w
  thrown_agree agree sub sup t u e (its_own f) g = agree sub sup t u e f g
  thrown_agree agree sub sup t u e (thrown is f) g = agree throwable sup t u (throwable_passes sup (sym (ap (λ n.
      is_subtype w n sup) is) ∙ e)) f g
