-- What fair export files say of the methods that implement interfaces, in the world of a package.
use Rattle.std.proofs.Common.{◌≡◌, ℕ, refl, sym, ap, subst, ◌∙◌, Bool, true, false, List, [], ◌∷◌, ◌++◌, ⊎_elim}
use Rattle.std.specs.Prelude.{not, ◌&&◌, Some, if◌then◌else◌}
use Rattle.cjc_world_proof.proofs.CallsLaws.Selects.{receiver_plain}
use Rattle.cjc_world_proof.proofs.CallsLaws.Types.{type_below}
use Rattle.cjc_theorem.specs.FairExports.Fair.{ExportsAreFair, world_of}
use Rattle.cjc_theorem.proofs.FairExports.Alone.{AreAbroad, back, filed, same_supertypes}
use Rattle.cjc_world_proof.proofs.SelectionLaws.Rules.{listed_abroad}
use Rattle.cjc_token_proof.specs.Tables.Sound.{IsSound}
use Rattle.cjc_tokens.specs.Members.{all_methods, chosen, is_exposed, signature_of}
use Rattle.cjc_world.specs.Upwards.{Below}
use Rattle.cjc_vtable.specs.Calls.{selects}
use Rattle.cjc_world.specs.Classes.{Class, Member, all_classes, class_named}
use Rattle.cjc_world.specs.Files.{Files}
use Rattle.cjc_world.specs.Supertypes.{Above, Supertypes, Lists, after, directly, foremost, supertypes, line, onwards}
use Rattle.cjc_world.specs.Supertypes.{stands, upwards}
use Rattle.cjc_world.specs.Lookup.{receiver}
use Rattle.cjc_world.specs.Subtype.{array_is, element, is_element, is_subclass, is_subtype, starts}
use Rattle.cjc_world.proofs.Cycles.{class_named-name}
use Rattle.cjc_token_proof.specs.WrittenSends.Sends.{ExportsImplement}

-- ---- subtypes by what stands above

same_subtype : (w v : List Class) (x y : List ℕ) → starts 91 x ≡ false → supertypes w (x ∷ []) ≡ supertypes v (x ∷ [])
    → is_subtype w x y ≡ true → is_subtype v x y ≡ true
unfolding is_subtype is_subclass
same_subtype w v x y plain same e = by (starts 91 x) (starts 91 y) plain e
  where
    by : (a b : Bool) → a ≡ false → (if a then (if b then is_element w (element x) (element y) else array_is w y)
        else not b && stands y (supertypes w (x ∷ []))) ≡ true
        → (if a then (if b then is_element v (element x) (element y) else array_is v y) else not b
        && stands y (supertypes v (x ∷ []))) ≡ true
    by true b p e = absurd cc
    by false b p e = subst (λ k. (not b && stands y k) ≡ true) same e

-- above a class is no array
no_array : (w : List Class) (x y : List ℕ) → starts 91 x ≡ false → is_subtype w x y ≡ true → starts 91 y ≡ false
unfolding is_subtype
no_array w x y plain e = by (starts 91 x) (starts 91 y) refl plain e
  where
    by : (a b : Bool) → starts 91 y ≡ b → a ≡ false → (if a then (if b then is_element w (element x) (element y)
        else array_is w y) else not b && is_subclass w x y) ≡ true → starts 91 y ≡ false
    by true b f p e = absurd cc
    by false true f p e = absurd cc
    by false false f p e = f

module _ (list : List ℕ) (files : Files) (sound : IsSound list files) where
  abbrev w : List Class
  w = all_classes files

  -- ---- what stands above a class of an export file is of one

  class_at : (x y : List ℕ) → Above w x y → (c : Class) × (class_named w x ≡ Some c)
  class_at x y (directly c e l) = (c, e)
  class_at x y (onwards c e l up) = (c, e)

  above_abroad : (x y : List ℕ) (c d : Class) → class_named w x ≡ Some c → c.is_imported ≡ true → Above w x y
      → class_named w y ≡ Some d → d.is_imported ≡ true
  above_abroad x y c d e is (directly b f l) g =
      let both : Some b ≡ Some c = sym f ∙ e in
      let same : b ≡ c = cc in
      listed_abroad list files sound.unbroken x y c d e is (subst (λ (q : Class). Lists y (q.supers ++ q.interfaces))
      same l) g
  above_abroad x y c d e is (onwards {y = z} b f l up) g =
      let both : Some b ≡ Some c = sym f ∙ e in
      let same : b ≡ c = cc in
      let next = class_at z y up in
      let abroad = listed_abroad list files sound.unbroken x z c next.0 e is (subst (λ (q : Class). Lists z (q.supers
      ++ q.interfaces)) same l) next.1 in
      above_abroad z y next.0 d next.1 abroad up g

  below_abroad : (x y : List ℕ) (c d : Class) → class_named w x ≡ Some c → c.is_imported ≡ true → Below w x y
      → class_named w y ≡ Some d → d.is_imported ≡ true
  below_abroad x y c d e is way g = ⊎_elim
      (λ same. let both : Some c ≡ Some d = sym e ∙ ap (class_named w) same ∙ g in let one : c ≡ d = cc
      in ap (λ (q : Class). q.is_imported) (sym one) ∙ is)
      (λ far. above_abroad x y c d e is far g)
      way

  alone : (x : List ℕ) (c : Class) → class_named w x ≡ Some c → c.is_imported ≡ true
      → AreAbroad list files sound (x ∷ [])
  alone x c e is y d foremost f = let both : Some c ≡ Some d = sym e ∙ f in let same : c ≡ d = cc
      in ap (λ (q : Class). q.is_imported) (sym same) ∙ is
  alone x c e is y d (after l) f = elim l [ ]

  pub exports_implement : ExportsAreFair files.exports → ExportsImplement w
  unfolding line
  exports_implement fair x c i asked given e is plain f interface sub among choice =
      let v = world_of files.exports in
      let r = filed list files sound x c e is in
      let name : r.1.name ≡ x = ap (λ (q : Class). q.name) (sym r.3) ∙ class_named-name w x c e in
      let no : starts 91 x ≡ false = ap (starts 91) (sym name) ∙ sound.names r.0 r.1 r.2 in
      let same : supertypes w (x ∷ []) ≡ supertypes v (x ∷ []) = same_supertypes list files sound (x
      ∷ []) (alone x c e is) in
      let way : Below w x i.name = subst (λ z. Below w z i.name) (receiver_plain x no) (type_below w x i.name
      (no_array w x i.name no sub) sub) in
      let abroad = below_abroad x i.name c i e is way f in
      fair.implements x c i asked given (back list files sound x c e is) is plain (back list files sound i.name i f
      abroad) interface (same_subtype w v x i.name no same sub) among
      (subst (λ (k : Supertypes). chosen selects (signature_of asked) (all_methods (upwards k)) ≡ Some given) same
      choice)
