-- Classes that are told by their numbers.
use Rattle.std.proofs.Common.{◌≡◌, ◌∙◌, ℕ, List, [], ◌∷◌, ◌++◌, map, refl, ap, sym, false, Option, Some}
use Rattle.std.specs.Prelude.{option_map}
use Rattle.std.proofs.lemmas.List.{map-append}
use Rattle.cjc_exported.specs.World.Files.{Files}
use Rattle.cjc_exported.specs.World.Classes.{Class, all_classes, class_at, declared}
use Rattle.cjc_classes.proofs.VTableNumbers.{at-tree}
use Rattle.cjc_classes.specs.TypeInfo.TypeTable as types

-- two lists one behind the other that are each told by numbers
pub both_told : {A : Type 0} (f : ℕ → Option A) (a b : List A) (x y : List ℕ) → map Some a ≡ map f x
    → map Some b ≡ map f y → map Some (a ++ b) ≡ map f (x ++ y)
both_told f a b x y e g = map-append Some a b ∙ ap (λ l. l ++ map Some b) e ∙ ap (λ l. map f x ++ l) g
    ∙ sym (map-append f x y)

-- classes of a number have class files of that number
pub told_by_file : (files : Files) (cs : List Class) (ns : List ℕ)
    → map Some cs ≡ map (class_at (all_classes files) false) ns → map Some cs ≡ map (types.class_at files.classes) ns
told_by_file files [] [] e = refl
told_by_file files [] (n ∷ ns) e = cc
told_by_file files (c ∷ cs) [] e = cc
told_by_file files (c ∷ cs) (n ∷ ns) e =
    let head : Some c ≡ class_at (all_classes files) false n = cc in
    let tail : map Some cs ≡ map (class_at (all_classes files) false) ns = cc in
    let (t, there, same) = at-tree files n c (sym head) in
    ap (λ o. o ∷ map Some cs) (ap Some same ∙ sym (ap (option_map (declared n)) there))
    ∙ ap (λ os. types.class_at files.classes n ∷ os) (told_by_file files cs ns tail)
