-- What several packages have together, as it is gathered one package or file after the other.
use Rattle.std.proofs.Common.{◌≡◌, ℕ, ◌+◌, ◌<◌, List, [], ◌∷◌, ◌++◌, map, take, length, get_or, refl, sym, ap, ◌∙◌}
use Rattle.std.proofs.Common.{arith}
use Rattle.std.proofs.Common.{Bool, true, false, append_assoc, append-nil}
use Rattle.std.specs.Prelude.{◌||◌, if◌then◌else◌}
use Rattle.std.specs.List.{flat_map}
use Rattle.std.proofs.lemmas.List.{flat_map_more, map_more, take_more}
use Rattle.cjc_world.specs.Bytes.declared.settings.FileLine.{FileLine}
use Rattle.cjc_world.specs.ClassFile.declared.tree.ClassTree.{ClassTree}
use Rattle.cjc_world.specs.ExportFile.declared.tree.ExportTree.{ExportTree}
use Rattle.cjc_world.specs.declared.image.StaticImage.{StaticImage}
use Rattle.cjc_world.specs.Files.{Files, files_of}
use Rattle.cjc_jvm_semantics.specs.Group.{is_among, is_of_group, joint, joint_classes, joint_exports, joint_image}
use Rattle.cjc_jvm_semantics.specs.Group.{line_of, outside_once}
use Rattle.cjc_jvm_link.specs.Joint.{kept_by, with_image, with_outside}

-- ---- export files outside

kept_step : (b : Bool) (group : List Files) (seen : List ExportTree) (t : ExportTree) (trees : List ExportTree)
    → (if b then seen else seen ++ t ∷ []) ++ outside_once group (if b then seen else seen ++ t ∷ []) trees
    ≡ seen ++ (if b then outside_once group seen trees else t ∷ outside_once group (seen ++ t ∷ []) trees)
kept_step true group seen t trees = refl
kept_step false group seen t trees = append_assoc seen (t ∷ []) (outside_once group (seen ++ t ∷ []) trees)

kept_is : (group : List Files) (seen trees : List ExportTree) → kept_by group seen trees
    ≡ seen ++ outside_once group seen trees
kept_is group seen [] = sym (append-nil seen)
kept_is group seen (t ∷ trees) =
    kept_is group (with_outside group seen t) trees
    ∙ kept_step (is_of_group group t.name || is_among seen t.name) group seen t trees

pub kept_next : (group : List Files) (seen next left : List ExportTree) (t : ExportTree) (rest total : List ExportTree)
    → next ≡ with_outside group seen t → left ≡ t ∷ rest → kept_by group seen left ≡ total
    → kept_by group next rest ≡ total
kept_next group seen next left t rest total is_next is so_far =
    ap (λ s. kept_by group s rest) is_next ∙ ap (kept_by group seen) (sym is) ∙ so_far

-- ---- lines

lines_more : {A : Type 0} (k : FileLine) (xs : List A) (i : ℕ) → i < length xs → map (λ x. k) (take (i + 1) xs)
    ≡ map (λ x. k) (take i xs) ++ k ∷ []
lines_more k [] i lt = absurd (omega arith)
lines_more k (x ∷ xs) i lt = map_more (λ x. k) (x ∷ xs) i x lt

pub line_more : {A : Type 0} (k : FileLine) (xs : List A) (i : ℕ) (old now new : List FileLine) → i < length xs
    → now ≡ old ++ map (λ x. k) (take i xs) → new ≡ now ++ k ∷ [] → new ≡ old ++ map (λ x. k) (take (i + 1) xs)
line_more k xs i old now new lt so_far put =
    put ∙ ap (λ ls. ls ++ k ∷ []) so_far ∙ append_assoc old (map (λ x. k) (take i xs)) (k ∷ [])
    ∙ ap (λ ls. old ++ ls) (sym (lines_more k xs i lt))

-- ---- the world

module _ (group : List Files) (lines : List FileLine) (classes : List ClassTree) (exports outside : List ExportTree)
  where
    pub together : classes ≡ joint_classes group → exports ≡ flat_map (λ (p : Files). p.exports) group
        → outside ≡ kept_by group [] exports
        → lines ≡ map (λ c. line_of true) classes ++ map (λ t. line_of false) outside
        → files_of [] lines classes outside ≡ joint group
    together classes_are exports_are outside_is lines_are =
        let all : List FileLine = map (λ c. line_of true) (joint_classes group)
        ++ map (λ t. line_of false) (joint_exports group) in
        let others : outside ≡ joint_exports group = outside_is ∙ kept_is group [] exports
        ∙ ap (outside_once group []) exports_are in
        let lines_of_all : lines ≡ all = lines_are
        ∙ ap (λ cs. map (λ c. line_of true) cs ++ map (λ t. line_of false) outside) classes_are
        ∙ ap (λ os. map (λ c. line_of true) (joint_classes group) ++ map (λ t. line_of false) os) others in
        ap (λ l. files_of [] l classes outside) lines_of_all
        ∙ ap (λ cs. files_of [] all cs outside) classes_are
        ∙ ap (files_of [] all (joint_classes group)) others

-- ---- static cells

more : {B : Type 0} (f : StaticImage → List B) (images : List StaticImage) (image : StaticImage)
    → flat_map f (images ++ image ∷ []) ≡ flat_map f images ++ f image
more f images image = sym (flat_map_more f [] images image)

images_more : (images : List StaticImage) (image : StaticImage) → joint_image (images ++ image ∷ [])
    ≡ with_image (joint_image images) image
images_more images image =
    let arrays = more (λ (i : StaticImage). i.arrays) images image in
    let nulls = more (λ (i : StaticImage). i.nulls) images image in
    let zeros = more (λ (i : StaticImage). i.zeros) images image in
    let others = more (λ (i : StaticImage). i.others) images image in
    cc

pub image_more : (images : List StaticImage) (i : ℕ) (d now new : StaticImage) → i < length images
    → now ≡ joint_image (take i images) → new ≡ with_image now (get_or images i d)
    → new ≡ joint_image (take (i + 1) images)
image_more images i d now new lt so_far put =
    put ∙ ap (λ j. with_image j (get_or images i d)) so_far
    ∙ sym (ap joint_image (take_more images i d lt) ∙ images_more (take i images) (get_or images i d))
