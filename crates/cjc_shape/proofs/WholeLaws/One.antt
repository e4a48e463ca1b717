-- A list and its files have one package at most.
use Rattle.std.proofs.Common.{◌≡◌, ℕ, suc, refl, sym, ap, subst, ◌∙◌, arith, Bool, true, false, List}
use Rattle.std.proofs.Common.{[], ◌∷◌, length}
use Rattle.std.specs.Prelude.{Some, map, slice_get}
use Rattle.cjc_methods.specs.Bytecode.PackageCodes.{all_codes}
use Rattle.cjc_methods.specs.Clinit.Image.{IsImage}
use Rattle.cjc_judge.proofs.ClinitOneImage.{one-image}
use Rattle.cjc_exported.specs.Components.Package.{LaidMethod, Package}
use Rattle.cjc_exported.specs.Components.Written.{is_abstract_at}
use Rattle.cjc_judge.specs.declared.judged.Judged.{Judged}
use Rattle.cjc_methods.specs.Layout.Legal.{IsLeast, IsWithin}
use Rattle.cjc_methods.specs.List.Listed.{ListTree}
use Rattle.cjc_narrow_proof.specs.NCode.declared.narrow.NInsn.{NInsn}
use Rattle.cjc_narrow_proof.specs.NCode.declared.narrow.NMethod.{NMethod}
use Rattle.cjc_shape.specs.Prepared.{IsSound}
use Rattle.cjc_exported.specs.World.Classes.{all_classes}
use Rattle.cjc_exported.specs.World.Files.{Files}
use Rattle.cjc_exported.specs.World.Order.{method_order}
use Rattle.cjc_shape.specs.Whole.Conversion.{IsPackageByModesOf}
use Rattle.cjc_shape.proofs.WholeLaws.Codes.{draft_files, draft_has, package_is_draft, same_narrow}
use Rattle.cjc_shape.proofs.WholeLaws.Drafts.{same_members}

-- ---- one choice of wide jumps

within_both : (xs ys : List Bool) → length xs ≡ length ys → IsWithin xs ys → IsWithin ys xs → xs ≡ ys
within_both [] [] l f g = refl
within_both [] (y ∷ ys) l f g = absurd (omega (arith, l))
within_both (x ∷ xs) [] l f g = absurd (omega (arith, l))
within_both (x ∷ xs) (y ∷ ys) l f g =
    ap (λ b. b ∷ xs) (same x y (λ e. head (f 0 (ap Some e))) (λ e. head (g 0 (ap Some e))))
    ∙ ap (λ bs. y ∷ bs) (within_both xs ys (omega (arith, l)) (λ k e. f (suc k) e) (λ k e. g (suc k) e))
  where
    head : {b : Bool} → Some b ≡ Some true → b ≡ true
    head e = cc

    same : (a b : Bool) → (a ≡ true → b ≡ true) → (b ≡ true → a ≡ true) → a ≡ b
    same true b f g = sym (f refl)
    same false true f g = g refl
    same false false f g = refl

least_one : (insns : List NInsn) (xs ys : List Bool) → IsLeast insns xs → IsLeast insns ys → xs ≡ ys
least_one insns xs ys one other = within_both xs ys (one.legal.count ∙ sym other.legal.count) (one.least ys other.legal)
    (other.least xs one.legal)

-- ---- one list of methods

-- a method that is settled by its member and its code
IsSettled : Files → LaidMethod → Type 0
IsSettled files m = (m.is_abstract ≡ is_abstract_at files m.member) × (let code = m.code in IsLeast code.insns m.wide)

methods_same : (files : Files) (ms ns : List LaidMethod) → map (λ m. m.member) ms ≡ map (λ m. m.member) ns
    → map (λ m. m.code) ms ≡ map (λ m. m.code) ns
    → ((k : ℕ) (m : LaidMethod) → slice_get ms k ≡ Some m → IsSettled files m) → ((k : ℕ) (m : LaidMethod)
    → slice_get ns k ≡ Some m → IsSettled files m) → ms ≡ ns
unfolding IsSettled
methods_same files [] [] e f g h = refl
methods_same files [] (n ∷ ns) e f g h = cc
methods_same files (m ∷ ms) [] e f g h = cc
methods_same files (m ∷ ms) (n ∷ ns) e f g h =
    let member : m.member ≡ n.member = cc in
    let members : map (λ (x : LaidMethod). x.member) ms ≡ map (λ (x : LaidMethod). x.member) ns = cc in
    let code : m.code ≡ n.code = cc in
    let coded : map (λ (x : LaidMethod). x.code) ms ≡ map (λ (x : LaidMethod). x.code) ns = cc in
    let one = g 0 m refl in
    let other = h 0 n refl in
    let abstracts : m.is_abstract ≡ n.is_abstract = one.0 ∙ ap (is_abstract_at files) member ∙ sym other.0 in
    let least : IsLeast (n.code).insns m.wide = subst (λ (c : NMethod). IsLeast c.insns m.wide) code one.1 in
    let wides : m.wide ≡ n.wide = least_one (n.code).insns m.wide n.wide least other.1 in
    let same : m ≡ n =
    ap (λ v. record { member = v; is_abstract = m.is_abstract; code = m.code; wide = m.wide }) member
    ∙ ap (λ v. record { member = n.member; is_abstract = v; code = m.code; wide = m.wide }) abstracts
    ∙ ap (λ v. record { member = n.member; is_abstract = n.is_abstract; code = v; wide = m.wide }) code
    ∙ ap (λ v. record { member = n.member; is_abstract = n.is_abstract; code = n.code; wide = v }) wides in
    ap (λ x. x ∷ ms) same ∙ ap (λ xs. n ∷ xs) (methods_same files ms ns members coded (λ k x y. g (suc k) x y)
    (λ k x y. h (suc k) x y))

-- ---- one package

module _ (list : ListTree) (files : List (List ℕ)) (judged : Judged) (is : IsSound list files judged) where
  files_of : (p : Package) → IsPackageByModesOf list files p → p.files ≡ judged.world
  files_of p of = draft_files list files judged is p (package_is_draft list files p of)

  settled : (p : Package) → IsPackageByModesOf list files p → (k : ℕ) (m : LaidMethod) → slice_get p.methods k ≡ Some m
      → IsSettled judged.world m
  unfolding IsSettled
  settled p of k m e =
      let w = of.is_package.methods k m e in (
        w.is_abstract ∙ ap (λ fs. is_abstract_at fs m.member) (files_of p of),
        w.wide,
      )

  image_of : (p : Package) → IsPackageByModesOf list files p
      → (let w = judged.world in IsImage judged.world (all_codes w.classes) p.image)
  image_of p of = subst (λ (w : Files). IsImage w (all_codes w.classes) p.image) (files_of p of) of.is_package.image

  members_of : (p : Package) → IsPackageByModesOf list files p
      → map (λ m. m.member) p.methods ≡ method_order (all_classes judged.world)
  members_of p of = same_members list files judged is p (files_of p of) of.is_package.members

  pub one_package : (p q : Package) → IsPackageByModesOf list files p → IsPackageByModesOf list files q → p ≡ q
  one_package p q one other =
      let d = package_is_draft list files p one in
      let e = package_is_draft list files q other in
      let has = draft_has list files judged is p d in
      let lists : p.list ≡ q.list = one.is_package.by_list ∙ sym other.is_package.by_list in
      let worlds : p.files ≡ q.files = files_of p one ∙ sym (files_of q other) in
      let images : p.image ≡ q.image = one-image judged.world (let w = judged.world in all_codes w.classes) p.image
      q.image (image_of p one) (image_of q other) in
      let methods : p.methods ≡ q.methods =
      methods_same judged.world p.methods q.methods
      (members_of p one ∙ sym (members_of q other))
      (same_narrow list files judged is one.tables has p d ∙ sym (same_narrow list files judged is one.tables has q e))
      (settled p one) (settled q other) in
      ap (λ v. record { list = v; files = p.files; image = p.image; methods = p.methods }) lists
      ∙ ap (λ v. record { list = q.list; files = v; image = p.image; methods = p.methods }) worlds
      ∙ ap (λ v. record { list = q.list; files = q.files; image = v; methods = p.methods }) images
      ∙ ap (λ v. record { list = q.list; files = q.files; image = q.image; methods = v }) methods
