-- Packages with their names, one after the other.
use Rattle.std.proofs.Common.{◌≡◌, ℕ, zero, suc, ◌+◌, ◌<◌, ◌≤◌, ◌^◌, List, [], ◌∷◌, ◌++◌, length, take, get_or, refl}
use Rattle.std.proofs.Common.{sym, ap, subst, ◌∙◌, arith, Some}
use Rattle.std.specs.List.{AllByRecursion}
use Rattle.std.proofs.lemmas.List.{take_all}
use Rattle.cjc_cmd_card.specs.CardLink.declared.part.GroupPart.{GroupPart}
use Rattle.cjc_link_semantics.specs.CheckRules.Complete.{class_info_size}
use Rattle.cjc_cmd_card.specs.declared.running.input.Input.{Input}
use Rattle.cjc_link_semantics.specs.ExportFile.declared.tree.ExportTree.{ExportTree}
use Rattle.cjc_group.specs.World.Files.{Files}
use Rattle.cjc_group.specs.World.declared.image.StaticImage.{StaticImage}
use Rattle.cjc_cmd_card.proofs.JudgeItems.{front_more}
use Rattle.cjc_cmd_link.specs.ByToken.{AreNamed, AreParts, IsNamed, IsPart}
use Rattle.cjc_cmd_link.specs.Working.{AreMade, IsMade}
use Rattle.cjc_cmd_link.specs.declared.members.Tested.{Tested}
use Rattle.cjc_cmd_link.specs.declared.tokens.Names.{Names}

-- ---- how many there are

pub images_count : (inputs : List Input) (ts : List Tested) (images : List StaticImage) → AreMade inputs ts images
    → length images ≡ length ts
images_count [] [] [] all = refl
images_count [] [] (j ∷ images) all = absurd all
images_count [] (t ∷ ts) images all = absurd all
images_count (i ∷ inputs) [] images all = absurd all
images_count (i ∷ inputs) (t ∷ ts) [] all = absurd all
images_count (i ∷ inputs) (t ∷ ts) (j ∷ images) all = ap suc (images_count inputs ts images all.1)

-- ---- one of them

-- The package, the image and the names at one place.
pub record IsAt (images : List StaticImage) (k : ℕ) (t : Tested) : Type 0 where
  pub input : Input
  pub image : StaticImage
  pub is : image ≡ get_or images k image
  pub within : k < length images
  pub made : IsMade input t image

pub tested_at : (inputs : List Input) (ts : List Tested) (images : List StaticImage) (k : ℕ) (t : Tested)
    → AreMade inputs ts images → k < length ts → t ≡ get_or ts k t → IsAt images k t
tested_at inputs [] images k t all lt is = absurd (omega (arith, lt))
tested_at [] (u ∷ ts) images k t all lt is = absurd all
tested_at (i ∷ inputs) (u ∷ ts) [] k t all lt is = absurd all
tested_at (i ∷ inputs) (u ∷ ts) (j ∷ images) zero t all lt is = record {
  input = i;
  image = j;
  is = refl;
  within = omega arith;
  made = subst (λ x. IsMade i x j) (sym is) all.0;
}
tested_at (i ∷ inputs) (u ∷ ts) (j ∷ images) (suc k) t all lt is =
    let rest = tested_at inputs ts images k t all.1 (omega (arith, lt)) is in
    let low = rest.within in
    record {
      input = rest.input;
      image = rest.image;
      is = rest.is;
      within = omega (arith, low);
      made = rest.made;
    }

pub named_at : (ts : List Tested) (images : List StaticImage) (names : List Names) (k : ℕ) (t : Tested)
    (image : StaticImage) (own : Names) → AreNamed ts images names → k < length ts → t ≡ get_or ts k t
    → image ≡ get_or images k image → own ≡ get_or names k own → IsNamed t image own
named_at [] images names k t image own all lt is at there = absurd (omega (arith, lt))
named_at (u ∷ ts) [] names k t image own all lt is at there = absurd all
named_at (u ∷ ts) (j ∷ images) [] k t image own all lt is at there = absurd all
named_at (u ∷ ts) (j ∷ images) (ns ∷ names) zero t image own all lt is at there =
    subst (λ x. IsNamed x image own) (sym is) (subst (λ x. IsNamed u x own) (sym at) (subst (λ x. IsNamed u j x)
    (sym there) all.0))
named_at (u ∷ ts) (j ∷ images) (ns ∷ names) (suc k) t image own all lt is at there =
    named_at ts images names k t image own all.1 (omega (arith, lt)) is at there

-- ---- one more

put_named : (ts : List Tested) (images : List StaticImage) (names : List Names) (t : Tested) (image : StaticImage)
    (own : Names) → AreNamed ts images names → IsNamed t image own
    → AreNamed (ts ++ t ∷ []) (images ++ image ∷ []) (names ++ own ∷ [])
put_named [] [] [] t image own all one = (one, tt)
put_named [] [] (n ∷ names) t image own all one = absurd all
put_named [] (j ∷ images) names t image own all one = absurd all
put_named (u ∷ ts) [] names t image own all one = absurd all
put_named (u ∷ ts) (j ∷ images) [] t image own all one = absurd all
put_named (u ∷ ts) (j ∷ images) (n ∷ names) t image own all one = (
  all.0,
  put_named ts images names t image own all.1 one,
)

pub named_more : (ts : List Tested) (images : List StaticImage) (k : ℕ) (t : Tested) (image : StaticImage) (own : Names)
    (old new : List Names) → k < length ts → t ≡ get_or ts k t → k < length images → image ≡ get_or images k image
    → AreNamed (take k ts) (take k images) old → IsNamed t image own → new ≡ old ++ own ∷ []
    → AreNamed (take (k + 1) ts) (take (k + 1) images) new
named_more ts images k t image own old new lt is low at all one put =
    subst (λ us. AreNamed us (take (k + 1) images) new) (sym (front_more ts k t lt is))
    (subst (λ js. AreNamed (take k ts ++ t ∷ []) js new) (sym (front_more images k image low at))
    (subst (λ ns. AreNamed (take k ts ++ t ∷ []) (take k images ++ image ∷ []) ns) (sym put)
    (put_named (take k ts) (take k images) old t image own all one)))

pub all_named : (ts : List Tested) (images : List StaticImage) (k : ℕ) (names : List Names) → length ts ≤ k
    → length images ≡ length ts → AreNamed (take k ts) (take k images) names → AreNamed ts images names
all_named ts images k names le count all =
    let low : length images ≤ k = omega (arith, le, count) in
    subst (λ us. AreNamed us images names) (take_all k ts le)
    (subst (λ js. AreNamed (take k ts) js names) (take_all k images low) all)

module _ (group : List Files) (outside : List ExportTree) where
  put_part : (ts : List Tested) (images : List StaticImage) (parts : List GroupPart) (t : Tested) (image : StaticImage)
      (p : GroupPart) → AreParts group outside ts images parts → IsPart group outside t image p
      → AreParts group outside (ts ++ t ∷ []) (images ++ image ∷ []) (parts ++ p ∷ [])
  put_part [] [] [] t image p all one = (one, tt)
  put_part [] [] (q ∷ parts) t image p all one = absurd all
  put_part [] (j ∷ images) parts t image p all one = absurd all
  put_part (u ∷ ts) [] parts t image p all one = absurd all
  put_part (u ∷ ts) (j ∷ images) [] t image p all one = absurd all
  put_part (u ∷ ts) (j ∷ images) (q ∷ parts) t image p all one = (
    all.0,
    put_part ts images parts t image p all.1 one,
  )

  pub parts_more : (ts : List Tested) (images : List StaticImage) (k : ℕ) (t : Tested) (image : StaticImage)
      (p : GroupPart) (old new : List GroupPart) → k < length ts → t ≡ get_or ts k t → k < length images
      → image ≡ get_or images k image → AreParts group outside (take k ts) (take k images) old
      → IsPart group outside t image p → new ≡ old ++ p ∷ []
      → AreParts group outside (take (k + 1) ts) (take (k + 1) images) new
  parts_more ts images k t image p old new lt is low at all one put =
      subst (λ us. AreParts group outside us (take (k + 1) images) new) (sym (front_more ts k t lt is))
      (subst (λ js. AreParts group outside (take k ts ++ t ∷ []) js new) (sym (front_more images k image low at))
      (subst (λ ps. AreParts group outside (take k ts ++ t ∷ []) (take k images ++ image ∷ []) ps) (sym put)
      (put_part (take k ts) (take k images) old t image p all one)))

  pub all_parts : (ts : List Tested) (images : List StaticImage) (k : ℕ) (parts : List GroupPart) → length ts ≤ k
      → length images ≡ length ts → AreParts group outside (take k ts) (take k images) parts
      → AreParts group outside ts images parts
  all_parts ts images k parts le count all =
      let low : length images ≤ k = omega (arith, le, count) in
      subst (λ us. AreParts group outside us images parts) (take_all k ts le)
      (subst (λ js. AreParts group outside (take k ts) js parts) (take_all k images low) all)

  pub are_small : (ts : List Tested) (images : List StaticImage) (parts : List GroupPart)
      → AreParts group outside ts images parts
      → AllByRecursion (λ (p : GroupPart). class_info_size p.part.class.now < 2 ^ 32) parts
  are_small [] [] [] all = tt
  are_small [] [] (q ∷ parts) all = absurd all
  are_small [] (j ∷ images) parts all = absurd all
  are_small (u ∷ ts) [] parts all = absurd all
  are_small (u ∷ ts) (j ∷ images) [] all = absurd all
  are_small (u ∷ ts) (j ∷ images) (q ∷ parts) all = (all.0.small, are_small ts images parts all.1)

pub made_beside : (inputs : List Input) (ts : List Tested) (images : List StaticImage) (k : ℕ) (t : Tested)
    (image : StaticImage) → AreMade inputs ts images → k < length ts → t ≡ get_or ts k t
    → image ≡ get_or images k image → (m : Input) × IsMade m t image
made_beside inputs [] images k t image all lt is at = absurd (omega (arith, lt))
made_beside [] (u ∷ ts) images k t image all lt is at = absurd all
made_beside (i ∷ inputs) (u ∷ ts) [] k t image all lt is at = absurd all
made_beside (i ∷ inputs) (u ∷ ts) (j ∷ images) zero t image all lt is at =
    (i, subst (λ x. IsMade i x image) (sym is) (subst (λ x. IsMade i u x) (sym at) all.0))
made_beside (i ∷ inputs) (u ∷ ts) (j ∷ images) (suc k) t image all lt is at =
    made_beside inputs ts images k t image all.1 (omega (arith, lt)) is at
