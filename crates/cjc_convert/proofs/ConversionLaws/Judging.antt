-- What judging answers of a list and its files, as the code has it.
use Rattle.std.proofs.Common.{◌≡◌, ◌<◌, ◌≤◌, ◌^◌, ℕ, All, List, Some, length, slice_get, subst, sym}
use Rattle.std.proofs.lemmas.List.Elements.{All-get_or}
use Rattle.std.proofs.lemmas.Option.{get_or_from_slice_get, slice_get_within}
use Rattle.std.specs.List.{AllByRecursion}
use Rattle.cjc_shape_proof.specs.LowerJudge.Judged.{IsJudged}
use Rattle.cjc_shape_proof.specs.LowerJudge.Spelt.{IsRead}
use Rattle.cjc_shape_proof.specs.LowerJudge.declared.judged.Judged.{Judged}
use Rattle.cjc_captree.specs.List.Listed.{ListTree}
use Rattle.cjc_shape_proof.specs.LowerShape.Prepared.{BreaksNothing, IsSound, tested}

each_short : (files : List (List ℕ)) → All (λ bytes. length bytes ≤ 2 ^ 29) files → (k : ℕ) (bytes : List ℕ)
    → slice_get files k ≡ Some bytes → length bytes ≤ 2 ^ 29
each_short files all k bytes e =
    let short = All-get_or (λ (b : List ℕ). length b ≤ 2 ^ 29) files k bytes (slice_get_within files k bytes e) all in
    subst (λ (b : List ℕ). length b ≤ 2 ^ 29) (get_or_from_slice_get files k bytes bytes e) short

-- what is said of a list and files is said of those that are the same
pub moved : (P : ListTree → List (List ℕ) → Type 0) (l m : ListTree) (f g : List (List ℕ)) → l ≡ m → f ≡ g → P l f
    → P m g
moved P l m f g e h p = subst (λ (k : ListTree). P k g) e (subst (P l) h p)

-- what is judged breaks no rule of the files that it has
pub breaks_nothing : (list : ListTree) (files : List (List ℕ)) (judged : Judged) → IsRead list
    → ((k : ℕ) (bytes : List ℕ) → slice_get files k ≡ Some bytes → AllByRecursion (λ b. b < 256) bytes)
    → All (λ bytes. length bytes ≤ 2 ^ 29) files → judged.list.now ≡ list → judged.files.now ≡ files
    → IsJudged list files tested judged → BreaksNothing judged
breaks_nothing list files judged read bytes short e f is =
    let sound : IsSound list files judged = record {
      judged_by = is;
      are_files = λ k b g. (bytes k b g, each_short files short k b g);
    } in
    moved (λ l fs. IsSound l fs judged) list judged.list.now files judged.files.now (sym e) (sym f) sound
