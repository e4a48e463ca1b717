-- The members of a class are counted, and a table of nothing is made of the counts.
use Rattle.std.proofs.Common.{◌≡◌, ℕ, zero, suc, ◌+◌, ◌<◌, refl, sym, ap, ◌∙◌, arith, List, [], ◌∷◌, ◌++◌, length}
use Rattle.std.proofs.Common.{get_or, drop, replicate, append_assoc, ⊎_elim}
use Rattle.std.specs.Prelude.{map, slice_get, Some}
use Rattle.std.specs.List.{range_with_len}
use Rattle.std.proofs.lemmas.List.{length-map}
use Rattle.std.proofs.lemmas.Option.{slice_get_cases}
use Rattle.cjc_classes.specs.ClassFile.declared.tree.ClassTree.{ClassTree}
use Rattle.cjc_exported.specs.World.Added.{added_at}
use Rattle.cjc_exported.specs.World.Classes.{Class, all_classes, declared, field_of_class, method_of_class}
use Rattle.cjc_exported.specs.World.Files.{Files}
use Rattle.cjc_classes.specs.Descriptor.Made.{member_count, numbered}
use Rattle.cjc_classes.specs.declared.descriptor.parts.Extent.{Extent}
use Rattle.cjc_captree.specs.Working.Tables.{nowhere, row_of}
use Rattle.cjc_classes.proofs.BytesGets.{at_item}
use Rattle.cjc_methods.proofs.Members.{added_long}

pub count_is : (files : Files) (n : ℕ) (t : ClassTree) → slice_get files.classes n ≡ Some t
    → length t.fields + length t.methods + length (added_at files n) ≡ member_count (all_classes files) (declared n t)
count_is files n t e =
    ap (λ k. k + length t.methods + length (added_at files n)) (sym (length-map t.fields field_of_class))
    ∙ ap (λ k. length (map field_of_class t.fields) + k + length (added_at files n))
    (sym (length-map t.methods method_of_class))
    ∙ ap (λ k. length (map field_of_class t.fields) + length (map method_of_class t.methods) + k)
    (added_long files n t e)

same_items : {X : Type 0} (x : X) (a count : ℕ) → map (λ _. x) (range_with_len a count) ≡ replicate count x
same_items x a zero = refl
same_items {X} x a (suc count) = ap (λ (xs : List X). x ∷ xs) (same_items x (a + 1) count)

pub empty_is : (files : Files) (c : Class) → replicate (member_count (all_classes files) c) nowhere
    ≡ row_of files (λ _. nowhere) c
empty_is files c = sym (same_items nowhere 0 (member_count (all_classes files) c))

rows_more : (files : Files) (k count : ℕ) (t : ClassTree) (rows total : List (List Extent)) → slice_get files.classes k
    ≡ Some t → k < length files.classes → count ≡ member_count (all_classes files) (declared k t)
    → rows ++ map (row_of files (λ _. nowhere)) (numbered k (drop k files.classes)) ≡ total
    → (rows ++ replicate count nowhere ∷ [])
    ++ map (row_of files (λ _. nowhere)) (numbered (k + 1) (drop (k + 1) files.classes)) ≡ total
rows_more files k count t rows total is lt n so_far =
    let rest = map (row_of files (λ _. nowhere)) (numbered (k + 1) (drop (k + 1) files.classes)) in
    append_assoc rows (replicate count nowhere ∷ []) rest
    ∙ ap (λ m. rows ++ replicate m nowhere ∷ rest) n
    ∙ ap (λ (r : List Extent). rows ++ r ∷ rest) (empty_is files (declared k t))
    ∙ ap (λ (ts : List ClassTree). rows ++ map (row_of files (λ _. nowhere)) (numbered k ts))
    (sym (at_item k t files.classes lt (read files.classes k t is)))
    ∙ so_far
  where
    read : (ts : List ClassTree) (i : ℕ) (u : ClassTree) → slice_get ts i ≡ Some u → u ≡ get_or ts i u
    read (x ∷ ts) zero u e = cc
    read (x ∷ ts) (suc i) u e = read ts i u e
    read [] i u e = cc

pub rows_next : (files : Files) (k count : ℕ) (rows total : List (List Extent)) → k < length files.classes
    → ((t : ClassTree) → slice_get files.classes k ≡ Some t → count ≡ member_count (all_classes files) (declared k t))
    → rows ++ map (row_of files (λ _. nowhere)) (numbered k (drop k files.classes)) ≡ total
    → (rows ++ replicate count nowhere ∷ [])
    ++ map (row_of files (λ _. nowhere)) (numbered (k + 1) (drop (k + 1) files.classes)) ≡ total
rows_next files k count rows total lt each so_far =
    ⊎_elim
    (λ there. let (t, less, is, read) = there in rows_more files k count t rows total is lt (each t is) so_far)
    (λ past. absurd (let le = past.0 in omega (arith, le, lt)))
    (slice_get_cases files.classes k).1
