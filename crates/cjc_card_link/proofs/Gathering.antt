-- Packages and their imports put together one by one.
use Rattle.std.proofs.Common.{◌≡◌, ℕ, zero, suc, ◌+◌, ◌-◌, ◌<◌, ◌≤◌, ◌^◌, List, [], ◌∷◌, ◌++◌, sym, ap, ◌∙◌, arith, map}
use Rattle.std.proofs.Common.{append_assoc, length, subst}
use Rattle.std.specs.List.{AllByRecursion}
use Rattle.std.proofs.lemmas.List.{append-nil, map-append}
use Rattle.cjc_check_index.specs.CheckRules.Complete.{class_info_size}
use Rattle.cjc_card_semantics.specs.Machine.Loaded.{Import, Part}
use Rattle.cjc_card_link.specs.declared.part.GroupPart.{GroupPart}
use Rattle.cjc_card_link.specs.declared.part.Import.{Import as ImportData}
use Rattle.cjc_card_link.specs.declared.part.Import.TheVariants as imports
use Rattle.cjc_card_link.specs.Group.{files_from, group_part, import_of}

-- one more export file
pub files_more : (number count : ℕ) (old new : List ImportData) (total : List Import) → number < count
    → new ≡ old ++ imports.OfFile number ∷ []
    → map import_of old ++ files_from number (count - number) ≡ total
    → map import_of new ++ files_from (number + 1) (count - (number + 1)) ≡ total
files_more number count old new total lt put so_far =
    let next : count - number ≡ suc (count - (number + 1)) = omega (arith, lt) in
    let rest = files_from (number + 1) (count - (number + 1)) in
    ap (λ (xs : List ImportData). map import_of xs ++ rest) put
    ∙ ap (λ (xs : List Import). xs ++ rest) (map-append import_of old (imports.OfFile number ∷ []))
    ∙ append_assoc (map import_of old) (import_of (imports.OfFile number) ∷ []) rest
    ∙ ap (λ n. map import_of old ++ files_from number n) (sym next)
    ∙ so_far

-- all of them
pub files_all : (number count : ℕ) (done : List ImportData) (total : List Import) → count ≤ number
    → map import_of done ++ files_from number (count - number) ≡ total → map import_of done ≡ total
files_all number count done total le so_far =
    let none : count - number ≡ 0 = omega (arith, le) in
    sym (append-nil (map import_of done))
    ∙ ap (λ n. map import_of done ++ files_from number n) (sym none)
    ∙ so_far

-- ---- packages

-- 32 bits count the bytes of a package's Class
abbrev pub HasSmallClass : GroupPart → Type 0
HasSmallClass p = class_info_size p.part.class.now < 2 ^ 32

-- the next package, and those behind it
pub first_small : (left : List GroupPart) (p : GroupPart) (rest : List GroupPart) → left ≡ p ∷ rest
    → AllByRecursion HasSmallClass left → HasSmallClass p × AllByRecursion HasSmallClass rest
first_small left p rest is all = subst (λ (ps : List GroupPart). AllByRecursion HasSmallClass ps) is all

-- one more package
pub parts_more : (left : List GroupPart) (p : GroupPart) (rest : List GroupPart) (old new total : List Part)
    → left ≡ p ∷ rest → new ≡ old ++ group_part p ∷ [] → old ++ map group_part left ≡ total
    → new ++ map group_part rest ≡ total
parts_more left p rest old new total is put so_far =
    ap (λ (xs : List Part). xs ++ map group_part rest) put
    ∙ append_assoc old (group_part p ∷ []) (map group_part rest)
    ∙ ap (λ (ps : List GroupPart). old ++ map group_part ps) (sym is)
    ∙ so_far

-- all of them
pub parts_all : (left : List GroupPart) (done total : List Part) → length left ≡ 0
    → done ++ map group_part left ≡ total → done ≡ total
parts_all [] done total none so_far = sym (append-nil done) ∙ so_far
parts_all (p ∷ left) done total none so_far = absurd (omega (arith, none))
