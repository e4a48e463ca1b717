-- The numbers of packages and of export files, by their names.
use Rattle.std.proofs.Common.{◌≡◌, ℕ, suc, ◌+◌, Bool, true, false, cond, List, [], ◌∷◌, length, refl, sym, ap, ◌∙◌}
use Rattle.std.proofs.Common.{arith, add-one, Option, Some, None}
use Rattle.std.specs.Prelude.{Result, Ok, Err, IfOk, option_map, position, unwrap_or}
use Rattle.std.specs.List.{position_from}
use Rattle.std.specs.Str.{bytes_eq}
use Rattle.std.proofs.lemmas.Iterator.Adapters.{position_from-zero}
use Rattle.cjc_cmd_card.specs.CardLink.Group.{import_of}
use Rattle.cjc_cmd_card.specs.CardLink.declared.part.Import.{Import as ImportData}
use Rattle.cjc_link_semantics.specs.CardSemantics.Machine.Loaded.{Import, OfFile, OfGroup}
use Rattle.cjc_link_semantics.specs.ExportFile.declared.tree.ExportTree.{ExportTree}
use Rattle.cjc_link_semantics.specs.Loaded.{Member, files_of, import_as, package_number, tree_number}
use Rattle.cjc_group.specs.World.Files.{Files}
use Rattle.cjc_cmd_link.specs.ByToken.{import_for}

-- ---- packages

shift : {A : Type 0} (p : A → Bool) (i : ℕ) (xs : List A) → position_from p (i + 1) xs
    ≡ option_map suc (position_from p i xs)
shift p i [] = refl
shift p i (x ∷ xs) = by (p x) (shift p (i + 1) xs)
  where
    by : (b : Bool) → position_from p (i + 1 + 1) xs ≡ option_map suc (position_from p (i + 1) xs)
        → cond b (Some (i + 1)) (position_from p (i + 1 + 1) xs)
        ≡ option_map suc (cond b (Some i) (position_from p (i + 1) xs))
    by true rest = ap (λ n. Some n) (add-one i)
    by false rest = rest

counted : (group : List Member) (name : List ℕ) → position_from (λ (p : Files). bytes_eq p.package_name name) 0
    (files_of group) ≡ package_number group name
counted [] name = refl
counted (m ∷ group) name =
    by (bytes_eq m.files.package_name name) (shift (λ (p : Files). bytes_eq p.package_name name) 0 (files_of group)
    ∙ ap (option_map suc) (counted group name))
  where
    by : (b : Bool) → position_from (λ (p : Files). bytes_eq p.package_name name) (0 + 1) (files_of group)
        ≡ option_map suc (package_number group name)
        → cond b (Some 0) (position_from (λ (p : Files). bytes_eq p.package_name name) (0 + 1) (files_of group))
        ≡ cond b (Some 0) (option_map suc (package_number group name))
    by true rest = refl
    by false rest = rest

pub package_is : (group : List Member) (name : List ℕ) → position (λ (p : Files). bytes_eq p.package_name name)
    (files_of group) ≡ package_number group name
package_is group name = position_from-zero (λ (p : Files). bytes_eq p.package_name name) (files_of group)
    ∙ counted group name

-- ---- export files

placed : (trees : List ExportTree) (name : List ℕ) (i : ℕ)
    → unwrap_or (position_from (λ (t : ExportTree). bytes_eq t.name name) i trees) (i + length trees)
    ≡ i + tree_number trees name
placed [] name i = refl
placed (t ∷ trees) name i = by (bytes_eq t.name name) (placed trees name (i + 1))
  where
    by : (b : Bool) → unwrap_or (position_from (λ (u : ExportTree). bytes_eq u.name name) (i + 1) trees)
        (i + 1 + length trees) ≡ i + 1 + tree_number trees name
        → unwrap_or (cond b (Some i) (position_from (λ (u : ExportTree). bytes_eq u.name name) (i + 1) trees))
        (i + suc (length trees)) ≡ i + cond b 0 (suc (tree_number trees name))
    by true rest = omega arith
    by false rest =
        ap (unwrap_or (position_from (λ (u : ExportTree). bytes_eq u.name name) (i + 1) trees))
        (let e : i + suc (length trees) ≡ i + 1 + length trees = omega arith in e) ∙ rest
        ∙ (let e : i + 1 + tree_number trees name ≡ i + suc (tree_number trees name) = omega arith in e)

tree_is : (trees : List ExportTree) (name : List ℕ)
    → unwrap_or (position (λ (t : ExportTree). bytes_eq t.name name) trees) (length trees) ≡ tree_number trees name
tree_is trees name =
    ap (λ o. unwrap_or o (length trees)) (position_from-zero (λ (t : ExportTree). bytes_eq t.name name) trees)
    ∙ ap (unwrap_or (position_from (λ (t : ExportTree). bytes_eq t.name name) 0 trees))
    (let e : length trees ≡ 0 + length trees = omega arith in e) ∙ placed trees name 0
    ∙ (let e : 0 + tree_number trees name ≡ tree_number trees name = omega arith in e)

-- ---- imports

-- another package of the group
pub group_import : {E : Type 0} (group : List Files) (outside : List ExportTree) (t : ExportTree) (name : List ℕ)
    (number : ℕ) (result : Result ImportData E) → name ≡ t.name
    → Some number ≡ position (λ (p : Files). bytes_eq p.package_name name) group
    → IfOk result (λ i. import_of i ≡ OfGroup number)
    → IfOk result (λ i. import_of i ≡ import_for group outside t)
group_import group outside t name number (Ok i) same found is =
    is ∙ ap (import_as outside t.name) (found ∙ ap (λ (x : List ℕ). position (λ (p : Files). bytes_eq p.package_name x)
    group) same)
group_import group outside t name number (Err e) same found is = tt

-- a package outside
pub file_import : {E : Type 0} (group : List Files) (outside : List ExportTree) (t : ExportTree) (name : List ℕ)
    (number : ℕ) (result : Result ImportData E) → name ≡ t.name
    → None ≡ position (λ (p : Files). bytes_eq p.package_name name) group
    → number ≡ unwrap_or (position (λ (u : ExportTree). bytes_eq u.name name) outside) (length outside)
    → IfOk result (λ i. import_of i ≡ OfFile number)
    → IfOk result (λ i. import_of i ≡ import_for group outside t)
file_import group outside t name number (Ok i) same found numbered is =
    let numbered_so = numbered ∙ tree_is outside name ∙ ap (tree_number outside) same in
    is ∙ ap (λ n. OfFile n) numbered_so
    ∙ ap (import_as outside t.name) (found ∙ ap (λ (x : List ℕ). position (λ (p : Files). bytes_eq p.package_name x)
    group) same)
file_import group outside t name number (Err e) same found numbered is = tt
