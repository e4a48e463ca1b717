-- Export files from outside, each of which a group keeps once, and packages of a group by their names.
use Rattle.std.proofs.Common.{◌≡◌, ℕ, zero, suc, arith, refl, sym, ap, ◌∙◌, Bool, true, false, List, [], ◌∷◌, ◌++◌}
use Rattle.std.proofs.Common.{Some, None, flat_map}
use Rattle.std.specs.Prelude.{option_map, slice_get, ◌||◌, if◌then◌else◌}
use Rattle.std.specs.Str.{bytes_eq}
use Rattle.cjc_token_proof.proofs.BytesLists.{bytes_true, name_is}
use Rattle.cjc_card_semantics.specs.ExportFile.declared.tree.ExportTree.{ExportTree}
use Rattle.cjc_exported.specs.World.Files.{Files}
use Rattle.cjc_link_semantics.specs.JvmSemantics.Group.{is_among, is_of_group, joint_exports, outside_once}
use Rattle.cjc_link_semantics.specs.Loaded.{Member, files_of, package_number, tree_number}

-- one more among those that were seen
among_more : (seen : List ExportTree) (u : ExportTree) (name : List ℕ) → is_among seen name ≡ false
    → bytes_eq u.name name ≡ false → is_among (seen ++ u ∷ []) name ≡ false
among_more [] u name e f = ap (λ b. b || false) f
among_more (s ∷ seen) u name e f = by (bytes_eq s.name name) e (λ g. among_more seen u name g f)
  where
    by : (b : Bool) → (b || is_among seen name) ≡ false → (is_among seen name ≡ false → is_among (seen ++ u ∷ []) name
        ≡ false) → (b || is_among (seen ++ u ∷ []) name) ≡ false
    by true g rest = cc
    by false g rest = rest g

kept : (group : List Files) (seen trees : List ExportTree) (k : ℕ) (t : ExportTree) → slice_get trees k ≡ Some t
    → is_of_group group t.name ≡ false → is_among seen t.name ≡ false
    → ((j : ℕ) (u : ExportTree) → slice_get trees j ≡ Some u → u.name ≡ t.name → u ≡ t)
    → slice_get (outside_once group seen trees) (tree_number (outside_once group seen trees) t.name) ≡ Some t
kept group seen [] k t is out new same = cc
kept group seen (u ∷ trees) k t is out new same =
    by (is_of_group group u.name || is_among seen u.name) refl (bytes_eq u.name t.name) refl
    (λ more j at. kept group more trees j t at out)
  where
    passed : (b : Bool) → (is_of_group group u.name || is_among seen u.name) ≡ b → b ≡ true → u.name ≡ t.name → ⊥
    passed b e f name =
        let no : true ≡ false = sym f ∙ (sym e ∙ (ap (λ x. is_of_group group x || is_among seen x) name ∙ both out new))
        in cc
      where
        both : is_of_group group t.name ≡ false → is_among seen t.name ≡ false → (is_of_group group t.name || is_among
            seen t.name) ≡ false
        both p q = ap (λ b. b || is_among seen t.name) p ∙ q

    later : (k : ℕ) → slice_get (u ∷ trees) k ≡ Some t → (u.name ≡ t.name → ⊥) → (j : ℕ) × (slice_get trees j ≡ Some t)
    later zero at apart = let one : u ≡ t = cc in absurd (apart (ap (λ (v : ExportTree). v.name) one))
    later (suc j) at apart = (j, at)

    by : (b : Bool) → (is_of_group group u.name || is_among seen u.name) ≡ b → (c : Bool) → bytes_eq u.name t.name ≡ c
        → ((more : List ExportTree) (j : ℕ) → slice_get trees j ≡ Some t → is_among more t.name ≡ false
        → ((i : ℕ) (v : ExportTree) → slice_get trees i ≡ Some v → v.name ≡ t.name → v ≡ t)
        → slice_get (outside_once group more trees) (tree_number (outside_once group more trees) t.name) ≡ Some t)
        → slice_get (if b then outside_once group seen trees else u ∷ outside_once group (seen ++ u ∷ []) trees)
        (tree_number (if b then outside_once group seen trees else u ∷ outside_once group (seen ++ u ∷ []) trees)
        t.name) ≡ Some t
    by true e c f rest =
        let at = later k is (passed true e refl) in
        rest seen at.0 at.1 new (λ i v g name. same (suc i) v g name)
    by false e true f rest =
        let name = bytes_true u.name t.name f in
        let one : u ≡ t = same 0 u refl name in
        ap (λ c. slice_get (u ∷ outside_once group (seen ++ u ∷ []) trees) (if c then 0 else suc (tree_number
        (outside_once group (seen ++ u ∷ []) trees) t.name))) f ∙ ap Some one
    by false e false f rest =
        let at = later k is (λ name. let no : false ≡ true = sym f ∙ (ap (λ x. bytes_eq x t.name) name ∙ name_is t.name)
        in cc) in
        ap (λ c. slice_get (u ∷ outside_once group (seen ++ u ∷ []) trees) (if c then 0 else suc (tree_number
        (outside_once group (seen ++ u ∷ []) trees) t.name))) f
        ∙ rest (seen ++ u ∷ []) at.0 at.1 (among_more seen u t.name new f) (λ i v g name. same (suc i) v g name)

pub outside_kept : (group : List Files) (k : ℕ) (t : ExportTree)
    → slice_get (flat_map (λ (p : Files). p.exports) group) k ≡ Some t → is_of_group group t.name ≡ false
    → ((j : ℕ) (u : ExportTree) → slice_get (flat_map (λ (p : Files). p.exports) group) j ≡ Some u → u.name ≡ t.name
    → u ≡ t) → slice_get (joint_exports group) (tree_number (joint_exports group) t.name) ≡ Some t
outside_kept group k t is out same = kept group [] (flat_map (λ (p : Files). p.exports) group) k t is out refl same

-- ---- packages by their names

pub no_package : (group : List Member) (name : List ℕ) → is_of_group (files_of group) name ≡ false
    → package_number group name ≡ None
no_package [] name e = refl
no_package (m ∷ group) name e =
    by (let files = m.files in bytes_eq files.package_name name) e (no_package group name)
  where
    by : (b : Bool) → (b || is_of_group (files_of group) name) ≡ false → (is_of_group (files_of group) name ≡ false
        → package_number group name ≡ None) → (if b then Some 0 else option_map suc (package_number group name)) ≡ None
    by true f rest = cc
    by false f rest = ap (option_map suc) (rest f)

pub package_at : (group : List Member) (r : ℕ) (m : Member) → slice_get group r ≡ Some m
    → ((j : ℕ) (n : Member) → slice_get group j ≡ Some n → (let files = n.files in files.package_name) ≡ (let files
    = m.files in files.package_name) → j ≡ r)
    → package_number group (let files = m.files in files.package_name) ≡ Some r
package_at [] r m is once = cc
package_at (n ∷ group) zero m is once =
    let same : n ≡ m = cc in
    ap (λ b. if b then Some 0 else option_map suc (package_number group (let files = m.files in files.package_name)))
    (ap (λ (v : Member). let files = v.files in bytes_eq files.package_name (let files = m.files in files.package_name))
    same ∙ name_is (let files = m.files in files.package_name))
package_at (n ∷ group) (suc r) m is once =
    by (let files = n.files in bytes_eq files.package_name (let files = m.files in files.package_name)) refl
    (package_at group r m is (λ j k at same. let more : suc j ≡ suc r = once (suc j) k at same in omega (arith, more)))
  where
    by : (b : Bool) → (let files = n.files in bytes_eq files.package_name (let files = m.files in files.package_name))
        ≡ b → package_number group (let files = m.files in files.package_name) ≡ Some r
        → (if b then Some 0 else option_map suc (package_number group (let files = m.files in files.package_name)))
        ≡ Some (suc r)
    by true f rest =
        let no : 0 ≡ suc r = once 0 n refl (bytes_true (let files = n.files in files.package_name) (let files = m.files
        in files.package_name) f) in absurd (omega (arith, no))
    by false f rest = ap (option_map suc) rest
