-- Where 401 and 406 are not broken, few classes are exported and few cells declared, as tokens count them.
use Rattle.std.proofs.Common.{◌≡◌, ℕ, ◌+◌, ◌≤◌, refl, sym, ap, subst, ◌∙◌, arith, Bool, true, false, not, List, [], ◌∷◌}
use Rattle.std.proofs.Common.{length}
use Rattle.std.specs.Prelude.{cond, count_by, nat_lt, sum_by, if◌then◌else◌, codes}
use Rattle.std.specs.List.{fold}
use Rattle.std.specs.Str.{bytes_eq}
use Rattle.std.proofs.lemmas.Bool.{ltb-false}
use Rattle.std.proofs.lemmas.List.Sums.{sum_by-cons}
use Rattle.cjc_exported.specs.Bytes.AccessFlags.{is_static}
use Rattle.cjc_exported.specs.Bytes.declared.settings.Settings.{Settings}
use Rattle.cjc_exported.specs.ClassFile.declared.tree.ClassTree.{ClassTree}
use Rattle.cjc_exported.specs.ClassFile.declared.tree.FieldTree.{FieldTree}
use Rattle.cjc_methods.specs.Subset.Limits.{has_many_cells, has_many_exported, cells as cells_by_flag}
use Rattle.cjc_methods.specs.Tokens.Fields.{cells, instance_cells, is_instance}
use Rattle.cjc_methods.specs.Tokens.Rules.{FewExported, HasFewCells, count_exported}
use Rattle.cjc_methods.specs.Tokens.Tokens.{one_more}
use Rattle.cjc_exported.specs.World.Classes.{Class, all_classes, declared}
use Rattle.cjc_exported.specs.World.Exported.{is_exported}
use Rattle.cjc_exported.specs.World.Files.{Files}

-- ---- 401

same_exported : (w : List Class) (applets : Bool) (k : ℕ) (c : ClassTree) → is_exported w applets (declared k c)
    ≡ is_exported w applets (declared 0 c)
unfolding is_exported
same_exported w applets k c = refl

same_count : (w : List Class) (applets : Bool) (k : ℕ) (cs : List ClassTree) → count_exported w applets k cs
    ≡ count_by (λ c. is_exported w applets (declared 0 c)) cs
same_count w applets k [] = refl
same_count w applets k (c ∷ cs) =
    ap (λ b. one_more b (count_exported w applets (k + 1) cs)) (same_exported w applets k c)
    ∙ by (is_exported w applets (declared 0 c)) (same_count w applets (k + 1) cs)
    ∙ sym (sum_by-cons (λ d. cond (is_exported w applets (declared 0 d)) 1 0) c cs)
  where
    by : (b : Bool) → count_exported w applets (k + 1) cs ≡ count_by (λ c. is_exported w applets (declared 0 c)) cs
        → one_more b (count_exported w applets (k + 1) cs) ≡ cond b 1 0 + count_by (λ c. is_exported w applets
        (declared 0 c)) cs
    by true e = ap (λ n. n + 1) e ∙ (let n = count_by (λ c. is_exported w applets (declared 0 c)) cs in let z : n + 1
        ≡ 1 + n = omega arith in z)
    by false e = e ∙ (let n = count_by (λ c. is_exported w applets (declared 0 c)) cs in let z : n ≡ 0 + n = omega arith
        in z)

pub few-exported : (files : Files) (settings : Settings) → has_many_exported files settings ≡ false
    → FewExported (nat_lt 0 (length settings.applets)) files
unfolding has_many_exported
few-exported files settings e =
    let applets = nat_lt 0 (length settings.applets) in
    let l = ltb-false 255 (count_by (λ c. is_exported (all_classes files) applets (declared 0 c)) files.classes) e in
    subst (λ n. n ≤ 255) (sym (same_count (all_classes files) applets 0 files.classes)) l

-- ---- 406

same_cell : (f : FieldTree) → (if is_instance f then cells f else 0) ≡ cells_by_flag f
same_cell f = by (is_static f.flags)
  where
    by : (b : Bool) → (if not b then cells f else 0) ≡ (if b then 0 else if bytes_eq f.desc (codes "I") then 2 else 1)
    by true = refl
    by false = refl

same_fold : (g h : FieldTree → ℕ) → ((f : FieldTree) → g f ≡ h f) → (a : ℕ) (fs : List FieldTree)
    → fold (λ b x. b + g x) a fs ≡ fold (λ b x. b + h x) a fs
same_fold g h e a [] = refl
same_fold g h e a (f ∷ fs) = same_fold g h e (a + g f) fs ∙ ap (λ n. fold (λ b x. b + h x) (a + n) fs) (e f)

same_cells : (fs : List FieldTree) → instance_cells fs ≡ sum_by cells_by_flag fs
same_cells fs = same_fold (λ f. if is_instance f then cells f else 0) cells_by_flag same_cell 0 fs

pub few-cells : (c : ClassTree) → has_many_cells c ≡ false → HasFewCells c
unfolding has_many_cells
few-cells c e = subst (λ n. n ≤ 255) (sym (same_cells c.fields)) (ltb-false 255 (sum_by cells_by_flag c.fields) e)
