-- Where no limit is broken, few classes are exported and few cells declared, so that all have tokens where 413 is not
-- broken either.
use Rattle.std.proofs.Common.{◌≡◌, ℕ, suc, refl, Bool, true, false, ◌&&◌, List, [], ◌∷◌, ◌++◌, length}
use Rattle.std.proofs.Common.{get_or}
use Rattle.std.specs.Prelude.{Some, nat_lt, slice_get, if◌then◌else◌}
use Rattle.std.specs.List.{list_all}
use Rattle.std.proofs.lemmas.Option.{slice_get-get_or}
use Rattle.std.proofs.lemmas.Bool.{and_from}
use Rattle.cjc_exported.specs.Bytes.Breaks.{Break, each_from}
use Rattle.cjc_exported.specs.Bytes.Order.{file_of}
use Rattle.cjc_exported.specs.Bytes.declared.settings.Settings.{Settings}
use Rattle.cjc_exported.specs.ClassFile.declared.tree.ClassTree.{ClassTree}
use Rattle.cjc_methods.specs.Bytecode.declared.method_code.MethodCode.{MethodCode}
use Rattle.cjc_methods.specs.Subset.Checks.{check_breaks, class_breaks, code_breaks, list_breaks, own_breaks}
use Rattle.cjc_methods.specs.Subset.Limits.{has_many_exported}
use Rattle.cjc_methods.specs.Tokens.Rules.{FewCells, FewExported, HasFewCells, has_few_cells, has_few_exported, is_few}
use Rattle.cjc_methods.specs.Tokens.Rules.{tested_breaks, token_breaks}
use Rattle.cjc_exported.specs.World.Files.{Files}
use Rattle.cjc_shape.proofs.PreparedLaws.Few.{few-cells, few-exported}
use Rattle.cjc_methods.proofs.BytesBrokenRules.{not_broken, each_at}
use Rattle.cjc_methods.proofs.BytesLists.{none_left, none_right}
use Rattle.cjc_methods.proofs.BytesNumbers.{at_most}

tokens_where : (b : Bool) (bs : List Break) → (if b then bs else []) ≡ [] → b ≡ true → bs ≡ []
tokens_where true bs e f = e
tokens_where false bs e f = cc

cells_all : (cs : List ClassTree) → ((k : ℕ) (c : ClassTree) → slice_get cs k ≡ Some c → HasFewCells c)
    → list_all has_few_cells cs ≡ true
cells_all [] f = refl
cells_all (c ∷ cs) f = by (has_few_cells c) (at_most _ 255 (f 0 c refl)) (cells_all cs (λ k d e. f (suc k) d e))
  where
    by : (b : Bool) → b ≡ true → list_all has_few_cells cs ≡ true → (b && list_all has_few_cells cs) ≡ true
    by true e rest = rest
    by false e rest = cc

module _ (name : List ℕ) (w : Files) (codes : List MethodCode) (settings : Settings) (unbroken : check_breaks name w
    codes settings ≡ []) where
  abbrev has_applets : Bool
  has_applets = nat_lt 0 (length settings.applets)

  abbrev by_classes : List Break
  by_classes = each_from (λ n c. class_breaks w settings (file_of w.lines n) n c) 0 w.classes

  abbrev by_codes : List Break
  by_codes = each_from (λ _ c. code_breaks w settings c) 0 codes

  front : list_breaks name w settings ++ by_classes ≡ []
  unfolding check_breaks
  front = none_left (list_breaks name w settings ++ by_classes) by_codes unbroken

  pub few_exported : FewExported has_applets w
  unfolding list_breaks
  few_exported =
      let own : list_breaks name w settings ≡ [] = none_left (list_breaks name w settings) by_classes front in
      let e : has_many_exported w settings ≡ false =
      not_broken _ _ 401 (none_right _ _ (none_left _ _ (none_left _ _ (none_left _ _ (none_left _ _ own))))) in
      few-exported w settings e

  few_cells_at : (k : ℕ) (c : ClassTree) → slice_get w.classes k ≡ Some c → HasFewCells c
  unfolding class_breaks own_breaks
  few_cells_at k c e =
      let all : by_classes ≡ [] = none_right (list_breaks name w settings) by_classes front in
      let here : class_breaks w settings (file_of w.lines k) k c ≡ [] =
      each_at (λ n d. class_breaks w settings (file_of w.lines n) n d) k w.classes c all e in
      let own : own_breaks w settings (file_of w.lines k) k c ≡ [] = none_left _ _ (none_left _ _ (none_left _ _ here))
      in
      few-cells c (not_broken _ _ 406 (none_right _ _ own))

  pub few_cells : FewCells w
  few_cells k d l = few_cells_at k (get_or w.classes k d) (slice_get-get_or w.classes k d l)

  pub few : is_few has_applets w ≡ true
  few = and_from (has_few_exported has_applets w) (list_all has_few_cells w.classes) (at_most _ 255 few_exported)
      (cells_all w.classes few_cells_at)

  pub has_tokens : tested_breaks has_applets w ≡ [] → token_breaks has_applets w ≡ []
  unfolding tested_breaks
  has_tokens none = tokens_where (is_few has_applets w) (token_breaks has_applets w) none few
