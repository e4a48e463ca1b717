-- What a package keeps of the rules of limits and flags.
use Rattle.std.proofs.Common.{◌≡◌, ℕ, ◌≤◌, false, List, [], ◌++◌, length, Some}
use Rattle.std.specs.Prelude.{is_some, slice_get, sum_by}
use Rattle.std.proofs.lemmas.Bool.{ltb-false}
use Rattle.cjc_bytes.specs.AccessFlags.{is_interface}
use Rattle.cjc_bytes.specs.Breaks.{Break, at, each_from}
use Rattle.cjc_bytes.specs.Order.{file_of}
use Rattle.cjc_bytes.specs.declared.settings.Settings.{Settings}
use Rattle.cjc_bytes.proofs.BrokenRules.{not_broken, each_at}
use Rattle.cjc_bytes.proofs.Lists.{none_left, none_right}
use Rattle.cjc_world.specs.ClassFile.declared.tree.ClassTree.{ClassTree}
use Rattle.cjc_world.specs.ClassFile.declared.tree.MethodTree.{MethodTree}
use Rattle.cjc_components.specs.Bytecode.declared.method_code.MethodCode.{MethodCode}
use Rattle.cjc_classes.specs.Subset.Applets.{has_unfit_applets}
use Rattle.cjc_classes.specs.Subset.Checks.{check_breaks, class_breaks, code_breaks, list_breaks, method_breaks}
use Rattle.cjc_classes.specs.Subset.Checks.{own_breaks}
use Rattle.cjc_classes.specs.Subset.Flags.{is_unfit_method}
use Rattle.cjc_classes.specs.Subset.Limits.{handlers_of_class, has_many_handlers, has_many_interfaces, listed_names}
use Rattle.cjc_classes.specs.Subset.Limits.{most_interfaces, noted}
use Rattle.cjc_world.specs.Classes.{all_classes}
use Rattle.cjc_world.specs.Files.{Files}

module _ (list : List ℕ) (files : Files) (codes : List MethodCode) (settings : Settings) (none : check_breaks list files
    codes settings ≡ []) where
  abbrev by_classes : List Break
  by_classes = each_from (λ n c. class_breaks files settings (file_of files.lines n) n c) 0 files.classes

  abbrev by_codes : List Break
  by_codes = each_from (λ _ c. code_breaks files settings c) 0 codes

  front : list_breaks list files settings ++ by_classes ≡ []
  unfolding check_breaks
  front = none_left (list_breaks list files settings ++ by_classes) by_codes none

  own : list_breaks list files settings ≡ []
  own = none_left (list_breaks list files settings) by_classes front

  -- ---- of the list

  -- 409
  pub few_applets : length settings.applets ≤ 255
  unfolding list_breaks
  few_applets = ltb-false 255 (length settings.applets) (not_broken _ _ 409 (none_right _ _ own))

  -- 408
  pub short_name : length files.package_name ≤ 255
  unfolding list_breaks
  short_name = ltb-false 255 (length files.package_name) (not_broken _ _ 408 (none_right _ _ (none_left _ _ own)))

  -- 407
  pub few_handlers : sum_by handlers_of_class files.classes ≤ 255
  unfolding list_breaks has_many_handlers
  few_handlers = ltb-false 255 (sum_by handlers_of_class files.classes)
      (not_broken _ _ 407 (none_right _ _ (none_left _ _ (none_left _ _ own))))

  -- 402
  pub few_files : length files.classes ≤ 255
  unfolding list_breaks
  few_files = ltb-false 255 (length files.classes)
      (not_broken _ _ 402 (none_right _ _ (none_left _ _ (none_left _ _ (none_left _ _ own)))))

  -- 309
  pub fit_applets : has_unfit_applets (all_classes files) settings.applets ≡ false
  unfolding list_breaks
  fit_applets = not_broken _ _ 309 (none_right _ _ (none_left _ _ (none_left _ _ (none_left _ _ (none_left _ _
      (none_left _ _ own))))))

  -- ---- of a class

  module _ (k : ℕ) (c : ClassTree) (is : slice_get files.classes k ≡ Some c) where
    whole : class_breaks files settings (file_of files.lines k) k c ≡ []
    whole = each_at (λ n d. class_breaks files settings (file_of files.lines n) n d) k files.classes c
        (none_right (list_breaks list files settings) by_classes front) is

    of_own : own_breaks files settings (file_of files.lines k) k c ≡ []
    unfolding class_breaks
    of_own = none_left _ _ (none_left _ _ (none_left _ _ whole))

    -- 403
    pub few_interfaces : length (noted [] (listed_names files c)) ≤ most_interfaces c
    unfolding own_breaks has_many_interfaces
    few_interfaces = ltb-false (most_interfaces c) (length (noted [] (listed_names files c)))
        (not_broken _ _ 403 (none_right _ _ (none_left _ _ of_own)))

    -- 304
    pub fit_method : (i : ℕ) (m : MethodTree) → slice_get c.methods i ≡ Some m
        → is_unfit_method (is_interface c.flags) m.flags m.name (is_some m.code) ≡ false
    unfolding class_breaks method_breaks
    fit_method i m at =
        let methods = each_from (λ j n. method_breaks settings (file_of files.lines k) c j n) 0 c.methods in
        let all : methods ≡ [] = none_right _ _ (none_left _ _ whole) in
        let here : method_breaks settings (file_of files.lines k) c i m ≡ [] =
        each_at (λ j n. method_breaks settings (file_of files.lines k) c j n) i c.methods m all at in
        not_broken _ _ 304 (none_right _ _ (none_left _ _ (none_left _ _ here)))
