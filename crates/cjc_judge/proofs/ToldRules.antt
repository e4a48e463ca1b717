-- What is told of the rules of names, of the language of the card, of limits, of tokens, of types and of ranges.
use Rattle.std.proofs.Common.{◌≡◌, ℕ, suc, ◌+◌, Bool, true, false, List, [], ◌∷◌, length, Some, refl, sym, ap, subst}
use Rattle.std.proofs.Common.{◌∙◌, arith}
use Rattle.std.specs.Prelude.{not, slice_get, if◌then◌else◌}
use Rattle.std.proofs.lemmas.Option.{slice_get_within}
use Rattle.cjc_bytes.specs.declared.breaks.BrokenAt.{BrokenAt}
use Rattle.cjc_bytes.specs.declared.settings.Settings.{Settings}
use Rattle.cjc_narrow.specs.Types.Flow.{Body}
use Rattle.cjc_bytes.specs.Breaks.{Break, at, broken_at, class_spot, each, list_spot, member_spot}
use Rattle.cjc_bytes.specs.Order.{FilePlace, file_of}
use Rattle.cjc_bytes.specs.Refused.{method_text}
use Rattle.cjc_world.specs.ClassFile.declared.tree.Catch.{Catch}
use Rattle.cjc_world.specs.ClassFile.declared.tree.ClassTree.{ClassTree}
use Rattle.cjc_world.specs.ClassFile.declared.tree.FieldTree.{FieldTree}
use Rattle.cjc_world.specs.ClassFile.declared.tree.MethodTree.{MethodTree}
use Rattle.cjc_clinit.specs.Bytecode.declared.insn.JInsn.{JInsn}
use Rattle.cjc_clinit.specs.Bytecode.declared.method_code.MethodCode.{MethodCode}
use Rattle.cjc_clinit.specs.Subset.Checks as checks
use Rattle.cjc_clinit.specs.Subset.Exports.{export_breaks, export_file_of, is_class_name, is_of_objects}
use Rattle.cjc_clinit.specs.Subset.Exports.{is_unfit_listed, listed_class_breaks}
use Rattle.cjc_clinit.specs.Subset.Names.{insn_breaks, catch_breaks, catches_of, method_breaks, code_breaks}
use Rattle.cjc_clinit.specs.Subset.Names.{name_breaks}
use Rattle.cjc_clinit.specs.Subset.Overriding.{is_inherited, method_against, class_against, supertype_breaks}
use Rattle.cjc_clinit.specs.Subset.Overriding.{overriding_breaks}
use Rattle.cjc_clinit.specs.Subset.Places.{at_class, at_field, at_method}
use Rattle.cjc_vtable.specs.LowerTokens.Rules.{breaks_from, breaks_where, has_high_token, is_few, tested_breaks}
use Rattle.cjc_vtable.specs.LowerTokens.Rules.{token_breaks}
use Rattle.cjc_vtable.specs.LowerTokens.Rules.{at_class as token_at_class}
use Rattle.cjc_world.specs.Classes.{Class, all_classes, declared, imported}
use Rattle.cjc_world.specs.Exported.{is_exported}
use Rattle.cjc_world.specs.Files.{Files}
use Rattle.cjc_world.specs.ExportFile.declared.tree.ExportClass.{ExportClass}
use Rattle.cjc_world.specs.ExportFile.declared.tree.ExportTree.{ExportTree}
use Rattle.cjc_clinit.specs.Rules.{BreaksImage, of_class, of_code}
use Rattle.cjc_judge.specs.declared.reading.UnsupportedInsn.{UnsupportedInsn}
use Rattle.cjc_judge.specs.Rules.{unsupported_break, unsupported_breaks, BreaksMethod}
use Rattle.cjc_judge.proofs.Each.{Each, each_none, each_more, each_append, each_at, each_of, each_code}
use Rattle.cjc_judge.proofs.Places.{IsTold, IsFileOf, IsExportFileOf, class_files, export_file_is_of, export_files}
use Rattle.cjc_judge.proofs.Places.{file_is_of, told_list, told_at_class, told_at_field, told_at_listed_class}
use Rattle.cjc_judge.proofs.Places.{told_at_listed_method, told_at_method}

-- Each class and each export file has a line.
module _ (list : List ℕ) (files : Files) (counted : length files.classes ≡ class_files files.lines)
    (listed : length files.exports ≡ export_files files.lines) where
  abbrev Told : Break → Type 0
  Told = IsTold list files

  there : (number : ℕ) (c : ClassTree) → slice_get files.classes number ≡ Some c
      → IsFileOf files number c (file_of files.lines number)
  there number c is = file_is_of files number c (let within = slice_get_within files.classes number c is
      in omega (arith, within, counted)) is

  -- ---- in a class

  module _ (number : ℕ) (c : ClassTree) (is : slice_get files.classes number ≡ Some c) where
    abbrev file : FilePlace
    file = file_of files.lines number

    own : (broken : Bool) (rule : ℕ) → Each Told (at broken (at_class file c) rule)
    own broken rule = each_at Told broken (at_class file c) rule (told_at_class list files number c file
        (there number c is) rule)

    field : (i : ℕ) (m : FieldTree) → slice_get c.fields i ≡ Some m → (broken : Bool) (rule : ℕ)
        → Each Told (at broken (at_field file c i m) rule)
    field i m at_i broken rule = each_at Told broken (at_field file c i m) rule (told_at_field list files number c file
        (there number c is) i m at_i rule)

    method : (i : ℕ) (m : MethodTree) → slice_get c.methods i ≡ Some m → (offset : ℕ) (broken : Bool) (rule : ℕ)
        → Each Told (at broken (at_method file c i m offset) rule)
    method i m at_i offset broken rule = each_at Told broken (at_method file c i m offset) rule
        (told_at_method list files number c file (there number c is) i m at_i offset rule)

    -- names
    names_insn : (i : ℕ) (m : MethodTree) → slice_get c.methods i ≡ Some m → (insn : JInsn)
        → Each Told (insn_breaks files file c i m insn)
    unfolding insn_breaks
    names_insn i m at_i insn =
        each_append Told _ _
        (each_append Told _ _ (each_append Told _ _ (method i m at_i insn.at _ 203) (method i m at_i insn.at _ 205))
        (method i m at_i insn.at _ 205))
        (method i m at_i insn.at _ 206)

    names_catch : (i : ℕ) (m : MethodTree) → slice_get c.methods i ≡ Some m → (k : Catch)
        → Each Told (catch_breaks files file c i m k)
    unfolding catch_breaks
    names_catch i m at_i k = method i m at_i k.target _ 203

    names_method : (i : ℕ) (m : MethodTree) → slice_get c.methods i ≡ Some m → (insns : List JInsn)
        → Each Told (method_breaks files file c i m insns)
    unfolding method_breaks
    names_method i m at_i insns =
        each_append Told _ _ (each_of Told _ insns (λ _ insn _. names_insn i m at_i insn))
        (each_of Told _ (catches_of m.code) (λ _ k _. names_catch i m at_i k))

    -- 301, 302 and 310 of an instruction
    check_insn : (settings : Settings) (i : ℕ) (m : MethodTree) → slice_get c.methods i ≡ Some m → (insn : JInsn)
        → Each Told (checks.insn_breaks files settings file c i m insn)
    unfolding checks.insn_breaks
    check_insn settings i m at_i insn = each_append Told _ _ (each_append Told _ _ (method i m at_i insn.at _ 301)
        (method i m at_i insn.at _ 302)) (method i m at_i insn.at _ 310)

    check_field : (settings : Settings) (i : ℕ) (m : FieldTree) → slice_get c.fields i ≡ Some m
        → Each Told (checks.field_breaks settings file c i m)
    unfolding checks.field_breaks
    check_field settings i m at_i = each_append Told _ _ (each_append Told _ _ (field i m at_i _ 301)
        (field i m at_i _ 302)) (field i m at_i _ 304)

    check_method : (settings : Settings) (i : ℕ) (m : MethodTree) → slice_get c.methods i ≡ Some m
        → Each Told (checks.method_breaks settings file c i m)
    unfolding checks.method_breaks
    check_method settings i m at_i =
        each_append Told _ _
        (each_append Told _ _
        (each_append Told _ _ (each_append Told _ _ (method i m at_i 0 _ 301) (method i m at_i 0 _ 302))
        (method i m at_i 0 _ 304))
        (method i m at_i 0 _ 404))
        (method i m at_i 0 _ 405)

    -- 305 to 307
    against : (d : Class) (i : ℕ) (m : MethodTree) → slice_get c.methods i ≡ Some m
        → Each Told (method_against file c d i m)
    unfolding method_against
    against d i m at_i = each_append Told _ _ (method i m at_i 0 _ 305) (method i m at_i 0 _ 306)

    all_against : (w : List Class) (d : Class) → Each Told (class_against w file c d)
    unfolding class_against
    all_against w d = each_append Told _ _ (own _ 307) (each_of Told _ c.methods (λ i m at_i. against d i m at_i))

    supertypes : (w : List Class) (d : Class) → Each Told (supertype_breaks w file c d)
    unfolding supertype_breaks
    supertypes w d = by (is_inherited w c d)
      where
        by : (b : Bool) → Each Told (if b then class_against w file c d else [])
        by true = all_against w d
        by false = each_none Told

    overriding : Each Told (overriding_breaks files file c)
    unfolding overriding_breaks
    overriding =
        each_append Told _ _
        (each_append Told _ _ (own _ 307) (each_of Told _ files.classes (λ _ d _. supertypes (all_classes files)
        (declared 0 d))))
        (each_of Told _ files.exports (λ _ t _. each_of Told _ t.classes (λ _ d _. supertypes (all_classes files)
        (imported 0 d))))

    check_own : (settings : Settings) → Each Told (checks.own_breaks files settings file number c)
    unfolding checks.own_breaks
    check_own settings =
        each_append Told _ _
        (each_append Told _ _
        (each_append Told _ _ (each_append Told _ _ (each_append Told _ _ (own _ 301) (own _ 302)) (own _ 304))
        (own _ 305))
        (own _ 403))
        (own _ 406)

    check_class : (settings : Settings) → Each Told (checks.class_breaks files settings file number c)
    unfolding checks.class_breaks
    check_class settings =
        each_append Told _ _
        (each_append Told _ _
        (each_append Told _ _ (check_own settings) (each_of Told _ c.fields (λ i m at_i. check_field settings i m
        at_i)))
        (each_of Told _ c.methods (λ i m at_i. check_method settings i m at_i)))
        overriding

  -- ---- in an export file

  -- 301 and 304 of a class that it lists
  check_listed : (e : ℕ) (t : ExportTree) → slice_get files.exports e ≡ Some t → (k : ℕ) (c : ExportClass)
      → slice_get t.classes k ≡ Some c → Each Told (listed_class_breaks (export_file_of files.lines e) (k + 1) c)
  unfolding listed_class_breaks
  check_listed e t is k c at_k =
      let f = export_file_of files.lines e in
      let stands : IsExportFileOf files t f = export_file_is_of files e t (let within = slice_get_within files.exports e
      t is in omega (arith, within, listed)) is in
      each_append Told _ _
      (each_at Told (not (is_class_name c.name)) (class_spot f (k + 1) c.name) 301 (told_at_listed_class list files t f
      stands k c at_k 301))
      (each_of Told _ c.methods (λ i m at_i. each_at Told (is_unfit_listed (is_of_objects c m.name) m.flags m.name)
      (member_spot f (k + 1) c.name (length c.fields + i + 1) (method_text m.name m.desc) 0) 304
      (told_at_listed_method list files t f stands k c at_k i m at_i 304)))

  exports_told : Each Told (export_breaks files)
  unfolding export_breaks
  exports_told = each_of Told _ files.exports (λ e t is. each_of Told _ t.classes (λ k c at_k. check_listed e t is k c
      at_k))

  -- ---- of all

  -- 203, 205 and 206
  pub names_told : (codes : List MethodCode) → Each Told (name_breaks files codes)
  unfolding name_breaks code_breaks
  names_told codes = each_of Told _ codes (λ _ code _. each_code Told files code.class code.method
      (λ f c m. method_breaks files f c code.method m code.insns) (λ c m is at_i. names_method code.class c is
      code.method m at_i code.insns))

  -- 303
  pub unsupported_insns_told : (xs : List UnsupportedInsn) → Each Told (unsupported_breaks files xs)
  unfolding unsupported_breaks unsupported_break
  unsupported_insns_told xs = each_of Told _ xs (λ _ x _. each_code Told files x.class x.method
      (λ f c m. broken_at (at_method f c x.method m x.offset) 303 ∷ [])
      (λ c m is at_i. each_more Told (broken_at (at_method (file_of files.lines x.class) c x.method m x.offset) 303) []
      (told_at_method list files x.class c (file_of files.lines x.class) (there x.class c is) x.method m at_i
      x.offset 303) (each_none Told)))

  by_list : (broken : Bool) (rule : ℕ) → Each Told (at broken (list_spot list) rule)
  by_list broken rule = each_at Told broken (list_spot list) rule (told_list list files rule)

  check_list : (settings : Settings) → Each Told (checks.list_breaks list files settings)
  unfolding checks.list_breaks
  check_list settings =
      each_append Told _ _
      (each_append Told _ _
      (each_append Told _ _
      (each_append Told _ _ (each_append Told _ _ (each_append Told _ _ exports_told (by_list _ 309)) (by_list _ 401))
      (by_list _ 402))
      (by_list _ 407))
      (by_list _ 408))
      (by_list _ 409)

  -- 301 to 310 and 401 to 409
  pub checks_told : (codes : List MethodCode) (settings : Settings)
      → Each Told (checks.check_breaks list files codes settings)
  unfolding checks.check_breaks checks.code_breaks
  checks_told codes settings =
      each_append Told _ _
      (each_append Told _ _ (check_list settings) (each_of Told _ files.classes (λ n c is. check_class n c is
      settings)))
      (each_of Told _ codes (λ _ code _. each_code Told files code.class code.method
      (λ f c m. each (λ _ insn. checks.insn_breaks files settings f c code.method m insn) code.insns)
      (λ c m is at_i. each_of Told _ code.insns (λ _ insn _. check_insn code.class c is settings code.method m at_i
      insn))))

  high : (w : List Class) (applets : Bool) (k : ℕ) (cs : List ClassTree) → ((i : ℕ) (c : ClassTree)
      → slice_get cs i ≡ Some c → slice_get files.classes (k + i) ≡ Some c)
      → Each Told (breaks_from w applets files.lines k cs)
  unfolding breaks_from
  high w applets k [] are = each_none Told
  high w applets k (c ∷ cs) are =
      each_append Told _ _ (by (has_high_token w (is_exported w applets (declared k c)) k c))
      (high w applets (k + 1) cs (λ i d is. ap (slice_get files.classes) (let e : k + 1 + i ≡ k + suc i = omega arith
      in e) ∙ are (suc i) d is))
    where
      is : slice_get files.classes k ≡ Some c
      is = ap (slice_get files.classes) (let e : k ≡ k + 0 = omega arith in e) ∙ are 0 c refl

      by : (b : Bool) → Each Told (breaks_where b (token_at_class (file_of files.lines k) c.name))
      by true = each_more Told _ [] (told_at_class list files k c (file_of files.lines k) (there k c is) 413)
          (each_none Told)
      by false = each_none Told

  -- 413
  pub tokens_told : (applets : Bool) → Each Told (tested_breaks applets files)
  unfolding tested_breaks token_breaks
  tokens_told applets = by (is_few applets files)
    where
      by : (few : Bool) → Each Told (if few then breaks_from (all_classes files) applets files.lines 0 files.classes
          else [])
      by true = high (all_classes files) applets 0 files.classes (λ i c is. ap (slice_get files.classes) (let e : 0 + i
          ≡ i = omega arith in e) ∙ is)
      by false = each_none Told

  -- 308
  pub image_told : (codes : List MethodCode) (b : Break) → BreaksImage files codes b → Told b
  image_told codes b (of_class number c is h) = subst Told (sym h.is) (told_at_class list files number c
      (file_of files.lines number) (there number c is) 308)
  image_told codes b (of_code i code at h) =
      subst Told (sym h.is)
      (told_at_method list files code.class h.class (file_of files.lines code.class) (there code.class h.class
      h.is_class) code.method h.method h.is_method h.offset 308)

  -- 501 to 503, 601 to 609
  pub method_told : (Breaks : Files → MethodTree → Body → BrokenAt → Type 0) (code : MethodCode) (b : Break)
      → BreaksMethod Breaks files code b → Told b
  method_told Breaks code b h =
      subst Told (sym h.is)
      (told_at_method list files code.class h.class (file_of files.lines code.class) (there code.class h.class
      h.of_package.is_class) code.method h.method h.of_package.is_method h.broken.offset h.broken.rule)
