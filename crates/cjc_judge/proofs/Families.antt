-- Of which hundred the rules of a list of breaks are.
use Rattle.std.proofs.Common.{◌≡◌, ℕ, ◌+◌, ◌≤◌, Bool, true, false, List, [], ◌∷◌, refl, ap, ◌∙◌, arith}
use Rattle.std.specs.Prelude.{◌/◌, if◌then◌else◌}
use Rattle.cjc_bytes.specs.declared.settings.FileLine.{FileLine}
use Rattle.cjc_bytes.specs.declared.settings.Settings.{Settings}
use Rattle.cjc_world.specs.ClassFile.declared.tree.Catch.{Catch}
use Rattle.cjc_world.specs.ClassFile.declared.tree.ClassTree.{ClassTree}
use Rattle.cjc_world.specs.ClassFile.declared.tree.FieldTree.{FieldTree}
use Rattle.cjc_world.specs.ClassFile.declared.tree.MethodTree.{MethodTree}
use Rattle.cjc_clinit.specs.Bytecode.declared.insn.JInsn.{JInsn}
use Rattle.cjc_clinit.specs.Bytecode.declared.insn.JOp.{JOp}
use Rattle.cjc_clinit.specs.Bytecode.declared.method_code.MethodCode.{MethodCode}
use Rattle.cjc_world.specs.Classes.{Class, all_classes, declared, imported}
use Rattle.cjc_world.specs.Files.{Files}
use Rattle.cjc_world.specs.ExportFile.declared.tree.ExportClass.{ExportClass}
use Rattle.cjc_bytes.specs.Breaks.{Break, broken_at, each}
use Rattle.cjc_clinit.specs.Subset.Places.{at_method}
use Rattle.cjc_bytes.specs.Order.{FilePlace, file_of}
use Rattle.cjc_clinit.specs.Subset.Names.{insn_breaks, catch_breaks, catches_of, method_breaks, code_breaks}
use Rattle.cjc_clinit.specs.Subset.Names.{name_breaks}
use Rattle.cjc_clinit.specs.Subset.Checks as checks
use Rattle.cjc_clinit.specs.Subset.Exports.{export_breaks, export_file_of, listed_class_breaks}
use Rattle.cjc_clinit.specs.Subset.Overriding.{is_inherited, method_against, class_against, supertype_breaks}
use Rattle.cjc_clinit.specs.Subset.Overriding.{overriding_breaks}
use Rattle.cjc_vtable.specs.LowerTokens.Rules.{breaks_from, breaks_where, has_high_token, is_few, tested_breaks}
use Rattle.cjc_vtable.specs.LowerTokens.Rules.{token_breaks}
use Rattle.cjc_vtable.specs.LowerTokens.Rules.{at_class as token_at_class}
use Rattle.cjc_world.specs.Exported.{is_exported}
use Rattle.cjc_judge.proofs.RangesLaws.Hundred.{of_sixth_hundred}
use Rattle.cjc_narrow.specs.Types.declared.state.State.{State}
use Rattle.cjc_narrow.specs.Types.Flow.{Body}
use Rattle.cjc_narrow.specs.Types.Rules.{Breaks, clash, wrong, off}
use Rattle.cjc_judge.specs.declared.reading.UnsupportedInsn.{UnsupportedInsn}
use Rattle.cjc_judge.specs.Rules.{unsupported_break, unsupported_breaks, BreaksType, BreaksRange}
use Rattle.cjc_judge.proofs.Each.{Each, each_none, each_more, each_append, each_at, each_of, each_code}

-- ---- names

abbrev pub IsSecond : Break → Type 0
IsSecond b = b.rank.family ≡ 2

insn_second : (files : Files) (f : FilePlace) (c : ClassTree) (i : ℕ) (m : MethodTree) (insn : JInsn)
    → Each IsSecond (insn_breaks files f c i m insn)
unfolding insn_breaks
insn_second files f c i m insn =
    each_append IsSecond _ _
    (each_append IsSecond _ _ (each_append IsSecond _ _ (each_at IsSecond _ _ 203 refl) (each_at IsSecond _ _ 205 refl))
    (each_at IsSecond _ _ 205 refl))
    (each_at IsSecond _ _ 206 refl)

catch_second : (files : Files) (f : FilePlace) (c : ClassTree) (i : ℕ) (m : MethodTree) (k : Catch)
    → Each IsSecond (catch_breaks files f c i m k)
unfolding catch_breaks
catch_second files f c i m k = each_at IsSecond _ _ 203 refl

method_second : (files : Files) (f : FilePlace) (c : ClassTree) (i : ℕ) (m : MethodTree) (insns : List JInsn)
    → Each IsSecond (method_breaks files f c i m insns)
unfolding method_breaks
method_second files f c i m insns =
    each_append IsSecond _ _
    (each_of IsSecond _ insns (λ _ insn _. insn_second files f c i m insn))
    (each_of IsSecond _ (catches_of m.code) (λ _ k _. catch_second files f c i m k))

code_second : (files : Files) (code : MethodCode) → Each IsSecond (code_breaks files code)
unfolding code_breaks
code_second files code = each_code IsSecond files code.class code.method (λ f c m. method_breaks files f c code.method m
    code.insns) (λ c m _ _. method_second files (file_of files.lines code.class) c code.method m code.insns)

-- 203, 205 and 206 are of the second hundred
pub names_second : (files : Files) (codes : List MethodCode) → Each IsSecond (name_breaks files codes)
unfolding name_breaks
names_second files codes = each_of IsSecond _ codes (λ _ code _. code_second files code)

-- ---- what the language of the card leaves out, and limits

abbrev pub IsThird : Break → Type 0
IsThird b = b.rank.family ≡ 3

-- 303
unsupported_third : (files : Files) (x : UnsupportedInsn) → Each IsThird (unsupported_break files x)
unfolding unsupported_break
unsupported_third files x =
    each_code IsThird files x.class x.method (λ f c m. broken_at (at_method f c x.method m x.offset) 303 ∷ [])
    (λ c m _ _. each_more IsThird (broken_at (at_method (file_of files.lines x.class) c x.method m x.offset) 303) []
    refl (each_none IsThird))

pub unsupported_insns_third : (files : Files) (xs : List UnsupportedInsn) → Each IsThird (unsupported_breaks files xs)
unfolding unsupported_breaks
unsupported_insns_third files xs = each_of IsThird _ xs (λ _ x _. unsupported_third files x)

abbrev pub IsLanguage : Break → Type 0
IsLanguage b = (3 ≤ b.rank.family) × (b.rank.family ≤ 4)

third : (3 ≤ 3) × (3 ≤ 4)
third = (omega arith, omega arith)

fourth : (3 ≤ 4) × (4 ≤ 4)
fourth = (omega arith, omega arith)

check_insn : (files : Files) (settings : Settings) (f : FilePlace) (c : ClassTree) (i : ℕ) (m : MethodTree)
    (insn : JInsn) → Each IsLanguage (checks.insn_breaks files settings f c i m insn)
unfolding checks.insn_breaks
check_insn files settings f c i m insn =
    each_append IsLanguage _ _ (each_append IsLanguage _ _ (each_at IsLanguage _ _ 301 third) (each_at IsLanguage _ _
    302 third)) (each_at IsLanguage _ _ 310 third)

check_code : (files : Files) (settings : Settings) (code : MethodCode)
    → Each IsLanguage (checks.code_breaks files settings code)
unfolding checks.code_breaks
check_code files settings code = each_code IsLanguage files code.class code.method
    (λ f c m. each (λ _ insn. checks.insn_breaks files settings f c code.method m insn) code.insns)
    (λ c m _ _. each_of IsLanguage _ code.insns (λ _ insn _. check_insn files settings (file_of files.lines code.class)
    c code.method m insn))

check_field : (settings : Settings) (f : FilePlace) (c : ClassTree) (i : ℕ) (m : FieldTree)
    → Each IsLanguage (checks.field_breaks settings f c i m)
unfolding checks.field_breaks
check_field settings f c i m =
    each_append IsLanguage _ _ (each_append IsLanguage _ _ (each_at IsLanguage _ _ 301 third) (each_at IsLanguage _ _
    302 third)) (each_at IsLanguage _ _ 304 third)

check_method : (settings : Settings) (f : FilePlace) (c : ClassTree) (i : ℕ) (m : MethodTree)
    → Each IsLanguage (checks.method_breaks settings f c i m)
unfolding checks.method_breaks
check_method settings f c i m =
    each_append IsLanguage _ _
    (each_append IsLanguage _ _
    (each_append IsLanguage _ _ (each_append IsLanguage _ _ (each_at IsLanguage _ _ 301 third) (each_at IsLanguage _ _
    302 third)) (each_at IsLanguage _ _ 304 third))
    (each_at IsLanguage _ _ 404 fourth))
    (each_at IsLanguage _ _ 405 fourth)

check_against : (f : FilePlace) (c : ClassTree) (d : Class) (i : ℕ) (m : MethodTree)
    → Each IsLanguage (method_against f c d i m)
unfolding method_against
check_against f c d i m = each_append IsLanguage _ _ (each_at IsLanguage _ _ 305 third) (each_at IsLanguage _ _ 306
    third)

check_class_against : (w : List Class) (f : FilePlace) (c : ClassTree) (d : Class)
    → Each IsLanguage (class_against w f c d)
unfolding class_against
check_class_against w f c d = each_append IsLanguage _ _ (each_at IsLanguage _ _ 307 third)
    (each_of IsLanguage _ c.methods (λ i m _. check_against f c d i m))

check_supertypes : (w : List Class) (f : FilePlace) (c : ClassTree) (d : Class)
    → Each IsLanguage (supertype_breaks w f c d)
unfolding supertype_breaks
check_supertypes w f c d = by (is_inherited w c d)
  where
    by : (b : Bool) → Each IsLanguage (if b then class_against w f c d else [])
    by true = check_class_against w f c d
    by false = each_none IsLanguage

check_overriding : (files : Files) (f : FilePlace) (c : ClassTree) → Each IsLanguage (overriding_breaks files f c)
unfolding overriding_breaks
check_overriding files f c =
    each_append IsLanguage _ _
    (each_append IsLanguage _ _ (each_at IsLanguage _ _ 307 third) (each_of IsLanguage _ files.classes
    (λ _ d _. check_supertypes (all_classes files) f c (declared 0 d))))
    (each_of IsLanguage _ files.exports (λ _ t _. each_of IsLanguage _ t.classes (λ _ d _. check_supertypes
    (all_classes files) f c (imported 0 d))))

check_own : (files : Files) (settings : Settings) (f : FilePlace) (n : ℕ) (c : ClassTree)
    → Each IsLanguage (checks.own_breaks files settings f n c)
unfolding checks.own_breaks
check_own files settings f n c =
    each_append IsLanguage _ _
    (each_append IsLanguage _ _
    (each_append IsLanguage _ _
    (each_append IsLanguage _ _ (each_append IsLanguage _ _ (each_at IsLanguage _ _ 301 third) (each_at IsLanguage _ _
    302 third)) (each_at IsLanguage _ _ 304 third))
    (each_at IsLanguage _ _ 305 third))
    (each_at IsLanguage _ _ 403 fourth))
    (each_at IsLanguage _ _ 406 fourth)

check_class : (files : Files) (settings : Settings) (f : FilePlace) (n : ℕ) (c : ClassTree)
    → Each IsLanguage (checks.class_breaks files settings f n c)
unfolding checks.class_breaks
check_class files settings f n c =
    each_append IsLanguage _ _
    (each_append IsLanguage _ _
    (each_append IsLanguage _ _ (check_own files settings f n c) (each_of IsLanguage _ c.fields
    (λ i m _. check_field settings f c i m)))
    (each_of IsLanguage _ c.methods (λ i m _. check_method settings f c i m)))
    (check_overriding files f c)

check_listed : (f : FilePlace) (n : ℕ) (c : ExportClass) → Each IsLanguage (listed_class_breaks f n c)
unfolding listed_class_breaks
check_listed f n c = each_append IsLanguage _ _ (each_at IsLanguage _ _ 301 third) (each_of IsLanguage _ c.methods
    (λ i m _. each_at IsLanguage _ _ 304 third))

check_exports : (files : Files) → Each IsLanguage (export_breaks files)
unfolding export_breaks
check_exports files = each_of IsLanguage _ files.exports (λ e t _. each_of IsLanguage _ t.classes (λ i c _. check_listed
    (export_file_of files.lines e) (i + 1) c))

check_list : (list : List ℕ) (files : Files) (settings : Settings)
    → Each IsLanguage (checks.list_breaks list files settings)
unfolding checks.list_breaks
check_list list files settings =
    each_append IsLanguage _ _
    (each_append IsLanguage _ _
    (each_append IsLanguage _ _
    (each_append IsLanguage _ _
    (each_append IsLanguage _ _ (each_append IsLanguage _ _ (check_exports files) (each_at IsLanguage _ _ 309 third))
    (each_at IsLanguage _ _ 401 fourth))
    (each_at IsLanguage _ _ 402 fourth))
    (each_at IsLanguage _ _ 407 fourth))
    (each_at IsLanguage _ _ 408 fourth))
    (each_at IsLanguage _ _ 409 fourth)

-- 301 to 310 and 401 to 409 are of the third and fourth hundred
pub checks_language : (list : List ℕ) (files : Files) (codes : List MethodCode) (settings : Settings)
    → Each IsLanguage (checks.check_breaks list files codes settings)
unfolding checks.check_breaks
checks_language list files codes settings =
    each_append IsLanguage _ _
    (each_append IsLanguage _ _ (check_list list files settings) (each_of IsLanguage _ files.classes
    (λ n c _. check_class files settings (file_of files.lines n) n c)))
    (each_of IsLanguage _ codes (λ _ code _. check_code files settings code))

-- ---- tokens

abbrev pub IsFourth : Break → Type 0
IsFourth b = b.rank.family ≡ 4

high_fourth : (w : List Class) (applets : Bool) (lines : List FileLine) (k : ℕ) (cs : List ClassTree)
    → Each IsFourth (breaks_from w applets lines k cs)
unfolding breaks_from
high_fourth w applets lines k [] = each_none IsFourth
high_fourth w applets lines k (c ∷ cs) =
    each_append IsFourth _ _ (by (has_high_token w (is_exported w applets (declared k c)) k c)) (high_fourth w applets
    lines (k + 1) cs)
  where
    by : (high : Bool) → Each IsFourth (breaks_where high (token_at_class (file_of lines k) c.name))
    by true = each_more IsFourth _ [] refl (each_none IsFourth)
    by false = each_none IsFourth

-- 413 is of the fourth hundred
pub tokens_fourth : (applets : Bool) (files : Files) → Each IsFourth (tested_breaks applets files)
unfolding tested_breaks token_breaks
tokens_fourth applets files = by (is_few applets files)
  where
    by : (few : Bool) → Each IsFourth (if few then breaks_from (all_classes files) applets files.lines 0 files.classes
        else [])
    by true = high_fourth (all_classes files) applets files.lines 0 files.classes
    by false = each_none IsFourth

-- ---- types

type_rule : (w : List Class) (b : Body) (op : JOp) (x : State) (rule : ℕ) → Breaks w b op x rule → rule / 100 ≡ 5
type_rule w b op x rule (clash locals) = refl
type_rule w b op x rule (wrong s locals is) = refl
type_rule w b op x rule (off s locals is) = refl

-- 501 to 503 are of the fifth hundred
pub type_fifth : (files : Files) (code : MethodCode) (b : Break) → BreaksType files code b → b.rank.family ≡ 5
type_fifth files code b h =
    ap (λ (x : Break). x.rank.family) h.is
    ∙ type_rule _ _ _ _ _ h.breaks.first.breach.breaks

-- ---- ranges

-- 601 to 609 are of the sixth hundred
pub range_sixth : (ints : Bool) (files : Files) (code : MethodCode) (b : Break) → BreaksRange ints files code b
    → b.rank.family ≡ 6
range_sixth ints files code b h =
    ap (λ (x : Break). x.rank.family) h.is
    ∙ of_sixth_hundred _ files _ h.broken h.breaks
