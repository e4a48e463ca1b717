-- Interfaces of a package that breaks no rule of the card's language have static fields alone.
use Rattle.std.proofs.Common.{◌≡◌, ℕ, zero, suc, ◌+◌, refl, sym, ap, ◌∙◌, Bool, true, false, List, [], ◌∷◌, ◌++◌}
use Rattle.std.proofs.Common.{slice_get, Some}
use Rattle.std.specs.Prelude.{◌&&◌, ◌||◌, not}
use Rattle.cjc_bytes.specs.AccessFlags.{acc_transient, acc_volatile, has, is_interface, is_static}
use Rattle.cjc_bytes.specs.Breaks.{Break, RulePlace, at, each, each_from}
use Rattle.cjc_bytes.specs.Order.{FilePlace, file_of}
use Rattle.cjc_bytes.specs.declared.settings.Settings.{Settings}
use Rattle.cjc_intervals.specs.Bytecode.declared.method_code.MethodCode.{MethodCode}
use Rattle.cjc_world.specs.ClassFile.declared.tree.ClassTree.{ClassTree}
use Rattle.cjc_world.specs.ClassFile.declared.tree.FieldTree.{FieldTree}
use Rattle.cjc_world.specs.Files.{Files}
use Rattle.cjc_tokens.specs.Fields.{is_instance}
use Rattle.cjc_verify.specs.Subset.Checks.{check_breaks, class_breaks, code_breaks, field_breaks, list_breaks}
use Rattle.cjc_verify.specs.Subset.Checks.{method_breaks, own_breaks}
use Rattle.cjc_verify.specs.Subset.Flags.{has_two_accesses, is_unfit_field}
use Rattle.cjc_verify.specs.Subset.Overriding.{overriding_breaks}
use Rattle.cjc_verify.specs.Subset.Places.{at_field}
use Rattle.cjc_verify.specs.Subset.Types.{is_int_desc, is_unsupported_desc}
use Rattle.cjc_verified_proof.specs.PackageTypes.{StaticInInterfaces}
use Rattle.cjc_bytes.proofs.Lists.{none_left, none_right}
use Rattle.cjc_bytes.proofs.Plain.{same_some}

each_none : {A : Type 0} (broken : ℕ → A → List Break) (i : ℕ) (xs : List A) → each_from broken i xs ≡ [] → (k : ℕ)
    (x : A) → slice_get xs k ≡ Some x → (n : ℕ) × (broken n x ≡ [])
unfolding each_from
each_none {A} broken i [] e k x f = absurd cc
each_none {A} broken i (y ∷ xs) e zero x f = (
  i,
  ap (broken i) (sym (same_some f)) ∙ none_left (broken i y)
      (each_from broken (i + 1) xs) e,
)
each_none {A} broken i (y ∷ xs) e (suc k) x f = each_none broken (i + 1) xs (none_right (broken i y)
    (each_from broken (i + 1) xs) e) k x f

not_broken : (b : Bool) (s : RulePlace) (rule : ℕ) → at b s rule ≡ [] → b ≡ false
not_broken true s rule e = absurd cc
not_broken false s rule e = refl

not_unfit : (twice interface static volatile transient : Bool)
    → (twice || (interface && not static) || volatile || transient) ≡ false → interface ≡ true → not static ≡ false
not_unfit true i s v t e f = absurd cc
not_unfit false true true v t e f = refl
not_unfit false true false v t e f = absurd cc
not_unfit false false s v t e f = absurd cc

fit_field : (settings : Settings) (f : FilePlace) (c : ClassTree) (i : ℕ) (m : FieldTree)
    → field_breaks settings f c i m ≡ [] → is_interface c.flags ≡ true → is_instance m ≡ false
unfolding field_breaks
fit_field settings f c i m e g =
    let first = at (is_unsupported_desc m.desc) (at_field f c i m) 301 in
    let second = at (not settings.ints && is_int_desc m.desc) (at_field f c i m) 302 in
    let third = at (is_unfit_field (is_interface c.flags) m.flags) (at_field f c i m) 304 in
    not_unfit (has_two_accesses m.flags) (is_interface c.flags) (is_static m.flags) (has m.flags acc_volatile)
    (has m.flags acc_transient) (not_broken (is_unfit_field (is_interface c.flags) m.flags) (at_field f c i m) 304
    (none_right (first ++ second) third e)) g

pub static_in_interfaces : (list : List ℕ) (files : Files) (codes : List MethodCode) (settings : Settings)
    → check_breaks list files codes settings ≡ [] → StaticInInterfaces files
unfolding check_breaks class_breaks
static_in_interfaces list files codes settings e n k c f here there interface =
    let A = list_breaks list files settings in
    let B = each (λ n c. class_breaks files settings (file_of files.lines n) n c) files.classes in
    let C = each (λ _ code. code_breaks files settings code) codes in
    let r = each_none (λ n c. class_breaks files settings (file_of files.lines n) n c) 0 files.classes (none_right A B
    (none_left (A ++ B) C e)) n c here in
    let g = file_of files.lines r.0 in
    let X = own_breaks files settings g r.0 c in
    let Y = each (λ i m. field_breaks settings g c i m) c.fields in
    let Z = each (λ i m. method_breaks settings g c i m) c.methods in
    let W = overriding_breaks files g c in
    let s = each_none (λ i m. field_breaks settings g c i m) 0 c.fields (none_right X Y (none_left (X ++ Y) Z
    (none_left (X ++ Y ++ Z) W r.1))) k f there in
    fit_field settings g c s.0 f s.1 interface
