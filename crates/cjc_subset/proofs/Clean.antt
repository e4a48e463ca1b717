-- Instructions at which none of the tests is met break nothing.
use Rattle.std.proofs.Common.{◌≡◌, refl, ◌∙◌, ap, ℕ, Bool, true, false, List, [], ◌++◌}
use Rattle.std.specs.Prelude.{◌&&◌, ◌||◌, not}
use Rattle.cjc_bytes.specs.declared.settings.Settings.{Settings}
use Rattle.cjc_bytes.specs.Breaks.{Break, RulePlace, at, each, each_from}
use Rattle.cjc_bytes.specs.Order.{FilePlace}
use Rattle.cjc_code.specs.ClassFile.declared.tree.ClassTree.{ClassTree}
use Rattle.cjc_code.specs.ClassFile.declared.tree.MethodTree.{MethodTree}
use Rattle.cjc_code.specs.declared.insn.JInsn.{JInsn}
use Rattle.cjc_world.specs.Classes.{all_classes}
use Rattle.cjc_world.specs.Files.{Files}
use Rattle.cjc_subset.specs.Checks as checks
use Rattle.cjc_subset.specs.Names as names
use Rattle.cjc_subset.specs.Places.{at_method}
use Rattle.cjc_subset.specs.Types.{names_int, names_unsupported}

pub nothing_more : (xs ys : List Break) → xs ≡ [] → ys ≡ [] → xs ++ ys ≡ []
nothing_more xs ys e f = ap (λ (v : List Break). v ++ ys) e ∙ f

three : (s : RulePlace) (a b c : Bool) → (a || (b || c)) ≡ false → at a s 301 ++ at b s 302 ++ at c s 310 ≡ []
three s true b c e = absurd cc
three s false true c e = absurd cc
three s false false true e = absurd cc
three s false false false e = refl

four : (s : RulePlace) (a b c d : Bool) → (a || (b || (c || d))) ≡ false
    → at a s 203 ++ at b s 205 ++ at c s 205 ++ at d s 206 ≡ []
four s true b c d e = absurd cc
four s false true c d e = absurd cc
four s false false true d e = absurd cc
four s false false false true e = absurd cc
four s false false false false e = refl

pub clean_for_card : (files : Files) (settings : Settings) (f : FilePlace) (c : ClassTree) (i : ℕ) (m : MethodTree)
    (insn : JInsn) → (names_unsupported insn.op || ((not settings.ints && names_int insn.op)
    || checks.names_variable files insn.op)) ≡ false → checks.insn_breaks files settings f c i m insn ≡ []
unfolding checks.insn_breaks
clean_for_card files settings f c i m insn e = three (at_method f c i m insn.at) (names_unsupported insn.op)
    (not settings.ints && names_int insn.op) (checks.names_variable files insn.op) e

pub clean_by_name : (files : Files) (f : FilePlace) (c : ClassTree) (i : ℕ) (m : MethodTree) (insn : JInsn)
    → (names.names_missing (all_classes files) insn.op || (names.names_unfound (all_classes files) insn.op
    || (names.names_other_kind (all_classes files) c m insn.at insn.op || names.names_unfit files c insn.op))) ≡ false
    → names.insn_breaks files f c i m insn ≡ []
unfolding names.insn_breaks
clean_by_name files f c i m insn e = four (at_method f c i m insn.at) (names.names_missing (all_classes files) insn.op)
    (names.names_unfound (all_classes files) insn.op) (names.names_other_kind (all_classes files) c m insn.at insn.op)
    (names.names_unfit files c insn.op) e

pub clean_without_handlers : (files : Files) (f : FilePlace) (c : ClassTree) (i : ℕ) (m : MethodTree)
    (insns : List JInsn) → names.catches_of m.code ≡ []
    → each (λ _ insn. names.insn_breaks files f c i m insn) insns ≡ []
    → names.method_breaks files f c i m insns ≡ []
unfolding names.method_breaks each_from
clean_without_handlers files f c i m insns none clean =
    nothing_more (each (λ _ insn. names.insn_breaks files f c i m insn) insns)
    (each (λ _ k. names.catch_breaks files f c i m k) (names.catches_of m.code)) clean
    (ap (λ ks. each (λ _ k. names.catch_breaks files f c i m k) ks) none)
