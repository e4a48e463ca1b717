-- What a method names, by its code in the package and by its mode.
use Rattle.std.proofs.Common.{◌≡◌, Bool, true, false, List, [], ◌∷◌, Option, refl, ap, ◌∙◌}
use Rattle.std.specs.Prelude.{◌||◌}
use Rattle.cjc_flow.specs.ClassFile.Code.{CodeTree}
use Rattle.cjc_flow.specs.ClassFile.declared.tree.ClassTree.{ClassTree}
use Rattle.cjc_flow.specs.ClassFile.declared.tree.MethodTree.{MethodTree}
use Rattle.cjc_flow.specs.Bytecode.declared.method_code.MethodCode.{MethodCode}
use Rattle.cjc_flow.specs.World.Files.{Files}
use Rattle.cjc_flow.specs.LowerTypes.Flow.{Body, body_of}
use Rattle.cjc_flow.specs.LowerTypes.Tables.{IsMethodOf}
use Rattle.cjc_flow.specs.LowerTypes.declared.state.State.{State}
use Rattle.cjc_flow.specs.LowerIntervals.Frames.{RangeState}
use Rattle.cjc_subset.specs.Ints.{any_works_on_int, code_works_on_int, method_there, method_works_on_int}
use Rattle.cjc_int_mode.specs.Modes.{IsModeOf, by_name, names_int}
use Rattle.cjc_int_mode.specs.declared.modes.Mode.{Mode}
use Rattle.cjc_int_mode.specs.declared.modes.Mode.TheVariants as modes

or_false : (b : Bool) → (b || false) ≡ b
or_false true = refl
or_false false = refl

-- A method names int exactly where its code works on int.
pub names_same : (files : Files) (code : MethodCode) (c : ClassTree) (m : MethodTree) (t : CodeTree)
    → IsMethodOf files code c m t → code_works_on_int files code ≡ names_int (body_of c m t code.insns)
unfolding code_works_on_int
names_same files code c m t of =
    ap (λ (o : Option ClassTree). method_works_on_int code.insns (method_there code.method o)) of.is_class
    ∙ ap (method_works_on_int code.insns) of.is_method

pub names_of_one : (files : Files) (code : MethodCode) (codes : List MethodCode) (c : ClassTree) (m : MethodTree)
    (t : CodeTree) → IsMethodOf files code c m t → codes ≡ code ∷ [] → any_works_on_int files codes
    ≡ names_int (body_of c m t code.insns)
names_of_one files code codes c m t of one =
    ap (any_works_on_int files) one ∙ or_false (code_works_on_int files code) ∙ names_same files code c m t of

-- ---- outside int mode, where the card has the type int

named_in_int_mode : (b : Body) (types : List (Option State)) (ranges : List (Option RangeState)) (mode : Mode)
    → mode ≡ modes.Short → IsModeOf true b types ranges mode → names_int b ≡ false
named_in_int_mode b types ranges modes.Int e needed = absurd cc
named_in_int_mode b types ranges modes.Short e free = by (names_int b) refl
  where
    by : (n : Bool) → names_int b ≡ n → n ≡ false
    by true e = absurd (free (record { allowed = refl; needed = by_name e }))
    by false e = refl

pub free_in_short_mode : (files : Files) (code : MethodCode) (c : ClassTree) (m : MethodTree) (t : CodeTree)
    → IsMethodOf files code c m t → (types : List (Option State)) (ranges : List (Option RangeState)) (mode : Mode)
    → mode ≡ modes.Short → IsModeOf true (body_of c m t code.insns) types ranges mode
    → code_works_on_int files code ≡ false
free_in_short_mode files code c m t of types ranges mode short is_mode =
    names_same files code c m t of ∙ named_in_int_mode (body_of c m t code.insns) types ranges mode short is_mode
