-- The locals of a method have room for what it begins with.
use Rattle.std.proofs.Common.{◌≡◌, ℕ, ◌+◌, ◌<◌, ◌≤◌, ◌^◌, refl, ◌∙◌, arith, Bool, true, false, List, [], ◌∷◌, ◌++◌, map}
use Rattle.std.proofs.Common.{length}
use Rattle.std.specs.Prelude.{nat_lt, if◌then◌else◌}
use Rattle.std.proofs.lemmas.Bool.{ltb-false, ltb-true}
use Rattle.std.proofs.lemmas.List.{length-map}
use Rattle.cjc_bytes.specs.AccessFlags.{is_static}
use Rattle.cjc_bytes.specs.Spots.{desc_of}
use Rattle.cjc_code.specs.ClassFile.Code.{CodeTree}
use Rattle.cjc_code.specs.ClassFile.declared.tree.ClassTree.{ClassTree}
use Rattle.cjc_code.specs.ClassFile.declared.tree.MethodTree.{MethodTree}
use Rattle.cjc_code.specs.declared.method_code.MethodCode.{MethodCode}
use Rattle.cjc_code.specs.Rules.{too_many}
use Rattle.cjc_code.specs.Unfit as unfit
use Rattle.cjc_narrow_proof.proofs.SelectedLaws.Cuts.{decoded}
use Rattle.cjc_narrow_proof.proofs.SelectedLaws.Words.{params_counted}
use Rattle.cjc_types.specs.declared.cell.Cell.TheVariants.{Refs}
use Rattle.cjc_types.specs.Flow.{arguments, body_of}
use Rattle.cjc_types.specs.Tables.{IsMethodOf}
use Rattle.cjc_types.specs.Types.{parts, value_of}
use Rattle.cjc_world.specs.Files.{Files}

-- as many as the receiver and the parameters are
counted : (class : List ℕ) (m : MethodTree) → length m.desc < 2 ^ 32
    → length ((if is_static m.flags then [] else Refs (class ∷ []) ∷ []) ++ map value_of (parts m.desc).params)
    ≡ unfit.arguments m
counted class m short = by (is_static m.flags)
  where
    few : length (map value_of (parts m.desc).params) ≡ unfit.params_of (desc_of m.desc)
    few = length-map (parts m.desc).params value_of ∙ params_counted m.desc short

    by : (b : Bool) → length ((if b then [] else Refs (class ∷ []) ∷ []) ++ map value_of (parts m.desc).params)
        ≡ unfit.params_of (desc_of m.desc) + (if b then 0 else 1)
    by true = let e = few in omega (arith, e)
    by false = let e = few in omega (arith, e)

-- 103
pub room_to_begin : (files : Files) (code : MethodCode) (class : ClassTree) (method : MethodTree) (tree : CodeTree)
    → IsMethodOf files code class method tree → length method.desc < 2 ^ 32
    → length (arguments (body_of class method tree code.insns)) ≤ tree.max_locals
room_to_begin files code class method tree is short =
    let fit = (decoded files code class method tree is).fit in
    let same = counted class.name method short in
    let no_more : (nat_lt tree.max_locals (unfit.arguments method) ≡ true → ⊥) =
    λ e. fit 0 (too_many (ltb-true tree.max_locals (unfit.arguments method) e)) in
    let room = ltb-false tree.max_locals (unfit.arguments method)
    (is_not (nat_lt tree.max_locals (unfit.arguments method)) no_more) in
    omega (arith, same, room)
  where
    is_not : (b : Bool) → (b ≡ true → ⊥) → b ≡ false
    is_not true h = absurd (h refl)
    is_not false h = refl
