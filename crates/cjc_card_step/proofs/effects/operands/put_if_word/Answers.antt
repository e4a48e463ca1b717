use Rattle.std.proofs.Common.{rules, ◌≡◌, ◌∙◌, ap, drop, true, [], ◌∷◌, arith, pos, negsuc, ◌≤ℤ◌}
use Rattle.std.specs.Prelude.{FitsSigned, if◌then◌else◌}
use Rattle.std.specs.Int.{w32}
use Rattle.std.proofs.lemmas.Int.{ints, to_z-of_z}
use Rattle.cjc_card_semantics.specs.Script.declared.value.Value.TheVariants.{Num}
use Rattle.cjc_card_semantics.specs.Bytecode.Numbers.{is_word}
use Rattle.cjc_card_semantics.specs.Bytecode.Effects.{Stick, onward}
use Rattle.cjc_card_step.specs.Effects.Deeds.{EffectByToken}
use Rattle.cjc_card_step.proofs.EffectsLaws.Stacks.{word_is}
use Rattle.cjc_card_step.proofs.effects.operands.put_if_word.Goals as goal

pub returns-in_ok-put_word : goal.returns-in_ok-put_word
returns-in_ok-put_word c = λ m next.
    let z = c.args.number in
    let fits : FitsSigned w32 z = c.ranges.number in
    let h = simp to_z-of_z at c.in_ok-put_word.ensures in
    let r = h m next in
    let w = c.args.cells.now in
    let yes : EffectByToken = onward (Num z ∷ []) c.args.room next w.locals m (drop c.args.taken w.stack) in
    let word : is_word z ≡ true = word_is z (omega (arith, ints)) (omega (arith, ints)) in
    record { same = ap (λ t. if t then yes else Stick) word ∙ r.same; keeps = r.keeps }
