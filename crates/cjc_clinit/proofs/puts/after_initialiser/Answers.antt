use Rattle.std.proofs.Common.{◌≡◌, ◌∙◌, sym, ap, subst, arith, length, List, ℕ, []}
use Rattle.std.specs.Prelude.{Option, Some, None, Ok, slice_get, slice_set}
use Rattle.std.proofs.lemmas.List.{set-set}
use Rattle.cjc_code.specs.declared.insn.JInsn.{JInsn}
use Rattle.cjc_clinit.specs.declared.stage.Held.{Held}
use Rattle.cjc_clinit.specs.declared.stage.Stage.TheVariants as stages
use Rattle.cjc_clinit.specs.Reading.{after_initialiser, ended, read, state}
use Rattle.cjc_clinit.specs.Working.{IsRead, puts}
use Rattle.cjc_clinit.proofs.Walks.{with-ended, written-back}
use Rattle.cjc_clinit.proofs.puts.after_initialiser.Goals as goal

pub returns-in-None : goal.returns-in-None
returns-in-None c =
    let n = c.args.code.now.class in
    let there : slice_get c.args.rows.now n ≡ None = sym c.take_fields.ensures.taken ∙ c.in-None.is in
    ap (λ (q : Option (List Held)). after_initialiser c.args.world.now c.args.class.now c.args.code.now (puts c.args.rows.now c.args.arrays.now) q) there
    ∙ ap (λ (r : List (List Held)). Ok (puts r c.args.arrays.now)) (sym c.in-None.ensures.none)

pub returns-in-None-2 : goal.returns-in-None-2
returns-in-None-2 c =
    let n = c.args.code.now.class in
    let w = c.args.world.now in
    let class = c.args.class.now in
    let code = c.args.code.now in
    let fields = c.read.new.fields in
    let arrays = c.read.new.arrays in
    let there : slice_get c.args.rows.now n ≡ Some c.in-Some.held = sym c.take_fields.ensures.taken ∙ c.in-Some.is in
    let taken : c.deref_mut.result.now ≡ c.in-Some.held = cc in
    let insns : c.items-insns.result.now ≡ code.insns = c.items-insns.ensures in
    let left : IsRead (ended (read w n class (state c.deref_mut.result.now c.args.arrays.now stages.Free) c.items-insns.result.now)) None fields arrays =
    subst (λ (q : Option ℕ). IsRead (ended (read w n class (state c.deref_mut.result.now c.args.arrays.now stages.Free) c.items-insns.result.now)) q fields arrays) c.in-None-2.is c.in_ok-read-in-Some.ensures in
    let is_read : IsRead (ended (read w n class (state c.in-Some.held c.args.arrays.now stages.Free) code.insns)) None fields arrays =
    subst (λ (q : List Held). IsRead (ended (read w n class (state q c.args.arrays.now stages.Free) code.insns)) None fields arrays) taken
    (subst (λ (q : List JInsn). IsRead (ended (read w n class (state c.deref_mut.result.now c.args.arrays.now stages.Free) q)) None fields arrays) insns left) in
    let value : c.deref_mut.result.now ≡ c.into_vec-fields.result.items = cc in
    let same : length fields ≡ length c.into_vec-fields.result.items = omega (arith, ap (λ (q : List Held). length q) value) in
    let len : c.into_vec-fields.result.len ≡ length c.into_vec-fields.result.items = omega arith in
    let rows : c.put_fields.new.rows ≡ slice_set c.args.rows.now n fields =
    c.put_fields.ensures ∙ ap (λ (q : List (List Held)). slice_set q n c.of.result) c.in-Some.ensures.left ∙ set-set c.args.rows.now n [] c.of.result
    ∙ ap (λ (v : List Held). slice_set c.args.rows.now n v) (c.of.ensures ∙ written-back fields c.into_vec-fields.result.items c.into_vec-fields.result.len same len) in
    ap (λ (q : Option (List Held)). after_initialiser w class code (puts c.args.rows.now c.args.arrays.now) q) there
    ∙ with-ended code (puts c.args.rows.now c.args.arrays.now) (ended (read w n class (state c.in-Some.held c.args.arrays.now stages.Free) code.insns)) fields arrays is_read
    ∙ ap (λ (r : List (List Held)). Ok (puts r arrays)) (sym rows)
