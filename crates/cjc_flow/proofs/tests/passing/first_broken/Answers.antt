use Rattle.std.proofs.Common.{List, get_or, sym, ap, ◌∙◌, subst}
use Rattle.std.proofs.lemmas.Option.{get_or_from_slice_get}
use Rattle.cjc_types.specs.ClassFile.declared.tree.ClassTree.{ClassTree}
use Rattle.cjc_types.specs.ClassFile.declared.tree.MethodTree.{MethodTree}
use Rattle.cjc_types.specs.Bytecode.declared.insn.JInsn.{JInsn}
use Rattle.cjc_types.specs.World.Classes.{all_classes}
use Rattle.cjc_types.specs.Flow.{Body, body_of}
use Rattle.cjc_types.specs.Tables.{IsTypeTable, rows_of}
use Rattle.cjc_types.proofs.Least.{method_same}
use Rattle.cjc_flow.specs.Constants.{values_of}
use Rattle.cjc_flow.specs.Tables.{ranges_of}
use Rattle.cjc_flow.proofs.TestsLaws.First.{found_same, nothing_broken, first_broken}
use Rattle.cjc_flow.proofs.tests.passing.first_broken.Goals as goal

pub first_found-requires-clause-desc : goal.first_found-requires-clause-desc
first_found-requires-clause-desc c =
    let of = c.requires.code in
    let same = method_same c.args.world.now c.args.code.now c.index-items-code.result c.index-items-code-2.result
    (c.index-items-code.is ∙ ap (λ (ks : List ClassTree). get_or ks c.args.code.now.class c.index-items-code.result)
    (c.items.ensures ∙ c.classes.ensures))
    (c.index-items-code-2.is ∙ ap (λ (ms : List MethodTree). get_or ms c.args.code.now.method
    c.index-items-code-2.result) c.items-2.ensures)
    of.0 of.1 of.2 of.3 in
    c.items-desc.ensures ∙ ap (λ (k : MethodTree). k.desc) (sym c.index-items-code-2.is)
    ∙ ap (λ (k : MethodTree). k.desc) same.1
    ∙ sym (ap (λ (b : Body). b.desc) (c.new-method.ensures of.0 of.1 of.2 of.3))

pub first_found-requires-clause-types : goal.first_found-requires-clause-types
first_found-requires-clause-types c =
    let of = c.requires.code in
    let method = c.new-method.ensures of.0 of.1 of.2 of.3 in (
      all_classes c.args.world.now,
      subst (λ (b : Body). IsTypeTable (all_classes c.args.world.now) b c.args.types.now)
          (sym method) (c.requires.types of.0 of.1 of.2 of.3),
    )

pub returns-in-Some : goal.returns-in-Some
returns-in-Some c = λ k m t of constant numbers values.
    let b = body_of k m t c.args.code.now.insns in
    let body = c.requires.body k m t of in
    let types = rows_of b c.args.types.now in
    let found = found_same c.args.tested c.args.types.now constant c.args.table.now.marks c.args.table.now.rows b
    c.new-method.result
    c.args.ranging.now.body c.args.ranging.now.types c.items-insns.result.now c.in_ok-found.found
    (c.new-method.ensures k m t of) body (c.requires.rows k m t of) c.items-insns.ensures
    (c.in_ok-found.ensures.first constant numbers (values ∙ ap (λ (n : Body). values_of constant n.insns) (sym body)))
    in
    let first = first_broken c.args.tested b types (ranges_of b constant types c.args.table.now.marks
    c.args.table.now.rows)
    c.in-Some.found (sym found ∙ c.in-Some.is) in
    record {
      place = c.in-Some.found.place;
      first = first;
      is = ap (λ (i : JInsn). i.at) (ap (λ (is : List JInsn). get_or is c.in-Some.found.place
          c.index-insns-found.result) c.items-insns.ensures
          ∙ get_or_from_slice_get b.insns c.in-Some.found.place first.breach.insn c.index-insns-found.result
          first.breach.is_insn);
    }

pub returns-in-None : goal.returns-in-None
returns-in-None c = λ k m t of constant numbers values.
    let b = body_of k m t c.args.code.now.insns in
    let body = c.requires.body k m t of in
    let types = rows_of b c.args.types.now in
    let found = found_same c.args.tested c.args.types.now constant c.args.table.now.marks c.args.table.now.rows b
    c.new-method.result
    c.args.ranging.now.body c.args.ranging.now.types c.items-insns.result.now c.in_ok-found.found
    (c.new-method.ensures k m t of) body (c.requires.rows k m t of) c.items-insns.ensures
    (c.in_ok-found.ensures.first constant numbers (values ∙ ap (λ (n : Body). values_of constant n.insns) (sym body)))
    in
    nothing_broken c.args.tested b types (ranges_of b constant types c.args.table.now.marks c.args.table.now.rows)
    (sym found
    ∙ c.in-None.is)
