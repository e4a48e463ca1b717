use Rattle.std.proofs.Common.{◌≡◌, List, Option, map, sym, ap, ◌∙◌, subst, IfOk}
use Rattle.std.specs.Prelude.{option_map}
use Rattle.cjc_int_mode.specs.Bytecode.declared.insn.JInsn.{JInsn}
use Rattle.cjc_ncode.specs.IntCode.IntCode.{Before as TableRow}
use Rattle.cjc_int_mode.specs.Flow.Constants.{values_of}
use Rattle.cjc_int_mode.specs.Flow.Tables.{ranges_of}
use Rattle.cjc_int_mode.specs.World.Classes.{all_classes}
use Rattle.cjc_narrow.specs.Types.declared.state.State.{State}
use Rattle.cjc_narrow.specs.Types.Flow.{Body, body_of}
use Rattle.cjc_narrow.specs.Types.Tables.{IsTypeTable, rows_of}
use Rattle.cjc_int_narrow.specs.declared.known.Before.{Before}
use Rattle.cjc_int_narrow.specs.Reached.{known}
use Rattle.cjc_int_narrow.specs.Select.{rows_before}
use Rattle.cjc_int_narrow.proofs.known.befores.Goals as goal

pub rows_before-requires-clause-insns : goal.rows_before-requires-clause-insns
rows_before-requires-clause-insns c =
    let of = c.requires.code in
    c.items-insns.ensures ∙ sym (ap (λ (b : Body). b.insns) (c.new-method.ensures of.0 of.1 of.2 of.3))

pub rows_before-requires-clause-types : goal.rows_before-requires-clause-types
rows_before-requires-clause-types c =
    let of = c.requires.code in (
      all_classes c.args.world.now,
      subst (λ (b : Body). IsTypeTable (all_classes c.args.world.now) b c.args.types.now)
          (sym (c.new-method.ensures of.0 of.1 of.2 of.3)) (c.requires.types of.0 of.1 of.2 of.3),
    )

pub rows_before-requires-clause-body : goal.rows_before-requires-clause-body
rows_before-requires-clause-body c =
    let of = c.requires.code in
    c.requires.body of.0 of.1 of.2 of.3 ∙ sym (c.new-method.ensures of.0 of.1 of.2 of.3)

pub returns : goal.returns
returns c = λ k m t of constant numbers values.
    let body = body_of k m t c.args.code.now.insns in
    let types = c.args.types.now in
    let marks = c.args.table.now.marks in
    let rows = c.args.table.now.rows in
    let is_body = c.requires.body k m t of in
    let same = ap (λ (b : Body). rows_before (ranges_of b constant c.args.ranging.now.types marks rows) 0
    c.items-insns.result.now (rows_of c.new-method.result types)) is_body
    ∙ ap (λ (ts : List (Option State)). rows_before (ranges_of body constant ts marks rows) 0 c.items-insns.result.now
    (rows_of c.new-method.result types)) (c.requires.rows k m t of)
    ∙ ap (λ (insns : List JInsn). rows_before (ranges_of body constant (rows_of body types) marks rows) 0 insns
    (rows_of c.new-method.result types)) c.items-insns.ensures
    ∙ ap (λ (b : Body). rows_before (ranges_of body constant (rows_of body types) marks rows) 0 c.args.code.now.insns
    (rows_of b types)) (c.new-method.ensures k m t of) in
    subst (λ (told : List (Option TableRow)). IfOk c.rows_before.result (λ (row : List (Option Before)).
    map (option_map known) row ≡ told)) same
    (c.rows_before.ensures constant numbers (values ∙ sym (ap (λ (b : Body). values_of constant b.insns) is_body)))
