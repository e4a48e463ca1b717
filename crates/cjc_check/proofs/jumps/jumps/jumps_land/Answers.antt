use Rattle.std.proofs.Common.{◌≡◌, true, false, rules}
use Rattle.std.specs.List.{list_all}
use Rattle.cjc_check.specs.Codes.Bodies.{code_of}
use Rattle.cjc_capread.specs.Decoder.Decoded.{instruction_of, values}
use Rattle.cjc_check_rules.specs.Instructions.{default_of, is_jump, lands}
use Rattle.cjc_check.specs.Jumps.Offsets.{is_switch}
use Rattle.cjc_check.proofs.JumpsLaws.Lands.{switch_jumps}
use Rattle.cjc_check.proofs.jumps.jumps.jumps_land.Goals as goal

pub returns-then-default_lands : goal.returns-then-default_lands
returns-then-default_lands c =
    let a = c.args.placed.now in
    let P = lands (code_of c.args.body.now) a.at in
    let jump : is_jump a.insn.opcode ≡ false = search rules in
    let switch : is_switch a.insn.shape ≡ true = search rules in
    let default : list_all P (default_of (values a.insn.operands)) ≡ true = search rules in
    switch_jumps P a.insn.shape (instruction_of a.insn) a.insn.table.matches c.table_lands.result jump switch
    c.requires.kept.shape c.requires.kept.matches default c.table_lands.ensures
