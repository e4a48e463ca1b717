use Rattle.std.proofs.Common.{ap, sym}
use Rattle.std.specs.Prelude.{option_and_then, option_map}
use Rattle.cjc_card_semantics.specs.CapRead.Decoder.Decoded.{instruction_of}
use Rattle.cjc_card_semantics.specs.Machine.Methods.{fetched_in}
use Rattle.cjc_card_frame.specs.Kinds.{code_of}
use Rattle.cjc_card_link.specs.Tables.{loaded_of}
use Rattle.cjc_card_link.proofs.Fetched.{fetched_here}
use Rattle.cjc_card_link.proofs.tables.Tables.insn_at.Goals as goal

pub returns-in-Some-clause-is : goal.returns-in-Some-clause-is
returns-in-Some-clause-is c =
    let l = loaded_of c.args.self.now in
    let code = code_of c.args.code in
    let part = c.in-Some.package.now in
    fetched_here l part code c.args.at (option_map instruction_of c.insn_at.result) (sym c.in-Some.ensures)
    c.insn_at.ensures.is (c.fetched_by_bytes.ensures l code part c.args.at (sym c.in-Some.ensures))

pub returns-in-None-clause-is : goal.returns-in-None-clause-is
returns-in-None-clause-is c =
    ap (option_and_then (fetched_in (loaded_of c.args.self.now) (code_of c.args.code) c.args.at)) c.in-None.ensures
