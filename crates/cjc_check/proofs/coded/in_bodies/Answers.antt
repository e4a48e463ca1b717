use Rattle.std.proofs.Common.{ℕ, List, ◌+◌, ◌++◌, ap, sym, subst, ◌∙◌, length, map}
use Rattle.std.specs.Prelude.{flat_map}
use Rattle.cjc_capread.specs.declared.tree.Handler.{Handler}
use Rattle.cjc_capread.specs.declared.tree.PoolEntry.{PoolEntry}
use Rattle.cjc_check.specs.Codes.Bodies.{code_of}
use Rattle.cjc_check.specs.Jumps.Listing.{wanted_ones, wanted_twos}
use Rattle.cjc_check.specs.Jumps.Offsets.{index_spot, operand_at}
use Rattle.cjc_check.proofs.JumpsLaws.Apart.{codes_apart}
use Rattle.cjc_check.specs.Jumps.Standing.{AreApart, handler_stands}
use Rattle.cjc_check_tables.specs.CheckIndex.Lookup.Parts.{complete_of}
use Rattle.cjc_check.specs.declared.jumps.indices.IndexAt.{IndexAt}
use Rattle.cjc_check_rules.specs.Codes.{Code}
use Rattle.cjc_check_rules.specs.Handlers.{targets_from}
use Rattle.cjc_check_rules.specs.Instructions.{IndexOperand, code_spots, indices}
use Rattle.cjc_check_rules.specs.Locations.{are_listed}
use Rattle.cjc_check_rules.specs.Spots.{along, first}
use Rattle.cjc_check.proofs.coded.in_bodies.Goals as goal

pub handler_spot-requires-clause-apart : goal.handler_spot-requires-clause-apart
handler_spot-requires-clause-apart c = let P : List Code → Type 0 = AreApart 0
    in subst P (sym c.requires.is) (codes_apart (complete_of c.args.names.now.parts.now))

pub returns : goal.returns
returns c =
    let parts = c.args.names.now.parts.now in
    let codes = map code_of c.args.bodies.now in
    let entries = parts.pool.now.entries in
    let handlers = parts.method.now.handlers in
    let one = parts.locations.now.one_byte in
    let two = parts.locations.now.two_byte in
    let is = c.requires.is in
    let found = ap (λ (xs : List IndexAt). map operand_at xs) c.items-listed.ensures ∙ c.in_ok-all.ensures.is
    ∙ ap (λ (cs : List Code). flat_map (λ code. flat_map indices code.instructions) cs) is in
    let listed = map operand_at c.items-listed.result.now in
    let stand = λ (hs : List Handler) (cs : List Code) (es : List PoolEntry). first (targets_from 0 1 hs
    ++ along (λ h. 8) (handler_stands cs es) 1 hs) in
    let list = λ (hs : List Handler) (xs : List IndexOperand). first (are_listed 0 one (wanted_ones xs)
    ++ are_listed (2 + length one) two (wanted_twos hs xs)) in
    record {
      whole = c.requires.whole;
      jumps = c.jump_spot.ensures ∙ ap (λ (cs : List Code). first (flat_map code_spots cs)) is;
      indices = c.index_spot.ensures ∙ ap (λ (es : List PoolEntry). first (flat_map (index_spot es) listed))
          c.items-entries.ensures ∙ ap (λ (xs : List IndexOperand). first (flat_map (index_spot entries) xs)) found;
      handlers = c.handler_spot.ensures ∙ ap (λ (hs : List Handler). stand hs codes c.items-entries.result.now)
          c.items-handlers.ensures ∙ ap (λ (es : List PoolEntry). stand handlers codes es) c.items-entries.ensures
          ∙ ap (λ (cs : List Code). stand handlers cs entries) is;
      locations = c.in_ok-locations.ensures ∙ ap (λ (hs : List Handler). list hs listed) c.items-handlers.ensures
          ∙ ap (λ (xs : List IndexOperand). list handlers xs) found;
    }
