use Rattle.std.proofs.Common.{[], refl, ◌++◌, map}
use Rattle.cjc_check_rules.specs.Consistent.{break_at}
use Rattle.cjc_verify.specs.Described.{all_array_spots, described_spots}
use Rattle.cjc_verify.specs.Infos.{all_abstract_spots, all_info_spots, all_table_spots}
use Rattle.cjc_verify.proofs.checker.listed_break.Goals as goal

pub returns : goal.returns
returns c =
    let p = c.args.pair.now in
    let members = map (break_at 721) (described_spots p) ++ [] in
    let arrays = map (break_at 728) (all_array_spots p) ++ members in
    let infos = map (break_at 729) (all_info_spots p) ++ arrays in
    let abstracts = map (break_at 727) (all_abstract_spots p) ++ infos in
    let f721 = c.with_rule-members.ensures (described_spots p) [] c.in_ok-item.ensures refl in
    let f728 = c.with_rule-arrays.ensures (all_array_spots p) members c.in_ok-array.ensures f721 in
    let f729 = c.with_rule-infos.ensures (all_info_spots p) arrays c.in_ok-spots.ensures.infos f728 in
    let f727 = c.with_rule-abstracts.ensures (all_abstract_spots p) infos c.in_ok-spots.ensures.abstracts f729 in
    c.with_rule.ensures (all_table_spots p) abstracts c.in_ok-spots.ensures.tables f727
