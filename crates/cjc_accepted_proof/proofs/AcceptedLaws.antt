-- Where no part of what is written breaks a rule, none is broken.
use Rattle.std.proofs.Common.{◌≡◌, ℕ, ap, subst, ◌∙◌, [], ◌∷◌, ◌++◌, map}
use Rattle.cjc_types.specs.Bytes.Breaks.{Among}
use Rattle.cjc_types.proofs.BytesBrokenRules.{no_among}
use Rattle.cjc_verify.specs.CardActs.CardTypes.{is_type_of}
use Rattle.cjc_verify.specs.CheckRules.Consistent.{break_at}
use Rattle.cjc_verify.specs.Components.Package.{Package}
use Rattle.cjc_check_proof.proofs.TokenProofTests.{none_in_both}
use Rattle.cjc_verify.specs.Bodies.{frames_of}
use Rattle.cjc_verify.specs.Described.{all_array_spots, described_spots}
use Rattle.cjc_verify.specs.Infos.{all_info_spots, all_table_spots}
use Rattle.cjc_verify.specs.Pairs.{Pair}
use Rattle.cjc_verify.specs.Verified.{IsVerified, in_code, listed, listed_breaks}
use Rattle.cjc_accepted_proof.specs.Accepted.{CodeStands, HasNoAbstract, HeadersFit}
use Rattle.cjc_accepted_proof.specs.Written.{written_pair}
use Rattle.cjc_accepted_proof.proofs.BelowLaws.{none_below}

module _ (p : Package) where
  abbrev q : Pair
  q = written_pair p

  pub accepted : all_table_spots q ≡ [] → all_info_spots q ≡ [] → all_array_spots q ≡ [] → described_spots q ≡ []
      → HeadersFit p → HasNoAbstract p → CodeStands p → IsVerified q
  accepted tables infos arrays described headers abstracts code broken (listed b among) =
      let classes = none_in_both (none_in_both (ap (map (break_at 725)) tables) (ap (map (break_at 727)) abstracts))
      (ap (map (break_at 729)) infos) in
      let none : listed_breaks q ≡ [] = none_in_both (none_in_both (none_in_both classes (ap (map (break_at 727))
      headers)) (ap (map (break_at 728)) arrays)) (ap (map (break_at 721)) described) in
      no_among b (subst (Among b) none among)
  accepted tables infos arrays described headers abstracts code broken (in_code k b rows place rule is least breach) =
      let t = code k b is in
      none_below (is_type_of q.loaded) (frames_of q b) rows t.rows least t.closed t.unbroken place rule breach
