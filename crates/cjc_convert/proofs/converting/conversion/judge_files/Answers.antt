use Rattle.std.proofs.Common.{◌≡◌, ◌<◌, ◌≤◌, ◌^◌, ℕ, All, List, Some, arith, length, slice_get, subst}
use Rattle.std.proofs.lemmas.List.Elements.{All-get_or, All-weaker}
use Rattle.std.proofs.lemmas.Option.{get_or_from_slice_get, slice_get_within}
use Rattle.std.proofs.lemmas.Result.{IfOk-weaker, MatchResult-weaker}
use Rattle.cjc_shape_proof.proofs.WrittenLaws.FittingLaws.Listed.{spelt}
use Rattle.cjc_judge.specs.Judged.{IsJudged, IsStopped}
use Rattle.cjc_shape.specs.Prepared.{IsSound, tested}
use Rattle.cjc_shape.specs.Whole.Working.Shaped.{Stopped}
use Rattle.cjc_convert.proofs.ConvertingLaws.Stops.{stopped_by_files}
use Rattle.cjc_convert.proofs.converting.conversion.judge_files.Goals as goal

each_short : (files : List (List ℕ)) → All (λ bytes. length bytes ≤ 2 ^ 29) files → (k : ℕ) (bytes : List ℕ)
    → slice_get files k ≡ Some bytes → length bytes ≤ 2 ^ 29
each_short files all k bytes e =
    let short = All-get_or (λ (b : List ℕ). length b ≤ 2 ^ 29) files k bytes (slice_get_within files k bytes e) all in
    subst (λ (b : List ℕ). length b ≤ 2 ^ 29) (get_or_from_slice_get files k bytes bytes e) short

pub judge-requires-clause-files : goal.judge-requires-clause-files
judge-requires-clause-files c = All-weaker (λ (b : List ℕ). length b ≤ 2 ^ 29) (λ (b : List ℕ). length b < 4294967296)
    (λ b le. omega (arith, le)) c.args.files.now c.requires.files

pub returns-clause-sound : goal.returns-clause-sound
returns-clause-sound c =
    let list = c.args.list.now in
    let files = c.args.files.now in
    let by = spelt list c.requires.read in
    IfOk-weaker c.judge.result (IsJudged list files tested) (IsSound list files) (λ judged is. record {
      judged_by = is;
      are_files = λ k bytes e. (c.are_bytes.ensures k bytes e, each_short files c.requires.files k bytes e);
      no_int =
          by.no_ints;
    }) c.judge.ensures.judged

pub returns-clause-refused : goal.returns-clause-refused
returns-clause-refused c =
    let list = c.args.list.now in
    let files = c.args.files.now in
    MatchResult-weaker c.judge.result {Q = IsStopped list files tested} {Q' = Stopped list files}
    c.judge.ensures.refused (λ _ h. h) (λ e h. stopped_by_files list files e h)
