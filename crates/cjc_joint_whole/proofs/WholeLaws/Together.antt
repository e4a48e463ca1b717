-- Packages that run by themselves keep what their joint run by token asks, but for calls that are selected by their
-- receivers.
use Rattle.std.proofs.Common.{ap, ◌∙◌, List}
use Rattle.std.specs.Prelude.{slice_get, unwrap_or}
use Rattle.cjc_components.specs.Bytecode.PackageCodes.{all_codes}
use Rattle.cjc_components.specs.Package.{Package}
use Rattle.cjc_joint_proof.specs.Begun.{IsBegun}
use Rattle.cjc_joint_proof.specs.JointCalled.{NamesAreKnown, StandByPackage}
use Rattle.cjc_token_proof.specs.WrittenCalls.Standing.{place}
use Rattle.cjc_joint_whole.specs.Tokens.{RunsAlone, stands_at}

pub is_begun : (p : Package) → RunsAlone p → IsBegun p
is_begun p r =
    let k = r.runnable in
    let j = r.joined in
    record {
      list = r.list;
      codes = (let w = p.files in all_codes w.classes);
      sound = k.sound;
      typed = k.typed;
      image = k.image;
      once = k.once;
      fit = j.cells;
    }

pub names_known : (p : Package) → RunsAlone p → NamesAreKnown p
names_known p r m k insn among at = let j = r.joined in j.operations m k insn among at

pub stand_by_package : (first : Package) (packages : List Package) → StandByPackage packages (stands_at first packages)
stand_by_package first packages q p here m at =
    ap (λ i. place (unwrap_or (slice_get packages i) first) m) at ∙ ap (λ o. place (unwrap_or o first) m) here
