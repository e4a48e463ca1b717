-- What tables of methods in int mode rest on: their code was decoded, and their handlers catch what those of the class
-- file do.
use Rattle.std.proofs.Common.{ℕ, ◌<◌, List, [], length}
use Rattle.std.specs.List.{AllByRecursion}
use Rattle.cjc_types.specs.Bytecode.declared.method_code.MethodCode.{MethodCode}
use Rattle.cjc_types.specs.Flow.{caught_type as type_by_name}
use Rattle.cjc_check_proof.specs.NCode.Lowering.Laid.{class_index}
use Rattle.cjc_check_proof.specs.NCode.declared.narrow.NCatch.{NCatch}
use Rattle.cjc_check_proof.specs.NarrowProof.Tables.Analysis.{IsDecoded}
use Rattle.cjc_int_components.specs.Modes.{Tables}
use Rattle.cjc_narrow_proof.proofs.RunsLaws.Whole.{is_decoded}
use Rattle.cjc_narrow_proof.proofs.SelectedLaws.SomeInsns.{some_insns}
use Rattle.cjc_shape_proof.specs.Written.Checked.{IsOfFiles}
use Rattle.cjc_verify.specs.Bodies.{caught_type}
use Rattle.cjc_verify.specs.Components.Names.{names}
use Rattle.cjc_verify.specs.Components.Package.{Package, pool}
use Rattle.cjc_verify.specs.Narrow.Rows.Selected.{near_fields}
use Rattle.cjc_verified_proof.specs.List.Listed.{ListTree}
use Rattle.cjc_accepted_proof.proofs.CatchesLaws.{all_of}
use Rattle.cjc_accepted_proof.specs.Coded.{card_type}
use Rattle.cjc_accepted_proof.specs.Frames.{IsCaughtAs}
use Rattle.cjc_accepted_proof.specs.Written.{written_pair}
use Rattle.cjc_accepted_theorem.proofs.CaughtLaws.{caught_so}
use Rattle.cjc_accepted_modes.specs.InIntMode.{IntMethod, IsInIntMode, body_by_name}

module _ (p : Package) (t : Tables) (codes : List MethodCode) (m : IntMethod) (k : ℕ) (b : IsInIntMode p t m codes k)
  where
    -- its code was decoded, and has an instruction
    pub decoded : IsDecoded (body_by_name m)
    decoded = is_decoded p.files p.image (near_fields (pool p)) (record { types = λ x. []; ranges = λ x. [] }) m.code
        m.class m.method m.tree b.is_method

    pub some : 0 < length (let code = m.code in code.insns)
    some = some_insns p.files m.code m.class m.method m.tree b.is_method b.some

-- its handlers catch what those of the class file do
pub caught_here : (list : ListTree) (codes : List MethodCode) (p : Package) → IsOfFiles list codes p → (t : Tables)
    (m : IntMethod) (k : ℕ) → IsInIntMode p t m codes k → AllByRecursion (λ (c : NCatch). IsCaughtAs (card_type p)
    (caught_type (written_pair p) (class_index (names p) c.class)) (type_by_name c.class)) (let laid = m.laid
    in let code = laid.code in code.catches)
caught_here list codes p of t m k b = all_of (λ (c : NCatch). IsCaughtAs (card_type p) (caught_type (written_pair p)
    (class_index (names p) c.class)) (type_by_name c.class)) (let laid = m.laid in let code = laid.code in code.catches)
    (λ c on. caught_so list codes p of k m.laid b.is_laid c on)
