use Rattle.std.specs.Prelude.{ℕ, List}
use Rattle.std.proofs.Common.{◌∙◌}
use Rattle.cjc_components.specs.Bytecode.PackageCodes.{all_codes}
use Rattle.cjc_check_proof.specs.Made.{AllAreMade}
use Rattle.cjc_components.specs.Names.{names}
use Rattle.cjc_components.specs.Package.{Package, codes, pool, tokens}
use Rattle.cjc_shape.specs.LowerJudge.declared.judged.Judged.{Judged}
use Rattle.cjc_classes.specs.List.Listed.{ListTree}
use Rattle.cjc_classes.specs.Narrow.Rows.Selected.{near_fields}
use Rattle.cjc_shape_proof.specs.Written.Converted.{IsConverted}
use Rattle.cjc_shape_proof.proofs.WrittenLaws.Files.{files_sound}
use Rattle.cjc_shape_proof.proofs.WrittenLaws.Made.{all_made, small_by, whole_at}
use Rattle.cjc_shape_proof.proofs.WrittenLaws.Shaping.{has_pool, pool_of}
use Rattle.cjc_shape_proof.proofs.written.converted_methods_are_consistent.Goals as goal

made : goal.After-written_methods_are_made → (list : ListTree) (files : List (List ℕ)) (judged : Judged) (p : Package)
    → IsConverted list files judged p → AllAreMade (names p) p.files p.methods
made c list files judged p is =
    let moded = c.packages_in_short_mode_are_as_before.ensures.by_modes list files judged is.sound p is.is_package in
    let words = c.packages_in_short_mode_are_as_before.ensures.words list files judged is.sound p moded
    (let of = is.is_package in of.short) ∙ is.words in
    let pooled = has_pool judged.world (tokens p) (codes p) in
    let law = c.written_methods_are_made.ensures in
    let near = near_fields (pool p) in
    let rows = (let of = is.is_package in of.rows) in
    all_made list files judged p is (names p)
    (λ k m e. ((c.converted_methods_are_emittable.ensures list files judged is.sound p moded words is.forms
    (pool_of judged.world (tokens p) (codes p)) pooled).each k m e).written)
    (λ m w e. law.added (names p) p.files near rows m w e)
    (λ m w class method e. law.without_code (names p) p.files near rows m w class method e)
    (λ m w code class method tree of e finds least some can. law.selected (names p) p.files near rows m w code class
    method tree of e finds least some can)

pub returns-clause-made : goal.returns-clause-made
returns-clause-made = made

pub returns-clause-small : goal.returns-clause-small
returns-clause-small c = λ list files judged p is. small_by p (whole_at list files judged is.sound p
    (c.packages_in_short_mode_are_as_before.ensures.by_modes list files judged is.sound p is.is_package)
    c.methods_can_be_laid_out.ensures) is.sizes

pub returns-clause-classes : goal.returns-clause-classes
returns-clause-classes c = λ list files judged p is. c.classes_keep_rules.ensures.order list.name p
    (files_sound list files judged p is)

pub returns-clause-methods : goal.returns-clause-methods
returns-clause-methods c = λ list files judged p is. let of = is.is_package in c.packages_have_their_methods.ensures
    list p.files (let w = p.files in all_codes w.classes) of.rows p of.is_package

pub returns-clause-written : goal.returns-clause-written
returns-clause-written c = λ list files judged p is. c.made_methods_are_consistent.ensures.written (names p) p.files
    p.methods (made c list files judged p is)

pub returns-clause-inside : goal.returns-clause-inside
returns-clause-inside c = λ list files judged p is. c.made_methods_are_consistent.ensures.inside (names p) p.files
    p.methods (made c list files judged p is)

pub returns-clause-handlers : goal.returns-clause-handlers
returns-clause-handlers c = λ list files judged p is. c.made_methods_are_consistent.ensures.handlers (names p) p.files
    p.methods (made c list files judged p is)

pub returns-clause-kinds : goal.returns-clause-kinds
returns-clause-kinds c = λ list files judged p is. c.made_methods_are_consistent.ensures.kinds (names p) p.files
    p.methods (made c list files judged p is)
