-- What judging promises of initialisers and of codes.
use Rattle.std.proofs.Common.{◌≡◌, ◌⊎◌, inl, inr, ◌<◌, ◌+◌, ◌^◌, ℕ, List, [], ◌∷◌, length, map, refl, sym, ap, subst}
use Rattle.std.proofs.Common.{◌∙◌, arith, Err}
use Rattle.std.proofs.lemmas.List.{length-map}
use Rattle.std.specs.List.{sum_by}
use Rattle.cjc_shelf.specs.Bytes.Breaks.{Break, foremost}
use Rattle.cjc_shelf.specs.Bytes.declared.fault.Fault.{Fault}
use Rattle.cjc_shelf.specs.Bytes.declared.fault.Fault.TheVariants as faults
use Rattle.cjc_jvm_link.specs.JvmSemantics.ByName.{linked}
use Rattle.cjc_jvm_link.specs.JvmSemantics.Machine.{start}
use Rattle.cjc_jvm_link.specs.JvmSemantics.OnePackage.{static_array}
use Rattle.cjc_judge.specs.LowerClinit.Rules.{BreaksImage}
use Rattle.cjc_shelf.specs.Command.Gather.{Judged as IsGiven, status_of_fault}
use Rattle.cjc_shelf.specs.declared.command.status.Todo.{Todo}
use Rattle.cjc_jvm.specs.Bytecode.PackageCodes.{all_codes}
use Rattle.cjc_judge.specs.Judged.{IsJudged}
use Rattle.cjc_judge.specs.Rules.{IsFirstFault}
use Rattle.cjc_judge.specs.Rules.{Breach, of_world, of_group, files_spelt, world_files}
use Rattle.cjc_judge.specs.Spelt.{FileTree, SpellTrees, classes_of, exports_of}
use Rattle.cjc_judge.specs.declared.groups.Group.TheVariants as groups
use Rattle.cjc_judge.specs.declared.judged.Judged.{Judged}
use Rattle.cjc_judge.proofs.Firsts.{all_spell}
use Rattle.cjc_script_text.specs.List.Listed.{ListTree}
use Rattle.cjc_cmd_jvm.specs.Running.Ready.{tested, Breaks}
use Rattle.cjc_cmd_jvm.specs.declared.running.input.Input.{Input}
use Rattle.cjc_script_text.specs.Script.declared.script.Script.{Script}
use Rattle.cjc_jvm.specs.States.{objects_at_most}
use Rattle.cjc_judge.specs.World.declared.image.StaticImage.{StaticImage}
use Rattle.cjc_cmd_jvm.specs.Runs.{Runs}
use Rattle.cjc_judge.specs.World.Files.{Files}
use Rattle.cjc_judge.specs.World.Rules.{breaks}

none_of : (bs : List Break) → ((b : Break) → Rattle.cjc_shelf.specs.Bytes.Breaks.Among b bs → ⊥) → bs ≡ []
none_of [] h = refl
none_of (b ∷ bs) h = absurd (h b foremost)

module _ (list : ListTree) (files : List (List ℕ)) (judged : Judged) (is : IsJudged list files tested judged) where
  abbrev trees : List FileTree
  trees = let r = is.read in r.trees

  spelt : SpellTrees list.lines files trees
  spelt = let r = is.read in all_spell list.lines files r.trees r.spelt

  world_is : files_spelt list trees ≡ judged.world
  world_is =
      let r = is.read in
      let world = judged.world in
      ap (λ cs. world_files list cs (exports_of trees)) (sym r.classes)
      ∙ ap (λ es. world_files list world.classes es) (sym r.exports)
      ∙ sym is.world

  pub codes_are : judged.codes ≡ all_codes (let w = judged.world in w.classes)
  codes_are = let r = is.read in r.codes_are

  pub no_initialiser_breaks : (b : Break) → BreaksImage judged.world judged.codes b → ⊥
  no_initialiser_breaks b breaks_it = is.unbroken b (of_group (
    2,
    groups.Initialisers,
    refl,
    (
      trees,
      (spelt, unbroken),
      here,
    ),
  ))
    where
      unbroken : breaks list.name (files_spelt list trees) ≡ []
      unbroken = none_of (breaks list.name (files_spelt list trees)) (λ a among. is.unbroken a (of_world (
        trees,
        spelt,
        among,
      )))

      classes_are : (let w = judged.world in w.classes) ≡ classes_of trees
      classes_are = let r = is.read in r.classes

      here : BreaksImage (files_spelt list trees) (all_codes (classes_of trees)) b
      here = subst (λ (w : Files). BreaksImage w (all_codes (classes_of trees)) b) (sym world_is)
          (subst (λ cs. BreaksImage judged.world cs b) (codes_are ∙ ap all_codes classes_are) breaks_it)

-- at the start there are the arrays of the image, and what the acts of the script may make
pub starts_small : (files : Files) (image : StaticImage) (script : Script) (n : ℕ)
    → n + (length image.arrays + sum_by (λ e. length e.acts) script.entries + sum_by (λ a. length a.acts)
    script.answers) < 2 ^ 32
    → n + objects_at_most (start (linked files image) script) < 4294967296
unfolding linked
starts_small files image script n h =
    subst (λ k. n + (k + sum_by (λ e. length e.acts) script.entries + sum_by (λ a. length a.acts) script.answers) <
    4294967296) (sym (length-map image.arrays static_array)) (omega (arith, h))

-- the answer where a rule is broken, or memory ran out
pub given_fault : (n : ℕ) (script : List ℕ) (input : Input) (e : Fault)
    → IsFirstFault (Breaks input.list input.files script input.script) e
    → IsGiven {T = Todo} (Runs n script input) (Err (status_of_fault e))
given_fault n script input (faults.Refused r) (inl none) = absurd cc
given_fault n script input (faults.Refused r) (inr (s, first, is)) = let same : s ≡ r = cc
    in subst (λ x. Rattle.cjc_judge.specs.Rules.IsFirstRefused (Breaks input.list input.files script input.script) x)
    same first
given_fault n script input faults.NoMemory h = tt
