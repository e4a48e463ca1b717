-- From the parts of judging to the whole.
use Rattle.std.proofs.Common.{◌≡◌, ℕ, suc, ◌+◌, ◌<◌, inl, inr, Bool, true, false, List, [], ◌∷◌, count_by, not}
use Rattle.std.proofs.Common.{if◌then◌else◌, Err, All, length, refl, sym, ap, subst, ◌∙◌, arith}
use Rattle.std.proofs.lemmas.List.Sums.{sum_by-cons}
use Rattle.cjc_bytes.specs.declared.fault.Fault.{Fault}
use Rattle.cjc_bytes.specs.declared.fault.Fault.TheVariants as faults
use Rattle.cjc_bytes.specs.declared.settings.FileLine.{FileLine}
use Rattle.cjc_world.specs.ClassFile.declared.tree.ClassTree.{ClassTree}
use Rattle.cjc_clinit.specs.Bytecode.declared.method_code.MethodCode.{MethodCode}
use Rattle.cjc_world.specs.ExportFile.declared.tree.ExportTree.{ExportTree}
use Rattle.cjc_list.specs.Listed.{ListTree}
use Rattle.cjc_clinit.specs.Subset.Names.{name_breaks}
use Rattle.cjc_narrow.specs.Types.Tables.{IsOfPackage}
use Rattle.cjc_world.specs.Files.{Files}
use Rattle.cjc_world.specs.Rules.{breaks}
use Rattle.cjc_bytes.specs.Breaks.{Break, IsFirstRefusal}
use Rattle.cjc_judge.specs.declared.groups.Group.{Group}
use Rattle.cjc_judge.specs.declared.judged.Judged.{Judged}
use Rattle.cjc_judge.specs.declared.reading.UnsupportedInsn.{UnsupportedInsn}
use Rattle.cjc_judge.specs.declared.reading.Trees.{Trees}
use Rattle.cjc_clinit.specs.Bytecode.PackageCodes.{all_codes}
use Rattle.cjc_judge.specs.Codes.{all_unsupported_insns}
use Rattle.cjc_judge.specs.Judged.{IsJudged, IsStopped}
use Rattle.cjc_judge.specs.Rules.{world_files, files_spelt, has_applets, IsFirstFault}
use Rattle.cjc_judge.specs.Spelt.{classes_of, IsRead}
use Rattle.cjc_judge.specs.Modes.{AreModesWhereNamed}
use Rattle.cjc_judge.specs.Tokens.{AreTokensWhereNamed}
use Rattle.cjc_judge.specs.Types.{AreTablesWhereNamed}
use Rattle.cjc_judge.specs.Working.Reading.{IsReadAs, ReadsFiles}
use Rattle.cjc_judge.specs.Working.Groups.{WorldBreaksAny}
use Rattle.cjc_judge.proofs.Firsts.{file_stops, world_stops, names_stop, groups_stop, none_broken}
use Rattle.cjc_judge.proofs.Packages.{all_fit, all_of_package}

count_both : (files : List FileLine) → length files ≡ count_by (λ (f : FileLine). f.class_file) files + count_by
    (λ (f : FileLine). not f.class_file) files
count_both [] = refl
count_both (f ∷ fs) =
    let one = sum_by-cons (λ (x : FileLine). if x.class_file then 1 else 0) f fs in
    let other = sum_by-cons (λ (x : FileLine). if not x.class_file then 1 else 0) f fs in
    by f.class_file (length fs) (count_by (λ (x : FileLine). x.class_file) fs)
    (count_by (λ (x : FileLine). not x.class_file) fs) (count_both fs) ∙ sym (both _ _ _ _ one other)
  where
    by : (c : Bool) (n a b : ℕ) → n ≡ a + b → suc n ≡ ((if c then 1 else 0) + a) + ((if not c then 1 else 0) + b)
    by true n a b e = omega arith
    by false n a b e = omega arith

    both : (a b c d : ℕ) → a ≡ b → c ≡ d → a + c ≡ b + d
    both a b c d e f = omega arith

-- a list names fewer files than 32 bits count
pub few_lines : (list : ListTree) (lines : List FileLine) → lines ≡ list.lines → IsRead list → length lines < 4294967296
few_lines list lines is read =
    let within = read.2.0.3.within in
    omega (arith, ap length is, count_both list.lines, within.classes, within.exports)

-- the first broken rule of single files, where the lines and the files go by other names
pub files_stop : (list : ListTree) (files : List (List ℕ)) (tested : List Group) (lines : List FileLine)
    (fs : List (List ℕ)) (e : Fault) → lines ≡ list.lines → fs ≡ files → ReadsFiles lines fs (Err e)
    → IsStopped list files tested e
files_stop list files tested lines fs e a b s =
    by e (subst (λ (ls : List FileLine). ReadsFiles ls files (Err e)) a (subst (λ (gs : List (List ℕ)). ReadsFiles lines
    gs (Err e)) b s))
  where
    by : (e : Fault) → ReadsFiles list.lines files (Err e) → IsStopped list files tested e
    by (faults.Refused r) s = inr (r, file_stops list files tested r s, refl)
    by faults.NoMemory s = inl refl

-- the world that is made of what was read
abbrev pub WorldFiles : ListTree → Trees → Files
WorldFiles list read = world_files list read.classes read.exports

module _ (list : ListTree) (files : List (List ℕ)) (tested : List Group) (read : Trees) (all : IsReadAs list.lines files
    read) where
  world_is : WorldFiles list read ≡ files_spelt list all.trees
  world_is =
      ap (λ (cs : List ClassTree). world_files list cs read.exports) all.classes
      ∙ ap (λ (es : List ExportTree). world_files list (classes_of all.trees) es) all.exports

  -- a rule of the world
  pub world_refused : (e : Fault) → IsFirstRefusal (breaks list.name (WorldFiles list read)) e
      → IsStopped list files tested e
  world_refused e f =
      elim (subst (λ (w : Files). IsFirstRefusal (breaks list.name w) e) world_is f) [
        | inl memory ↦ inl memory
        | inr (b, first, is) ↦ inr (b.refusal, world_stops list files tested all.trees all.spelt b first, is)
      ]

  codes_spelt : read.codes ≡ all_codes (classes_of all.trees)
  codes_spelt = all.codes ∙ ap all_codes all.classes

  unsupported_insns_spelt : read.unsupported_insns ≡ all_unsupported_insns (classes_of all.trees)
  unsupported_insns_spelt = all.unsupported_insns ∙ ap all_unsupported_insns all.classes

  module _ (world : Files) (made : world ≡ WorldFiles list read) (fine : breaks list.name (WorldFiles list read) ≡ [])
    where
      spelt_fine : breaks list.name (files_spelt list all.trees) ≡ []
      spelt_fine = ap (λ (w : Files). breaks list.name w) (sym world_is) ∙ fine

      names_spelt : name_breaks world read.codes ≡ name_breaks (files_spelt list all.trees)
          (all_codes (classes_of all.trees))
      names_spelt =
          ap (λ (w : Files). name_breaks w read.codes) (made ∙ world_is)
          ∙ ap (λ (cs : List MethodCode). name_breaks (files_spelt list all.trees) cs) codes_spelt

      -- a rule of names
      pub names_refused : (e : Fault) → IsFirstRefusal (name_breaks world read.codes) e → IsStopped list files tested e
      names_refused e f =
          elim (subst (λ (bs : List Break). IsFirstRefusal bs e) names_spelt f) [
            | inl memory ↦ inl memory
            | inr (b, first, is) ↦ inr (
              b.refusal,
              names_stop list files tested all.trees all.spelt spelt_fine b first,
              is,
            )
          ]

      -- the codes are of methods of the world
      pub codes_of_package : All (IsOfPackage world) read.codes
      codes_of_package =
          let classes : world.classes ≡ read.classes = ap (λ (w : Files). w.classes) made in
          subst (All (IsOfPackage world)) (ap all_codes classes ∙ sym all.codes)
          (all_of_package world (all_fit list.lines files all.trees (classes ∙ all.classes) all.spelt))

      module _ (named : name_breaks world read.codes ≡ []) where
        spelt_named : name_breaks (files_spelt list all.trees) (all_codes (classes_of all.trees)) ≡ []
        spelt_named = (sym names_spelt) ∙ named

        groups_spelt : WorldBreaksAny list world read.codes read.unsupported_insns tested
            ≡ WorldBreaksAny list (files_spelt list all.trees) (all_codes (classes_of all.trees)) (all_unsupported_insns
            (classes_of all.trees)) tested
        groups_spelt =
            ap (λ (w : Files). WorldBreaksAny list w read.codes read.unsupported_insns tested) (made ∙ world_is)
            ∙ ap (λ (cs : List MethodCode). WorldBreaksAny list (files_spelt list all.trees) cs read.unsupported_insns
            tested) codes_spelt
            ∙ ap (λ (xs : List UnsupportedInsn). WorldBreaksAny list (files_spelt list all.trees)
            (all_codes (classes_of all.trees)) xs tested) unsupported_insns_spelt

        -- a rule of the groups
        pub groups_refused : (e : Fault) → IsFirstFault (WorldBreaksAny list world read.codes read.unsupported_insns
            tested) e → IsStopped list files tested e
        groups_refused e f =
            elim (subst (λ (G : Break → Type 0). IsFirstFault G e) groups_spelt f) [
              | inl memory ↦ inl memory
              | inr (r, first, is) ↦ inr (
                r,
                groups_stop list files tested all.trees all.spelt spelt_fine spelt_named r
                    first,
                is,
              )
            ]

        -- what is known where no rule is broken
        pub judged_from : (judged : Judged) → judged.world ≡ world → judged.codes ≡ read.codes
            → ((b : Break) → WorldBreaksAny list world read.codes read.unsupported_insns tested b → ⊥)
            → AreTablesWhereNamed tested world read.codes judged.types
            → AreModesWhereNamed tested list.ints world read.codes judged.modes
            → AreTokensWhereNamed tested (has_applets list) world judged.tokens → IsJudged list files tested judged
        judged_from judged w k none tables modes tokens = record {
          unbroken = none_broken list files tested all.trees all.spelt spelt_fine spelt_named
              (subst (λ (G : Break → Type 0). (b : Break) → G b → ⊥) groups_spelt none);
          world = w ∙ made ∙ sym (ap (λ (cs : List ClassTree). world_files list cs read.exports) classes)
              ∙ sym (ap (λ (es : List ExportTree). world_files list judged.world.classes es) exports);
          read = record {
            trees = all.trees;
            spelt = all.spelt;
            classes = classes ∙ all.classes;
            exports = exports ∙ all.exports;
            codes_are = k ∙ all.codes ∙ ap all_codes (sym classes);
          };
          of_package = subst (λ (v : Files). All (IsOfPackage v) judged.codes) (sym w)
              (subst (λ (cs : List MethodCode). All (IsOfPackage world) cs) (sym k) codes_of_package);
          types = subst (λ (v : Files). AreTablesWhereNamed tested v judged.codes judged.types) (sym w)
              (subst (λ (cs : List MethodCode). AreTablesWhereNamed tested world cs judged.types) (sym k) tables);
          modes = subst (λ (v : Files). AreModesWhereNamed tested list.ints v judged.codes judged.modes) (sym w)
              (subst (λ (cs : List MethodCode). AreModesWhereNamed tested list.ints world cs judged.modes) (sym k)
              modes);
          tokens = subst (λ (v : Files). AreTokensWhereNamed tested (has_applets list) v judged.tokens) (sym w) tokens;
        }
          where
            is_read : judged.world ≡ WorldFiles list read
            is_read = w ∙ made

            classes : judged.world.classes ≡ read.classes
            classes = ap (λ (v : Files). v.classes) is_read

            exports : judged.world.exports ≡ read.exports
            exports = ap (λ (v : Files). v.exports) is_read
