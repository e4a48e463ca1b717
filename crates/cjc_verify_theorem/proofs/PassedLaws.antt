-- Components that break no rule beside a package that breaks none are those of a checked package whose calls keep what
-- dispatch rests on.
use Rattle.std.proofs.Common.{◌≡◌, ℕ, zero, suc, refl, sym, ap, subst, ◌∙◌, true, false, List, []}
use Rattle.std.proofs.Common.{◌∷◌}
use Rattle.std.specs.Prelude.{None, Some, codes as letters, is_some, slice_get}
use Rattle.std.specs.List.{list_all}
use Rattle.cjc_verified_proof.specs.Bytes.declared.settings.Settings.{Settings}
use Rattle.cjc_verified_proof.proofs.BytesBools.{and_true}
use Rattle.cjc_verified_proof.proofs.BytesPlain.{same_some}
use Rattle.cjc_verified_proof.specs.CapRead.declared.tree.CapTree.{CapTree}
use Rattle.cjc_verified_proof.specs.CheckRules.Complete.{Complete}
use Rattle.cjc_verified_proof.specs.CheckRules.Consistent.{Sentence, is_true, of_complete, sentences, where_complete}
use Rattle.cjc_verified_proof.specs.CheckRules.declared.spot.ComponentPlace.{ComponentPlace}
use Rattle.cjc_verified_proof.specs.Bytecode.declared.method_code.MethodCode.{MethodCode}
use Rattle.cjc_verified_proof.specs.CardSemantics.Machine.Classes.{number_named}
use Rattle.cjc_verified_proof.specs.CardSemantics.Machine.Loaded.{Part}
use Rattle.cjc_verified_proof.specs.Components.Package.{Package, world}
use Rattle.cjc_verified_proof.specs.Components.Paired.Naming.{loaded_of, part_of}
use Rattle.cjc_verified_proof.specs.ExportFile.Writable.{ClassFits, IsWritable}
use Rattle.cjc_verified_proof.specs.ExportFile.declared.tree.ExportTree.{ExportTree}
use Rattle.cjc_theorem.specs.LowerJudge.Rules.{has_applets, settings_of}
use Rattle.cjc_theorem.specs.LowerJudge.declared.groups.Group.{Group}
use Rattle.cjc_theorem.specs.LowerJudge.declared.judged.Judged.{Judged}
use Rattle.cjc_verified_proof.specs.List.Listed.{ListTree}
use Rattle.cjc_theorem.proofs.ShapeProofInitialisers.{stand_once}
use Rattle.cjc_theorem.proofs.ShapeProofSubtypes.{keeps_subtypes}
use Rattle.cjc_theorem.proofs.ShapeProofTokens.{keeps_tokens}
use Rattle.cjc_theorem.specs.ShapeProof.Written.Converted.{ExportsArePlain}
use Rattle.cjc_theorem.specs.Subset.Checks.{check_breaks}
use Rattle.cjc_theorem.proofs.AlikeLaws.JoinedLaws.Faults.{faults_are_classes}
use Rattle.cjc_theorem.proofs.AlikeLaws.NamedLaws.Exports.{exports_keep}
use Rattle.cjc_verified_proof.specs.TokenProof.Tables.Sound.{AreFieldDescs, IsSound}
use Rattle.cjc_verified_proof.specs.TokenProof.WrittenSends.Sends.{ExportsSend}
use Rattle.cjc_verified_proof.proofs.TokenProofAbove.{entry_of_name, says_kinds}
use Rattle.cjc_verified_proof.proofs.TokenProofTyping.{fields_typed}
use Rattle.cjc_verified_proof.specs.Checked.{Checked, HasCode, IsChecked, pair}
use Rattle.cjc_verified_proof.specs.Dispatching.{FilesAgree, package_of}
use Rattle.cjc_verified_proof.specs.Entries.{AreCounted, AreRefs}
use Rattle.cjc_verified_proof.specs.Kept.{AreSized, KeepsCalls}
use Rattle.cjc_verified_proof.specs.PackageTypes.{HasNoObject}
use Rattle.cjc_verified_proof.specs.Suited.{HaveCode}
use Rattle.cjc_verified_proof.proofs.FlagLaws.{static_in_interfaces}
use Rattle.cjc_verified_proof.proofs.KeptLaws.{goes}
use Rattle.cjc_verified_proof.proofs.OrderedLaws.{ordered}
use Rattle.cjc_verified_proof.proofs.SpeltLaws.{descriptor_refs, method_bytes, method_fits, pool_refs}
use Rattle.cjc_verified_proof.proofs.SpeltLaws.{super_bytes, virtual_bytes}
use Rattle.cjc_verify_theorem.specs.NeverStuck.{IsNeverStuck}
use Rattle.cjc_verify_theorem.specs.Passed.{IsPassed}
use Rattle.cjc_verify_theorem.proofs.FileLaws as files_of
use Rattle.cjc_verify_theorem.proofs.HaveCodeLaws.{have_code}
use Rattle.cjc_theorem.specs.VTable.Kept.{BreaksNone, CallsAgree, ExportsAgree, IsKept, Keeps}
use Rattle.cjc_theorem.specs.VTable.Laws.{KeepsRules}
use Rattle.cjc_theorem.specs.VTable.Meant.{AreNumbered, PackageTokensMean, TokensMean}
use Rattle.cjc_verified_proof.specs.World.Classes.{Class, all_classes, class_named, imported}
use Rattle.cjc_verified_proof.specs.World.Files.{Files}
use Rattle.cjc_verified_proof.specs.World.Rules.{breaks}
use Rattle.cjc_verified_proof.specs.World.Subtype.{starts}
use Rattle.cjc_verified_proof.specs.World.Supertypes.{AreSupertypes, IsAcyclic, Supertypes, supertypes}
use Rattle.cjc_verified_proof.specs.World.declared.image.StaticImage.{StaticImage}
use Rattle.cjc_verified_proof.specs.WorldProof.Calls.Solid.{IsSolid}
use Rattle.cjc_verified_proof.specs.WorldProof.Initialisers.Values.{StandOnce}
use Rattle.cjc_verified_proof.specs.WorldProof.Files.{ExportsAreSound, IsClean}
use Rattle.cjc_verified_proof.proofs.WorldProofSolid.{solid as solid_of}
use Rattle.cjc_theorem.proofs.VTableFiled.{get-has}
use Rattle.cjc_theorem.proofs.VTableRead.{each-after}
use Rattle.cjc_verified_proof.proofs.WorldCycles.{class_named-name}

-- ---- sentences

none_there : (spots : List ComponentPlace) → is_true spots ≡ true → spots ≡ []
none_there [] e = refl
none_there (s ∷ spots) e = absurd cc

-- each sentence on components is true
abbrev AreTrue : List Sentence → Type 0
AreTrue ss = (k : ℕ) (s : Sentence) → slice_get ss k ≡ Some s → s.spots ≡ []

are_true : (ss : List Sentence) → list_all (λ s. is_true s.spots) ss ≡ true → AreTrue ss
are_true [] e k s f = absurd cc
are_true (s ∷ ss) e k u f = by k f (are_true ss two.1)
  where
    two : (is_true s.spots ≡ true) × (list_all (λ s. is_true s.spots) ss ≡ true)
    two = and_true (is_true s.spots) (list_all (λ s. is_true s.spots) ss) e

    by : (k : ℕ) → slice_get (s ∷ ss) k ≡ Some u → AreTrue ss → u.spots ≡ []
    by zero g more = subst (λ (x : Sentence). x.spots ≡ []) (same_some g) (none_there s.spots two.0)
    by (suc j) g more = more j u g

-- what was told of files beside one another
pub record Told (files : Files) (list : List ℕ) (codes : List MethodCode) (settings : Settings) (q : Package) : Type 0
  where
    pub sound : ExportsAreSound files
    pub plain : ExportsArePlain files
    pub agree : ExportsAgree (all_classes files)
    pub send : ExportsSend q
    pub acyclic : IsAcyclic (all_classes files)
    pub are_supertypes : (xs : List (List ℕ)) → AreSupertypes (all_classes files) xs (supertypes (all_classes files) xs)
    pub one_supertypes : (xs : List (List ℕ)) (j k : Supertypes) → AreSupertypes (all_classes files) xs j
        → AreSupertypes (all_classes files) xs k → j ≡ k
    pub none : BreaksNone list files codes settings
    pub keeps : IsKept list files codes settings → Keeps (all_classes files)
    pub calls : IsKept list files codes settings → CallsAgree (all_classes files)
    pub open_tokens : KeepsRules (all_classes files) → AreNumbered (all_classes files) → TokensMean (all_classes files)
    pub hidden_tokens : KeepsRules (all_classes files) → PackageTokensMean (all_classes files)

module _ (list : ListTree) (files : List (List ℕ)) (tested : List Group) (judged : Judged) (cap : CapTree)
    (c : Complete)
    (image : StaticImage) (is : IsPassed list files tested judged cap c image) where
  abbrev w : Files
  w = judged.world

  abbrev codes : List MethodCode
  codes = judged.codes

  abbrev settings : Settings
  settings = settings_of list

  abbrev q : Package
  q = package_of list w image

  pub checks : check_breaks list.name w codes settings ≡ []
  checks = files_of.checks list files tested judged is.read is.bytes is.limits is.tokens is.judged_by

  pub unbroken : breaks list.name w ≡ []
  unbroken = files_of.unbroken list files tested judged is.read is.bytes is.limits is.tokens is.judged_by

  pub sound : IsSound list.name w
  sound = files_of.sound list files tested judged is.read is.bytes is.limits is.tokens is.judged_by

  writable : (k : ℕ) (t : ExportTree) → slice_get w.exports k ≡ Some t → IsWritable t
  writable = files_of.writable list files tested judged is.read is.bytes is.limits is.tokens is.judged_by

  descs : AreFieldDescs w
  descs = files_of.field_descs list files tested judged is.read is.bytes is.limits is.tokens is.judged_by

  -- ---- the package, with what was told of its files

  module _ (told : Told w list.name codes settings q) where
    no_array : (x : List ℕ) (k : Class) → class_named (all_classes w) x ≡ Some k → starts 91 x ≡ false
    no_array x k e = (let s = says_kinds list.name q sound in s.no_array x (ap is_some e))

    clean : IsClean list.name w codes settings
    clean = record {
      world = unbroken;
      checks = checks;
      read = files_of.read_files list files tested judged is.read is.bytes is.limits is.tokens is.judged_by;
      sound = told.sound;
    }

    solid : IsSolid w
    solid = solid_of list.name w codes settings clean no_array

    kept : IsKept list.name w codes settings
    kept = record {
      unbroken = told.none;
      read = (let s = sound in s.read);
      agree = told.agree;
    }

    -- no class of the package is java/lang/Object
    no_object : HasNoObject (loaded_of (has_applets list) w image c)
    no_object k part e =
        let root = (let s = told.sound in s.root) in
        let h = entry_of_name list.name q sound (letters "java/lang/Object") (imported root.number root.class)
        root.found
        refl in
        let named : (let d = root.class in d.name) ≡ letters "java/lang/Object" = class_named-name (all_classes w)
        (letters "java/lang/Object") (imported root.number root.class) root.found in
        by k e (ap (number_named own.classes) (sym named) ∙ h.has_no_info)
      where
        own : Part
        own = part_of (has_applets list) w image c

        by : (k : ℕ) → slice_get (own ∷ []) k ≡ Some part → number_named own.classes (letters "java/lang/Object") ≡ None
            → number_named part.classes (letters "java/lang/Object") ≡ None
        by zero f g = ap (λ (v : Part). number_named v.classes (letters "java/lang/Object")) (sym (same_some f)) ∙ g
        by (suc j) f g = absurd cc

    -- ---- what components say together

    all : AreTrue (of_complete c w.exports)
    all k s e = are_true (sentences cap w.exports) is.consistent (suc (suc k)) s (ap (λ o.
        slice_get (where_complete o w.exports) k) is.is_complete ∙ e)

    abbrev pub checked : Checked
    checked = record {
      name = list.name;
      list = list;
      files = w;
      codes = codes;
      image = image;
      components = c;
    }

    pub is_checked : IsChecked checked
    is_checked = record {
      sound = sound;
      typed = fields_typed list.name w codes settings descs checks;
      descs = descs;
      static_ones = static_in_interfaces list.name w codes settings checks;
      no_object = no_object;
      initialised = is.initialised;
      once = subst (λ cs. StandOnce w cs) (sym (files_of.codes_are list files tested judged is.read is.bytes is.limits
          is.tokens is.judged_by)) (stand_once w list.name (let s = sound in s.classes) unbroken);
      supers = all 2 _ refl;
      cells = all 13 _ refl;
      described = all 15 _ refl;
      paired = is.paired;
      verified = is.verified;
    }

    refs : AreRefs c
    refs = record {
      entries = pool_refs is.pool.0 is.pool.1 c.pool is.pool.2;
      holders = descriptor_refs is.descriptor.0 is.descriptor.1 c.descriptor is.descriptor.2;
    }

    sized : AreSized c
    sized = record {
      virtuals = virtual_bytes is.pool.0 is.pool.1 c.pool is.pool.2;
      supers = super_bytes is.pool.0 is.pool.1 c.pool is.pool.2;
      methods = method_bytes is.descriptor.0 is.descriptor.1 c.descriptor is.descriptor.2;
      method = method_fits is.method.0 is.method.1 c.method is.method.2;
    }

    counted : AreCounted w
    counted = record {
      few = files_of.few_imports list files tested judged is.read is.bytes is.limits is.tokens is.judged_by;
      tokens = λ k t e j x f. (
          let fit = writable k t e in
          let class = each-after ClassFits [] t.classes x fit.classes (get-has x t.classes j f) in
          (let one = class.1 in one.token)
          );
    }

    pub has_code : HasCode checked
    has_code = record {
      class_refs = all 1 _ refl;
      whole = all 6 _ refl;
      jumps = all 7 _ refl;
      indices = all 8 _ refl;
      handlers = all 9 _ refl;
      refs = refs;
      counted = counted;
      pool = all 5 _ refl;
      written = writable;
    }

    pub codes_there : HaveCode (pair checked)
    codes_there = have_code list.name (has_applets list) w image c codes settings sound checks
        (files_of.read_files list files tested judged is.read is.bytes is.limits is.tokens is.judged_by) solid
        told.acyclic
        told.are_supertypes (all 6 _ refl) (ordered c (all 15 _ refl)) is.paired is.verified

    keeps : Keeps (all_classes w)
    keeps = told.keeps kept

    agree : FilesAgree q
    agree = record {
      exports = exports_keep list.name q sound told.sound told.plain;
      keeps = keeps;
      are_supertypes = told.are_supertypes;
      one_supertypes = told.one_supertypes;
      calls = told.calls kept;
      open_tokens = told.open_tokens (let k = keeps in k.rules) (let s = solid in s.numbered);
      hidden_tokens = told.hidden_tokens (let k = keeps in k.rules);
    }

    pub keeps_calls : KeepsCalls checked
    keeps_calls = record {
      agree = agree;
      subtypes = keeps_subtypes (all_classes w) (let s = solid in s.ordered) no_array;
      tokens = keeps_tokens w (has_applets list) (files_of.has_tokens list files tested judged is.read is.bytes
          is.limits
          is.tokens is.judged_by) writable (let s = solid in s.ordered);
      listed = (let s = told.send in s.listed);
      sized = sized;
    }

    -- So no run of it is stuck.
    pub free : IsNeverStuck (has_applets list) w image c
    free = goes checked is_checked has_code codes_there keeps_calls (faults_are_classes w told.sound)
