-- A method in int mode with least tables begins, as what is written by modes has it.
use Rattle.std.proofs.Common.{◌≡◌, Bool, true, List, [], Some, refl, sym, ap, subst, ◌∙◌}
use Rattle.cjc_bytes.specs.declared.fault.MemberId.{MemberId}
use Rattle.cjc_world.specs.Classes.{all_classes}
use Rattle.cjc_world.specs.Files.{Files}
use Rattle.cjc_world.specs.declared.image.StaticImage.{StaticImage}
use Rattle.cjc_types.specs.Flow.{body_of}
use Rattle.cjc_ncode.specs.declared.narrow.NMethod.{NMethod}
use Rattle.cjc_jvm_semantics.specs.ByName.{linked}
use Rattle.cjc_jvm_semantics.specs.Linked.{Method}
use Rattle.cjc_jvm_semantics.specs.OnePackage.{method_by}
use Rattle.cjc_narrow.specs.Rows.Package.{named, tree_of}
use Rattle.cjc_narrow.specs.Rows.Resolved.{constant_named, resolution}
use Rattle.cjc_narrow_proof.specs.Runs.Tables.{Tables, body_in}
use Rattle.cjc_narrow_proof.specs.Tables.Analysis.{Analysis, HasRoomToBegin, IsDecoded}
use Rattle.cjc_narrow_proof.proofs.RunsLaws.Whole.{same_body}
use Rattle.cjc_narrow_proof.proofs.TablesLaws.Spelt.{class_read}
use Rattle.cjc_int_mode.specs.Written.{written_in_int_mode}
use Rattle.cjc_int_alike.specs.ByModes.{HasIntTables, analysis_by_mode, bodies_by_mode, body_by, code_by, found_in}
use Rattle.cjc_int_alike.specs.ByModes.{int_resolution, look_ups_by_mode, resolution_by, result_in}
use Rattle.cjc_int_alike.specs.Callees.{IsIntBegun, start_with}
use Rattle.cjc_int_alike.specs.Method.{IsIntSound, IsIntWhole, IntCatchesAreTold, int_body}
use Rattle.cjc_int_alike.proofs.Tables.{is_decoded, is_sound}

module _ (files : Files) (image : StaticImage) (near : List MemberId) (tables : Tables) (is_int : Method → Bool) where
  abbrev a : Analysis
  a = analysis_by_mode files image near tables is_int

  -- A method in int mode has what its callers and whole runs ask.
  pub int_begun : (m : Method) → HasIntTables files tables m → is_int m ≡ true
      → IsIntBegun (linked files image) (look_ups_by_mode files image near tables is_int) (all_classes files) a
      (bodies_by_mode files image near tables is_int) (result_in files image near tables is_int) m
  unfolding resolution linked named
  int_begun m h e = subst (λ n. IsIntBegun (linked files image) (look_ups_by_mode files image near tables is_int)
      (all_classes files) a (bodies_by_mode files image near tables is_int) (result_in files image near tables
      is_int) n)
      (sym h.is) (begun (ap is_int (sym h.is) ∙ e))
    where
      same : body_in files (method_by h.class h.method (Some h.tree)) ≡ body_of h.class h.method h.tree
          (let code = h.code in code.insns)
      same = same_body files image near tables h.code h.class h.method h.tree h.of_package h.found

      decoded_here : IsDecoded (body_in files (method_by h.class h.method (Some h.tree)))
      decoded_here = subst IsDecoded (sym same) (is_decoded files h.code h.class h.method h.tree h.of_package [] [])

      sound_here : IsIntSound (all_classes files) (constant_named files (all_classes files))
          (found_in files image near tables is_int (method_by h.class h.method (Some h.tree)))
      sound_here = subst (λ b. IsIntSound (all_classes files) (constant_named files (all_classes files)) (record {
        body = b;
        types = tables.types (method_by h.class h.method (Some h.tree));
        ranges = tables.ranges (method_by h.class h.method (Some h.tree));
      })) (sym same) (is_sound files h.code h.class h.method h.tree h.of_package
          (tables.types (method_by h.class h.method (Some h.tree)))
          (tables.ranges (method_by h.class h.method (Some h.tree))) (constant_named files (all_classes files)) h.least
          h.unbroken h.ranges h.passes h.room)

      sound_by : IsIntSound (all_classes files) (let r = int_resolution files image near tables is_int
          (method_by h.class h.method (Some h.tree)) in r.constant)
          (found_in files image near tables is_int (method_by h.class h.method (Some h.tree)))
      sound_by = sound_here

      told_here : IntCatchesAreTold (linked files image) (look_ups_by_mode files image near tables is_int)
          (let b = a in b.may_throw) (method_by h.class h.method (Some h.tree))
      told_here = record {
        tells = λ kind name. refl;
        throwable = λ kind e. e;
        named = λ c name among e. (let r = class_read name (h.caught c name among e) in r.class);
      }

      whole : IsIntWhole (linked files image) (look_ups_by_mode files image near tables is_int) (let b = a
          in b.may_throw) (all_classes files) (int_resolution files image near tables is_int
          (method_by h.class h.method (Some h.tree))) (found_in files image near tables is_int
          (method_by h.class h.method (Some h.tree))) (method_by h.class h.method (Some h.tree))
      whole = record {
        read = record { insns = refl; catches = refl; max_stack = refl; max_locals = refl; class = refl };
        decoded = decoded_here;
        sound = sound_by;
        told = told_here;
      }

      -- what is written for it, by what names stand for
      written_by : (int : Bool) → NMethod
      written_by int = written_in_int_mode (resolution_by files image near tables is_int int
          (method_by h.class h.method (Some h.tree))) (tree_of (method_by h.class h.method (Some h.tree)))
          (body_in files (method_by h.class h.method (Some h.tree)))
          (tables.types (method_by h.class h.method (Some h.tree)))
          (tables.ranges (method_by h.class h.method (Some h.tree)))

      begun : is_int (method_by h.class h.method (Some h.tree)) ≡ true
          → IsIntBegun (linked files image) (look_ups_by_mode files image near tables is_int) (all_classes files) a
          (bodies_by_mode files image near tables is_int) (result_in files image near tables is_int)
          (method_by h.class h.method (Some h.tree))
      begun e = record {
        whole = subst (λ int. IsIntWhole (linked files image) (look_ups_by_mode files image near tables is_int)
            (let b = a in b.may_throw) (all_classes files) (resolution_by files image near tables is_int int
            (method_by h.class h.method (Some h.tree))) (found_in files image near tables is_int
            (method_by h.class h.method (Some h.tree))) (method_by h.class h.method (Some h.tree))) (sym e) whole;
        tree = tree_of (method_by h.class h.method (Some h.tree));
        catches = refl;
        max_stack = refl;
        body = subst (λ int. body_by files image near tables is_int int (method_by h.class h.method (Some h.tree))
            ≡ Some (int_body (look_ups_by_mode files image near tables is_int)
            (resolution_by files image near tables is_int int (method_by h.class h.method (Some h.tree)))
            (found_in files image near tables is_int (method_by h.class h.method (Some h.tree))) (written_by int)))
            (sym e) refl;
        has_code = refl;
        starts = subst (λ int. (let n = code_by files image near tables is_int int
            (method_by h.class h.method (Some h.tree)) in start_with n) ≡ start_with (written_by int)) (sym e) refl;
        gives = record { desc = h.desc; given = refl };
        begins = subst HasRoomToBegin (sym same) h.begins;
      }
