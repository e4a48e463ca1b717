-- Methods of several packages with the least tables of their modes begin as what is written by modes has it.
use Rattle.std.proofs.Common.{◌≡◌, ◌-◌, Bool, true, false, List, length, Some, None, refl, sym, ap, subst}
use Rattle.std.specs.Prelude.{ℕ, Option}
use Rattle.cjc_bytes.specs.declared.fault.MemberId.{MemberId}
use Rattle.cjc_card_semantics.specs.Bytecode.Machine.{Start}
use Rattle.cjc_world.specs.Classes.{Class, all_classes}
use Rattle.cjc_world.specs.Files.{Files}
use Rattle.cjc_world.specs.declared.image.StaticImage.{StaticImage}
use Rattle.cjc_types.specs.Flow.{arguments}
use Rattle.cjc_ncode.specs.declared.narrow.NMethod.{NMethod}
use Rattle.cjc_ncode.specs.ByLabel.{Named}
use Rattle.cjc_ncode.specs.Written.{catches_at, narrow_code, place_in}
use Rattle.cjc_jvm_semantics.specs.ByName.{linked}
use Rattle.cjc_jvm_semantics.specs.Group.{group_linked}
use Rattle.cjc_jvm_semantics.specs.Linked.{Method, Linked}
use Rattle.cjc_narrow.specs.Rows.Package.{named, tree_of}
use Rattle.cjc_narrow.specs.Rows.Resolved.{resolution}
use Rattle.cjc_narrow_proof.specs.Runs.Tables.{Tables, body_in}
use Rattle.cjc_narrow_proof.specs.Tables.Analysis.{Analysis, CatchesAreTold, IsRead, IsSound, reached_in}
use Rattle.cjc_narrow_proof.specs.Tables.Calls.{IsWhole, IsWordDesc}
use Rattle.cjc_narrow_proof.specs.Tables.Pairs.{AreInPairs}
use Rattle.cjc_int_mode.specs.Written.{written_in_int_mode}
use Rattle.cjc_int_runs.specs.IntFrames.{IntBody}
use Rattle.cjc_int_alike.specs.ByModes.{analysis_by_mode, bodies_by_mode, look_ups_by_mode, result_in}
use Rattle.cjc_int_alike.specs.Callees.{IsBegunByMode, IsIntBegun, IsReachedByMode, IsShortBegun, begun_in_int_mode}
use Rattle.cjc_int_alike.specs.Callees.{begun_in_short_mode, start_with}
use Rattle.cjc_int_alike.specs.Method.{IsIntSound, IsIntWhole, IntCatchesAreTold, int_body}
use Rattle.cjc_int_alike.proofs.Modes.{int_begun as begun_alone}
use Rattle.cjc_joint_theorem.specs.Asked.{group_named}
use Rattle.cjc_joint_theorem.specs.Together.Homes.{Homes, files_for, group_analysis, group_look_ups, joint_world}
use Rattle.cjc_joint_theorem.specs.Together.Homes.{HasTablesIn}
use Rattle.cjc_joint_theorem.proofs.TogetherLaws.Whole.{is_whole}
use Rattle.cjc_joint_modes.specs.Codes.{HasIntTablesIn, HasTablesByMode, IsBegunByModeIn, found_for}
use Rattle.cjc_joint_modes.specs.Codes.{group_analysis_by_mode}
use Rattle.cjc_joint_modes.specs.Codes.{group_bodies_by_mode, group_body_by, group_code_by, group_look_ups_by_mode}
use Rattle.cjc_joint_modes.specs.Codes.{in_int_mode, in_short_mode, int_resolution_for, resolution_by, result_for}

module _ (group : List Files) (image : StaticImage) (homes : Homes) (tables : Tables) (is_int : Method → Bool) where
  abbrev w : List Class
  w = joint_world group

  abbrev by : Linked
  by = group_linked group image

  abbrev l : Named
  l = group_look_ups_by_mode group image homes tables is_int

  abbrev a : Analysis
  a = group_analysis_by_mode group image homes tables is_int

  abbrev bodies : Method → Option IntBody
  bodies = group_bodies_by_mode group image homes tables is_int

  -- ---- in int mode

  module _ (m : Method) (h : HasIntTablesIn group homes tables m) where
    abbrev p : Files
    p = files_for homes m

    abbrev near : List MemberId
    near = let home = homes m in home.near

    -- what it is in its package
    alone : IsIntBegun (linked p image) (look_ups_by_mode p image near tables (λ n. true)) (all_classes p)
        (analysis_by_mode p image near tables (λ n. true)) (bodies_by_mode p image near tables (λ n. true))
        (result_in p image near tables (λ n. true)) m
    alone = begun_alone p image near tables (λ n. true) m h.has refl

    sound_here : IsIntSound w (let r = int_resolution_for homes tables m in r.constant) (found_for homes tables m)
    unfolding resolution
    sound_here =
        let s = (let b = alone in let v = b.whole in v.sound) in
        record { types = s.types; unbroken = h.unbroken; ranges = s.ranges; passes = s.passes; room = s.room }

    told_here : IntCatchesAreTold by l (let b = a in b.may_throw) m
    unfolding group_linked group_named linked named
    told_here =
        let t = (let b = alone in let v = b.whole in v.told) in
        record { tells = λ kind name. refl; throwable = λ kind e. e; named = t.named }

    whole : IsIntWhole by l (let b = a in b.may_throw) w (int_resolution_for homes tables m)
        (found_for homes tables m) m
    whole =
        let v = (let b = alone in b.whole) in
        record { read = v.read; decoded = v.decoded; sound = sound_here; told = told_here }

    -- what is written for it, by what names stand for
    abbrev written_by : (int : Bool) → NMethod
    written_by int = written_in_int_mode (resolution_by homes tables int m) (tree_of m) (body_in p m) (tables.types m)
        (tables.ranges m)

    abbrev begins_with : (abstract : Bool) → NMethod → Start NMethod
    begins_with abstract n = record {
      code = n;
      at = 0;
      nargs = n.nargs;
      max_locals = n.max_locals;
      is_abstract = abstract;
    }

    pub int_begun : is_int m ≡ true → IsIntBegun by l w a bodies result_for m
    int_begun e = record {
      whole = subst (λ int. IsIntWhole by l (let b = a in b.may_throw) w (resolution_by homes tables int m)
          (found_for homes tables m) m) (sym e) whole;
      tree = tree_of m;
      catches = refl;
      max_stack = refl;
      body = subst (λ int. group_body_by group image homes tables is_int int m ≡ Some (int_body l
          (resolution_by homes tables int m) (found_for homes tables m) (written_by int))) (sym e) refl;
      has_code = (let b = alone in b.has_code);
      starts = subst (λ int. begins_with m.is_abstract (group_code_by homes tables int m) ≡ start_with (written_by int))
          (sym e) (ap (λ abstract. begins_with abstract (group_code_by homes tables true m)) (let b = alone
          in b.has_code));
      gives = record { desc = (let b = alone in let g = b.gives in g.desc); given = refl };
      begins = (let b = alone in b.begins);
    }

  -- ---- in short mode

  module _ (m : Method) (h : HasTablesIn group homes tables m) (off : is_int m ≡ false) where
    -- what holds of what is written outside int mode holds of what is written by the mode
    as_short : (P : Bool → Type 0) → P false → P (is_int m)
    as_short P p = subst P (sym off) p

    before : IsWhole by (group_look_ups group image homes tables) w (group_analysis group image homes tables) m
    before = is_whole group image homes tables m h

    read : IsRead a m
    read =
        let r = (let b = before in b.read) in
        record {
          insns = r.insns;
          catches = r.catches;
          max_stack = r.max_stack;
          max_locals = r.max_locals;
          class = r.class;
          begins = refl;
          code = as_short (λ int. (let n = group_code_by homes tables int m in n.insns)
              ≡ narrow_code (resolution_by homes tables int m) (reached_in (found_for homes tables m))) r.code;
          handlers = as_short (λ int. (let n = group_code_by homes tables int m in n.catches)
              ≡ catches_at (place_in (resolution_by homes tables int m) (reached_in (found_for homes tables m)))
              m.catches) r.handlers;
          pairs = as_short (λ int. AreInPairs (resolution_by homes tables int m) (body_in (files_for homes m) m)
              (tables.types m) (let b = a in b.opened m)) r.pairs;
          narrow_max_stack = as_short (λ int. (let n = group_code_by homes tables int m in n.max_stack)
              ≡ m.max_stack) r.narrow_max_stack;
        }

    told : CatchesAreTold by l a m
    unfolding group_linked group_named
    told =
        let t = (let b = before in b.told) in
        record { tells = t.tells; throwable = t.throwable; named = t.named }

    word : IsWordDesc (let id = m.id in id.desc)
    word =
        let has = h.has in
        subst (λ (n : Method). IsWordDesc (let id = n.id in id.desc)) (sym has.is) has.desc

    pub short_begun : IsShortBegun by l w a bodies result_for m
    short_begun =
        let narrowed = (let b = before in b.is_narrowed) in
        record {
          whole = record {
            read = read;
            decoded = (let b = before in b.decoded);
            sound = as_short (λ int. IsSound w (let r = resolution_by homes tables int m in r.constant)
                (found_for homes tables m)) (let b = before in b.sound);
            told = told;
            given = refl;
            begins = (let b = before in b.begins);
            is_narrowed = record {
              has_code = narrowed.has_code;
              is_written = narrowed.is_written;
              nargs = as_short (λ int. (let n = group_code_by homes tables int m in n.nargs)
                  ≡ length (arguments (body_in (files_for homes m) m))) narrowed.nargs;
              max_locals = as_short (λ int. (let n = group_code_by homes tables int m in n.max_locals)
                  ≡ m.max_locals - length (arguments (body_in (files_for homes m) m))) narrowed.max_locals;
            };
          };
          no_body = as_short (λ int. group_body_by group image homes tables is_int int m ≡ None) refl;
          desc = word;
          given = refl;
        }

  -- ---- either

  begun : (m : Method) → HasTablesByMode group homes tables is_int m → IsBegunByMode by l w a bodies result_for m
  begun m (in_int_mode e h) = begun_in_int_mode (int_begun m h e)
  begun m (in_short_mode e h) = begun_in_short_mode (short_begun m h e)

  pub begun_by : (on : Bool) (desc : List ℕ) (callee : Method)
      → IsBegunByModeIn group homes tables is_int on desc callee
      → IsReachedByMode by l w a bodies result_for on desc callee
  begun_by on desc callee h = record { begun = begun callee h.has_tables; desc = h.desc; flags = h.flags }
