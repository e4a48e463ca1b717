-- A method that is not in int mode begins as in a package without int mode, as what is written by modes has it.
use Rattle.std.proofs.Common.{◌≡◌, ◌-◌, Bool, false, List, length, None, refl, sym, subst}
use Rattle.cjc_bytes.specs.declared.fault.MemberId.{MemberId}
use Rattle.cjc_world.specs.Classes.{all_classes}
use Rattle.cjc_world.specs.Files.{Files}
use Rattle.cjc_world.specs.declared.image.StaticImage.{StaticImage}
use Rattle.cjc_types.specs.Flow.{arguments}
use Rattle.cjc_ncode.specs.Written.{catches_at, narrow_code, place_in}
use Rattle.cjc_jvm_semantics.specs.ByName.{linked}
use Rattle.cjc_jvm_semantics.specs.Linked.{Method}
use Rattle.cjc_narrow.specs.Rows.Package.{named}
use Rattle.cjc_narrow_proof.specs.Runs.Tables.{HasTables, Tables, analysis, body_in, look_ups}
use Rattle.cjc_narrow_proof.specs.Tables.Analysis.{Analysis, CatchesAreTold, IsRead, IsSound, reached_in}
use Rattle.cjc_narrow_proof.specs.Tables.Calls.{IsWhole, IsWordDesc}
use Rattle.cjc_narrow_proof.specs.Tables.Pairs.{AreInPairs}
use Rattle.cjc_narrow_proof.proofs.RunsLaws.Whole.{is_whole}
use Rattle.cjc_int_alike.specs.ByModes.{analysis_by_mode, bodies_by_mode, body_by, code_by, found_in, look_ups_by_mode}
use Rattle.cjc_int_alike.specs.ByModes.{resolution_by, result_in}
use Rattle.cjc_int_alike.specs.Callees.{IsShortBegun}

module _ (files : Files) (image : StaticImage) (near : List MemberId) (tables : Tables) (is_int : Method → Bool)
    (m : Method) (h : HasTables files tables m) (off : is_int m ≡ false) where
  abbrev a : Analysis
  a = analysis_by_mode files image near tables is_int

  -- what holds of what is written outside int mode holds of what is written by the mode
  as_short : (P : Bool → Type 0) → P false → P (is_int m)
  as_short P p = subst P (sym off) p

  before : IsWhole (linked files image) (look_ups files image near tables) (all_classes files)
      (analysis files image near tables) m
  before = is_whole files image near tables m h

  read : IsRead a m
  read =
      let r = (let b = before in b.read) in
      record {
        insns = r.insns;
        catches = r.catches;
        max_stack = r.max_stack;
        max_locals = r.max_locals;
        class = r.class;
        begins = refl;
        code = as_short (λ int. (let n = code_by files image near tables is_int int m in n.insns)
            ≡ narrow_code (resolution_by files image near tables is_int int m)
            (reached_in (found_in files image near tables is_int m))) r.code;
        handlers = as_short (λ int. (let n = code_by files image near tables is_int int m in n.catches)
            ≡ catches_at (place_in (resolution_by files image near tables is_int int m)
            (reached_in (found_in files image near tables is_int m))) m.catches) r.handlers;
        pairs = as_short (λ int. AreInPairs (resolution_by files image near tables is_int int m) (body_in files m)
            (tables.types m) (let b = a in b.opened m)) r.pairs;
        narrow_max_stack = as_short (λ int. (let n = code_by files image near tables is_int int m in n.max_stack)
            ≡ m.max_stack) r.narrow_max_stack;
      }

  told : CatchesAreTold (linked files image) (look_ups_by_mode files image near tables is_int) a m
  unfolding linked named
  told =
      let t = (let b = before in b.told) in
      record { tells = t.tells; throwable = t.throwable; named = t.named }

  word : IsWordDesc (let id = m.id in id.desc)
  word = subst (λ (n : Method). IsWordDesc (let id = n.id in id.desc)) (sym h.is) h.desc

  pub short_begun : IsShortBegun (linked files image) (look_ups_by_mode files image near tables is_int)
      (all_classes files) a (bodies_by_mode files image near tables is_int)
      (result_in files image near tables is_int) m
  short_begun =
      let narrowed = (let b = before in b.is_narrowed) in
      record {
        whole = record {
          read = read;
          decoded = (let b = before in b.decoded);
          sound = as_short (λ int. IsSound (all_classes files) (let r = resolution_by files image near tables is_int
              int m in r.constant) (found_in files image near tables is_int m)) (let b = before in b.sound);
          told = told;
          given = refl;
          begins = (let b = before in b.begins);
          is_narrowed = record {
            has_code = narrowed.has_code;
            is_written = narrowed.is_written;
            nargs = as_short (λ int. (let n = code_by files image near tables is_int int m in n.nargs)
                ≡ length (arguments (body_in files m))) narrowed.nargs;
            max_locals = as_short (λ int. (let n = code_by files image near tables is_int int m in n.max_locals)
                ≡ m.max_locals - length (arguments (body_in files m))) narrowed.max_locals;
          };
        };
        no_body = as_short (λ int. body_by files image near tables is_int int m ≡ None) refl;
        desc = word;
        given = refl;
      }
