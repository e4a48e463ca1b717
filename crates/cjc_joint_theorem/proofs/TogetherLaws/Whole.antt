-- Each method that has least tables in its package is whole in the group.
use Rattle.std.proofs.Common.{◌≡◌, ℕ, suc, Bool, List, length, refl}
use Rattle.cjc_world.specs.Files.{Files}
use Rattle.cjc_world.specs.Classes.{Class}
use Rattle.cjc_code.specs.declared.insn.JOp.{JOp}
use Rattle.cjc_world.specs.declared.image.StaticImage.{StaticImage}
use Rattle.cjc_jvm_semantics.specs.Linked.{Method, Linked}
use Rattle.cjc_jvm_semantics.specs.ByName.{linked}
use Rattle.cjc_jvm_semantics.specs.Group.{group_linked}
use Rattle.cjc_ncode.specs.ByLabel.{Named}
use Rattle.cjc_ncode.specs.Written.{Resolution}
use Rattle.cjc_ncode.specs.declared.narrow.PairRole.{PairRole}
use Rattle.cjc_narrow.specs.Pairs.Open.{Open}
use Rattle.cjc_narrow.specs.Rows.Resolved.{resolution}
use Rattle.cjc_narrow.specs.Rows.Package.{named}
use Rattle.cjc_narrow.specs.Pairs.Roles.{with_pairs}
use Rattle.cjc_narrow_proof.specs.Tables.Analysis.{Analysis, Ascend, IsRead}
use Rattle.cjc_narrow_proof.specs.Tables.Pairs.{AreInPairs, IsInPair, stands_alone, opens, goes_on, pushes, gets, puts}
use Rattle.cjc_narrow_proof.specs.Tables.Pairs.{IsPushed, a_null, a_number, a_local, a_constant}
use Rattle.cjc_narrow_proof.specs.Tables.Calls.{IsWhole, IsReachedBy}
use Rattle.cjc_narrow_proof.specs.Runs.Tables.{Tables, body_in, paired_in}
use Rattle.cjc_narrow_proof.proofs.RunsLaws.Pairs.{are_in_pairs}
use Rattle.cjc_narrow_proof.proofs.RunsLaws.Whole.{is_whole as whole_alone}
use Rattle.cjc_joint_theorem.specs.Asked.{resolved_by, group_named}
use Rattle.cjc_joint_theorem.specs.Together.Homes.{Homes, files_for, group_look_ups, joint_world, group_analysis}
use Rattle.cjc_joint_theorem.specs.Together.Homes.{HasTablesIn, IsBegunIn}

module _ (group : List Files) (image : StaticImage) (homes : Homes) (tables : Tables) where
  abbrev w : List Class
  w = joint_world group

  abbrev by : Linked
  by = group_linked group image

  abbrev l : Named
  l = group_look_ups group image homes tables

  abbrev a : Analysis
  a = group_analysis group image homes tables

  -- what an instruction is to an open pair does not depend on who asks
  pushed_same : (q : ℕ) (r : Resolution) (op : JOp) → IsPushed r op → IsPushed (resolved_by q r) op
  pushed_same q r _ a_null = a_null
  pushed_same q r _ a_number = a_number
  pushed_same q r _ a_local = a_local
  pushed_same q r _ (a_constant e) = a_constant e

  in_pair_same : (q : ℕ) (r : Resolution) (before after : Open) (op : JOp) (role : PairRole)
      → IsInPair r before op role after → IsInPair (resolved_by q r) before op role after
  in_pair_same q r _ _ _ _ stands_alone = stands_alone
  in_pair_same q r _ _ _ _ opens = opens
  in_pair_same q r _ _ _ _ (goes_on is silent) = goes_on is silent
  in_pair_same q r _ _ op _ (pushes known) = pushes (pushed_same q r op known)
  in_pair_same q r _ _ _ _ gets = gets
  in_pair_same q r _ _ _ _ puts = puts

  -- it is read as the machine by name has it, and what is written for it stands in narrow code
  pairs_same : (m : Method) → (let h = homes m in AreInPairs (paired_in h.files h.near tables m) (body_in h.files m)
      (tables.types m) (a.opened m)) → AreInPairs (a.resolution m) (body_in (files_for homes m) m) (tables.types m)
      (a.opened m)
  pairs_same m h = record {
    each = λ at i t there row. (let home = homes m in let r = paired_in home.files home.near tables m in in_pair_same
        home.number r (a.opened m at) (a.opened m (suc at)) i.op (r.role i.at) (h.each at i t there row));
    first = h.first;
    targets = h.targets;
    handlers = h.handlers;
  }

  is_read : (m : Method) → Ascend m.insns → length (tables.types m) ≡ length m.insns → IsRead a m
  is_read m up sized = record {
    insns = refl;
    catches = refl;
    max_stack = refl;
    max_locals = refl;
    class = refl;
    begins = refl;
    code = refl;
    handlers = refl;
    pairs = pairs_same m (let id = m.id in let h = homes m in are_in_pairs (resolution h.files h.near id.class)
        (body_in h.files m) (tables.types m) up sized);
    narrow_max_stack = refl;
  }

  pub is_whole : (m : Method) → HasTablesIn group homes tables m → IsWhole by l w a m
  unfolding resolution group_linked group_named linked named with_pairs
  is_whole m h =
      let near = (let home = homes m in home.near) in
      let alone = whole_alone (files_for homes m) image near tables m h.has in
      let sound = alone.sound in
      let narrowed = alone.is_narrowed in
      let told = alone.told in
      record {
        read = is_read m (let d = alone.decoded in d.ascend) (let t = sound.types in t.sized);
        decoded = alone.decoded;
        sound = record {
          types = sound.types;
          unbroken = h.unbroken;
          ranges = sound.ranges;
          passes = sound.passes;
        };
        told = record { tells = λ kind name. refl; throwable = λ kind e. e; named = told.named };
        given = refl;
        begins = alone.begins;
        is_narrowed = record {
          has_code = narrowed.has_code;
          is_written = narrowed.is_written;
          nargs = narrowed.nargs;
          max_locals = narrowed.max_locals;
        };
      }

  pub begun_by : (on : Bool) (desc : List ℕ) (callee : Method) → IsBegunIn group homes tables on desc callee
      → IsReachedBy by l w a on desc callee
  begun_by on desc callee h =
      let b = h.begun in
      record { whole = is_whole callee h.has_tables; desc = b.desc; flags = b.flags }
