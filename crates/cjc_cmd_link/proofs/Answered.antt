-- What is answered of packages that were tested, by name and by token.
use Rattle.std.proofs.Common.{◌≡◌, inl, inr, ℕ, ◌+◌, ◌<◌, ◌^◌, List, [], ◌∷◌, length, map, refl, sym, ap, subst}
use Rattle.std.proofs.Common.{◌∙◌, arith, true, Ok, Err}
use Rattle.std.specs.List.{sum_by}
use Rattle.std.proofs.lemmas.List.{length-map}
use Rattle.cjc_group.specs.Bytes.declared.fault.Fault.{Fault}
use Rattle.cjc_group.specs.Bytes.declared.fault.Fault.TheVariants as faults
use Rattle.cjc_group.specs.Bytes.declared.fault.Refusal.{Refusal}
use Rattle.cjc_cmd_card.specs.declared.running.input.Input.{Input}
use Rattle.cjc_cmd_link.proofs.Agreed.{are_linked, files_linked, one_linked}
use Rattle.cjc_cmd_link.specs.Members.{AreLinked, AreTested, IsTested}
use Rattle.cjc_cmd_link.specs.Refused.{AreAgreed, IsFault, IsRefused, MissNone, NoPart, by_cycle, by_group, by_missing}
use Rattle.cjc_cmd_link.specs.Refused.{by_part}
use Rattle.cjc_cmd_link.specs.Runs.{IsRun, Runs, report_by_name}
use Rattle.cjc_cmd_link.specs.Working.{AreMade, IsCycle, IsFree, IsMade, linked_as, world_of, worlds_of}
use Rattle.cjc_cmd_link.specs.declared.members.Tested.{Tested}
use Rattle.cjc_cmd_link.specs.declared.reads.GroupInput.{GroupInput}
use Rattle.cjc_group.specs.Members.{Member as Linked}
use Rattle.cjc_cmd_card.specs.LowerJudge.Rules.{has_applets}
use Rattle.cjc_cmd_card.specs.Jvm.States.{objects_at_most}
use Rattle.cjc_link_semantics.specs.JvmSemantics.Group.{group_linked, joint, joint_image, run_group}
use Rattle.cjc_link_semantics.specs.JvmSemantics.Machine.{run, start}
use Rattle.cjc_link_semantics.specs.JvmSemantics.OnePackage.{static_array}
use Rattle.cjc_link_semantics.specs.Loaded.{Member, files_of}
use Rattle.cjc_link_semantics.specs.Together.{images_of}
use Rattle.cjc_link_semantics.specs.Script.declared.report.Report.{Report}
use Rattle.cjc_link_semantics.specs.Script.declared.script.Script.{Script}
use Rattle.cjc_cmd_card.specs.LowerScriptText.Printed.{report_text}
use Rattle.cjc_cmd_card.specs.LowerScriptText.Scripted.{ScriptTree, scripted}
use Rattle.cjc_cmd_card.specs.Shelf.Command.Gather.{Judged, status_of_fault}
use Rattle.cjc_cmd_card.specs.Shelf.declared.command.status.Todo.{Todo}
use Rattle.cjc_group.specs.World.Classes.{all_classes}
use Rattle.cjc_group.specs.World.Files.{Files}
use Rattle.cjc_group.specs.World.Rules.{has_cycle}
use Rattle.cjc_group.specs.World.declared.image.StaticImage.{StaticImage}

-- ---- the packages as they are run

abbrev member_of : (i : Input) (t : Tested) (image : StaticImage) → IsMade i t image → Member
member_of i t image made = record {
  applets = has_applets i.list;
  files = world_of t;
  image = image;
  components = made.whole;
}

-- Packages that were tested, with their files and images.
pub record AreRun (inputs : List Input) (worlds : List Files) (images : List StaticImage) : Type 0 where
  pub group : List Member
  pub tested : AreTested inputs group
  pub files : files_of group ≡ worlds
  pub images_are : images_of group ≡ images

pub are_run : (inputs : List Input) (ts : List Tested) (images : List StaticImage) → AreMade inputs ts images
    → AreRun inputs (worlds_of ts) images
are_run [] [] [] all = record { group = []; tested = tt; files = refl; images_are = refl }
are_run [] [] (j ∷ images) all = absurd all
are_run [] (t ∷ ts) images all = absurd all
are_run (i ∷ inputs) [] images all = absurd all
are_run (i ∷ inputs) (t ∷ ts) [] all = absurd all
are_run (i ∷ inputs) (t ∷ ts) (j ∷ images) all =
    let made = all.0 in
    let rest = are_run inputs ts images all.1 in
    let one : IsTested i (member_of i t j made) = record {
      ready = t.ready;
      is_ready = made.is_ready;
      applets = refl;
      files = refl;
      image = made.is_image;
      components = made.whole_is;
      paired = made.paired;
    } in
    record {
      group = member_of i t j made ∷ rest.group;
      tested = (one, rest.tested);
      files = ap (λ ws. world_of t ∷ ws) rest.files;
      images_are = ap (λ js. j ∷ js) rest.images_are;
    }

-- ---- nothing is refused

module _ (input : GroupInput) (name script : List ℕ) (ts : List Tested) (images : List StaticImage)
    (made : AreMade input.members ts images) (none : NoPart input script) (agreed : AreAgreed input)
    (known : MissNone input) where
  linked : (group : List Linked) → AreLinked input.members group
      → map (λ (m : Linked). m.files) group ≡ worlds_of ts
  linked group are =
      ap (map (λ (m : Linked). m.files)) (one_linked input.members group (map linked_as ts) are
      (are_linked input.members ts images made)) ∙ files_linked ts

  unbroken : IsFree (worlds_of ts) → (r : Refusal) → IsRefused input name script r → ⊥
  unbroken free r (by_part first) = none first.part r first.refused
  unbroken free r (by_group unrefused first) = agreed first.broken first.first.breaks
  unbroken free r (by_missing unrefused agree first) = known first.broken first.first.breaks
  unbroken free r (by_cycle unrefused agree miss cycle is) =
      free (subst (λ group. has_cycle (all_classes (joint group)) ≡ true) (linked cycle.0 cycle.1) cycle.2)

  pub cycle_fault : (e : Fault) → IsFault (IsCycle name (worlds_of ts)) e → IsFault (IsRefused input name script) e
  cycle_fault e (inl memory) = inl memory
  cycle_fault e (inr (r, cycle, is)) =
      inr (
        r,
        by_cycle none agreed known (
          map linked_as ts,
          are_linked input.members ts images made,
          subst (λ group. has_cycle (all_classes (joint group)) ≡ true) (sym (files_linked ts)) cycle.0,
        ) cycle.1,
        is,
      )

  -- what is printed is the report of these packages
  pub has_run : (report : List Member → ScriptTree → Report) (tree : ScriptTree) (r : Report) (todo : Todo)
      → IsFree (worlds_of ts) → scripted script input.script ≡ Ok tree
      → ((group : List Member) → AreTested input.members group → files_of group ≡ worlds_of ts
      → images_of group ≡ images → r ≡ report group tree)
      → todo ≡ record { files = []; lines = report_text r ∷ [] } → IsRun report name script input todo
  has_run report tree r todo free is_script is printed =
      let run = are_run input.members ts images made in
      record {
        group = run.group;
        tree = tree;
        ready = record { tested = run.tested; is_script = is_script; unbroken = unbroken free };
        printed = printed ∙ ap (λ x. record { files = []; lines = report_text x ∷ [] }) (is run.group run.tested
            run.files run.images_are);
      }

-- ---- by name

pub named_report : (group : List Member) (worlds : List Files) (images : List StaticImage) (tree : Script) (n : ℕ)
    (r : Report) → r ≡ run (group_linked worlds (joint_image images)) tree n → files_of group ≡ worlds
    → images_of group ≡ images → r ≡ report_by_name group tree n
named_report group worlds images tree n r is files images_are =
    is ∙ sym (ap (λ ws. run_group ws (images_of group) tree n) files
    ∙ ap (λ js. run_group worlds js tree n) images_are)

-- at the start there are the arrays of the image, and what the acts of the script may make
pub starts_small : (group : List Files) (image : StaticImage) (script : Script) (n : ℕ)
    → n + (length image.arrays + sum_by (λ e. length e.acts) script.entries + sum_by (λ a. length a.acts)
    script.answers) < 2 ^ 32
    → n + objects_at_most (start (group_linked group image) script) < 4294967296
unfolding group_linked
starts_small group image script n h =
    subst (λ k. n + (k + sum_by (λ e. length e.acts) script.entries + sum_by (λ a. length a.acts) script.answers) <
    4294967296) (sym (length-map image.arrays static_array)) (omega (arith, h))

-- ---- the answer

-- the answer where something is refused, or memory ran out
pub given_fault : (report : List Member → ScriptTree → Report) (name script : List ℕ) (input : GroupInput) (e : Fault)
    → IsFault (IsRefused input name script) e
    → Judged {T = Todo} (Runs report name script input) (Err (status_of_fault e))
given_fault report name script input (faults.Refused r) (inl none) = absurd cc
given_fault report name script input (faults.Refused r) (inr (s, refused, is)) =
    let same : s ≡ r = cc in subst (IsRefused input name script) same refused
given_fault report name script input faults.NoMemory h = tt
