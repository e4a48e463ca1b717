-- Narrow code of several packages whose handlers stand in the order of the table runs as that whose handlers stand in
-- the order of class files, where no handler overtakes another (311).
use Rattle.std.proofs.Common.{◌≡◌, ℕ, refl, ap, sym, subst, ◌∙◌, List, []}
use Rattle.std.specs.Prelude.{◌≢◌, Option, Some, None, option_and_then, option_map, slice_get}
use Rattle.cjc_bytes.specs.declared.fault.MemberId.{MemberId}
use Rattle.cjc_components.specs.LowerLayout.Handlers.{table_order}
use Rattle.cjc_components.specs.LowerLayout.Refusals.{overtaking}
use Rattle.cjc_components.specs.Methods.{in_table_order}
use Rattle.cjc_joint_proof.proofs.JointCodeLaws.{fetch_is_known, fetch_stays}
use Rattle.cjc_joint_proof.specs.JointAlike.{AnyCall}
use Rattle.cjc_joint_proof.specs.JointCode.{InPackage, JointCalls, by_label_in, of_package}
use Rattle.cjc_joint_proof.specs.JointCode.{run as run_in_packages}
use Rattle.cjc_joint_proof.specs.JointNames.{callee_for, joint_calls, joint_labels, joint_named, place_of, reached_for}
use Rattle.cjc_joint_proof.specs.JointNames.{start_for}
use Rattle.cjc_jvm_semantics.specs.Group.{group_sent, joint}
use Rattle.cjc_jvm_semantics.specs.Linked.{Callee as Selected, Method}
use Rattle.cjc_jvm_semantics.specs.Linked as linked
use Rattle.cjc_jvm_semantics.specs.OnePackage.{entry_named}
use Rattle.cjc_narrow_proof.proofs.CardSemanticsTogether.{runs_agree}
use Rattle.cjc_narrow_proof.proofs.NCodeByCode.{kind_stays, option_stays, shape_stays}
use Rattle.cjc_shape_proof.proofs.WrittenLaws.Joining.{memory_stays}
use Rattle.cjc_shape_proof.proofs.WrittenLaws.Ordering.{IsOrdered, arrays_known, classes_alike, handler_sorted}
use Rattle.cjc_shape_proof.proofs.WrittenLaws.Ordering.{start_sorted}
use Rattle.cjc_token_proof.specs.CardSemantics.Bytecode.Alike.{KnownState, Names, SettingsAlike, no_frames, reached_as}
use Rattle.cjc_token_proof.specs.CardSemantics.Bytecode.Alike.{start_as}
use Rattle.cjc_token_proof.specs.CardSemantics.Bytecode.Effects.{Memory}
use Rattle.cjc_token_proof.specs.CardSemantics.Bytecode.Machine.{Start, State, Within}
use Rattle.cjc_token_proof.specs.CardSemantics.Bytecode.Machine as machine
use Rattle.cjc_token_proof.specs.CardSemantics.Bytecode.Renaming.{object_known, option_as}
use Rattle.cjc_token_proof.specs.NCode.ByLabel.{Callee, Named, handler}
use Rattle.cjc_token_proof.specs.NCode.Lowering.Agreement.{Cells, everything, known_by}
use Rattle.cjc_token_proof.specs.NCode.declared.narrow.NCatch.{NCatch}
use Rattle.cjc_token_proof.specs.NCode.declared.narrow.NMethod.{NMethod}
use Rattle.cjc_token_proof.specs.Narrow.Rows.Package.{first_memory, named_by, start_of}
use Rattle.cjc_token_proof.specs.Script.Sorts.{Shape, shape_name}
use Rattle.cjc_token_proof.specs.Script.declared.report.Outcome.TheVariants.{Stuck}
use Rattle.cjc_token_proof.specs.Script.declared.script.Script.{Script}
use Rattle.cjc_world.specs.Classes.{Class, all_classes}
use Rattle.cjc_world.specs.Files.{Files}
use Rattle.cjc_world.specs.declared.image.StaticImage.{StaticImage}

-- a method of a package, no handler of which overtakes another
abbrev pub IsOrderedIn : InPackage NMethod → Type 0
IsOrderedIn p = IsOrdered p.item

-- the method with its handlers in the order of the table
abbrev sort_in : InPackage NMethod → InPackage NMethod
sort_in p = of_package p.part (in_table_order p.item)

-- all stays but the order of handlers
abbrev sorted : Names (InPackage NMethod) (List ℕ) MemberId MemberId (InPackage Callee) Cells (InPackage NMethod)
    (List ℕ) MemberId MemberId (InPackage Callee) Cells
sorted = record {
  class = λ c. c;
  field = λ f. f;
  slots = λ c slots. slots;
  cell = λ f. f;
  method = λ m. m;
  statics = λ x. x;
  code = sort_in;
  to = λ m label. label;
}

-- the search for a handler finds the same in both orders
abbrev pub SearchesStay : Type 0
SearchesStay = (l : Named) (label : ℕ) (kind : Shape (List ℕ)) (catches : List NCatch) → overtaking [] catches ≡ []
    → handler l (table_order catches) label kind ≡ handler l catches label kind

module _ (group : List Files) (image : StaticImage) (before after : Method → NMethod) (same : (m : Method)
    → after m ≡ in_table_order (before m)) (fine : (m : Method) → IsOrdered (before m)) (search : SearchesStay) where
  abbrev files : Files
  files = joint group

  abbrev w : List Class
  w = all_classes files

  begins_sorted : (m : Method) → start_for group (start_of after) m
      ≡ start_as sort_in (λ p label. label) (start_for group (start_of before) m)
  begins_sorted m =
      ap (start_as (of_package (place_of group (let id = m.id in id.class))) (λ code at. at))
      (start_sorted files image before after same fine search m)

  by_sorted : (o : Option Selected) → reached_for group (start_of after) o
      ≡ reached_as sort_in (λ p label. label) (reached_for group (start_of before) o)
  by_sorted None = refl
  by_sorted (Some (linked.Inside m)) = ap Within (begins_sorted m)
  by_sorted (Some (linked.Abroad event)) = refl

  named_sorted : (o : Option Method) → option_map (start_for group (start_of after)) o
      ≡ option_as (start_as sort_in (λ p label. label)) (option_map (start_for group (start_of before)) o)
  named_sorted None = refl
  named_sorted (Some m) = ap (λ x. Some x) (begins_sorted m)

  start_fine : (o : Option Selected) (start : Start (InPackage NMethod))
      → reached_for group (start_of before) o ≡ Within start → IsOrderedIn start.code
  start_fine None start e = cc
  start_fine (Some (linked.Inside m)) start e =
      let is : start_for group (start_of before) m ≡ start = cc in
      subst (λ (s : Start (InPackage NMethod)). IsOrderedIn s.code) is (fine m)
  start_fine (Some (linked.Abroad event)) start e = cc

  named_fine : (o : Option Method) (start : Start (InPackage NMethod))
      → option_map (start_for group (start_of before)) o ≡ Some start → IsOrderedIn start.code
  named_fine None start e = cc
  named_fine (Some m) start e =
      let is : start_for group (start_of before) m ≡ start = cc in
      subst (λ (s : Start (InPackage NMethod)). IsOrderedIn s.code) is (fine m)

  abbrev l : Named
  l = named_by files image w before

  abbrev l' : Named
  l' = named_by files image w after

  abbrev calls : JointCalls NMethod
  calls = joint_calls group (start_of before)

  abbrev calls' : JointCalls NMethod
  calls' = joint_calls group (start_of after)

  -- what a call selects
  abbrev chosen : InPackage Callee → Option (Shape (List ℕ)) → Option Selected
  chosen m o = option_and_then (λ asker. callee_for files w asker m.item o) (slice_get group m.part)

  alike : SettingsAlike sorted (known_by everything) IsOrderedIn AnyCall (by_label_in l calls) (by_label_in l' calls')
  unfolding by_label_in
  alike = record {
    classes = classes_alike files image before after same fine search;
    room = λ p is_known. refl;
    fetch = λ p at i is_known e. fetch_stays p.part p.item at i e;
    fetch_known = λ p at i is_known e. fetch_is_known p.part p.item at i e;
    handler = λ p at kind is_known known_kind. handler_sorted files image before after same fine search p.item at kind
        is_known;
    on_object = λ m is_known. refl;
    words = λ m w is_known e. e;
    reached = λ m o r is_known known_kind e is_found. ap (calls'.reached m) (kind_stays o) ∙ by_sorted (chosen m o)
        ∙ ap (reached_as sort_in (λ p label. label)) e;
    reached_known = λ m o start is_known known_kind e. start_fine (chosen m o) start e;
    fault = λ f. sym (option_stays (l.fault f));
    fault_known = λ f c e. object_known refl refl;
    class_named = λ name. sym (option_stays (l.class_named name));
    class_named_known = λ name c e. refl;
    imported = λ name. sym (option_stays (l.imported name));
    imported_known = λ name c e. object_known refl refl;
    throwable = λ name. sym (option_stays (l.throwable name));
    throwable_known = λ name c e. object_known refl refl;
    called = λ id. named_sorted (entry_named files w id);
    called_known = λ id start e. named_fine (entry_named files w id) start e;
    sent = λ kind id is_known. ap (λ x. calls'.sent x id) (shape_stays kind)
        ∙ named_sorted (group_sent files w (shape_name kind) id);
    sent_known = λ kind id start is_known e. named_fine (group_sent files w (shape_name kind) id) start e;
    name = λ c is_known. refl;
    fields = λ c slots is_known. refl;
    cells = λ x is_known. refl;
  }

  pub runs_sorted : (script : Script) (n : ℕ) → ((at : ℕ)
      → (run_in_packages (joint_named group image before) (joint_labels group before) script n).outcome ≢ Stuck at)
      → run_in_packages (joint_named group image after) (joint_labels group after) script n
      ≡ run_in_packages (joint_named group image before) (joint_labels group before) script n
  unfolding joint_named joint_labels
  runs_sorted script n free =
      let s : State (InPackage NMethod) (List ℕ) MemberId Cells = machine.start (first_memory files image) script in
      let known : KnownState sorted (known_by everything) IsOrderedIn AnyCall s = record {
        frames = no_frames;
        memory = record {
          heap = arrays_known files image before after same fine search image.arrays;
          statics = refl;
        };
      } in
      ap (λ (m : Memory (List ℕ) MemberId Cells). machine.run (by_label_in l' calls') n (machine.start m script))
      (sym (memory_stays (first_memory files image)))
      ∙ runs_agree sorted (known_by everything) IsOrderedIn AnyCall (by_label_in l calls) (by_label_in l' calls') alike
      n s known free
