-- Narrow code whose handlers stand in the order of the table runs as that whose handlers stand in the order of its
-- class file, where 311 is not broken.
use Rattle.std.proofs.Common.{◌≡◌, ℕ, suc, ◌+◌, refl, ap, sym, subst, ◌∙◌, Bool, true, false, List, [], ◌∷◌, map}
use Rattle.std.specs.Prelude.{◌≢◌, Option, Some, None, nat_lt, option_map, slice_get, if◌then◌else◌}
use Rattle.cjc_narrow_proof.proofs.CardSemanticsTogether.{runs_agree}
use Rattle.cjc_narrow_proof.specs.CardSemantics.Bytecode.Alike.{KnownState, Names, SettingsAlike, no_frames, reached_as}
use Rattle.cjc_narrow_proof.specs.CardSemantics.Bytecode.Alike.{start_as}
use Rattle.cjc_narrow_proof.specs.CardSemantics.Bytecode.Effects.{Memory}
use Rattle.cjc_narrow_proof.specs.CardSemantics.Bytecode.Machine.{Nowhere, State, Within}
use Rattle.cjc_narrow_proof.specs.CardSemantics.Bytecode.Machine as machine
use Rattle.cjc_narrow_proof.specs.CardSemantics.Bytecode.Renaming.{AreAlike, KnownHeap, no_things, numbers_known}
use Rattle.cjc_narrow_proof.specs.CardSemantics.Bytecode.Renaming.{object_known}
use Rattle.cjc_narrow_proof.specs.CardSemantics.Bytecode.Renaming.{one_thing, option_as, shape_as}
use Rattle.cjc_bytes.specs.Breaks.{RulePlace}
use Rattle.cjc_bytes.specs.declared.fault.MemberId.{MemberId}
use Rattle.cjc_classes.specs.JvmSemantics.Linked.{Method}
use Rattle.cjc_classes.specs.JvmSemantics.Linked as linked
use Rattle.cjc_classes.specs.JvmSemantics.OnePackage.{method_at}
use Rattle.cjc_components.specs.Limits.{order_breaks}
use Rattle.cjc_components.specs.Methods.{in_table_order, method_size}
use Rattle.cjc_world.specs.ClassFile.declared.tree.Catch.{Catch}
use Rattle.cjc_components.specs.Bytecode.declared.insn.JInsn.{JInsn}
use Rattle.cjc_components.specs.Package.{LaidMethod, Package, pool}
use Rattle.cjc_classes.specs.Layout.Handlers.{table_order}
use Rattle.cjc_classes.specs.Layout.Refusals.{least, overtaking}
use Rattle.cjc_narrow_proof.specs.NCode.Lowering.Agreement.{Cells, IsKnownCall, everything, known_by}
use Rattle.cjc_narrow_proof.proofs.NCodeByCode.{kind_stays, operation_known, operation_stays, option_stays}
use Rattle.cjc_narrow_proof.proofs.NCodeByCode.{shape_stays}
use Rattle.cjc_classes.specs.Narrow.Rows.Package.{code_of, flags_of, first_memory, read_of, named, named_by}
use Rattle.cjc_classes.specs.Narrow.Rows.Package.{on_class, reached}
use Rattle.cjc_classes.specs.Narrow.Rows.Package.{reached_by}
use Rattle.cjc_classes.specs.Narrow.Rows.Package.{selected_on, start_of}
use Rattle.cjc_classes.specs.Narrow.Rows.Package as narrow
use Rattle.cjc_classes.specs.Narrow.Rows.Resolved.{method_found, resolution}
use Rattle.cjc_classes.specs.Narrow.Pairs.Roles.{with_pairs}
use Rattle.cjc_classes.specs.Narrow.Rows.Selected.{near_fields}
use Rattle.cjc_narrow_proof.specs.NCode.ByLabel.{Callee, Named, by_label, classes, handler}
use Rattle.cjc_narrow_proof.specs.NCode.ByLabel
use Rattle.cjc_narrow_proof.specs.NCode.Written.{catch_at, catches_at, place_in}
use Rattle.cjc_narrow_proof.specs.NCode.Written.{reached as reached_by_rows}
use Rattle.cjc_narrow_proof.specs.NCode.declared.narrow.NCatch.{NCatch}
use Rattle.cjc_narrow_proof.specs.NCode.declared.narrow.NMethod.{NMethod}
use Rattle.cjc_narrow_proof.specs.Script.Sorts.{Shape, shape_name}
use Rattle.cjc_narrow_proof.specs.Script.declared.report.Outcome.TheVariants.{Stuck}
use Rattle.cjc_narrow_proof.specs.Script.declared.script.Script.{Script}
use Rattle.cjc_world.specs.Classes.{Class, all_classes}
use Rattle.cjc_world.specs.Files.{Files}
use Rattle.cjc_world.specs.Subtype.{is_subtype}
use Rattle.cjc_world.specs.declared.image.ArrayCell.{ArrayCell}
use Rattle.cjc_world.specs.declared.image.StaticImage.{StaticImage}
use Rattle.cjc_check_proof.specs.TokenProof.WrittenCalls.Standing.{is_method_of, laid_code, laid_from, no_rows}
use Rattle.cjc_check_proof.specs.TokenProof.WrittenCalls.Standing.{place_from}
use Rattle.cjc_shape_proof.specs.Written.Joined.{placed_code}
use Rattle.cjc_shape_proof.proofs.WrittenLaws.Joining.{memory_stays}

-- ---- the code of a method

placed_laid : (files : Files) (near : List MemberId) (at : ℕ) (ms : List LaidMethod) (x : Method)
    → (let q = place_from files near at ms x in q.method) ≡ in_table_order (laid_from files near ms x)
placed_laid files near at [] x = refl
placed_laid files near at (m ∷ ms) x = by (is_method_of x.id (method_at files m.member)) (placed_laid files near
    (at + method_size m) ms x)
  where
    by : (b : Bool) → (let q = place_from files near (at + method_size m) ms x in q.method)
        ≡ in_table_order (laid_from files near ms x)
        → (let q = (if b then Rattle.cjc_components.specs.Methods.placed_at at m
        else place_from files near (at + method_size m) ms x) in q.method) ≡ in_table_order (if b then m.code
        else laid_from files near ms x)
    by true rest = refl
    by false rest = rest

pub placed_is : (p : Package) (x : Method) → placed_code p x ≡ in_table_order (laid_code p x)
placed_is p x = placed_laid p.files (near_fields (pool p)) (Rattle.cjc_components.specs.Methods.first_method p.methods)
    p.methods x

-- no handler overtakes another
abbrev pub IsOrdered : NMethod → Type 0
IsOrdered m = overtaking [] m.catches ≡ []

none_least : (xs : List ℕ) (place : ℕ → RulePlace) → order_breaks place (least xs) ≡ [] → xs ≡ []
none_least [] place e = refl
none_least (x ∷ xs) place e = cc

pub ordered_by : (m : NMethod) (place : ℕ → RulePlace) → order_breaks place (least (overtaking [] m.catches)) ≡ []
    → IsOrdered m
ordered_by m place e = none_least (overtaking [] m.catches) place e

-- no handler is left where nothing is reached
none_caught : (place : ℕ → ℕ) → ((at : ℕ) → place at ≡ 0) → (catches : List Catch) → catches_at place catches ≡ []
none_caught place zero [] = refl
none_caught place zero (c ∷ catches) = by (place c.start) (place c.end) (zero c.start) (zero c.end)
    ∙ none_caught place zero catches
  where
    by : (a b : ℕ) → a ≡ 0 → b ≡ 0 → (if nat_lt a b then catch_at place c ∷ catches_at place catches
        else catches_at place catches) ≡ catches_at place catches
    by a b e f = ap (λ t. if t then catch_at place c ∷ catches_at place catches else catches_at place catches)
        (ap (λ k. nat_lt k b) e ∙ ap (nat_lt 0) f)

none_reached : (insns : List JInsn) → reached_by_rows {A = ℕ} insns [] ≡ []
none_reached [] = refl
none_reached (i ∷ insns) = refl

bare_ordered : (files : Files) (near : List MemberId) (x : Method) → IsOrdered (code_of files near no_rows x)
bare_ordered files near x =
    let id = x.id in
    let r = with_pairs (resolution files near id.class) (read_of x (flags_of (method_found (all_classes files) id))) []
    in ap (λ kept. overtaking [] (catches_at (place_in r kept) x.catches)) (none_reached x.insns)
    ∙ ap (overtaking []) (none_caught (place_in r []) (λ at. refl) x.catches)

pub laid_ordered : (files : Files) (near : List MemberId) (ms : List LaidMethod) (x : Method)
    → ((k : ℕ) (m : LaidMethod) → slice_get ms k ≡ Some m → IsOrdered m.code) → IsOrdered (laid_from files near ms x)
laid_ordered files near [] x all = bare_ordered files near x
laid_ordered files near (m ∷ ms) x all = by (is_method_of x.id (method_at files m.member)) (laid_ordered files near ms x
    (λ k y e. all (suc k) y e))
  where
    by : (b : Bool) → IsOrdered (laid_from files near ms x)
        → IsOrdered (if b then m.code else laid_from files near ms x)
    by true rest = all 0 m refl
    by false rest = rest

-- ---- the settings

-- all stays but the order of handlers
abbrev sorted : Names NMethod (List ℕ) MemberId MemberId Callee Cells NMethod (List ℕ) MemberId MemberId Callee Cells
sorted = record {
  class = λ c. c;
  field = λ f. f;
  slots = λ c slots. slots;
  cell = λ f. f;
  method = λ m. m;
  statics = λ x. x;
  code = in_table_order;
  to = λ m label. label;
}

module _ (files : Files) (image : StaticImage) (before after : Method → NMethod) (same : (m : Method)
    → after m ≡ in_table_order (before m)) (fine : (m : Method) → IsOrdered (before m))
    (search : (l : Named) (label : ℕ) (kind : Shape (List ℕ)) (catches : List NCatch) → overtaking [] catches ≡ []
    → handler l (table_order catches) label kind ≡ handler l catches label kind) where
  abbrev w : List Class
  w = all_classes files

  pub start_sorted : (m : Method) → start_of after m ≡ start_as in_table_order (λ m label. label) (start_of before m)
  start_sorted m = ap (λ (n : NMethod). record {
    code = n;
    at = 0;
    nargs = n.nargs;
    max_locals = n.max_locals;
    is_abstract = m.is_abstract;
  }) (same m)

  by_sorted : (o : Option linked.Callee) → reached_by after o ≡ reached_as in_table_order (λ m label. label)
      (reached_by before o)
  by_sorted None = refl
  by_sorted (Some (linked.Inside m)) = ap Within (start_sorted m)
  by_sorted (Some (linked.Abroad event)) = refl

  reached_sorted : (m : Callee) (o : Option (Shape (List ℕ))) → reached files w after m o ≡ reached_as in_table_order
      (λ m label. label) (reached files w before m o)
  reached_sorted m None = by_sorted (on_class files w m)
  reached_sorted m (Some kind) = by (is_subtype w (shape_name kind) (narrow.class_of_callee m))
    where
      by : (b : Bool) → (if b then reached_by after (selected_on files w m (shape_name kind)) else Nowhere)
          ≡ reached_as in_table_order (λ m label. label) (if b
          then reached_by before (selected_on files w m (shape_name kind)) else Nowhere)
      by true = by_sorted (selected_on files w m (shape_name kind))
      by false = refl

  named_sorted : (o : Option Method) → option_map (start_of after) o
      ≡ option_as (start_as in_table_order (λ m label. label)) (option_map (start_of before) o)
  named_sorted None = refl
  named_sorted (Some m) = ap (λ x. Some x) (start_sorted m)

  start_fine : (o : Option linked.Callee) (start : machine.Start NMethod) → reached_by before o ≡ Within start
      → IsOrdered start.code
  start_fine None start e = cc
  start_fine (Some (linked.Inside m)) start e = let is : start_of before m ≡ start = cc
      in subst (λ (s : machine.Start NMethod). IsOrdered s.code) is (fine m)
  start_fine (Some (linked.Abroad event)) start e = cc

  reached_fine : (m : Callee) (o : Option (Shape (List ℕ))) (start : machine.Start NMethod) → reached files w before m o
      ≡ Within start → IsOrdered start.code
  reached_fine m None start e = start_fine (on_class files w m) start e
  reached_fine m (Some kind) start e = by (is_subtype w (shape_name kind) (narrow.class_of_callee m)) e
    where
      by : (b : Bool) → (if b then reached_by before (selected_on files w m (shape_name kind)) else Nowhere)
          ≡ Within start → IsOrdered start.code
      by true e = start_fine (selected_on files w m (shape_name kind)) start e
      by false e = cc

  named_fine : (o : Option Method) (start : machine.Start NMethod) → option_map (start_of before) o ≡ Some start
      → IsOrdered start.code
  named_fine None start e = cc
  named_fine (Some m) start e = let is : start_of before m ≡ start = cc
      in subst (λ (s : machine.Start NMethod). IsOrdered s.code) is (fine m)

  abbrev l : Named
  l = named_by files image w before

  abbrev l' : Named
  l' = named_by files image w after

  pub classes_alike : AreAlike (known_by everything) (λ c. c) (λ f. f) (λ c slots. slots) (λ f. f) (λ x. x) (classes l)
      (classes l')
  classes_alike = record {
    is_of = λ a b known_a known_b. ap (λ x. l.is_of x (shape_as (λ c. c) b)) (shape_stays a)
        ∙ ap (l.is_of a) (shape_stays b);
    get = λ c held f known_object known_field. refl;
    put = λ c held f old new known_object known_field there. refl;
    fresh = λ c held is_known there. there;
    fresh_known = λ c held is_known there. object_known refl refl;
    bare = λ c is_known. refl;
    get_static = λ letter s x known_cell known_statics. refl;
    put_static = λ letter s v x fits known_cell known_statics. sym (option_stays (ByLabel.put_static x s v));
    put_known = λ letter s v x y fits known_cell known_statics there. refl;
  }

  pub handler_sorted : (m : NMethod) (at : ℕ) (kind : Shape (List ℕ)) → IsOrdered m
      → handler l' (table_order m.catches) at (shape_as (λ c. c) kind) ≡ option_as (λ label. label)
      (handler l m.catches at kind)
  handler_sorted m at kind ordered = ap (handler l' (table_order m.catches) at) (shape_stays kind)
      ∙ search l' at kind m.catches ordered ∙ sym (option_stays (handler l m.catches at kind))

  alike : SettingsAlike sorted (known_by everything) IsOrdered (IsKnownCall everything) (by_label l) (by_label l')
  unfolding by_label
  alike = record {
    classes = classes_alike;
    room = λ m is_known. refl;
    fetch = λ m at i is_known e. e ∙ ap (λ x. Some (record { operation = x; next = i.next }))
        (sym (operation_stays i.operation));
    fetch_known = λ m at i is_known e. operation_known i.operation;
    handler = λ m at kind is_known known_kind. handler_sorted m at kind is_known;
    on_object = λ m is_known. refl;
    words = λ m w is_known e. e;
    reached = λ m o r is_known known_kind e is_found. ap (reached files w after m) (kind_stays o) ∙ reached_sorted m o
        ∙ ap (reached_as in_table_order (λ m label. label)) e;
    reached_known = λ m o start is_known known_kind e. reached_fine m o start e;
    fault = λ f. sym (option_stays (l.fault f));
    fault_known = λ f c e. object_known refl refl;
    class_named = λ name. sym (option_stays (l.class_named name));
    class_named_known = λ name c e. refl;
    imported = λ name. sym (option_stays (l.imported name));
    imported_known = λ name c e. object_known refl refl;
    throwable = λ name. sym (option_stays (l.throwable name));
    throwable_known = λ name c e. object_known refl refl;
    called = λ id. named_sorted (Rattle.cjc_classes.specs.JvmSemantics.OnePackage.entry_named files w id);
    called_known = λ id start e. named_fine (Rattle.cjc_classes.specs.JvmSemantics.OnePackage.entry_named files w
        id) start e;
    sent = λ kind id is_known. ap (λ x. l'.sent x id) (shape_stays kind)
        ∙ named_sorted (Rattle.cjc_classes.specs.JvmSemantics.OnePackage.sent_named files w (shape_name kind) id);
    sent_known = λ kind id start is_known e. named_fine
        (Rattle.cjc_classes.specs.JvmSemantics.OnePackage.sent_named
        files w
        (shape_name kind) id) start e;
    name = λ c is_known. refl;
    fields = λ c slots is_known. refl;
    cells = λ x is_known. refl;
  }

  pub arrays_known : (arrays : List ArrayCell) → KnownHeap (known_by everything) (map narrow.first_array arrays)
  arrays_known [] = no_things
  arrays_known (a ∷ arrays) = one_thing numbers_known (arrays_known arrays)

  pub runs_sorted : (script : Script) (n : ℕ) → ((at : ℕ) → (narrow.run files image before script n).outcome ≢ Stuck at)
      → narrow.run files image after script n ≡ narrow.run files image before script n
  unfolding named
  runs_sorted script n free =
      let s : State NMethod (List ℕ) MemberId Cells = machine.start (first_memory files image) script in
      let known : KnownState sorted (known_by everything) IsOrdered (IsKnownCall everything) s =
      record { frames = no_frames; memory = record { heap = arrays_known image.arrays; statics = refl } } in
      ap (λ (m : Memory (List ℕ) MemberId Cells). machine.run (by_label l') n (machine.start m script))
      (sym (memory_stays (first_memory files image)))
      ∙ runs_agree sorted (known_by everything) IsOrdered (IsKnownCall everything) (by_label l) (by_label l') alike n s
      known free

-- ---- a package

pub laid_runs : (p : Package) → ((k : ℕ) (m : LaidMethod) → slice_get p.methods k ≡ Some m → IsOrdered m.code)
    → ((l : Named) (label : ℕ) (kind : Shape (List ℕ)) (catches : List NCatch) → overtaking [] catches ≡ []
    → handler l (table_order catches) label kind ≡ handler l catches label kind)
    → (script : Script) (n : ℕ) → ((at : ℕ) → (narrow.run p.files p.image (laid_code p) script n).outcome ≢ Stuck at)
    → narrow.run p.files p.image (placed_code p) script n ≡ narrow.run p.files p.image (laid_code p) script n
laid_runs p ordered search script n free = runs_sorted p.files p.image (laid_code p) (placed_code p) (placed_is p)
    (λ x. laid_ordered p.files (near_fields (pool p)) p.methods x ordered) search script n free
