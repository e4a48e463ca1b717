-- A package that was judged and breaks no rule has its tables, and the narrow code that is written for it runs as its
-- class files.
use Rattle.std.proofs.Common.{◌≡◌, ◌⊎◌, ℕ, refl, sym, ap, subst, ◌∙◌, ⊎_elim, Bool, true, false, List, []}
use Rattle.std.specs.Prelude.{Option, Some, None, option_map, slice_get, ℤ}
use Rattle.std.proofs.lemmas.Option.{slice_get-map}
use Rattle.cjc_jvm_semantics.specs.ByName.{run as run_by_name}
use Rattle.cjc_jvm_semantics.specs.Linked.{Method}
use Rattle.cjc_jvm_semantics.specs.OnePackage.{is_initialiser, method_at, method_by}
use Rattle.cjc_token_proof.specs.CardSemantics.Bytecode.Runs.{Agree}
use Rattle.cjc_bytes.specs.Breaks.{Break}
use Rattle.cjc_bytes.specs.declared.fault.MemberId.{MemberId}
use Rattle.cjc_token_proof.proofs.WorldProofOwn.{mapped_at}
use Rattle.cjc_world.proofs.ClassFileFitting.{spelt_fits}
use Rattle.cjc_world.specs.ClassFile.Code.{CodeTree}
use Rattle.cjc_world.specs.ClassFile.Fits.{ClassFits}
use Rattle.cjc_world.specs.ClassFile.declared.tree.ClassTree.{ClassTree}
use Rattle.cjc_world.specs.ClassFile.declared.tree.MethodTree.{MethodTree}
use Rattle.cjc_token_proof.specs.Clinit.Image.{IsImage}
use Rattle.cjc_token_proof.specs.Clinit.Rules.{BreaksImage}
use Rattle.cjc_components.specs.Bytecode.PackageCodes.{all_codes}
use Rattle.cjc_components.specs.Package.{LaidMethod, Package, pool}
use Rattle.cjc_components.specs.Written.{code_at, code_by}
use Rattle.cjc_vtable.specs.Fixpoint.Tables.{HasRow}
use Rattle.cjc_shape_proof.specs.LowerJudge.Rules.{settings_of}
use Rattle.cjc_shape_proof.specs.LowerJudge.Spelt.{IsRead}
use Rattle.cjc_shape_proof.specs.LowerJudge.declared.judged.Judged.{Judged}
use Rattle.cjc_token_proof.specs.List.Listed.{ListTree}
use Rattle.cjc_shape_proof.specs.LowerMethods.Ready.{AreReady}
use Rattle.cjc_token_proof.specs.Narrow.Rows.Package.{code_of, flags_of, read_of as body_read, run as narrow_run}
use Rattle.cjc_token_proof.specs.Narrow.Rows.Package.{tree_of}
use Rattle.cjc_token_proof.specs.Narrow.Pairs.Roles.{with_pairs}
use Rattle.cjc_token_proof.specs.Narrow.Written.Rows.{has_rows}
use Rattle.cjc_token_proof.specs.Narrow.Rows.Resolved.{argument_words, method_found, resolution}
use Rattle.cjc_token_proof.specs.Narrow.Rows.Selected.{near_fields}
use Rattle.cjc_shape_proof.proofs.FindsLaws.Descs.{read_of}
use Rattle.cjc_shape_proof.specs.Whole.{AreTabled, IsWhole}
use Rattle.cjc_narrow_proof.specs.Laws.Left.{HasLeast}
use Rattle.cjc_narrow_proof.specs.Runs.Tables.{Tables, narrow_codes}
use Rattle.cjc_ncode.specs.ByLabel as labels
use Rattle.cjc_ncode.specs.ByLabel.{Named}
use Rattle.cjc_ncode.specs.Written.{narrow_method}
use Rattle.cjc_ncode.specs.declared.narrow.NMethod.{NMethod}
use Rattle.cjc_shape_proof.proofs.ShapeSelected.{judged_checks}
use Rattle.cjc_shape_proof.proofs.ShapeSound.{are_ready, is_tested, listed, no_image_break, world_unbroken}
use Rattle.cjc_token_proof.specs.Subset.Checks.{check_breaks}
use Rattle.cjc_token_proof.specs.Tables.Sound.{IsSound as IsSoundPackage}
use Rattle.cjc_shape_proof.specs.LowerShape.Prepared.{IsSound}
use Rattle.cjc_shape_proof.specs.Intervals.Frames.{RangeState}
use Rattle.cjc_shape_proof.specs.Intervals.Tables.{IsLeastRanges}
use Rattle.cjc_token_proof.specs.Script.declared.script.Script.{Script}
use Rattle.cjc_shape_proof.specs.WorldProof.Files.{ExportsAreSound}
use Rattle.cjc_narrow_proof.proofs.SelectedLaws.SomeInsns.{some_insns}
use Rattle.cjc_theorem.proofs.SoundRuns.Coded.{IsCoded}
use Rattle.cjc_theorem.proofs.SoundRuns.Laid.{IsOfFile, bare_code, id_of, none_among, of_file, told_among}
use Rattle.cjc_theorem.proofs.SoundRuns.Lookups.{same_look_ups}
use Rattle.cjc_theorem.proofs.SoundRuns.Placed.{plain_in_order, sound_package, stands}
use Rattle.cjc_theorem.proofs.SoundRuns.Ranges.{ranges_pass}
use Rattle.cjc_theorem.proofs.SoundRuns.Read.{read_files, whole_is}
use Rattle.cjc_theorem.proofs.SoundRuns.Tabled.{has_least, no_first, only_coded, tabled_code, tables, types_are}
use Rattle.cjc_token_proof.specs.Types.declared.state.State.{State}
use Rattle.cjc_token_proof.specs.Types.Flow.{Body}
use Rattle.cjc_shape_proof.proofs.ShapeDrafts.{rows, rows_agree, rows_are, same_members, same_spelt}
use Rattle.cjc_shape_proof.specs.LowerShape.Whole.Conversion.{AreShort}
use Rattle.cjc_theorem.proofs.SoundRuns.Drafts.{IsByRows}
use Rattle.cjc_world.specs.Classes.{all_classes}
use Rattle.cjc_world.specs.Files.{Files}
use Rattle.cjc_world.specs.Order.{method_order}
use Rattle.cjc_world.specs.declared.found.Found.{Found}
use Rattle.cjc_world.specs.declared.image.StaticImage.{StaticImage}
use Rattle.cjc_token_proof.specs.WrittenCalls.Standing.{laid_code, laid_from, no_rows}

module _ (list : ListTree) (files : List (List ℕ)) (judged : Judged) (is : IsSound list files judged)
    (least : (b : Body) (constant : MemberId → Option ℤ) (types : List (Option State))
    → (ranges : List (Option RangeState)) × IsLeastRanges b constant types ranges) where
  abbrev world : Files
  world = judged.world

  abbrev ready : AreReady judged.world judged.codes judged.types
  ready = are_ready list files judged is

  abbrev own_rows : Method → List (Option State)
  own_rows = rows list files judged is

  abbrev pub own_tables : Tables
  own_tables = tables judged.world judged.codes judged.types ready own_rows (rows_are list files judged is) least

  -- ---- it has its tables

  fitting : (n : ℕ) (c : ClassTree) → slice_get world.classes n ≡ Some c → ClassFits c
  fitting n c e = let r = (read_files list files judged is).classes n c e in spelt_fits c r.0 r.1 r.2

  least_of : AreShort list.ints judged.world → (n i : ℕ) (class : ClassTree) (method : MethodTree) (tree : CodeTree)
      → slice_get world.classes n ≡ Some class → slice_get class.methods i ≡ Some method → method.code ≡ Some tree
      → is_initialiser method.name ≡ false
      → HasLeast judged.world judged.codes own_tables (method_by class method (Some tree))
  least_of short n i class method tree e f g plain =
      has_least judged.world judged.codes judged.types ready own_rows (rows_are list files judged is) least n i class
      method tree e f g plain (read_of judged.world (read_files list files judged is) n class e) (fitting n class e)
      (λ code of. some_insns judged.world code class method tree of)
      (λ k code is_code of. ranges_pass list files judged is
      k code is_code class method tree of short)

  found : (m : Method) (at : ℕ) (t : State) → HasRow (own_tables.types m) at t → IsCoded world.classes m
      × (is_initialiser (let id = m.id in id.name) ≡ false)
  found m at t row = only_coded judged.world judged.codes judged.types ready own_rows (rows_are list files judged is)
      least m at t row

  pub are_tabled : AreShort list.ints judged.world → AreTabled judged.world judged.codes own_tables
  are_tabled short = record {
    own = λ class method tree own plain is_code. least_of short own.number own.place class method tree own.is_class
        own.is_method is_code plain;
    only = λ m at t row.
        let c = (found m at t row).0 in
        let plain : is_initialiser (let k = c.method in k.name) ≡ false =
        sym (ap (λ (x : Method). is_initialiser (let id = x.id in id.name)) c.is) ∙ (found m at t row).1 in
        subst (HasLeast judged.world judged.codes own_tables) (sym c.is) (least_of short c.number c.place c.class
        c.method c.tree c.is_class c.is_method c.is_code plain);
  }

  module _ (of : IsRead list) (sound : ExportsAreSound judged.world) where
    pub whole : AreShort list.ints judged.world
        → IsWhole list.name judged.world judged.codes (settings_of list) own_tables
    whole short = whole_is list files judged is of sound own_tables (are_tabled short) short

    kept_files : IsSoundPackage list.name judged.world
    kept_files = sound_package list files judged is of sound.names

    checks : check_breaks list.name judged.world judged.codes (settings_of list) ≡ []
    checks = judged_checks list files judged (is_tested list files judged is)

    -- ---- what stands for its methods in Method is the narrow code by its tables

    module _ (p : Package) (draft : IsByRows list files p) where
      abbrev near : List MemberId
      near = near_fields (pool p)

      same : p.files ≡ judged.world
      same = same_spelt list files judged is p.files draft.rows draft.spelt

      selected : (k : ℕ) (m : LaidMethod) → slice_get p.methods k ≡ Some m
          → m.code ≡ code_at judged.world near draft.rows m.member
      selected k m e = subst (λ w. m.code ≡ code_at w near draft.rows m.member) same (draft.codes k m e)

      each : (k : ℕ) (m : LaidMethod) → slice_get p.methods k ≡ Some m → (y : Method)
          → method_at judged.world m.member ≡ Some y → m.code ≡ code_of judged.world near draft.rows y
      each k m e y found = selected k m e ∙ ap (code_by judged.world near draft.rows m.member) found

      by_rows : (x : Method) (rows : List (Option State)) → own_tables.types x ≡ rows
          → narrow_codes judged.world near own_tables x ≡ code_of judged.world near (λ y. rows) x
      by_rows x rows e =
          let id = x.id in
          let flags = flags_of (method_found (all_classes judged.world) id) in
          ap (λ rs. narrow_method (with_pairs (resolution judged.world near id.class) (body_read x flags) (has_rows rs))
          (tree_of x) (argument_words flags id.desc) x.insns rs) e

      abbrev laid_in : Files → Method → NMethod
      laid_in w x = laid_from w near p.methods x

      -- one that is no initialiser has the rows of the draft
      coded : (n i : ℕ) (class : ClassTree) (method : MethodTree) (tree : CodeTree) → slice_get world.classes n
          ≡ Some class → slice_get class.methods i ≡ Some method → method.code ≡ Some tree → is_initialiser method.name
          ≡ false
          → own_tables.types (method_by class method (Some tree)) ≡ draft.rows (method_by class method (Some tree))
      coded n i class method tree e f g plain =
          let t = tabled_code judged.world judged.codes judged.types ready own_rows (rows_are list files judged is)
          least n i class method tree e f g in
          types_are judged.world judged.codes judged.types ready own_rows (rows_are list files judged is) least n i
          class method tree e f g plain t.code t.place t.table t.is_code t.is_table t.of_package
          ∙ sym (rows_agree list files judged is p.files draft.rows draft.spelt t.place t.code t.table t.is_code
          t.is_table class method tree t.of_package)

      -- and stands in Method
      stands_there : (n i : ℕ) (class : ClassTree) (method : MethodTree) (tree : CodeTree) → slice_get world.classes n
          ≡ Some class → slice_get class.methods i ≡ Some method → method.code ≡ Some tree → is_initialiser method.name
          ≡ false
          → (k : ℕ) × (m : LaidMethod) × (slice_get p.methods k ≡ Some m)
          × (method_at judged.world m.member ≡ Some (method_by class method (Some tree)))
      stands_there n i class method tree e f g plain =
          let (k, f, there, found) = stands list.name judged.world judged.codes (settings_of list) kept_files checks n i
          class method tree e f g plain in
          let one = mapped_at (λ (m : LaidMethod). m.member) p.methods k f (ap (λ fs. slice_get fs k)
          (same_members list files judged is p same draft.members) ∙ there) in
          (k, one.0, one.1, ap (method_at judged.world) (sym one.2) ∙ found)

      plain_name : (x : Method) → is_initialiser (let id = x.id in id.name) ≡ false → (o : IsOfFile judged.world x)
          → is_initialiser (let m = o.method in m.name) ≡ false
      plain_name x plain o = sym (ap is_initialiser (ap (λ (y : Method). let id = y.id in id.name) o.is
          ∙ ap (λ (i : MemberId). i.name) (id_of o.class o.method (let m = o.method in m.code)))) ∙ plain

      -- what stands for one that is no initialiser is what its rows select
      by_draft : (x : Method) → is_initialiser (let id = x.id in id.name) ≡ false → IsOfFile judged.world x
          → laid_from judged.world near p.methods x ≡ code_of judged.world near draft.rows x
      by_draft x plain o =
          by (let m = o.method in m.code) refl (told_among judged.world list.name (listed list files judged is)
          (world_unbroken list files judged is) near (code_of judged.world near draft.rows) x o p.methods each)
        where
          by : (c : Option CodeTree) → (let m = o.method in m.code) ≡ c
              → (laid_from judged.world near p.methods x ≡ code_of judged.world near draft.rows x)
              ⊎ ((laid_from judged.world near p.methods x ≡ code_of judged.world near no_rows x)
              × ((k : ℕ) (m : LaidMethod) → slice_get p.methods k ≡ Some m → method_at judged.world m.member
              ≡ Some x → ⊥))
              → laid_from judged.world near p.methods x ≡ code_of judged.world near draft.rows x
          by None e r =
              let is : x ≡ method_by o.class o.method None = o.is ∙ ap (method_by o.class o.method) e in
              let bare : code_of judged.world near draft.rows x ≡ code_of judged.world near no_rows x =
              subst (λ y. code_of judged.world near draft.rows y ≡ code_of judged.world near no_rows y) (sym is)
              refl in
              ⊎_elim (λ one. one) (λ none. none.0 ∙ sym bare) r
          by (Some tree) e r =
              let is : x ≡ method_by o.class o.method (Some tree) = o.is ∙ ap (method_by o.class o.method) e in
              ⊎_elim (λ one. one)
              (λ none. (let (k, m, there, found) = stands_there o.number o.place o.class o.method tree o.is_class
              o.is_method e (plain_name x plain o) in absurd (none.1 k m there (found ∙ ap Some (sym is)))))
              r

      -- and so do its least tables
      told : (x : Method) → is_initialiser (let id = x.id in id.name) ≡ false → IsOfFile judged.world x
          → narrow_codes judged.world near own_tables x ≡ laid_from judged.world near p.methods x
      told x plain o = by (let m = o.method in m.code) refl ∙ sym (by_draft x plain o)
        where
          by : (c : Option CodeTree) → (let m = o.method in m.code) ≡ c
              → narrow_codes judged.world near own_tables x ≡ code_of judged.world near draft.rows x
          by None e =
              let is : x ≡ method_by o.class o.method None = o.is ∙ ap (method_by o.class o.method) e in
              subst (λ y. narrow_codes judged.world near own_tables y ≡ code_of judged.world near draft.rows y)
              (sym is) refl
          by (Some tree) e =
              let is : x ≡ method_by o.class o.method (Some tree) = o.is ∙ ap (method_by o.class o.method) e in
              subst (λ y. narrow_codes judged.world near own_tables y ≡ code_of judged.world near draft.rows y)
              (sym is) (by_rows (method_by o.class o.method (Some tree))
              (draft.rows (method_by o.class o.method (Some tree))) (coded o.number o.place o.class o.method tree
              o.is_class o.is_method e (plain_name x plain o)))

      -- an initialiser does not stand there
      first : (x : Method) → is_initialiser (let id = x.id in id.name) ≡ true → IsOfFile judged.world x
          → narrow_codes judged.world near own_tables x ≡ laid_from judged.world near p.methods x
      first x g o =
          by_rows x [] (no_first judged.world judged.codes judged.types ready own_rows (rows_are list files judged is)
          least x g)
          ∙ bare_code judged.world near x
          ∙ sym (none_among judged.world list.name (listed list files judged is) (world_unbroken list files judged is)
          near (code_of judged.world near draft.rows) x o p.methods none)
        where
          none : (k : ℕ) (m : LaidMethod) (y : Method) → slice_get p.methods k ≡ Some m
              → method_at judged.world m.member ≡ Some y → y.id ≡ x.id → ⊥
          none k m y e f same_id =
              let there : slice_get (method_order (all_classes judged.world)) k ≡ Some m.member =
              ap (λ fs. slice_get fs k) (sym (same_members list files judged is p same draft.members))
              ∙ slice_get-map (λ (q : LaidMethod). q.member) p.methods k
              ∙ ap (option_map (λ (q : LaidMethod). q.member)) e in
              let plain = plain_in_order list.name judged.world judged.codes (settings_of list) kept_files checks k
              m.member y there f in
              let no : true ≡ false = sym g ∙ sym (ap (λ (id : MemberId). is_initialiser id.name) same_id) ∙ plain in
              absurd cc

      pub same_code : (f : Found) (x : Method) → method_at judged.world f ≡ Some x
          → narrow_codes judged.world near own_tables x ≡ laid_in judged.world x
      same_code f x e = by (is_initialiser (let id = x.id in id.name)) refl
        where
          by : (b : Bool) → is_initialiser (let id = x.id in id.name) ≡ b → narrow_codes judged.world near own_tables x
              ≡ laid_in judged.world x
          by true g = first x g (of_file judged.world f x e)
          by false g = told x g (of_file judged.world f x e)

      -- of each method of the package that is no initialiser the code is selected by its rows
      pub selected_code : (f : Found) (x : Method) → method_at p.files f ≡ Some x
          → is_initialiser (let id = x.id in id.name) ≡ false
          → laid_code p x ≡ code_of p.files near draft.rows x
      selected_code f x e plain =
          subst (λ (w : Files). laid_in w x ≡ code_of w near draft.rows x) (sym same)
          (by_draft x plain (of_file judged.world f x (ap (λ (w : Files). method_at w f) (sym same) ∙ e)))

      -- ---- it runs alike

      pub draft_runs : ((image : StaticImage) → IsImage judged.world judged.codes image
          → ((b : Break) → BreaksImage judged.world judged.codes b → ⊥) → (near : List MemberId) → (script : Script)
          → Agree 2 (λ n. run_by_name judged.world image script n) (λ n. narrow_run judged.world image
          (narrow_codes judged.world near own_tables) script n))
          → (let w = p.files in IsImage p.files (all_codes w.classes) p.image) → (script : Script)
          → Agree 2 (λ n. run_by_name p.files p.image script n) (λ n. narrow_run p.files p.image (laid_code p) script n)
      draft_runs alike made script =
          let codes_are = ready.codes_are in
          let image : IsImage judged.world judged.codes p.image =
          subst (λ cs. IsImage judged.world cs p.image) (sym codes_are)
          (subst (λ (w : Files). IsImage w (all_codes w.classes) p.image) same made) in
          subst (λ (w : Files). Agree 2 (λ n. run_by_name w p.image script n) (λ n. narrow_run w p.image (laid_in w)
          script n)) (sym same)
          (subst (λ (l : Named). Agree 2 (λ n. run_by_name judged.world p.image script n) (λ n. labels.run l script n))
          (same_look_ups judged.world p.image (narrow_codes judged.world near own_tables) (laid_in judged.world)
          same_code)
          (alike p.image image (no_image_break list files judged is) near script))
