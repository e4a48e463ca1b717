-- What Method has of a package by modes is the narrow code by its tables and modes.
use Rattle.std.proofs.Common.{◌≡◌, ◌⊎◌, ℕ, refl, sym, ap, subst, ◌∙◌, ⊎_elim, Bool, true, false, List, []}
use Rattle.std.specs.Prelude.{Option, Some, None, option_map, slice_get}
use Rattle.std.proofs.lemmas.Option.{slice_get-map}
use Rattle.cjc_bytes.specs.declared.fault.MemberId.{MemberId}
use Rattle.cjc_check_proof.proofs.WorldProofOwn.{mapped_at}
use Rattle.cjc_check_proof.specs.TokenProof.Tables.Sound.{IsSound}
use Rattle.cjc_check_proof.specs.TokenProof.WrittenCalls.Standing.{laid_code, laid_from, no_rows}
use Rattle.cjc_classes.specs.JvmSemantics.Linked.{Method}
use Rattle.cjc_classes.specs.JvmSemantics.OnePackage.{is_initialiser, method_at, method_by}
use Rattle.cjc_classes.specs.List.Listed.{ListTree}
use Rattle.cjc_classes.specs.Narrow.Pairs.Roles.{with_pairs}
use Rattle.cjc_classes.specs.Narrow.Rows.Package.{code_of, flags_of, read_of, tree_of}
use Rattle.cjc_classes.specs.Narrow.Rows.Resolved.{argument_words, method_found, resolution}
use Rattle.cjc_classes.specs.Narrow.Rows.Selected.{near_fields}
use Rattle.cjc_classes.specs.Narrow.Written.Rows.{has_rows}
use Rattle.cjc_classes.specs.Types.declared.state.State.{State}
use Rattle.cjc_components.specs.Bytecode.declared.method_code.MethodCode.{MethodCode}
use Rattle.cjc_components.specs.Package.{LaidMethod, Package, pool}
use Rattle.cjc_narrow_proof.specs.NCode.Written.{narrow_method}
use Rattle.cjc_narrow_proof.specs.NCode.declared.narrow.NMethod.{NMethod}
use Rattle.cjc_narrow_proof.specs.Runs.Tables.{Tables as RunTables}
use Rattle.cjc_int_alike.specs.ByModes.{code_by, codes_by_mode}
use Rattle.cjc_int_components.specs.Modes.{Tables, is_int}
use Rattle.cjc_int_components.specs.Written.{code_by_mode, code_in}
use Rattle.cjc_int_narrow.specs.LowerIntMode.Written.{written_in_int_mode}
use Rattle.cjc_int_narrow.specs.LowerIntMode.declared.modes.Mode.{Mode}
use Rattle.cjc_int_narrow.specs.LowerIntMode.declared.modes.Mode.TheVariants as modes
use Rattle.cjc_shape.specs.LowerJudge.Rules.{settings_of}
use Rattle.cjc_shape_proof.proofs.WrittenLaws.Checked.{files_sound}
use Rattle.cjc_theorem.proofs.SoundRuns.Laid.{IsOfFile, bare_code, id_of, none_among, of_file, told_among}
use Rattle.cjc_theorem.proofs.SoundRuns.Placed.{plain_in_order, stands}
use Rattle.cjc_world.specs.ClassFile.Code.{CodeTree}
use Rattle.cjc_world.specs.ClassFile.declared.tree.ClassTree.{ClassTree}
use Rattle.cjc_world.specs.ClassFile.declared.tree.MethodTree.{MethodTree}
use Rattle.cjc_world.specs.Classes.{all_classes}
use Rattle.cjc_world.specs.Order.{method_order}
use Rattle.cjc_world.specs.declared.found.Found.{Found}
use Rattle.cjc_int_theorem.specs.Alike.{AreRunBy}
use Rattle.cjc_int_theorem.specs.Tabled.{IsOwnMethod}
use Rattle.cjc_int_theorem.specs.ByModes.{IsConvertedByModes}

-- ---- the code of a package

module _ (list : ListTree) (codes : List MethodCode) (t : Tables) (p : Package) (is : IsConvertedByModes list codes t p)
  where
    abbrev near : List MemberId
    near = near_fields (pool p)

    -- what stands in Method of a method that is no initialiser
    abbrev code : Method → NMethod
    code x = code_in p.files near t (t.mode x) x

    sound : IsSound list.name p.files
    sound = files_sound list codes p is.checked

    said : (k : ℕ) (m : LaidMethod) → slice_get p.methods k ≡ Some m → (y : Method) → method_at p.files m.member
        ≡ Some y → m.code ≡ code y
    said k m e y found = (let one = is.is_package.methods k m e in one.code) ∙ ap (code_by_mode p.files near t m.member)
        found

    first_name : (x : Method) (o : IsOfFile p.files x) → (let id = x.id in is_initialiser id.name)
        ≡ (let m = o.method in is_initialiser m.name)
    first_name x o = ap is_initialiser (ap (λ (y : Method). let id = y.id in id.name) o.is
        ∙ ap (λ (i : MemberId). i.name) (id_of o.class o.method (let m = o.method in m.code)))

    -- ---- in Method

    pub stands_there : (n i : ℕ) (class : ClassTree) (method : MethodTree) (tree : CodeTree)
        → (let w = p.files in slice_get w.classes n ≡ Some class) → slice_get class.methods i ≡ Some method
        → method.code ≡ Some tree → is_initialiser method.name ≡ false
        → (k : ℕ) × (m : LaidMethod) × (slice_get p.methods k ≡ Some m)
        × (method_at p.files m.member ≡ Some (method_by class method (Some tree)))
    stands_there n i class method tree e f g plain =
        let (k, f, there, found) = stands list.name p.files codes (settings_of list) sound is.checked.checks n i class
        method tree e f g plain in
        let one = mapped_at (λ (m : LaidMethod). m.member) p.methods k f (ap (λ fs. slice_get fs k)
        is.is_package.members ∙ there) in
        (k, one.0, one.1, ap (method_at p.files) (sym one.2) ∙ found)

    -- a method without code has the same by any tables
    bare : (class : ClassTree) (method : MethodTree) → code (method_by class method None)
        ≡ code_of p.files near no_rows (method_by class method None)
    bare class method = ap (λ mode. code_in p.files near t mode (method_by class method None))
        (let m = is.modes in m.without_code class method)

    -- one that is no initialiser has what its mode says
    plain_code : (x : Method) → (let id = x.id in is_initialiser id.name) ≡ false → IsOfFile p.files x
        → laid_from p.files near p.methods x ≡ code x
    plain_code x plain o =
        by (let m = o.method in m.code) refl (told_among p.files list.name sound.classes sound.unbroken near code x o
        p.methods said)
      where
        by : (c : Option CodeTree) → (let m = o.method in m.code) ≡ c
            → (laid_from p.files near p.methods x ≡ code x) ⊎ ((laid_from p.files near p.methods x
            ≡ code_of p.files near no_rows x) × ((k : ℕ) (m : LaidMethod) → slice_get p.methods k ≡ Some m
            → method_at p.files m.member ≡ Some x → ⊥)) → laid_from p.files near p.methods x ≡ code x
        by None e r =
            let is : x ≡ method_by o.class o.method None = o.is ∙ ap (method_by o.class o.method) e in
            let same : code x ≡ code_of p.files near no_rows x = subst (λ y. code y ≡ code_of p.files near no_rows y)
            (sym is) (bare o.class o.method) in
            ⊎_elim (λ one. one) (λ none. none.0 ∙ sym same) r
        by (Some tree) e r =
            let is : x ≡ method_by o.class o.method (Some tree) = o.is ∙ ap (method_by o.class o.method) e in
            ⊎_elim (λ one. one)
            (λ none. (let (k, m, there, found) = stands_there o.number o.place o.class o.method tree o.is_class
            o.is_method e (sym (first_name x o) ∙ plain) in absurd (none.1 k m there (found ∙ ap Some (sym is)))))
            r

    pub selected_by_mode : (f : Found) (x : Method) → method_at p.files f ≡ Some x
        → (let id = x.id in is_initialiser id.name) ≡ false → laid_code p x ≡ code x
    selected_by_mode f x e plain = plain_code x plain (of_file p.files f x e)

    -- an initialiser does not stand there
    none_first : (x : Method) → (let id = x.id in is_initialiser id.name) ≡ true → (o : IsOfFile p.files x)
        → laid_from p.files near p.methods x ≡ code_of p.files near no_rows x
    none_first x first o = none_among p.files list.name sound.classes sound.unbroken near code x o p.methods none
      where
        none : (k : ℕ) (m : LaidMethod) (y : Method) → slice_get p.methods k ≡ Some m
            → method_at p.files m.member ≡ Some y → y.id ≡ x.id → ⊥
        none k m y e f same_id =
            let there : slice_get (method_order (all_classes p.files)) k ≡ Some m.member =
            ap (λ fs. slice_get fs k) (sym is.is_package.members)
            ∙ slice_get-map (λ (q : LaidMethod). q.member) p.methods k
            ∙ ap (option_map (λ (q : LaidMethod). q.member)) e in
            let plain = plain_in_order list.name p.files codes (settings_of list) sound is.checked.checks k m.member y
            there f in
            let no : true ≡ false = sym first ∙ sym (ap (λ (id : MemberId). is_initialiser id.name) same_id)
            ∙ plain in
            absurd cc

    -- ---- by the tables of whole runs

    module _ (tables : RunTables) (in_int_mode : Method → Bool) (are : AreRunBy p.files t tables in_int_mode) where
      abbrev run_code : Method → NMethod
      run_code x = codes_by_mode p.files p.image near tables in_int_mode x

      by_rows : (x : Method) (rows : List (Option State)) → tables.types x ≡ rows
          → code_of p.files near tables.types x ≡ code_of p.files near (λ y. rows) x
      by_rows x rows e =
          let id = x.id in
          let flags = flags_of (method_found (all_classes p.files) id) in
          ap (λ rs. narrow_method (with_pairs (resolution p.files near id.class) (read_of x flags) (has_rows rs))
          (tree_of x) (argument_words flags id.desc) x.insns rs) e

      in_mode : (x : Method) (mode : Mode) → tables.types x ≡ t.types x → tables.ranges x ≡ t.ranges x
          → code_by p.files p.image near tables in_int_mode (is_int mode) x ≡ code_in p.files near t mode x
      in_mode x modes.Int e g =
          let id = x.id in
          let b = read_of x (flags_of (method_found (all_classes p.files) id)) in
          let r = resolution p.files near id.class in
          ap (λ rows. written_in_int_mode r (tree_of x) b rows (tables.ranges x)) e
          ∙ ap (written_in_int_mode r (tree_of x) b (t.types x)) g
      in_mode x modes.Short e g = by_rows x (t.types x) e

      -- a method that is not in int mode there, and has no row, has what no rows give
      bare_run : (x : Method) → (IsOwnMethod p.files x → ⊥) → run_code x ≡ code_of p.files near no_rows x
      bare_run x none =
          ap (λ b. code_by p.files p.image near tables in_int_mode b x) (off (in_int_mode x) refl)
          ∙ by_rows x [] (are.others x none) ∙ bare_code p.files near x
        where
          off : (b : Bool) → in_int_mode x ≡ b → b ≡ false
          off true e = absurd (none (are.only_int x e))
          off false e = refl

      plain_run : (x : Method) → (let id = x.id in is_initialiser id.name) ≡ false → IsOfFile p.files x
          → run_code x ≡ code x
      plain_run x plain o = by (let m = o.method in m.code) refl
        where
          by : (c : Option CodeTree) → (let m = o.method in m.code) ≡ c → run_code x ≡ code x
          by None e =
              let is : x ≡ method_by o.class o.method None = o.is ∙ ap (method_by o.class o.method) e in
              let same : code x ≡ code_of p.files near no_rows x = subst (λ y. code y ≡ code_of p.files near no_rows y)
              (sym is) (bare o.class o.method) in
              bare_run x (λ own. (let two : true ≡ false = sym (ap (λ (y : Method). y.is_abstract) is)
              ∙ ap (λ (y : Method). y.is_abstract) own.is in absurd cc)) ∙ sym same
          by (Some tree) e =
              let own : IsOwnMethod p.files x = record {
                class = o.class;
                method = o.method;
                tree = tree;
                own = record { number = o.number; place = o.place; is_class = o.is_class; is_method = o.is_method };
                plain = sym (first_name x o) ∙ plain;
                is_code = e;
                is = o.is ∙ ap (method_by o.class o.method) e;
              } in
              ap (λ b. code_by p.files p.image near tables in_int_mode b x) (are.modes x own)
              ∙ in_mode x (t.mode x) (are.types x own) (are.ranges x own)

      first_run : (x : Method) → (let id = x.id in is_initialiser id.name) ≡ true
          → run_code x ≡ code_of p.files near no_rows x
      first_run x first = bare_run x (λ own. (let two : true ≡ false = sym first
          ∙ ap (λ (y : Method). let id = y.id in is_initialiser id.name) own.is ∙ own.plain in absurd cc))

      -- what whole runs go by is what stands in Method
      pub same_code : (f : Found) (x : Method) → method_at p.files f ≡ Some x → run_code x ≡ laid_code p x
      same_code f x e = by (let id = x.id in is_initialiser id.name) refl
        where
          o : IsOfFile p.files x
          o = of_file p.files f x e

          by : (b : Bool) → (let id = x.id in is_initialiser id.name) ≡ b → run_code x ≡ laid_code p x
          by true g = first_run x g ∙ sym (none_first x g o)
          by false g = plain_run x g o ∙ sym (plain_code x g o)
