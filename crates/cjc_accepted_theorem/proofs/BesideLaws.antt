-- Methods of Method of a converted package beside those of its class files: one has no instructions, or is written in
-- short mode for one with code, of which the type checker reads what that says, or is in int mode.
use Rattle.std.proofs.Common.{◌≡◌, ℕ, ◌+◌, ◌-◌, ◌≤◌, refl, sym, ap, subst, ◌∙◌, arith, Bool, false, List, [], ◌∷◌}
use Rattle.std.proofs.Common.{◌++◌, length, map}
use Rattle.std.specs.Prelude.{Option, Some, None, option_and_then, option_map, slice_get, if◌then◌else◌}
use Rattle.std.specs.List.{AllZip}
use Rattle.cjc_verified_proof.specs.Bytecode.declared.method_code.MethodCode.{MethodCode}
use Rattle.cjc_verified_proof.specs.Bytes.AccessFlags.{is_static}
use Rattle.cjc_verified_proof.specs.Bytes.declared.fault.MemberId.{MemberId}
use Rattle.cjc_verified_proof.specs.CapRead.declared.tree.ClassRef.{ClassRef}
use Rattle.cjc_verified_proof.specs.CheckRules.Codes.{whole_spots}
use Rattle.cjc_verified_proof.specs.ClassFile.Code.{CodeTree}
use Rattle.cjc_verified_proof.specs.ClassFile.declared.tree.ClassTree.{ClassTree}
use Rattle.cjc_verified_proof.specs.ClassFile.declared.tree.MethodTree.{MethodTree}
use Rattle.cjc_verified_proof.specs.Components.Methods.{placed_at}
use Rattle.cjc_verified_proof.specs.Components.Names.{names}
use Rattle.cjc_verified_proof.specs.Components.Package.{LaidMethod, Package, pool, world}
use Rattle.cjc_verified_proof.specs.Components.Types.{all_descs}
use Rattle.cjc_verified_proof.specs.JvmSemantics.Linked.{Method}
use Rattle.cjc_verified_proof.specs.JvmSemantics.OnePackage.{method_at, method_by}
use Rattle.cjc_verified_proof.specs.JvmSemantics.OnePackage as by_file
use Rattle.cjc_verified_proof.specs.List.Listed.{ListTree}
use Rattle.cjc_verified_proof.specs.TokenProof.Components.Methods.{HasMethods}
use Rattle.cjc_verified_proof.specs.TokenProof.Components.OwnNames.{HaveOwnNames}
use Rattle.cjc_verified_proof.specs.TokenProof.Tables.Loading.{components, part}
use Rattle.cjc_verified_proof.specs.Verify.Bodies.{Body, arguments, bodies, type_of_body}
use Rattle.cjc_verified_proof.specs.World.Classes.{Class}
use Rattle.cjc_verified_proof.specs.World.Order.{class_order}
use Rattle.cjc_verified_proof.specs.World.declared.found.Found.{Found}
use Rattle.cjc_check_proof.specs.Classes.Premises.{TypesAreKnown}
use Rattle.cjc_check_proof.specs.Code.Codes.{code_at, laid_code}
use Rattle.cjc_card_semantics.specs.CapRead.MethodHeader.{MethodHeader}
use Rattle.cjc_ncode.specs.Lowering.Placed.{HandlersStand, first, offset_of}
use Rattle.cjc_ncode.specs.declared.narrow.NMethod.{NMethod}
use Rattle.cjc_narrow.specs.Rows.Selected.{near_fields}
use Rattle.cjc_types.specs.Cells.{IsCellBelow}
use Rattle.cjc_types.specs.Types.{parts, value_of}
use Rattle.cjc_types.specs.declared.cell.Cell.TheVariants.{Refs}
use Rattle.cjc_narrow_proof.specs.Tables.Calls.{IsWordDesc}
use Rattle.cjc_narrow_proof.proofs.LawsLaws.Room.{room_to_begin}
use Rattle.cjc_narrow_proof.proofs.LawsLaws.WordTypes.{word_desc}
use Rattle.cjc_narrow_proof.proofs.SelectedLaws.IntFree.{own_desc}
use Rattle.cjc_accepted_proof.proofs.EntryLaws.{arguments_below}
use Rattle.cjc_accepted_proof.specs.Beside.{Beside}
use Rattle.cjc_accepted_proof.specs.CardActs.CardTypes.{ValueType}
use Rattle.cjc_accepted_proof.specs.Carded.{HasCardTypes}
use Rattle.cjc_accepted_proof.specs.Checked.{IsReadAs}
use Rattle.cjc_accepted_proof.specs.Coded.{card_type, is_of}
use Rattle.cjc_accepted_proof.specs.Frames.{IsTypeFor, MethodFits, SubtypesAgree, card_cells}
use Rattle.cjc_verify.specs.Frames.Acts.{given}
use Rattle.cjc_verify.specs.ClassTypes.{class_type}
use Rattle.cjc_shape_proof.specs.LowerIntPackage.LowerIntMode.declared.modes.Mode.{Mode}
use Rattle.cjc_shape_proof.specs.LowerIntPackage.LowerIntMode.declared.modes.Mode.TheVariants as modes
use Rattle.cjc_shape_proof.specs.LowerIntPackage.Modes.{Tables}
use Rattle.cjc_shape_proof.specs.LowerIntPackage.Written.{IsWrittenByMode, code_by_mode, code_in}
use Rattle.cjc_theorem.proofs.VTableFiled.{has-get}
use Rattle.cjc_theorem.specs.LowerJudge.Rules.{settings_of}
use Rattle.cjc_theorem.specs.LowerJudge.declared.judged.Judged.{Judged}
use Rattle.cjc_theorem.specs.ShapeProof.Written.Checked.{IsOfFiles}
use Rattle.cjc_theorem.specs.ShapeProof.Written.LaidOut.{IsLaidOut}
use Rattle.cjc_accepted_theorem.specs.ReadFrom.{IsReadFrom}
use Rattle.cjc_accepted_theorem.specs.Stands.{StandsBeside, bare, in_int_mode, written}
use Rattle.cjc_accepted_theorem.proofs.CardTypes.{method_fits}
use Rattle.cjc_accepted_theorem.proofs.CodedLaws as coded
use Rattle.cjc_accepted_theorem.proofs.HeadersLaws.{ClassesBegin}
use Rattle.cjc_accepted_theorem.proofs.PassedLaws.{class_typed}
use Rattle.cjc_accepted_theorem.proofs.ReadLaws.{IsSaid, at_place, own_place, words_are}
use Rattle.cjc_accepted_theorem.proofs.ReadLaws as read_laws
use Rattle.cjc_accepted_theorem.proofs.TypedLaws.{word_fits}

module _ (list : ListTree) (files : List (List ℕ)) (judged : Judged) (p : Package) (is : IsOfFiles list judged.codes p)
    (laid : IsLaidOut list files judged p) (apart : HaveOwnNames (class_order (world p))) (has : HasMethods p)
    (whole : whole_spots (components p) ≡ []) (begin : ClassesBegin list judged.codes p is) (card : HasCardTypes p)
    (known : TypesAreKnown p) (subtypes : SubtypesAgree (card_type p) (is_of p) (world p)) where
  abbrev w : List Class
  w = world p

  abbrev tables : Tables
  tables = laid.is_package.tables

  -- ---- a method in short mode

  module _ (k : ℕ) (v : Body) (there : slice_get (bodies (components p)) k ≡ Some v) (m : LaidMethod)
      (is_laid : slice_get p.methods k ≡ Some m) (t : ClassTree) (x : MethodTree) (tree : CodeTree)
      (is_class : (let g = m.member in let v = p.files in slice_get v.classes g.class ≡ Some t))
      (is_method : (let g = m.member in slice_get t.methods (g.member - length t.fields) ≡ Some x))
      (is_code : x.code ≡ Some tree)
      (short : (let q = tables in q.mode (method_by t x (Some tree))) ≡ modes.Short) where
    abbrev n : ℕ
    n = let g = m.member in g.class

    abbrev place : ℕ
    place = let g = m.member in g.member - length t.fields

    at : method_at p.files m.member ≡ Some (method_by t x (Some tree))
    at = at_place list judged.codes p is apart has whole begin card k v there m is_laid t x tree is_class is_method
        is_code

    said : IsSaid list judged.codes p is apart has whole begin card v t x
    said = read_laws.said list judged.codes p is apart has whole begin card k v there m is_laid t x tree is_class
        is_method is_code

    abbrev code : MethodCode
    code = coded.code list files judged p is laid k m is_laid n place t x tree is_class is_method is_code at

    -- its descriptor has words: 301, and no int
    word : IsWordDesc x.desc
    word =
        let s = said in
        let of = coded.of_package list files judged p is laid k m is_laid n place t x tree is_class is_method is_code at
        in
        let free = coded.works_on_none list files judged p is laid k m is_laid n place t x tree is_class is_method
        is_code at short in
        word_desc x.desc (parts x.desc) s.short s.is_desc s.is_method (method_fits list.name p.files judged.codes
        (settings_of list) is.checked.checks n t is_class place x is_method) (own_desc p.files code t x tree of free)

    abbrev id : MemberId
    id = record { class = t.name; name = x.name; desc = x.desc }

    -- its types are those of its descriptor
    fits : MethodFits (card_type p) id (type_of_body (components p) v)
    fits =
        let s = said in
        let row = has-get x.desc (all_descs p) s.listed in
        subst (MethodFits (card_type p) id) (sym s.type) (word_fits p id word (known row.0 x.desc row.1))

    result_is : (let d = parts x.desc in let r = d.result in let y = type_of_body (components p) v in IsTypeFor
        (card_type p) r.kind r.class y.result)
    result_is = let f = fits in f.result

    -- its arguments
    arguments_are : AllZip IsCellBelow (map (given [] []) (arguments (components p) v)) (card_cells (card_type p) ((if
        is_static x.flags then [] else Refs (t.name ∷ []) ∷ []) ++ map value_of (let d = parts x.desc in d.params)))
    arguments_are =
        let s = said in
        let f = fits in
        subst (λ (b : Bool). AllZip IsCellBelow (map (given [] []) (arguments (components p) v)) (card_cells
        (card_type p) ((if b then [] else Refs (t.name ∷ []) ∷ []) ++ map value_of (let d = parts x.desc in
        d.params)))) s.static (arguments_below (card_type p) (is_of p) w subtypes (let a = v.method in is_static
        a.flags) t.name (class_type v.holder) (class_typed list judged.codes p is t.name s.class s.named
        ∙ ap (λ (r : ClassRef). Some (class_type r)) (sym s.holder)) (let d = parts x.desc in d.params)
        (let y = type_of_body (components p) v in y.params) f.params)

    -- ---- beside the method of its class file

    module _ (r : IsReadFrom p k v) (same : r.laid ≡ m) where
      abbrev result : ValueType
      result = let y = type_of_body (components p) v in y.result

      abbrev here : Beside
      here = coded.beside list files judged p is laid k m is_laid n place t x tree is_class is_method is_code at short
          r.offset result

      read : IsReadAs p here v
      read =
          let stack = coded.stack_is list files judged p is laid k m is_laid n place t x tree is_class is_method is_code
          at short in
          let nargs = coded.nargs_is list files judged p is laid k m is_laid n place t x tree is_class is_method is_code
          at short in
          let locals = coded.locals_are list files judged p is laid k m is_laid n place t x tree is_class is_method
          is_code at short in
          let of = coded.of_package list files judged p is laid k m is_laid n place t x tree is_class is_method is_code
          at in
          let s = said in
          let room : length ((if is_static x.flags then [] else Refs (t.name ∷ []) ∷ []) ++ map value_of (let d =
          parts x.desc in d.params)) ≤ tree.max_locals = room_to_begin p.files code t x tree of s.short in
          let words = words_are x.flags t.name x.desc word in
          let enough : (let c = m.code in c.nargs + c.max_locals) ≡ tree.max_locals = omega (
            arith,
            nargs,
            locals,
            room,
            words,
          ) in
          record {
            instructions = r.instructions ∙ ap (λ l. let c = code_at (names p) r.offset l in c.instructions) same;
            max_stack = ap (λ (h : MethodHeader). h.max_stack) r.header ∙ ap (λ (l : LaidMethod). let c = l.code in
                c.max_stack) same ∙ stack;
            locals = ap (λ (h : MethodHeader). h.nargs + h.max_locals) r.header ∙ ap (λ (l : LaidMethod). let c =
                l.code in c.nargs + c.max_locals) same ∙ enough;
            result = refl;
            arguments = arguments_are;
            room = room;
          }

      stands : StandsBeside p judged.codes tables k v
      stands = written here (coded.is_beside list files judged p is laid k m is_laid n place t x tree is_class is_method
          is_code at short r.offset result result_is) (coded.works_on_none list files judged p is laid k m is_laid n
          place t x tree is_class is_method is_code at short) read (subst (λ l. HandlersStand (names p) (placed_at
          r.offset l) (part p)) same r.handlers)

  -- ---- any method

  -- one whose code is empty has no instructions
  empty : (k : ℕ) (v : Body) (r : IsReadFrom p k v) → (let l = r.laid in let c = l.code in c.insns) ≡ []
      → v.instructions ≡ []
  empty k v r e = r.instructions ∙ (let l = r.laid in let q = placed_at r.offset l in ap (λ insns. laid_code (names p)
      (offset_of (names p) q) (first q) insns l.wide) e)

  pub stands_beside : (k : ℕ) (v : Body) → slice_get (bodies (components p)) k ≡ Some v → IsReadFrom p k v
      → StandsBeside p judged.codes tables k v
  stands_beside k v there r = by_class (let w = p.files in slice_get w.classes g.class) refl
    where
      g : Found
      g = let l = r.laid in l.member

      own : g.imported ≡ false
      own = own_place list judged.codes p is apart has k r.laid r.is_laid

      made : IsWrittenByMode p.files (near_fields (pool p)) tables r.laid
      made = laid.is_package.is_package.methods k r.laid r.is_laid

      found : (o : Option ClassTree) → (let w = p.files in slice_get w.classes g.class) ≡ o → method_at p.files g
          ≡ option_and_then (by_file.method_in g.member) o
      found o e = ap (λ (b : Bool). if b then None else option_and_then (by_file.method_in g.member) (let w = p.files
          in slice_get w.classes g.class)) own ∙ ap (option_and_then (by_file.method_in g.member)) e

      without : (o : Option Method) → method_at p.files g ≡ o → (let c = code_by_mode p.files (near_fields (pool p))
          tables g o in c.insns) ≡ [] → StandsBeside p judged.codes tables k v
      without o e none = bare (empty k v r (ap (λ (c : NMethod). c.insns) (made.code ∙ ap (code_by_mode p.files
          (near_fields (pool p)) tables g) e) ∙ none))

      -- one without code is in short mode
      no_insns : (t : ClassTree) (x : MethodTree) → (let c = code_by_mode p.files (near_fields (pool p)) tables g
          (Some (method_by t x None)) in c.insns) ≡ []
      no_insns t x = ap (λ q. (let c = code_in p.files (near_fields (pool p)) tables q (method_by t x None) in c.insns))
          (laid.is_package.has.modes.without_code t x)

      by_mode : (t : ClassTree) (x : MethodTree) → (let w = p.files in slice_get w.classes g.class) ≡ Some t
          → slice_get t.methods (g.member - length t.fields) ≡ Some x → (tree : CodeTree) → x.code ≡ Some tree
          → (q : Mode) → (let a = tables in a.mode (method_by t x (Some tree))) ≡ q
          → StandsBeside p judged.codes tables k v
      by_mode t x e f tree h modes.Short short = stands k v there r.laid r.is_laid t x tree e f h short r refl
      by_mode t x e f tree h modes.Int int = in_int_mode (record {
        laid = r.laid;
        is_laid = r.is_laid;
        class = t;
        method = x;
        tree = tree;
        is_class = e;
        is_method = f;
        is_code = h;
        mode = int;
      })

      by_code : (t : ClassTree) (x : MethodTree) → (let w = p.files in slice_get w.classes g.class) ≡ Some t
          → slice_get t.methods (g.member - length t.fields) ≡ Some x → (o : Option CodeTree) → x.code ≡ o
          → StandsBeside p judged.codes tables k v
      by_code t x e f None h = without (Some (method_by t x None)) (found (Some t) e ∙ ap (option_map
          (λ (y : MethodTree). method_by t y y.code)) f ∙ ap (λ c. Some (method_by t x c)) h) (no_insns t x)
      by_code t x e f (Some tree) h = by_mode t x e f tree h (let a = tables in a.mode (method_by t x (Some tree))) refl

      by_method : (t : ClassTree) → (let w = p.files in slice_get w.classes g.class) ≡ Some t
          → (o : Option MethodTree) → slice_get t.methods (g.member - length t.fields) ≡ o
          → StandsBeside p judged.codes tables k v
      by_method t e None f = without None (found (Some t) e ∙ ap (option_map (λ (y : MethodTree). method_by t y
          y.code)) f) refl
      by_method t e (Some x) f = by_code t x e f x.code refl

      by_class : (o : Option ClassTree) → (let w = p.files in slice_get w.classes g.class) ≡ o
          → StandsBeside p judged.codes tables k v
      by_class None e = without None (found None e) refl
      by_class (Some t) e = by_method t e (slice_get t.methods (g.member - length t.fields)) refl
