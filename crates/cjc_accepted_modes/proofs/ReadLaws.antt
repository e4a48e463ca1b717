-- What the type checker reads of a method in int mode is what is written for it: its instructions, its header and the
-- types of its descriptor.
use Rattle.std.proofs.Common.{◌≡◌, ℕ, refl, sym, ap, subst, ◌∙◌, List, [], slice_get, Some}
use Rattle.cjc_types.specs.Bytecode.declared.method_code.MethodCode.{MethodCode}
use Rattle.cjc_ncode.specs.declared.narrow.NMethod.{NMethod}
use Rattle.cjc_check_proof.specs.Classes.Premises.{TypesAreKnown}
use Rattle.cjc_check_proof.specs.Code.Codes.{code_at}
use Rattle.cjc_check_proof.specs.LowerComponents.Written.{is_abstract_at, is_abstract_by}
use Rattle.cjc_check_proof.specs.NCode.Lowering.Placed.{HandlersStand}
use Rattle.cjc_check_proof.specs.TokenProof.Tables.Loading.{components, part}
use Rattle.cjc_shape_proof.specs.LowerIntPackage.LowerIntMode.Written.{written_in_int_mode}
use Rattle.cjc_int_components.specs.Modes.{Tables}
use Rattle.cjc_narrow_proof.proofs.LawsLaws.Room.{room_to_begin}
use Rattle.cjc_verify.specs.Bodies.{Body, bodies, type_of_body}
use Rattle.cjc_verify.specs.CapRead.declared.tree.ClassRef.{ClassRef}
use Rattle.cjc_verify.specs.ClassTypes.{class_type}
use Rattle.cjc_verify.specs.Components.Methods.{placed_at}
use Rattle.cjc_verify.specs.Components.Names.{names}
use Rattle.cjc_verify.specs.Components.Package.{LaidMethod, Package, world}
use Rattle.cjc_verified_proof.proofs.BytesPlain.{same_some}
use Rattle.cjc_verified_proof.specs.CheckRules.Codes.{whole_spots}
use Rattle.cjc_verified_proof.specs.Components.Types.{all_descs}
use Rattle.cjc_verified_proof.specs.List.Listed.{ListTree}
use Rattle.cjc_verified_proof.specs.TokenProof.Components.Methods.{HasMethods}
use Rattle.cjc_verified_proof.specs.TokenProof.Components.OwnNames.{HaveOwnNames}
use Rattle.cjc_verified_proof.specs.World.Order.{class_order}
use Rattle.cjc_accepted_proof.specs.Carded.{HasCardTypes}
use Rattle.cjc_accepted_proof.specs.Coded.{card_type}
use Rattle.cjc_accepted_proof.specs.Written.{written_pair}
use Rattle.cjc_int_accepted.specs.Headers.{IsReadInIntMode, SaysWords}
use Rattle.cjc_shape_proof.specs.Written.Checked.{IsOfFiles}
use Rattle.cjc_theorem.proofs.VTableFiled.{has-get}
use Rattle.cjc_int_theorem.specs.ByModes.{IsConvertedByModes}
use Rattle.cjc_accepted_theorem.specs.ReadFrom.{IsReadFrom}
use Rattle.cjc_accepted_theorem.proofs.HeadersLaws.{ClassesBegin}
use Rattle.cjc_accepted_theorem.proofs.PassedLaws.{class_typed}
use Rattle.cjc_accepted_theorem.proofs.ReadLaws.{IsSaid, said}
use Rattle.cjc_accepted_modes.specs.InIntMode.{IntMethod, IsInIntMode, body_by_name, names_in, ranges_in, types_in}
use Rattle.cjc_accepted_modes.proofs.TypedLaws.{AreTypes, method_typed}

module _ (p : Package) (t : Tables) (codes : List MethodCode) (m : IntMethod) (k : ℕ) (b : IsInIntMode p t m codes k)
    (v : Body) (r : IsReadFrom p k v) where
  -- what is laid is the method's
  same : r.laid ≡ m.laid
  same = same_some (sym r.is_laid ∙ b.is_laid)

  pub instructions_are : v.instructions ≡ (let c = code_at (names p) r.offset m.laid in c.instructions)
  instructions_are = r.instructions ∙ ap (λ (l : LaidMethod). let c = code_at (names p) r.offset l in c.instructions)
      same

  pub handlers_are : HandlersStand (names p) (placed_at r.offset m.laid) (part p)
  handlers_are = subst (λ (l : LaidMethod). HandlersStand (names p) (placed_at r.offset l) (part p)) same r.handlers

  abbrev narrow : NMethod
  narrow = written_in_int_mode (names_in p m) m.tree (body_by_name m) (types_in t m) (ranges_in t m)

  code_is : (let l = r.laid in l.code) ≡ narrow
  code_is = ap (λ (l : LaidMethod). l.code) same ∙ b.written

  -- its header
  pub says_words : (let l = m.laid in l.is_abstract ≡ is_abstract_at p.files l.member) → SaysWords narrow v
  says_words bare = record {
    max_stack = ap (λ h. h.max_stack) r.header ∙ ap (λ (c : NMethod). c.max_stack) code_is;
    nargs = ap (λ h. h.nargs) r.header ∙ ap (λ (c : NMethod). c.nargs) code_is;
    max_locals = ap (λ h. h.max_locals) r.header ∙ ap (λ (c : NMethod). c.max_locals) code_is;
    has_code = ap (λ h. h.is_abstract) r.header ∙ ap (λ (l : LaidMethod). l.is_abstract) same ∙ bare
        ∙ ap is_abstract_by b.named;
  }

-- ---- a package by modes

module _ (list : ListTree) (codes : List MethodCode) (p : Package) (of : IsOfFiles list codes p)
    (apart : HaveOwnNames (class_order (world p))) (has : HasMethods p) (whole : whole_spots (components p) ≡ [])
    (begin : ClassesBegin list codes p of) (card : HasCardTypes p) (known : TypesAreKnown p) (t : Tables)
    (is : IsConvertedByModes list codes t p) (m : IntMethod) (k : ℕ) (b : IsInIntMode p t m codes k) (v : Body)
    (there : slice_get (bodies (components p)) k ≡ Some v) (r : IsReadFrom p k v) where
  abbrev desc : List ℕ
  desc = let x = m.method in x.desc

  -- what Descriptor says of it
  s : IsSaid list codes p of apart has whole begin card v m.class m.method
  s = said list codes p of apart has whole begin card k v there m.laid b.is_laid m.class m.method m.tree
      b.class_there b.method_there (let o = b.is_method in o.is_code)

  -- its types are those of its descriptor
  pub types_are : (let x = m.method in AreTypes p x.desc (type_of_body (components p) v))
  types_are =
      let place = has-get desc (all_descs p) s.listed in
      subst (AreTypes p desc) (sym s.type) (method_typed p desc s.is_desc s.is_method s.on_card (known place.0 desc
      place.1))

  -- so it is read as what is written for it
  pub is_read : IsReadInIntMode (card_type p) (written_pair p) (names_in p m) m.tree (body_by_name m) (types_in t m)
      (ranges_in t m) v
  is_read =
      let y = types_are in
      let w = is.is_package.methods k m.laid b.is_laid in
      record {
        stack = refl;
        header = says_words p t codes m k b v r w.is_abstract;
        static = s.static;
        is_desc = s.is_desc;
        is_method = s.is_method;
        typed = y.params;
        holds = λ plain. class_typed list codes p of (let c = m.class in c.name) s.class s.named
            ∙ ap (λ (ref : ClassRef). Some (class_type ref)) (sym s.holder);
        few = room_to_begin p.files m.code m.class m.method m.tree b.is_method s.short;
        room = b.room;
      }
