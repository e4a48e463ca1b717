-- Methods of Method of a converted package as the type checker reads them: their instructions are those that are laid,
-- and their headers say what the narrow code says.
use Rattle.std.proofs.Common.{◌≡◌, ℕ, ◌+◌, ◌-◌, ◌≤◌, refl, sym, ap, ◌∙◌, arith, Bool, true, false, List, [], ◌++◌, map}
use Rattle.std.proofs.Common.{append_assoc, drop, slice_get, Option, Some}
use Rattle.std.specs.Prelude.{flat_map, nat_le, if◌then◌else◌}
use Rattle.std.proofs.lemmas.Bool.Decides.{nat_tests}
use Rattle.cjc_verified_proof.proofs.BytesPlain.{same_some}
use Rattle.cjc_verified_proof.proofs.BodyLaws.{body_stands}
use Rattle.cjc_verified_proof.specs.CapRead.declared.tree.ClassDescriptor.{ClassDescriptor}
use Rattle.cjc_verified_proof.specs.CapRead.declared.tree.MethodDescriptor.{MethodDescriptor}
use Rattle.cjc_verified_proof.specs.CardSemantics.Machine.Methods.{methods_begin}
use Rattle.cjc_verified_proof.specs.CheckRules.Codes.{Code, codes, whole_spots}
use Rattle.cjc_verified_proof.specs.Components.Descriptor.{class_descriptor}
use Rattle.cjc_verified_proof.specs.Components.Methods.{first_method, header_of, placed_at}
use Rattle.cjc_verified_proof.specs.Components.Methods.{placed_methods}
use Rattle.cjc_verified_proof.specs.Components.Names.{names}
use Rattle.cjc_verified_proof.specs.Components.Package.{LaidMethod, Package, world}
use Rattle.cjc_verified_proof.specs.TokenProof.Components.Methods.{HasMethods}
use Rattle.cjc_verified_proof.specs.TokenProof.Components.OwnNames.{HaveOwnNames}
use Rattle.cjc_verified_proof.specs.TokenProof.Tables.Loading.{components, naming, part}
use Rattle.cjc_verified_proof.specs.TokenProof.WrittenCalls.Standing.{AreReady}
use Rattle.cjc_verified_proof.specs.Verify.Bodies.{Body, bodies}
use Rattle.cjc_verified_proof.specs.World.Order.{class_order, in_order}
use Rattle.cjc_check_proof.specs.Code.Codes.{code_at, codes_of}
use Rattle.cjc_check_proof.proofs.CodeLaws.Described.{classes_described}
use Rattle.cjc_check_proof.proofs.CodeLaws.OwnClasses.{own_classes}
use Rattle.cjc_ncode.proofs.LoweringLaws.Packed.{bytes_stand, handlers_stand}
use Rattle.cjc_ncode.specs.Lowering.Placed.{HandlersStand}
use Rattle.cjc_token_proof.proofs.WrittenCalls.HeadersRead.{header_read}
use Rattle.cjc_token_proof.proofs.WrittenCalls.Held.{FormsLaw, OffsetsLaw, methods_held}
use Rattle.cjc_accepted_theorem.proofs.CutLaws.{IsLaidAt, laid_there}

module _ (p : Package) (apart : HaveOwnNames (class_order (world p))) (order : HasMethods p)
    (whole : whole_spots (components p) ≡ []) (same : codes (components p) ≡ codes_of p) where
  abbrev described : List MethodDescriptor
  described = flat_map (λ (d : ClassDescriptor). d.methods) (map (class_descriptor p) (in_order (world p) false))

  -- the method of this number, as it is laid
  pub record IsRead (k : ℕ) (v : Body) : Type 0 where
    pub code : Code
    pub at : IsLaidAt (names p) (first_method p.methods) described p.methods k v.method code
    pub instructions : v.instructions ≡ (let c = code_at (names p) at.offset at.laid in c.instructions)

  pub body_read : (k : ℕ) (v : Body) → slice_get (bodies (components p)) k ≡ Some v → IsRead k v
  body_read k v e =
      let s = body_stands (components p) whole k v e in
      let listed : slice_get described k ≡ Some v.method = sym (ap (λ ms. slice_get ms k) (ap (flat_map
      (λ (d : ClassDescriptor). d.methods)) (own_classes p apart))) ∙ s.method in
      let coded = sym (ap (λ cs. slice_get cs k) same) ∙ s.among in
      let r = laid_there (names p) (first_method p.methods) described p.methods (classes_described p order) k v.method
      s.code listed coded in
      record {
        code = s.code;
        at = r;
        instructions = s.instructions ∙ ap (λ (c : Code). c.instructions) (sym r.code_is);
      }

  -- ---- headers

  module _ (forms : FormsLaw) (offsets : OffsetsLaw) (ready : AreReady p) (k : ℕ) (v : Body)
      (there : slice_get (bodies (components p)) k ≡ Some v) where
    abbrev laid : LaidMethod
    laid = let r = body_read k v there in let a = r.at in a.laid

    abbrev offset : ℕ
    offset = let r = body_read k v there in let a = r.at in a.offset

    abbrev placed : slice_get (placed_methods p) k ≡ Some (placed_at offset laid)
    placed = let r = body_read k v there in let a = r.at in a.is_placed

    -- what stands at its offset
    bytes_there : (rest : List ℕ) × ((let c = components p in let m = c.method in drop (offset - methods_begin (part p))
        m.methods) ≡ header_of laid ++ rest)
    bytes_there =
        let st = bytes_stand (naming p) (part p) (placed_methods p) (methods_held forms offsets p ready) k (placed_at
        offset laid) placed in
        let far = st.after_handlers in
        let low : nat_le (methods_begin (part p)) offset ≡ true = grind (arith, nat_tests, far) in
        let code = Rattle.cjc_ncode.specs.Lowering.Placed.code_bytes (naming p)
        (Rattle.cjc_ncode.specs.Lowering.Placed.offset_of (naming p) (placed_at offset laid))
        (Rattle.cjc_ncode.specs.Lowering.Placed.first (placed_at offset laid)) (let c = laid.code in c.insns) laid.wide
        in (
          code ++ st.behind,
          sym (ap (λ (t : Bool). if t then (let c = components p in let m = c.method in drop (offset - methods_begin
              (part p)) m.methods) else []) low) ∙ st.bytes ∙ append_assoc (header_of laid) code st.behind,
        )

    -- its header says what its code says
    pub header_says : (v.header) ≡ record {
      max_stack = (let c = laid.code in c.max_stack);
      nargs = (let c = laid.code in c.nargs);
      max_locals = (let c = laid.code in c.max_locals);
      is_abstract = laid.is_abstract;
      size = Rattle.std.proofs.Common.length (header_of laid);
    }
    header_says =
        let s = body_stands (components p) whole k v there in
        let at = s.at in
        let cut = at.is_cut in
        let r = body_read k v there in
        let a = r.at in
        let b = bytes_there in
        sym s.header ∙ same_some (sym cut.is_header
        ∙ ap (λ n. Rattle.cjc_card_semantics.specs.CapRead.MethodHeader.method_header (let c = components p in let m
        = c.method in drop
        (n - methods_begin (part p)) m.methods)) a.said
        ∙ ap Rattle.cjc_card_semantics.specs.CapRead.MethodHeader.method_header b.1 ∙ header_read laid b.0)

    -- its handlers stand in the table
    pub handlers_there : HandlersStand (naming p) (placed_at offset laid) (part p)
    handlers_there = handlers_stand (naming p) (part p) (placed_methods p) (methods_held forms offsets p ready) k
        (placed_at offset laid) placed
