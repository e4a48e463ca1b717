-- The methods of interfaces that a package's code calls are found, and have tokens.
use Rattle.std.proofs.Common.{◌≡◌, ℕ, refl, sym, ap, subst, ◌∙◌, arith, Bool, true, false, not, ◌&&◌, ◌||◌}
use Rattle.std.proofs.Common.{List, [], length}
use Rattle.std.specs.Prelude.{◌-◌, ◌+◌, ◌<◌, Option, Some, None, option_and_then, option_map, slice_get}
use Rattle.cjc_exported.specs.Bytes.AccessFlags.{is_interface}
use Rattle.cjc_exported.specs.Bytes.Breaks.{each_from}
use Rattle.cjc_exported.specs.Bytes.Order.{file_of}
use Rattle.cjc_exported.specs.Bytes.declared.fault.MemberId.{MemberId}
use Rattle.cjc_exported.specs.ClassFile.Code.{CodeTree}
use Rattle.cjc_exported.specs.ClassFile.declared.tree.ClassTree.{ClassTree}
use Rattle.cjc_exported.specs.ClassFile.declared.tree.MethodTree.{MethodTree}
use Rattle.cjc_methods.specs.Bytecode.declared.insn.JInsn.{JInsn}
use Rattle.cjc_methods.specs.Bytecode.declared.insn.JOp.TheVariants as jop
use Rattle.cjc_methods.specs.Bytecode.declared.method_code.MethodCode.{MethodCode}
use Rattle.cjc_narrow_proof.specs.ExportFile.Writable.{IsWritable}
use Rattle.cjc_narrow_proof.specs.ExportFile.declared.tree.ExportTree.{ExportTree}
use Rattle.cjc_methods.specs.JvmSemantics.OnePackage.{method_hit}
use Rattle.cjc_methods.specs.Narrow.Rows.Resolved.{by_owner, resolved_method}
use Rattle.cjc_methods.specs.LowerPool.Pool.{token_of}
use Rattle.cjc_methods.specs.Subset.Members.{ResolvedMember, hit, hit_of, is_array, is_initialiser}
use Rattle.cjc_methods.proofs.SubsetCallees.{method_unfound}
use Rattle.cjc_methods.specs.Subset.Names.{code_breaks, insn_breaks, is_hidden, is_name_missing}
use Rattle.cjc_methods.specs.Subset.Names.{is_not_found, is_unfit_call, is_unfit_class}
use Rattle.cjc_methods.specs.Subset.Names.{is_unfit_method}
use Rattle.cjc_methods.specs.Subset.Names.{method_breaks, name_breaks, names_missing, names_unfit, names_unfound}
use Rattle.cjc_methods.specs.Subset.Places.{of_class, of_method}
use Rattle.cjc_methods.specs.Tokens.Rules.{token_breaks}
use Rattle.cjc_methods.specs.Tokens.Tokens.{assigned, token_of_member}
use Rattle.cjc_methods.specs.Types.Tables.{IsMethodOf}
use Rattle.cjc_narrow_proof.proofs.VTableFiled.{at-number}
use Rattle.cjc_exported.specs.World.Classes.{Class, all_classes, class_named}
use Rattle.cjc_exported.specs.World.Files.{Files}
use Rattle.cjc_exported.specs.World.Supertypes.{IsAcyclic}
use Rattle.cjc_exported.specs.World.Lookup.{find_method}
use Rattle.cjc_exported.specs.World.Rules.{is_desc_missing}
use Rattle.cjc_exported.specs.World.declared.found.Found.{Found}
use Rattle.cjc_shape.proofs.JudgedLaws.Owners.{IsOwn, found_again, found_own, own_at, owner_hit}
use Rattle.cjc_shape.proofs.JudgedLaws.Tokens.{interface_tokens}
use Rattle.cjc_methods.proofs.BytesBools.{not_false, or_left, or_right}
use Rattle.cjc_methods.proofs.BytesBrokenRules.{not_broken, each_at}
use Rattle.cjc_methods.proofs.BytesLists.{none_left, none_right}

-- a name that is there, of no array, is found
found_by : (missing array : Bool) (o : Option Found) → missing ≡ false → (not missing && (array || is_not_found o))
    ≡ false → (f : Found) × (o ≡ Some f)
found_by true array o m e = cc
found_by false array None m e = absurd (let h = or_right array true e in cc)
found_by false array (Some f) m e = (f, refl)

-- ---- what an invokeinterface names

-- A method that an interface declares itself, by the name of that interface; it is found there, and is no initialiser.
pub record IsDeclared (files : Files) (id : MemberId) : Type 0 where
  pub at : Found
  pub owner : Class
  pub own : IsOwn owner id.name id.desc at
  pub named : class_named (all_classes files) owner.name ≡ Some owner
  pub by_owner : id.class ≡ owner.name
  pub found : find_method (all_classes files) id.class id.name id.desc ≡ Some at
  pub interface : is_interface owner.flags ≡ true
  pub plain : is_initialiser id.name ≡ false

module _ (files : Files) (acyclic : IsAcyclic (all_classes files)) (holder : ClassTree) (id : MemberId) where
  abbrev w : List Class
  w = all_classes files

  module _ (there : names_missing w (jop.Call 0xB9 id) ≡ false) (found : names_unfound w (jop.Call 0xB9 id) ≡ false)
      (fit : names_unfit files holder (jop.Call 0xB9 id) ≡ false) where
    -- it is in an interface, and no initialiser
    pub record IsOfInterface : Type 0 where
      pub at : Found
      pub owner : Class
      pub own : IsOwn owner id.name id.desc at
      pub named : class_named w owner.name ≡ Some owner
      pub resolved : resolved_method w id ≡ record { class = owner.name; name = id.name; desc = id.desc }
      pub again : find_method w owner.name id.name id.desc ≡ Some at
      pub interface : is_interface owner.flags ≡ true
      pub plain : is_initialiser id.name ≡ false

    pub of_interface : IsOfInterface
    unfolding names_missing names_unfit hit
    of_interface =
        let f = found_by (is_name_missing w id.class) (is_array id.class) (find_method w id.class id.name id.desc)
        (or_left (is_name_missing w id.class) (is_desc_missing w id.desc) there) (method_unfound w id 0xB9 found) in
        let o = found_own id.name id.desc f.0 w acyclic id.class f.1 in
        let d = o.0 in
        let own = own_at d id.name id.desc f.0 o.2 in
        let place : length d.fields + own.place - length d.fields ≡ own.place = omega arith in
        let told : hit w false (find_method w id.class id.name id.desc) ≡ Some (record {
          owner = d;
          flags = own.member.flags;
        }) =
        ap (hit w false) (f.1 ∙ ap Some own.is_place)
        ∙ ap (hit_of false (record {
          imported = d.is_imported;
          class = d.number;
          member = length d.fields + own.place;
        })) (at-number files d.name d o.1)
        ∙ ap (λ k. option_map (λ m. record { owner = d; flags = m.flags }) (slice_get d.methods k)) place
        ∙ ap (option_map (λ m. record { owner = d; flags = m.flags })) own.is_member in
        let h : ResolvedMember = record { owner = d; flags = own.member.flags } in
        let fine : is_unfit_method w holder 0xB9 id (Some h) ≡ false = sym (ap (is_unfit_method w holder 0xB9 id) told)
        ∙ fit in
        let class : is_unfit_class w holder 0xB9 id h ≡ false = or_right (is_hidden w holder id h
        || is_unfit_call 0xB9 id.name h.flags) (is_unfit_class w holder 0xB9 id h) fine in
        let call : is_unfit_call 0xB9 id.name h.flags ≡ false = or_right (is_hidden w holder id h)
        (is_unfit_call 0xB9 id.name h.flags) (or_left (is_hidden w holder id h
        || is_unfit_call 0xB9 id.name h.flags) (is_unfit_class w holder 0xB9 id h) fine) in
        record {
          at = f.0;
          owner = d;
          own = own;
          named = o.1;
          resolved = ap (λ x. by_owner id (option_and_then (method_hit w) x)) f.1
              ∙ ap (by_owner id) (owner_hit files d id.name id.desc f.0 o.1 own);
          again = found_again id.name id.desc f.0 w acyclic d o.1 o.2;
          interface = not_false (is_interface d.flags) class;
          plain = or_right _ (is_initialiser id.name) (or_left _ _ call);
        }

    -- so what it resolves to is declared
    pub resolved_declared : IsDeclared files (resolved_method w id)
    resolved_declared =
        let of = of_interface in
        subst (IsDeclared files) (sym of.resolved)
        (record {
          at = of.at;
          owner = of.owner;
          own = of.own;
          named = of.named;
          by_owner = refl;
          found = of.again;
          interface = of.interface;
          plain = of.plain;
        })

    module _ (applets : Bool) (unbroken : token_breaks applets files ≡ []) (writable : (e : ℕ) (t : ExportTree)
        → slice_get files.exports e ≡ Some t → IsWritable t) where
      -- and has a token of one byte
      pub resolved_token : (t : ℕ) × (token_of files (assigned applets files) (resolved_method w id) ≡ Some t)
          × (t < 256)
      resolved_token =
          let of = of_interface in
          let t = interface_tokens files applets unbroken writable of.owner of.named id.name id.desc of.at of.own
          of.interface of.plain in (
            t.0,
            ap (token_of files (assigned applets files)) of.resolved
                ∙ ap (option_and_then (token_of_member (assigned applets files))) of.again ∙ t.1,
            t.2,
          )

-- ---- the rules of names at an instruction

module _ (files : Files) (codes : List MethodCode) (unbroken : name_breaks files codes ≡ []) (place : ℕ)
    (code : MethodCode) (is_code : slice_get codes place ≡ Some code)
    (class : ClassTree) (method : MethodTree) (tree : CodeTree) (is : IsMethodOf files code class method tree) where
  module _ (k : ℕ) (i : JInsn) (e : slice_get code.insns k ≡ Some i) where
    insn_unbroken : insn_breaks files (file_of files.lines code.class) class code.method method i ≡ []
    unfolding name_breaks code_breaks method_breaks
    insn_unbroken =
        let f = file_of files.lines code.class in
        let here : code_breaks files code ≡ [] = each_at (λ _ c. code_breaks files c) place codes code unbroken is_code
        in
        let mine : method_breaks files f class code.method method code.insns ≡ [] =
        sym (ap (of_method (λ g c m. method_breaks files g c code.method m code.insns) f class) is.is_method)
        ∙ sym (ap (of_class (λ g c m. method_breaks files g c code.method m code.insns) f code.method) is.is_class)
        ∙ here in
        each_at (λ _ x. insn_breaks files f class code.method method x) k code.insns i
        (none_left (each_from (λ _ x. insn_breaks files f class code.method method x) 0 code.insns) _ mine) e

    pub is_there : names_missing (all_classes files) i.op ≡ false
    unfolding insn_breaks
    is_there = not_broken _ _ 203 (none_left _ _ (none_left _ _ (none_left _ _ insn_unbroken)))

    pub is_found : names_unfound (all_classes files) i.op ≡ false
    unfolding insn_breaks
    is_found = not_broken _ _ 205 (none_right _ _ (none_left _ _ (none_left _ _ insn_unbroken)))

    pub is_fit : names_unfit files class i.op ≡ false
    unfolding insn_breaks
    is_fit = not_broken _ _ 206 (none_right _ _ insn_unbroken)
