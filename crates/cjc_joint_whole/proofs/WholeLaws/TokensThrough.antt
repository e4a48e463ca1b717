-- Virtual tokens through export files of a group: what a package reads of a class that another one exports are the
-- tokens that the class has there, and each public or protected method that the class means by a token it reads.
use Rattle.std.proofs.Common.{◌≡◌, ℕ, zero, suc, refl, sym, ap, subst, ◌∙◌, Bool, true, false, List, [], ◌∷◌}
use Rattle.std.specs.Prelude.{not, ◌&&◌, ◌||◌, Some, slice_get}
use Rattle.cjc_bytes.specs.AccessFlags.{is_interface, is_private, is_static}
use Rattle.cjc_bytes.proofs.Bools.{both_front}
use Rattle.cjc_bytes.proofs.Gets.{item_there, mapped_at}
use Rattle.cjc_components.specs.Class.{is_shareable}
use Rattle.cjc_components.specs.ExportFile.{export_class, export_of, method_entry, method_meant}
use Rattle.cjc_components.specs.Package.{Package, world}
use Rattle.cjc_joint_proof.specs.JointPackages.{AreLinked}
use Rattle.cjc_joint_proof.proofs.ClassLaws.{number_of, sound_at}
use Rattle.cjc_joint_proof.proofs.ExportLaws.{Exporting, exporting}
use Rattle.cjc_joint_proof.proofs.FlagLaws.{interface_kept}
use Rattle.cjc_joint_proof.proofs.LoadLaws.{external_at}
use Rattle.cjc_shape_proof.proofs.ExportedOwn.{own_class}
use Rattle.cjc_token_proof.proofs.TablesLaws.Clean.{own_name}
use Rattle.cjc_token_proof.proofs.TablesLaws.Filed.{own_in}
use Rattle.cjc_token_proof.specs.CardSemantics.Machine.Classes.{with_token}
use Rattle.cjc_token_proof.specs.Tables.Infos.{HasEntry}
use Rattle.cjc_token_proof.specs.Tables.Loading.{loaded}
use Rattle.cjc_tokens.specs.Lines.{line_at, line_of}
use Rattle.cjc_tokens.specs.Members.{In, all_methods, first_of, is_constructor, is_exposed, is_initialiser, is_shown}
use Rattle.cjc_tokens.specs.Members.{is_virtual, later, signature_of}
use Rattle.cjc_tokens.specs.Slots.{row, slots, token}
use Rattle.cjc_vtable.proofs.Calls.{In-front}
use Rattle.cjc_vtable.specs.Laws.{TokensAreOnce, TokensOnce, itself}
use Rattle.cjc_world.proofs.Cycles.{class_named-name}
use Rattle.cjc_world.specs.Classes.{Class, Member, class_named, declared, method_of_export}
use Rattle.cjc_world.specs.ExportFile.Members.{is_unbound}
use Rattle.cjc_world.specs.ExportFile.declared.tree.ExportClass.{ExportClass}
use Rattle.cjc_world.specs.ExportFile.declared.tree.ExportMethod.{ExportMethod}
use Rattle.cjc_world.specs.Supertypes.{supertypes, upwards}
use Rattle.cjc_world.specs.declared.found.Found.{Found}
use Rattle.cjc_joint_whole.specs.Entries.{MeantAreListed, VirtualAreOwn}

-- a method in the list
in_list : (ms : List Member) (i : ℕ) (m : Member) → slice_get ms i ≡ Some m → In m ms
in_list [] i m e = cc
in_list (x ∷ ms) zero m e = first_one x m e
  where
    same : {a b : Member} → Some a ≡ Some b → a ≡ b
    same e = cc

    first_one : (x m : Member) → Some x ≡ Some m → In m (x ∷ ms)
    first_one x m e = subst (λ (y : Member). In m (y ∷ ms)) (sym (same e)) first_of
in_list (x ∷ ms) (suc i) m e = later (in_list ms i m e)

-- a virtual method has a virtual token
virtual_bound : (m : Member) → is_virtual m ≡ true → is_unbound m.flags m.name ≡ false
virtual_bound m e = by (is_private m.flags) (is_static m.flags) (is_constructor m.name) (is_initialiser m.name) e
  where
    by : (q s c i : Bool) → ((not q && not s) && not (c || i)) ≡ true → (s || c) ≡ false
    by true s c i e = cc
    by false true c i e = cc
    by false false true i e = cc
    by false false false i e = refl

module _ (packages : List Package) (linked : AreLinked packages) (q r : ℕ) (p e : Package)
    (here : slice_get packages q ≡ Some p) (there : slice_get packages r ≡ Some e) (x : List ℕ) (c : Class)
    (known : class_named (world p) x ≡ Some c) (import : c.is_imported ≡ true) (kind : is_interface c.flags ≡ false)
    (h : HasEntry p c) (same : h.tree ≡ export_of e) where
  listed : (let files = p.files in slice_get files.exports h.file ≡ Some (export_of e))
  listed = h.in_list ∙ ap Some same

  told : (let t = export_of e in with_token t.classes (let y = h.entry in y.token) ≡ Some h.entry)
  told = sym (external_at (loaded p) h.file (let y = h.entry in y.token) (Some (export_of e)) listed) ∙ h.there

  out : Exporting packages q r p e h.file (let y = h.entry in y.token) h.entry here there listed (number_of packages
      linked r e there) told
  out = exporting packages q r p e h.file (let y = h.entry in y.token) h.entry here there listed (number_of packages
      linked r e there) told

  is_named : (let o = out in let v = o.class in v.name) ≡ x
  is_named = (let o = out in o.name) ∙ sym (ap (λ (y : Class). y.name) h.class) ∙ class_named-name (world p) x c known

  plain : is_interface (let o = out in let v = o.class in v.flags) ≡ false
  plain =
      let o = out in
      let v = o.class in
      sym (ap (λ (y : Class). is_interface y.flags) h.class ∙ ap (λ (y : ExportClass). is_interface y.flags)
      (sym o.written) ∙ interface_kept v.flags (is_shareable (world e) v)) ∙ kind

  -- a method of the class is one of the entries
  entry_at : (i : ℕ) (m : Member) → slice_get c.methods i ≡ Some m → (y : ExportMethod)
      × (let v = export_class e (let o = out in o.class) in slice_get v.methods i ≡ Some y)
      × (method_of_export y ≡ m)
  entry_at i m at =
      let y = mapped_at method_of_export (let v = h.entry in v.methods) i m (ap (λ (v : Class). slice_get v.methods i)
      (sym h.class) ∙ at) in
      (y.0, ap (λ (v : ExportClass). slice_get v.methods i) (let o = out in o.written) ∙ y.1, y.2)

  pub listed_tokens : VirtualAreOwn e → (i : ℕ) (m : Member) → slice_get c.methods i ≡ Some m → is_virtual m ≡ true
      → token (slots (line_of (world e) x)) (signature_of m) ≡ Some m.token
  listed_tokens own i m at virtual =
      let y = entry_at i m at in
      let bound : is_unbound y.0.flags y.0.name ≡ false = ap (λ (v : Member). is_unbound v.flags v.name) y.2
      ∙ virtual_bound m virtual in
      let o = out in
      let v = own (let z = h.entry in z.token) i o.class y.0 o.at plain y.1 bound in
      let sign : signature_of v.member ≡ signature_of m = ap (λ (z : ExportMethod). signature_of (method_of_export z))
      v.is
      ∙ ap signature_of y.2 in
      ap (λ n. token (slots (line_of (world e) n)) (signature_of m)) (sym is_named)
      ∙ ap (token (slots (line_of (world e) (let w = o.class in w.name)))) (sym sign)
      ∙ v.its_token
      ∙ ap (λ (z : Member). Some z.token) y.2

  -- a virtual method of the class is public or protected
  pub listed_exposed : VirtualAreOwn e → (i : ℕ) (m : Member) → slice_get c.methods i ≡ Some m → is_virtual m ≡ true
      → is_exposed m.flags ≡ true
  listed_exposed own i m at virtual =
      let y = entry_at i m at in
      let bound : is_unbound y.0.flags y.0.name ≡ false = ap (λ (v : Member). is_unbound v.flags v.name) y.2
      ∙ virtual_bound m virtual in
      let o = out in
      let v = own (let z = h.entry in z.token) i o.class y.0 o.at plain y.1 bound in
      ap (λ (k : Member). is_exposed k.flags) (sym y.2) ∙ ap (λ (z : ExportMethod). is_exposed z.flags) (sym v.is)
      ∙ v.exposed

  pub meant_tokens : MeantAreListed e → TokensAreOnce (world p) → (k : Class) → class_named (world e) x ≡ Some k
      → (t : ℕ) (f : Found) (m : Member) → slice_get (row (line_at (world e) k)) t ≡ Some (Some f)
      → method_meant (world e) f ≡ Some m → is_shown m ≡ true
      → token (slots (line_of (world p) x)) (signature_of m) ≡ Some t
  meant_tokens all once k named t f m at meant shown =
      let o = out in
      let v = own_class e (let z = h.entry in z.token) o.class o.at in
      let s = sound_at packages linked r e there in
      let u = s.sound in
      let its : class_named (world e) (let a = v.tree in a.name) ≡ Some (declared v.number v.tree) = own_name s.list
      e.files u (declared v.number v.tree) (own_in e.files u.classes u.exports v.number v.tree v.is_tree) in
      let called : (let a = v.tree in a.name) ≡ x = sym (ap (λ (y : Class). y.name) v.is) ∙ is_named in
      let both : Some (declared v.number v.tree) ≡ Some k = sym its ∙ ap (class_named (world e)) called ∙ named in
      let is_it : declared v.number v.tree ≡ k = cc in
      let one : o.class ≡ k = v.is ∙ is_it in
      let i = all (let z = h.entry in z.token) t o.class f m o.at plain (ap (λ (y : Class). slice_get (row (line_at
      (world e) y)) t) one ∙ at) meant (both_front (is_exposed m.flags) (is_virtual m) shown) in
      let n : Member = method_of_export (method_entry t m) in
      let member : slice_get c.methods i.0 ≡ Some n = ap (λ (y : Class). slice_get y.methods i.0) h.class
      ∙ item_there method_of_export (let y = h.entry in y.methods) i.0 (method_entry t m) (ap (λ (y : ExportClass).
      slice_get y.methods i.0) (sym o.written) ∙ i.1) in
      let tokens : TokensOnce (world p) x x = once x x c c known kind known itself in
      tokens.listed c n known import (In-front n c.methods (all_methods (upwards (supertypes (world p) c.supers)))
      (in_list c.methods i.0 n member)) shown
