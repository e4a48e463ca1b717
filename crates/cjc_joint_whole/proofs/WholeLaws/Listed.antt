-- The static methods and constructors that the export file of a package lists, as other packages of a group use them.
use Rattle.std.proofs.Common.{◌≡◌, ◌+◌, refl, sym, ap, ◌∙◌, Bool, true, false, length, Some}
use Rattle.std.specs.Prelude.{◌&&◌, ◌||◌, not, option_map, slice_get}
use Rattle.std.proofs.lemmas.Option.{slice_get-map}
use Rattle.cjc_bytes.specs.AccessFlags.{is_interface, is_static}
use Rattle.cjc_bytes.specs.declared.fault.MemberId.{MemberId}
use Rattle.cjc_vtable.specs.LowerTokens.Members.{is_constructor, is_exposed, is_initialiser}
use Rattle.cjc_vtable.specs.LowerTokens.Methods.{is_open_bound}
use Rattle.cjc_components.specs.ExportFile.{export_class}
use Rattle.cjc_components.specs.Exports.{exported_classes, open_methods}
use Rattle.cjc_components.specs.Methods.{method_offset}
use Rattle.cjc_components.specs.Names.{member_token}
use Rattle.cjc_components.specs.Package.{Package, world}
use Rattle.cjc_jvm_semantics.specs.OnePackage.{ResolvedMember, method_hit}
use Rattle.cjc_joint_proof.specs.JointFixed.{ExportsMethod}
use Rattle.cjc_joint_proof.specs.Loading.{ListsMethods}
use Rattle.cjc_shape_proof.specs.Written.Entries.{UnboundAreOwn}
use Rattle.cjc_token_proof.specs.CardSemantics.Machine.Operations.{unbound_of}
use Rattle.cjc_world.specs.Classes.{Class, Member}
use Rattle.cjc_world.specs.ExportFile.declared.tree.ExportClass.{ExportClass}
use Rattle.cjc_world.specs.ExportFile.declared.tree.ExportMethod.{ExportMethod}
use Rattle.cjc_world.specs.Lookup.{member_at}
use Rattle.cjc_world.specs.declared.found.Found.{Found}

module _ (p : Package) (own : UnboundAreOwn p) where
  pub lists_methods : ListsMethods p
  lists_methods k t c m at found =
      let r = own k t c m at found in
      let it = r.1 in
      let opens = open_methods c (length c.fields) c.methods in (
        method_offset p (member_at c (length c.fields + it.place)),
        slice_get-map (method_offset p) opens t
            ∙ ap (λ j. option_map (method_offset p) (slice_get opens j)) (sym r.0)
            ∙ ap (option_map (method_offset p)) it.exported,
      )

  pub exports_method : (asker : Package) (entry : ExportClass) (c : Class)
      → slice_get (exported_classes p) entry.token ≡ Some c → export_class p c ≡ entry → is_interface c.flags ≡ false
      → (id : MemberId) (f : Found) (m : ExportMethod)
      → unbound_of entry.methods (member_token asker (Some f)) ≡ Some m → m.name ≡ id.name → m.desc ≡ id.desc
      → ((hit : ResolvedMember) → method_hit (world asker) f ≡ Some hit → hit.flags ≡ m.flags)
      → ExportsMethod asker p entry id f
  exports_method asker entry c at is kind id f m found name desc flags =
      let token = member_token asker (Some f) in
      let r = own entry.token token c m at (ap (λ (y : ExportClass). unbound_of y.methods token) is ∙ found) in
      let it = r.1 in
      let opens = open_methods c (length c.fields) c.methods in
      record {
        class = c;
        exported = at;
        is = is;
        no_interface = kind;
        place = it.place;
        member = it.member;
        there = it.there;
        shown = front it.member it.opened;
        by_token = ap (slice_get opens) (sym r.0) ∙ it.exported;
        name_is = ap (λ (y : ExportMethod). y.name) it.is ∙ name;
        desc_is = ap (λ (y : ExportMethod). y.desc) it.is ∙ desc;
        same_flags = λ hit e. flags hit e ∙ sym (ap (λ (y : ExportMethod). y.flags) it.is);
      }
    where
      front : (x : Member) → is_open_bound x ≡ true → is_exposed x.flags ≡ true
      front x e = by (is_exposed x.flags) (is_static x.flags || is_constructor x.name) (is_initialiser x.name) e
        where
          by : (a b i : Bool) → (a && b && not i) ≡ true → a ≡ true
          by true b i e = refl
          by false true true e = cc
          by false true false e = cc
          by false false i e = cc
