-- So it is with each class of a package that others may name.
use Rattle.std.proofs.Common.{◌≡◌, ℕ, sym, ap, subst, ◌∙◌, List, []}
use Rattle.std.specs.Prelude.{slice_get}
use Rattle.cjc_bytes.specs.AccessFlags.{is_interface}
use Rattle.cjc_bytes.specs.declared.settings.Settings.{Settings}
use Rattle.cjc_components.specs.Bytecode.declared.method_code.MethodCode.{MethodCode}
use Rattle.cjc_components.specs.ExportFile.{export_class, method_entry}
use Rattle.cjc_components.specs.Package.{Package, world}
use Rattle.cjc_shape_proof.proofs.ExportedOwn.{own_class}
use Rattle.cjc_token_proof.specs.Subset.Checks.{check_breaks}
use Rattle.cjc_token_proof.specs.Tables.Sound.{IsSound}
use Rattle.cjc_tokens.specs.Lines.{line_at}
use Rattle.cjc_tokens.specs.Slots.{row}
use Rattle.cjc_vtable.proofs.Filed.{Has, get-has, has-get}
use Rattle.cjc_vtable.specs.Laws.{KeepsRules}
use Rattle.cjc_world.specs.Classes.{Class}
use Rattle.cjc_world.specs.Upwards.{IsOrdered}
use Rattle.cjc_joint_whole.specs.Entries.{IsOwnVirtual, MeantAreListed, VirtualAreOwn}
use Rattle.cjc_joint_whole.proofs.WholeLaws.Virtual.{entry_is_own, meant_is_listed}

module _ (list : List ℕ) (p : Package) (codes : List MethodCode) (settings : Settings) (sound : IsSound list p.files)
    (checks : check_breaks list p.files codes settings ≡ []) (ordered : IsOrdered (world p)) (rules : KeepsRules
    (world p)) where
  pub virtual_are_own : VirtualAreOwn p
  virtual_are_own k i c e at kind there bound =
      let o = own_class p k c at in
      subst (λ (d : Class). IsOwnVirtual p d e) (sym o.is)
      (entry_is_own list p codes settings sound checks ordered rules o.number o.tree o.is_tree
      (ap (λ (d : Class). is_interface d.flags) (sym o.is) ∙ kind) e
      (subst (λ (d : Class). Has e (let x = export_class p d in x.methods)) o.is
      (get-has e (let x = export_class p c in x.methods) i there)) bound)

  pub meant_are_listed : MeantAreListed p
  meant_are_listed k t c f m at kind there meant exposed =
      let o = own_class p k c at in
      has-get (method_entry t m) (let x = export_class p c in x.methods)
      (subst (λ (d : Class). Has (method_entry t m) (let x = export_class p d in x.methods)) (sym o.is)
      (meant_is_listed list p codes settings sound checks ordered rules o.number o.tree o.is_tree
      (ap (λ (d : Class). is_interface d.flags) (sym o.is) ∙ kind) t f m
      (ap (λ (d : Class). slice_get (row (line_at (world p) d)) t) (sym o.is) ∙ there) meant exposed))
