-- Methods of a package by their modes that are in int mode: what is written for them, and their room.
use Rattle.std.proofs.Common.{◌≡◌, ℕ, refl, sym, ap, subst, ◌∙◌, Bool, true, false, List, [], slice_get, Some}
use Rattle.std.specs.Prelude.{not, ◌&&◌, ◌||◌}
use Rattle.cjc_types.proofs.BytesBools.{or_right}
use Rattle.cjc_types.proofs.BytesGets.{none_each}
use Rattle.cjc_types.specs.Bytecode.declared.method_code.MethodCode.{MethodCode}
use Rattle.cjc_types.specs.Flow.{Body as BodyByName}
use Rattle.cjc_types.specs.World.Classes.{Class, all_classes, class_at}
use Rattle.cjc_check_proof.specs.JvmSemantics.Linked.{Method}
use Rattle.cjc_check_proof.specs.JvmSemantics.OnePackage.{method_at}
use Rattle.cjc_check_proof.specs.LowerComponents.Descriptor.{method_in}
use Rattle.cjc_check_proof.specs.LowerComponents.Limits.{has_many_words, in_class, method_spot, of_methods}
use Rattle.cjc_check_proof.specs.LowerList.Listed.{ListTree}
use Rattle.cjc_int_mode.specs.Bytes.Breaks.{at}
use Rattle.cjc_int_mode.specs.Room.{IsRoom, LacksRoom}
use Rattle.cjc_int_mode.specs.Written.{written_in_int_mode}
use Rattle.cjc_int_mode.specs.declared.modes.Mode.{Mode}
use Rattle.cjc_int_mode.specs.declared.modes.Mode.TheVariants as modes
use Rattle.cjc_int_package.specs.Limits.{lacks_int_room, lacks_room, word_breaks_by_modes}
use Rattle.cjc_int_package.specs.Modes.{Tables, is_int}
use Rattle.cjc_int_package.specs.Written.{IsPackageByModes, code_by_mode, code_in}
use Rattle.cjc_int_package.proofs.Room.{told_in_int_mode}
use Rattle.cjc_verify.specs.Components.Package.{LaidMethod, Package, pool, world}
use Rattle.cjc_verify.specs.Narrow.Rows.Package.{flags_of, read_of, tree_of}
use Rattle.cjc_verify.specs.Narrow.Rows.Resolved.{method_found, resolution}
use Rattle.cjc_verify.specs.Narrow.Rows.Selected.{near_fields}

module _ (p : Package) (t : Tables) (k : ℕ) (laid : LaidMethod) (is_laid : slice_get p.methods k ≡ Some laid)
    (x : Method) (named : method_at p.files laid.member ≡ Some x) (mode : t.mode x ≡ modes.Int) where
  -- what inference reads of it
  abbrev body : BodyByName
  body = read_of x (flags_of (method_found (all_classes p.files) x.id))

  pub is_written : (list : ListTree) (codes : List MethodCode) → IsPackageByModes list p.files codes t p → laid.code
      ≡ written_in_int_mode (resolution p.files (near_fields (pool p)) (let id = x.id in id.class)) (tree_of x)
      (read_of x
      (flags_of (method_found (all_classes p.files) x.id))) (t.types x) (t.ranges x)
  is_written list codes is =
      let q = is.methods k laid is_laid in
      q.code
      ∙ ap (code_by_mode p.files (near_fields (pool p)) t laid.member) named
      ∙ ap (λ (m : Mode). code_in p.files (near_fields (pool p)) t m x) mode

  pub has_room : of_methods p (word_breaks_by_modes t p) ≡ [] → (c : Class) → (let f = laid.member in class_at (world p)
      f.imported f.class) ≡ Some c → LacksRoom (read_of x (flags_of (method_found (all_classes p.files) x.id)))
      (t.types x)
      modes.Int → ⊥
  has_room none c of =
      let f = laid.member in
      let member = method_in (world p) c f.member in
      let here = none_each (λ (m : LaidMethod). let g = m.member in in_class (word_breaks_by_modes t p) m
      (class_at (world p) g.imported g.class)) p.methods k laid none is_laid in
      let its : at (has_many_words member || lacks_int_room t p.files (method_at p.files f)) (method_spot p c f
      member 0) 417
      ≡ [] = sym (ap (in_class (word_breaks_by_modes t p) laid) of) ∙ here in
      let off = or_right (has_many_words member) (lacks_int_room t p.files (method_at p.files f)) (off_where
      (has_many_words member || lacks_int_room t p.files (method_at p.files f)) its) in
      let lacks : lacks_room body (t.types x) ≡ false = sym (ap (lacks_int_room t p.files) named ∙ ap (λ (m : Mode).
      is_int m && lacks_room body (t.types x)) mode) ∙ off in
      subst (λ b. IsRoom body (t.types x) modes.Int (not b)) lacks (told_in_int_mode body (t.types x))
    where
      off_where : (b : Bool) → at b (let g = laid.member in let member = method_in (world p) c g.member in
          method_spot p c
          g member 0) 417 ≡ [] → b ≡ false
      off_where false e = refl
      off_where true e = absurd cc
