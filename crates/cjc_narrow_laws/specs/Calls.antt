-- When a call by an opcode fits the method that it names.
use Rattle.std.specs.Prelude.{◌≡◌, ◌==◌, ◌||◌, ℕ, true, false, List}
use Rattle.cjc_bytes.specs.AccessFlags.{is_static}
use Rattle.cjc_world.specs.Lookup.{is_selectable}
use Rattle.cjc_by_name.specs.OnePackage.{is_constructor, is_initialiser}

-- 182 is invokevirtual, 183 invokespecial, 184 invokestatic, 185 invokeinterface.
pub record CallFits (op : ℕ) (name : List ℕ) (flags : ℕ) : Type 0 where
  pub no_initialiser : is_initialiser name ≡ false
  pub no_constructor : (op == 183) ≡ false → is_constructor name ≡ false
  pub of_class : (op == 184) ≡ true → is_static flags ≡ true
  pub on_object : (op == 184) ≡ false → is_static flags ≡ false
  pub selectable : (op == 184) ≡ false → ((op == 182) || (op == 185)) ≡ true → is_selectable flags ≡ true
