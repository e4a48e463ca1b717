-- The methods by token that a package's tokens keep of one of its classes.
use Rattle.std.proofs.Common.{◌≡◌, ℕ, ◌+◌, ap, ◌∙◌, Bool, false, [], ◌∷◌}
use Rattle.std.specs.Prelude.{if◌then◌else◌, slice_get, Some}
use Rattle.cjc_world.specs.ClassFile.declared.tree.ClassTree.{ClassTree}
use Rattle.cjc_world.specs.Files.{Files}
use Rattle.cjc_world.specs.Classes.{declared, all_classes}
use Rattle.cjc_world.specs.Bytes.AccessFlags.{is_interface}
use Rattle.cjc_tokens.specs.Lines.{line_at}
use Rattle.cjc_tokens.specs.Methods.{interface_row}
use Rattle.cjc_tokens.specs.Slots.{row, hidden_row}
use Rattle.cjc_tokens.specs.Tokens.{Assigned, assigned, public_in, package_in}
use Rattle.cjc_tokens.specs.Tokens.{public_methods_of, package_methods_of}
use Rattle.cjc_tokens.proofs.Means.{kept-at}

module _ (files : Files) (applets : Bool) (n : ℕ) (c : ClassTree) (there : slice_get files.classes n ≡ Some c)
    (plain : is_interface c.flags ≡ false) where
  pub public-row : (t : Assigned) → t ≡ assigned applets files → public_methods_of t n
      ≡ row (line_at (all_classes files) (declared n c))
  public-row t is = ap (λ q. public_methods_of q n) is ∙ ap public_in (kept-at files applets n c there).1
      ∙ ap (λ b. if b then interface_row (all_classes files) (declared n c)
      else row (line_at (all_classes files) (declared n c))) plain

  pub package-row : (t : Assigned) → t ≡ assigned applets files → package_methods_of t n
      ≡ hidden_row (line_at (all_classes files) (declared n c))
  package-row t is = ap (λ q. package_methods_of q n) is ∙ ap package_in (kept-at files applets n c there).1 ∙ ap
      (λ b. if b then []
      else hidden_row (line_at (all_classes files) (declared n c))) plain
