use Rattle.std.proofs.Common.{◌≡◌, ◌∙◌, ap, arith, sym, true, false, Bool}
use Rattle.std.specs.Prelude.{◌||◌, ◌&&◌}
use Rattle.std.specs.List.{list_any}
use Rattle.std.specs.Str.{bytes_eq}
use Rattle.cjc_world.specs.Bytes.AccessFlags.{is_interface}
use Rattle.cjc_world.specs.Exported.{shareable}
use Rattle.cjc_world.specs.Working.Known.{class_of}
use Rattle.cjc_exported.specs.ExportFile.Working.Sources.{world_in}
use Rattle.cjc_exported.proofs.ExportFile.Shareable.{shareable-named}
use Rattle.cjc_exported.proofs.export_file.class.is_shareable.Goals as goal

either : (r a b d : Bool) → a ≡ true → r ≡ a → r ≡ (a || (b && d))
either r a b d e f = grind arith

pub returns-then-names_shareable : goal.returns-then-names_shareable
returns-then-names_shareable c =
    let k = class_of c.args.class in
    either c.names_shareable.result (list_any (λ n. bytes_eq n shareable) c.args.names.now) (is_interface k.flags)
    (bytes_eq k.name shareable) (sym c.names_shareable.ensures ∙ c.if-names_shareable.true)
    c.names_shareable.ensures
    ∙ shareable-named (world_in c.args.source.now) k c.args.names.now c.requires

second : (r a b d : Bool) → a ≡ false → b ≡ true → r ≡ d → r ≡ (a || (b && d))
second r a b d e f g = grind arith

pub returns-then-is_interface : goal.returns-then-is_interface
returns-then-is_interface c =
    let k = class_of c.args.class in
    second c.eq.result (list_any (λ n. bytes_eq n shareable) c.args.names.now) (is_interface k.flags)
    (bytes_eq k.name shareable) (sym c.names_shareable.ensures ∙ c.if-names_shareable.false)
    (sym c.is_interface.ensures ∙ c.if-is_interface.true)
    (c.eq.ensures ∙ ap (λ n. bytes_eq n shareable) c.name.ensures)
    ∙ shareable-named (world_in c.args.source.now) k c.args.names.now c.requires

neither : (r a b d : Bool) → a ≡ false → b ≡ false → r ≡ b → r ≡ (a || (b && d))
neither r a b d e f g = grind arith

pub returns-else-is_interface : goal.returns-else-is_interface
returns-else-is_interface c =
    let k = class_of c.args.class in
    neither c.is_interface.result (list_any (λ n. bytes_eq n shareable) c.args.names.now) (is_interface k.flags)
    (bytes_eq k.name shareable) (sym c.names_shareable.ensures ∙ c.if-names_shareable.false)
    (sym c.is_interface.ensures ∙ c.if-is_interface.false) c.is_interface.ensures
    ∙ shareable-named (world_in c.args.source.now) k c.args.names.now c.requires
