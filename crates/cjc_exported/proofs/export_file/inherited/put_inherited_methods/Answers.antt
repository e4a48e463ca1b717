use Rattle.std.proofs.Common.{◌≡◌, ◌∙◌, ◌++◌, ap, sym, subst, true, false}
use Rattle.std.specs.Prelude.{if◌then◌else◌, OnOk, Some}
use Rattle.cjc_world.specs.Bytes.AccessFlags.{is_interface}
use Rattle.cjc_world.specs.Classes.{class_at}
use Rattle.cjc_world.specs.Working.Known.{class_of}
use Rattle.cjc_components.specs.LowerTokens.Lines.{line_at}
use Rattle.cjc_components.specs.LowerTokens.Methods.{interface_methods, interface_row}
use Rattle.cjc_components.specs.LowerTokens.Slots.{row}
use Rattle.cjc_components.specs.LowerTokens.Working.{signs}
use Rattle.cjc_components.specs.ExportFile.{inherited, inherited_from, supers_from}
use Rattle.cjc_components.specs.Package.{has_applets}
use Rattle.cjc_exported.specs.ExportFile.Working.Sources.{package_in, world_in}
use Rattle.cjc_exported.proofs.ExportFile.Methods.{public-methods}
use Rattle.cjc_exported.proofs.export_file.inherited.put_inherited_methods.Goals as goal

pub returns-in_ok-slots : goal.returns-in_ok-slots
returns-in_ok-slots c =
    let k = class_of c.args.class in
    let s = c.args.source.now in
    let w = world_in s in
    let there : class_at w false k.number ≡ Some k = ap (λ b. class_at w b k.number) (sym c.requires.own)
    ∙ c.requires.numbered in
    let kind : is_interface k.flags ≡ true = sym c.is_interface.ensures ∙ c.if-is_interface.true in
    let means : c.methods_by_token-row.result.now ≡ interface_row w k = c.methods_by_token-row.ensures
    ∙ public-methods s.world.now (has_applets (package_in s)) k there ∙ ap (λ b. if b then interface_row w k
    else row (line_at w k)) kind in
    let all : supers_from w k 0 (interface_methods w k) c.methods_by_token-row.result.now ≡ inherited w k =
    ap (supers_from w k 0 (interface_methods w k)) means
    ∙ sym (ap (λ b. if b then supers_from w k 0 (interface_methods w k) (interface_row w k)
    else inherited_from w k 0 (row (line_at w k))) kind) in
    subst (λ ys. OnOk c.put_all_from_above.result (c.put_all_from_above.new.methods ≡ c.args.methods.now ++ ys)) all
    (c.put_all_from_above.ensures (interface_methods w k) (ap signs c.deref.ensures.value ∙ c.in_ok-slots.ensures))

pub returns-else-is_interface : goal.returns-else-is_interface
returns-else-is_interface c =
    let k = class_of c.args.class in
    let s = c.args.source.now in
    let w = world_in s in
    let there : class_at w false k.number ≡ Some k = ap (λ b. class_at w b k.number) (sym c.requires.own)
    ∙ c.requires.numbered in
    let kind : is_interface k.flags ≡ false = sym c.is_interface.ensures ∙ c.if-is_interface.false in
    let means : c.methods_by_token-row.result.now ≡ row (line_at w k) = c.methods_by_token-row.ensures
    ∙ public-methods s.world.now (has_applets (package_in s)) k there ∙ ap (λ b. if b then interface_row w k
    else row (line_at w k)) kind in
    let all : inherited_from w k 0 c.methods_by_token-row.result.now ≡ inherited w k =
    ap (inherited_from w k 0) means
    ∙ sym (ap (λ b. if b then supers_from w k 0 (interface_methods w k) (interface_row w k)
    else inherited_from w k 0 (row (line_at w k))) kind) in
    subst (λ ys. OnOk c.put_all_inherited.result (c.put_all_inherited.new.methods ≡ c.args.methods.now ++ ys)) all
    c.put_all_inherited.ensures
