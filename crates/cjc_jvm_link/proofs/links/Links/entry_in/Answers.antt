use Rattle.std.proofs.Common.{◌≡◌, ◌∙◌, ◌+◌, ◌<◌, ap, sym, [], length, get_or, true, false}
use Rattle.std.specs.Prelude.{Some, None, position, if◌then◌else◌}
use Rattle.std.proofs.lemmas.Option.{slice_get-get_or}
use Rattle.cjc_world.specs.Bytes.AccessFlags.{is_static}
use Rattle.cjc_world.specs.Classes.{Member}
use Rattle.cjc_world.specs.Lookup.{is_called, member_at}
use Rattle.cjc_world.specs.Working.Known.{class_of}
use Rattle.cjc_world.proofs.Places.{position_within}
use Rattle.cjc_jvm_semantics.specs.OnePackage.{method_at}
use Rattle.cjc_jvm_link.proofs.Found.{no_entry, entry_of}
use Rattle.cjc_jvm_link.proofs.links.Links.entry_in.Goals as goal

abbrev nothing : Member
nothing = record { flags = 0; name = []; desc = []; token = 0 }

pub returns-in_default : goal.returns-in_default
returns-in_default c =
    let class = class_of c.args.class in
    let none : position (λ m. is_called c.args.id.now.name c.args.id.now.desc m) class.methods ≡ None =
    ap (λ n. position (λ m. is_called n c.args.id.now.desc m) class.methods) (sym c.items.ensures)
    ∙ ap (λ d. position (λ m. is_called c.items.result.now d m) class.methods) (sym c.items-2.ensures)
    ∙ sym c.in_default.ensures in
    sym (no_entry c.args.self.now.files c.args.id.now class none)

pub returns-then-not-is_static : goal.returns-then-not-is_static
returns-then-not-is_static c =
    let files = c.args.self.now.files in
    let id = c.args.id.now in
    let class = class_of c.args.class in
    let place = c.in-Some.place in
    let found : position (λ m. is_called id.name id.desc m) class.methods ≡ Some place =
    ap (λ n. position (λ m. is_called n id.desc m) class.methods) (sym c.items.ensures)
    ∙ ap (λ d. position (λ m. is_called c.items.result.now d m) class.methods) (sym c.items-2.ensures)
    ∙ sym c.in-Some.ensures in
    let inside : place < length class.methods = position_within (λ m. is_called id.name id.desc m) class.methods place
    found in
    let member = get_or class.methods place nothing in
    let static : is_static member.flags ≡ false = ap is_static (sym (c.member_flags.ensures nothing))
    ∙ sym c.is_static.ensures ∙ c.if-not-is_static.true in
    sym (entry_of files id class place member found (slice_get-get_or class.methods place nothing inside)
    ∙ ap (λ t. if t then method_at files (member_at class (length class.fields + place)) else None) static)

pub returns : goal.returns
returns c =
    let files = c.args.self.now.files in
    let id = c.args.id.now in
    let class = class_of c.args.class in
    let place = c.in-Some.place in
    let found : position (λ m. is_called id.name id.desc m) class.methods ≡ Some place =
    ap (λ n. position (λ m. is_called n id.desc m) class.methods) (sym c.items.ensures)
    ∙ ap (λ d. position (λ m. is_called c.items.result.now d m) class.methods) (sym c.items-2.ensures)
    ∙ sym c.in-Some.ensures in
    let inside : place < length class.methods = position_within (λ m. is_called id.name id.desc m) class.methods place
    found in
    let member = get_or class.methods place nothing in
    let static : is_static member.flags ≡ true = ap is_static (sym (c.member_flags.ensures nothing))
    ∙ sym c.is_static.ensures ∙ c.if-not-is_static.false in
    c.method_at.ensures
    ∙ ap (λ i. method_at files (record {
      imported = i;
      class = c.number.result;
      member = c.field_count.result + place;
    })) c.is_imported.ensures
    ∙ ap (λ n. method_at files (record {
      imported = class.is_imported;
      class = n;
      member = c.field_count.result + place;
    })) c.number.ensures
    ∙ ap (λ n. method_at files (record { imported = class.is_imported; class = class.number; member = n + place }))
    c.field_count.ensures
    ∙ sym (entry_of files id class place member found (slice_get-get_or class.methods place nothing inside)
    ∙ ap (λ t. if t then method_at files (member_at class (length class.fields + place)) else None) static)
