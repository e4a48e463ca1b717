-- All that is kept for the tests of members.
use Rattle.std.specs.Prelude.{◌≡◌, length}
use Rattle.cjc_check_index.specs.Imported.Tokens.{AreTokens}
use Rattle.cjc_check_index.specs.Lookup.MethodStarts.{HasMethods}
use Rattle.cjc_check_index.specs.Lookup.Parts.{complete_of}
use Rattle.cjc_check_tables.specs.declared.members.members.Members.{Members}
use Rattle.cjc_check_tables.specs.Members.Working.Above.{AreAbove}
use Rattle.cjc_check_tables.specs.Members.Working.Fields.{AreFields}
use Rattle.cjc_check_tables.specs.Members.Working.Needs.{AreNeeds}
use Rattle.cjc_check_rules.specs.Members.{all_fields}

-- what is kept is that of the components and export files which are held
pub record HasMembers (m : Members) : Type 0 where
  pub methods : HasMethods m.methods.now
  pub tokens : AreTokens m.methods.now.names.now.exports.now m.tokens.now
  pub above : AreAbove m.methods.now.names.now.parts.now.class.now m.methods.now.names.now.exports.now m.above.now
  pub all : length m.above.now ≡ length m.methods.now.names.now.parts.now.class.now.classes
  pub fields : AreFields m.fields.now (all_fields (complete_of m.methods.now.names.now.parts.now))
  pub needs : AreNeeds m.needs.now m.methods.now.names.now.parts.now.descriptor.now.classes
