use Rattle.std.proofs.Common.{refl}
use Rattle.cjc_world.specs.Classes.{classes_from, all_classes, class_named, class_at}
use Rattle.cjc_world.specs.Supertypes.{supertypes_within, supertypes, line}
use Rattle.cjc_world.specs.Interfaces.{gathered, known}
use Rattle.cjc_world.specs.Added.{own_methods, methods_of, asked_by, has_open, lacking, added}
use Rattle.cjc_world.specs.Exported.{is_exported}
use Rattle.cjc_world.specs.Subtype.{is_subclass, is_subtype}
use Rattle.cjc_tokens.specs.Slots.{token, own, got, first_answer, taken_slots, token_among, shown_token}
use Rattle.cjc_world.specs.Lookup.{first}
use Rattle.cjc_tokens.specs.Methods.{interfaces_at, interface_methods, class_method_token, class_method_tokens}
use Rattle.cjc_tokens.specs.Fields.{instance_token, field_token, field_tokens, instance_tokens}
use Rattle.cjc_tokens.specs.Tokens.{classes_from as token_classes_from, assigned}
use Rattle.cjc_examples.proofs.hierarchy.package_visible_methods_have_tokens.Goals as goal

pub returns-clause-tokens : goal.returns-clause-tokens
unfolding classes_from all_classes class_named class_at supertypes_within supertypes line gathered known own_methods
    methods_of asked_by has_open lacking added is_exported is_subclass is_subtype token own got interfaces_at
    interface_methods class_method_token class_method_tokens instance_token field_token field_tokens instance_tokens
    token_classes_from assigned first_answer taken_slots token_among shown_token first
returns-clause-tokens c = refl

pub returns-clause-public : goal.returns-clause-public
unfolding classes_from all_classes class_named class_at supertypes_within supertypes line gathered known own_methods
    methods_of asked_by has_open lacking added is_exported is_subclass is_subtype token own got interfaces_at
    interface_methods class_method_token class_method_tokens instance_token field_token field_tokens instance_tokens
    token_classes_from assigned first_answer taken_slots token_among shown_token first
returns-clause-public c = refl

pub returns-clause-hidden : goal.returns-clause-hidden
unfolding classes_from all_classes class_named class_at supertypes_within supertypes line gathered known own_methods
    methods_of asked_by has_open lacking added is_exported is_subclass is_subtype token own got interfaces_at
    interface_methods class_method_token class_method_tokens instance_token field_token field_tokens instance_tokens
    token_classes_from assigned first_answer taken_slots token_among shown_token first
returns-clause-hidden c = refl
