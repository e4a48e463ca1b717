use Rattle.cjc_shape.specs.LowerJudge.Rules.{settings_of}
use Rattle.cjc_shape_proof.proofs.WrittenLaws.Checked.{field_descs, files_sound, is_kept, no_static_methods}
use Rattle.cjc_shape_proof.proofs.WrittenLaws.Checked.{own_objects, own_once, own_subtypes, own_tokens}
use Rattle.cjc_shape_proof.proofs.written.checked_packages_are_runnable.Goals as goal

pub returns : goal.returns
returns c = λ list codes p is image methods ready small ordered. record {
  sound = files_sound list codes p is;
  typed = c.fields_are_typed.ensures list.name p.files codes (settings_of list) (field_descs list codes p is) is.checks;
  image = image;
  once = own_once list codes p is;
  keeps = c.package_laws.ensures.keeps list.name p.files codes (settings_of list)
      (is_kept list codes p is (λ l fs none fine. c.package_laws.ensures.unbroken l fs codes (settings_of list) none
      fine));
  subtypes = own_subtypes list codes p is;
  tokens = own_tokens list codes p is;
  no_static = no_static_methods list codes p is;
  objects = own_objects list codes p is;
  methods = methods;
  ready = ready;
  small = small;
  ordered = ordered;
}
