use Rattle.cjc_components.specs.Package.{codes, has_applets}
use Rattle.cjc_shape.proofs.PreparedLaws.Sound.{is_tested}
use Rattle.cjc_shape_proof.proofs.WrittenLaws.WholeLaws.Emittable.{each_emittable, pooled}
use Rattle.cjc_shape_proof.proofs.written.whole_laws.converted_methods_are_emittable.Goals as goal

pub returns : goal.returns
returns c = λ list files judged is p whole words forms pool made.
    record {
      keys = made.keys;
      each = each_emittable list files judged is p whole words forms pool made
          (c.pooled_methods_are_emittable.ensures.emittable list files judged (is_tested list files judged is)
          (has_applets p) (codes p) pool (pooled list files judged is p whole words forms pool made));
    }
