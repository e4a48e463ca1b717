use Rattle.cjc_cmd_convert.proofs.ConversionLaws.Keeping.{kept_where_made}
use Rattle.cjc_cmd_convert.proofs.conversion.conversion.convert.Goals as goal

pub returns-clause-kept : goal.returns-clause-kept
returns-clause-kept c =
    kept_where_made c.converted_packages_behave_alike.ensures.alike c.converted_packages_behave_alike.ensures.consistent
    c.args.list.now c.args.files.now c.convert.result c.requires.read c.convert.ensures.converted
