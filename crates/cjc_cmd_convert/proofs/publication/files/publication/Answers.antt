use Rattle.std.proofs.Common.{◌∙◌}
use Rattle.cjc_cmd_convert.proofs.PublicationLaws.Publishing.{begun, filed}
use Rattle.cjc_cmd_convert.proofs.publication.files.publication.Goals as goal

pub returns : goal.returns
returns c = filed c.args.dir.now c.args.package_name.now c.args.caps c.args.export _ _ _ _ _ _ _ _ _ _ _ _ _ _
    (begun c.args.dir.now c.new.result c.new-2.result c.new.ensures c.new-2.ensures)
    c.in_ok-put_file.ensures
    c.in_ok-put_file-2.ensures
    c.in_ok-put_where_there.ensures
    c.in_ok-put_file-3.ensures
    c.in_ok-put_file-4.ensures
    c.in_ok-put_file-5.ensures
    c.in_ok-put_file-6.ensures
    c.in_ok-put_file-7.ensures
    c.in_ok-put_file-8.ensures
    c.in_ok-put_where_there-2.ensures
    c.in_ok-put_file-9.ensures
    c.in_ok-put_file-10.ensures
    (c.items.ensures ∙ c.in_ok-name.ensures)
