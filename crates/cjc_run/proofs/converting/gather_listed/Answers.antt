use Rattle.cjc_run.proofs.Listing.{listed_goes_on}
use Rattle.cjc_run.proofs.converting.gather_listed.Goals as goal

pub returns-in-Ok : goal.returns-in-Ok
returns-in-Ok g c =
    listed_goes_on c.args.name.now c.args.text.now c.args.dir.now c.in-Ok.list (g.S.Shelf.shelved c.args.shelf.now)
    (g.S.Shelf.shelved c.gather_files.new.shelf) c.gather_files.result
    c.in-Ok.ensures.exact c.gather_files.ensures
