use Rattle.std.proofs.Common.{ap, sym, ◌∙◌}
use Rattle.cs_arguments.specs.{Orders.piece_in, Reading.one_file, Reading.two_files, Reading.demo}
use Rattle.cs_source.proofs.Loads.{csd_left, csd_read, left_as, notes_left, notes_read, read_as, was_read_as}
use Rattle.cs_source.proofs.source.read_source.Goals as goal

pub returns-in-TwoFiles-clause-shelf : goal.returns-in-TwoFiles-clause-shelf
returns-in-TwoFiles-clause-shelf g c =
    was_read_as _ _ (two_files c.in-TwoFiles.orchestra.now c.in-TwoFiles.score.now) _ (ap piece_in c.in-TwoFiles.is)
    c.read_files.ensures.shelf

pub returns-in_ok-text-in-OneFile-clause-read : goal.returns-in_ok-text-in-OneFile-clause-read
returns-in_ok-text-in-OneFile-clause-read g c =
    read_as _ (one_file c.in-OneFile.csd.now) _ _ (ap piece_in c.in-OneFile.is)
    (csd_read _ c.in-OneFile.csd.now c.in_ok-text-in-OneFile.text c.in_ok-text-in-OneFile.ensures.text
    c.in_ok-text-in-OneFile.ensures.most)

pub returns-in_ok-text-in-OneFile-clause-rest : goal.returns-in_ok-text-in-OneFile-clause-rest
returns-in_ok-text-in-OneFile-clause-rest g c =
    left_as (g.F.Shelf.tells c.args.shelf.now) (g.F.Shelf.tells c.read_text.new.shelf)
    (one_file c.in-OneFile.csd.now) _ (ap piece_in c.in-OneFile.is)
    (csd_left (g.F.Shelf.tells c.args.shelf.now).files (g.F.Shelf.tells c.args.shelf.now).left _
    c.in-OneFile.csd.now c.in_ok-text-in-OneFile.text.items c.in_ok-text-in-OneFile.ensures.text
    c.in_ok-text-in-OneFile.ensures.rest)

pub returns-in-Ok-clause-read : goal.returns-in-Ok-clause-read
returns-in-Ok-clause-read g c =
    read_as _ (demo c.number.result) _ c.in-Ok.text (ap piece_in c.in-Demo.is ∙ ap demo (sym c.number.ensures.value))
    (notes_read _ c.number.result c.in-Ok.text c.in-Ok.ensures)

pub returns-in-Ok-clause-rest : goal.returns-in-Ok-clause-rest
returns-in-Ok-clause-rest g c =
    left_as (g.F.Shelf.tells c.args.shelf.now) (g.F.Shelf.tells c.args.shelf.now) (demo c.number.result) _
    (ap piece_in c.in-Demo.is ∙ ap demo (sym c.number.ensures.value))
    (notes_left (g.F.Shelf.tells c.args.shelf.now).files (g.F.Shelf.tells c.args.shelf.now).left c.number.result)
