use Rattle.std.proofs.Common.{Err}
use Rattle.cs_source.proofs.Meanings.{source_loaded}
use Rattle.cs_source.proofs.loading.load.Goals as goal

pub returns-in-Ok-compile_source-clause-piece : goal.returns-in-Ok-compile_source-clause-piece
returns-in-Ok-compile_source-clause-piece g c =
    source_loaded (g.F.Shelf.tells c.args.shelf.now) (g.F.Shelf.tells c.read_source.new.shelf) c.args.width _
    c.in-Ok.texts _ c.in-Ok.ensures.read c.in-Ok.ensures.rest c.in-Ok.ensures.calm c.in-Ok-compile_source.ensures.piece

pub returns-in-Err-Fault-compile_source-clause-refused : goal.returns-in-Err-Fault-compile_source-clause-refused
returns-in-Err-Fault-compile_source-clause-refused g c =
    λ r h. source_loaded (g.F.Shelf.tells c.args.shelf.now) (g.F.Shelf.tells c.read_source.new.shelf) c.args.width _
    c.in-Ok.texts (Err r) c.in-Ok.ensures.read c.in-Ok.ensures.rest c.in-Ok.ensures.calm
    (c.in-Err-Fault-compile_source.ensures.refused r (cc))
