use Rattle.cs_play.proofs.player.play_piece.Goals as goal

pub perform_alone-requires-clause-bytes : goal.perform_alone-requires-clause-bytes
perform_alone-requires-clause-bytes g c =
    rw (c.performance_of-performance.ensures.setup, c.performance_of-performance.ensures.order) c.requires.fits

pub perform-requires-clause-bytes : goal.perform-requires-clause-bytes
perform-requires-clause-bytes g c κs lives =
    rw (c.performance_of-performance.ensures.setup, c.performance_of-performance.ensures.order) c.requires.fits

pub perform-requires-2-clause-bytes : goal.perform-requires-2-clause-bytes
perform-requires-2-clause-bytes g c κs lives =
    rw (c.performance_of-performance.ensures.setup, c.performance_of-performance.ensures.order) c.requires.fits

pub returns-then-not-piece : goal.returns-then-not-piece
returns-then-not-piece g c =
    rw c.performance_of-performance.ensures.request at c.perform_alone.ensures

pub returns-then-piece : goal.returns-then-piece
returns-then-piece g c =
    rw c.performance_of-performance.ensures.request at c.perform.ensures

pub returns : goal.returns
returns g c =
    rw c.performance_of-performance.ensures.request at c.perform-2.ensures
