use Rattle.cs_play.proofs.player.play_piece_alone.Goals as goal

pub perform_alone-requires-clause-bytes : goal.perform_alone-requires-clause-bytes
perform_alone-requires-clause-bytes g c =
    rw (c.performance_of-performance.ensures.setup, c.performance_of-performance.ensures.order) c.requires.fits

pub returns : goal.returns
returns g c =
    rw c.performance_of-performance.ensures.request at c.perform_alone.ensures
