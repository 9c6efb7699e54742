-- An order, in terms of the definition of what arguments ask for.
use Rattle.cs_arguments.specs.Reading.{Asked, AskedPiece, two_files, one_file, demo}
use Rattle.cs_arguments.specs.{declared.order.Order.Order, declared.order.Source.Source}
use Rattle.cs_arguments.specs.declared.order.Source.TheVariants as source

-- the piece of a source
abbrev pub piece_in : Source → AskedPiece
piece_in (source.TwoFiles orchestra score) = two_files orchestra.now score.now
piece_in (source.OneFile csd) = one_file csd.now
piece_in (source.Demo notes) = demo notes

-- what an order asks for
abbrev pub asked_in : Order → Asked
asked_in o = record {
  workers = o.workers;
  sound_file = o.sound_file.now;
  width = o.width;
  silent = o.silent;
  turns = o.turns;
  pool = o.pool;
  piece = piece_in o.source;
}
