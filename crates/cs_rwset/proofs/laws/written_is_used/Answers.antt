use Rattle.cs_rwset.specs.Footprints.{stock_of}
use Rattle.cs_ir.specs.Resources.{ops_use, ops_write}
use Rattle.cs_rwset.proofs.{Covering.ops_written_is_used, Placed.places_of_more}
use Rattle.cs_rwset.proofs.laws.written_is_used.Goals as goal

pub returns : goal.returns
returns c areas ops place h =
    places_of_more areas (ops_write (stock_of areas) ops) (ops_use (stock_of areas) ops) place
    (ops_written_is_used (stock_of areas) ops) h
