use Rattle.cs_life.proofs.Heard.{as_many, heard, shapes}
use Rattle.cs_life.proofs.laws.voices_are_heard.Goals as goal

pub returns-clause-heard : goal.returns-clause-heard
returns-clause-heard c = heard

pub returns-clause-shapes : goal.returns-clause-shapes
returns-clause-shapes c = shapes

pub returns-clause-notes : goal.returns-clause-notes
returns-clause-notes c = as_many
