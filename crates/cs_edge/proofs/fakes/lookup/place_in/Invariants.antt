use Rattle.std.proofs.Common.{◌≡◌, drop}
use Rattle.cs_edge.specs.Files.{file_named}
use Rattle.cs_edge.proofs.fakes.lookup.place_in.Given as goal

-- no file before this index has the name
abbrev pub invariant-loop-place : goal.invariant-loop-place
invariant-loop-place l = file_named l.name (drop l.place l.files) ≡ file_named l.name l.files
