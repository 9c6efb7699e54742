use Rattle.std.proofs.Common.{◌≡◌, ◌++◌, drop, length, Ok}
use Rattle.cs_score.specs.{Carry.and_then, Notes.values_of}
use Rattle.cs_score.proofs.note.values.Given as goal

abbrev pub invariant-loop-field : goal.invariant-loop-field
invariant-loop-field l = record {
  read : values_of l.dot l.fields ≡ and_then (values_of l.dot (drop l.field-index l.fields))
      (λ zs. Ok (l.values ++ zs));
  len : length l.values ≡ l.field-index;
}
