-- Which tables are refused, and for which fault.
use Rattle.std.specs.Prelude.{◌≡◌, ℕ, ◌+◌, ◌-◌, ◌*◌, ◌/◌, Bool, ◌&&◌, ◌||◌, ◌==◌, List, [], ◌∷◌, length, ℤ, pos}
use Rattle.std.specs.Prelude.{unsigned_abs, int_lt, Option, Some, None, slice_index_or, if◌then◌else◌}
use Rattle.std.specs.{List.list_any, List.range_with_len, Ordering.int_eq}
use Rattle.cs_base.specs.{Numbers.whole_below, declared.fault.Or.Or}
use Rattle.cs_base.specs.declared.fault.Or.TheVariants.{Fault, OutOfMemory}
use Rattle.cs_gen.specs.declared.check.GenFault.{GenFault}
use Rattle.cs_gen.specs.declared.check.GenFault.TheVariants.{Size, Unknown, NegativeLength}

-- argument k of a GEN, counted from 0; one that is missing is 0
abbrev pub argument : List ℤ → ℕ → ℤ
argument args k = slice_index_or args k (pos 0)

-- the number of segments that GEN07's arguments describe: one for each value after the first
abbrev pub segments_of : List ℤ → ℕ
segments_of args = (length args - 1) / 2

-- the powers of two that a table's length may be
unfoldable pub lengths : List ℕ
lengths = 2 ∷ 4 ∷ 8 ∷ 16 ∷ 32 ∷ 64 ∷ 128 ∷ 256 ∷ 512 ∷ 1024 ∷ 2048 ∷ 4096 ∷ 8192 ∷ 16384 ∷ 32768 ∷ 65536 ∷ []

-- whether a size is one of these lengths, or one more
unfoldable pub is_size : ℤ → Bool
is_size size = list_any (λ len. int_eq size (pos len) || int_eq size (pos (len + 1))) lengths

-- whether a number is GEN02, GEN07, GEN10, or the negative of one of them
unfoldable pub is_gen : ℤ → Bool
is_gen gen = (unsigned_abs gen == 2) || (unsigned_abs gen == 7) || (unsigned_abs gen == 10)

-- whether one of GEN07's segments has a negative length; the length of segment k is argument 2k + 1, rounded
-- down
unfoldable pub has_negative_length : List ℤ → Bool
has_negative_length args =
    list_any (λ k. int_lt (whole_below (argument args (2 * k + 1))) (pos 0)) (range_with_len 0 (segments_of args))

-- the first rule that a table breaks; its size is checked first, then its GEN, then the lengths of its
-- segments
unfoldable pub table_fault : ℤ → ℤ → List ℤ → Option GenFault
table_fault size gen args =
    if is_size size
    then if is_gen gen
    then if (unsigned_abs gen == 7) && has_negative_length args then Some NegativeLength else None
    else Some Unknown
    else Some Size

-- why no table was made: its fault; or, if it has none, out of memory
abbrev pub IsCauseOf : Option GenFault → Or GenFault → Type 0
IsCauseOf fault (Fault found) = fault ≡ Some found
IsCauseOf fault OutOfMemory = fault ≡ None
