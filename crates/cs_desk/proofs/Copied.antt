-- Numbers that are copied from a list into a row.
use Rattle.std.proofs.Common.{◌≡◌, ◌∙◌, ℕ, zero, suc, ℤ, pos, ◌+◌, ◌<◌, ◌≤◌, ◌==◌, Bool, false, List, length, map}
use Rattle.std.proofs.Common.{take, drop, sym, arith}
use Rattle.std.proofs.lemmas.List.{ext_get_or, get_or-drop, get_or-take, length-drop, length-take-le}
use Rattle.std.proofs.lemmas.List.FromFn.{get_or-map-range_with_len, length-map-range_with_len}
use Rattle.std.specs.List.{range_with_len}
use Rattle.cs_cells.specs.Cells.{cell}

-- a row that isn't empty has room if each of its places is there
pub room_of : (first n long : ℕ) (empty : Bool) → empty ≡ (n == 0) → empty ≡ false
    → ((j : ℕ) → j < n → first + j < long) → first + n ≤ long
room_of first zero long empty is some there = absurd (cc)
room_of first (suc n) long empty is some there = let last = there n (omega arith) in omega (arith, last)

-- a part of a list, as the numbers from its first place on
pub part_is : (c : List ℤ) (first n m : ℕ) → first + n ≤ length c → m ≡ n
    → take m (drop first c) ≡ map (cell c) (range_with_len first n)
part_is c first n m room same = ext_get_or (pos 0) (take m (drop first c)) (map (cell c) (range_with_len first n))
    (long ∙ sym (length-map-range_with_len (cell c) first n))
    (λ i low. get_or-take m (drop first c) i (pos 0) (omega (arith, low, long, same)) ∙ get_or-drop first c i (pos 0)
    ∙ sym (get_or-map-range_with_len (cell c) first n i (first + i) (pos 0) (omega (arith, low, long)) (omega arith)))
  where
    long : length (take m (drop first c)) ≡ n
    long = length-take-le m (drop first c) (let rest = length-drop first c in omega (arith, rest, room, same)) ∙ same
