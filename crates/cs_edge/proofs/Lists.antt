use Rattle.std.proofs.lemmas.{Grind.common_steps, List.take_all, List.take_more, List.take_more_set}
use Rattle.std.proofs.lemmas.List.{take-append-drop}
use Rattle.std.proofs.Common.{◌≡◌, ◌<◌, ◌≤◌, ℕ, ◌+◌, ◌-◌, List, [], ◌∷◌, ◌++◌, length, get_or, set, take, drop, sym}
use Rattle.std.proofs.Common.{◌∙◌, ap, arith, append_assoc, length-drop}
use Rattle.std.proofs.Math.Seq.{take-add}
use Rattle.cs_edge.specs.Told.{IsFront}

-- the items after an index, taken up to the length, are all items after it
pub rest_whole : {A : Type 0} (at : ℕ) (l : List A) → take (length l - at) (drop at l) ≡ drop at l
rest_whole at l = take_all (length l - at) (drop at l) (omega (arith, length-drop at l))

-- the first items and the items after them are the entire list
pub parts_whole : {A : Type 0} (at : ℕ) (l : List A) → take at l ++ take (length l - at) (drop at l) ≡ l
parts_whole at l = ap (λ (rest : List _). take at l ++ rest) (rest_whole at l) ∙ take-append-drop at l

-- the first items, followed by the first n items after them
pub take_on : {A : Type 0} (at n : ℕ) (l : List A)
    → take at l ++ take n (take (length l - at) (drop at l)) ≡ take (at + n) l
take_on at n l = ap (λ (rest : List _). take at l ++ take n rest) (rest_whole at l) ∙ sym (take-add at n l)

-- n items taken after an index end within the list
pub taken_within : {A : Type 0} (at n : ℕ) (l : List A) → at ≤ length l → n ≤ length (take (length l - at) (drop at l))
    → at + n ≤ length l
taken_within at n l h k = grind (arith, common_steps, length-drop, rest_whole)

-- the first items are a prefix
pub take_front : {A : Type 0} (n : ℕ) (l : List A) → IsFront (take n l) l
take_front n l = (drop n l, sym (take-append-drop n l))

-- one more item of a piece is placed after the items so far
pub piece_more : (out first piece : List ℕ) (from i : ℕ) → from + i < length out → i < length piece
    → take (from + i) out ≡ take from first ++ take i piece
    → take (from + (i + 1)) (set out (from + i) (get_or piece i 0)) ≡ take from first ++ take (i + 1) piece
piece_more out first piece from i within some read =
    let next : from + (i + 1) ≡ from + i + 1 = omega arith in
    let x : ℕ = get_or piece i 0 in
    ap (λ n. take n (set out (from + i) x)) next ∙ take_more_set out (from + i) x within
    ∙ ap (λ (l : List ℕ). l ++ x ∷ []) read ∙ append_assoc (take from first) (take i piece) (x ∷ [])
    ∙ ap (λ (l : List ℕ). take from first ++ l) (sym (take_more piece i 0 some))
