-- The counts of a tally that counts the first cycles of a piece.
use Rattle.std.proofs.Common.{◌≡◌, ◌∙◌, ℕ, ◌+◌, List, [], ◌∷◌, ◌++◌, length, map, sum, refl, ap, sym}
use Rattle.std.specs.List.{AllZip, range_with_len}
use Rattle.std.proofs.lemmas.{List.length-append, List.map-append, List.Sums.sum_by-append, Slice.Zip.AllZip-long}
use Rattle.cs_desk.specs.declared.receipt.Tally.{Tally}
use Rattle.cs_piece_meaning.specs.{Course.played_in, Heard.notes_before, Moments.Composition}
use Rattle.cs_voice.specs.VoiceData.{VoiceData}
use Rattle.cs_perform.specs.Counted.{AreHeardBefore, AreHeardIn, CountsOn, IsHeardAs, IsTallyOf, Receipts}
use Rattle.cs_perform.proofs.Frames.{length-range}

-- as many voices are heard in a cycle as notes were performed in it
as_many : (c : Composition) (n : ℕ) (voices : List VoiceData) → AreHeardIn c n voices
    → length voices ≡ length (played_in c n)
as_many c n voices h = sym (AllZip-long IsHeardAs voices (played_in c n) h.notes)

numbers_of : (c : Composition) (cycles : List ℕ) (receipts : Receipts) → AllZip (AreHeardIn c) cycles receipts
    → map length receipts ≡ map (λ (k : ℕ). length (played_in c k)) cycles
numbers_of c [] [] h = refl
numbers_of c [] (voices ∷ receipts) h = absurd h
numbers_of c (k ∷ cycles) [] h = absurd h
numbers_of c (k ∷ cycles) (voices ∷ receipts) h =
    let here : length voices ≡ length (played_in c k) = as_many c k voices h.0 in
    let rest = numbers_of c cycles receipts h.1 in λ i. here i ∷ rest i

sum_of_both : (xs ys : Receipts) → sum (map length (xs ++ ys)) ≡ sum (map length xs) + sum (map length ys)
sum_of_both xs ys = ap sum (map-append length xs ys) ∙ sum_by-append (λ x. x) (map length xs) (map length ys)

pub counts_both : (c : Composition) (n : ℕ) (before now : Tally) (earlier receipts : Receipts)
    → IsTallyOf earlier before → AreHeardBefore c n receipts
    → CountsOn (λ t counted. IsTallyOf counted t) before now receipts
    → (now.cycles ≡ before.cycles + n) × (now.notes ≡ before.notes + notes_before c n)
counts_both c n before now earlier receipts was heard counts =
    let is : IsTallyOf (earlier ++ receipts) now = counts earlier was in
    let long : length receipts ≡ n =
    AllZip-long (AreHeardIn c) (range_with_len 0 n) receipts heard ∙ length-range 0 n in
    let notes : sum (map length receipts) ≡ notes_before c n =
    ap sum (numbers_of c (range_with_len 0 n) receipts heard) in
    let both : length (earlier ++ receipts) ≡ length earlier + length receipts = length-append earlier receipts in
    let all : sum (map length (earlier ++ receipts)) ≡ sum (map length earlier) + sum (map length receipts) =
    sum_of_both earlier receipts in (
      is.cycles ∙ both ∙ ap (λ (k : ℕ). k + length receipts) (sym was.cycles) ∙ ap (λ (k : ℕ). before.cycles + k) long,
      is.notes ∙ all ∙ ap (λ (k : ℕ). k + sum (map length receipts)) (sym was.notes)
          ∙ ap (λ (k : ℕ). before.notes + k) notes,
    )
