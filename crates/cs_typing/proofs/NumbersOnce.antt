-- The typed instruments of an orchestra have the numbers of the instruments in the text.
use Rattle.std.proofs.Common.{eqb, List, [], ◌∷◌, ◌++◌, ◌≡◌, refl, sym, ap, subst}
use Rattle.std.specs.List.{IsDistinct, flat_map}
use Rattle.std.proofs.lemmas.{Bool.eq-eqb, Bool.eqb-true, Map.Made.IsDistinct-from_AllPairs}
use Rattle.cs_grammar.specs.Tree.{Block, Instrument, Orchestra}
use Rattle.cs_grammar.specs.WellFormed.{IsWellFormed, all_numbers}
use Rattle.cs_typing.specs.{Known.KnownHere, Typing.typed_of}
use Rattle.cs_typing.specs.Typing.{alone, body, items, before, from, known_item, first_known, typed_instruments}
use Rattle.cs_typed.specs.TypedTree as typed

pub numbers_kept : (n : KnownHere) (outside : Block) (list : List Instrument)
    → flat_map (λ (i : typed.Instrument). i.numbers) (typed_instruments n (items outside list)) ≡ all_numbers list
numbers_kept n outside [] = refl
numbers_kept n outside (i ∷ rest) =
    ap (λ ns. i.numbers ++ ns)
    (numbers_kept (known_item (known_item n (alone (before i.line outside))) (body i)) (from i.line outside) rest)

pub once : (o : Orchestra) → IsWellFormed o
    → IsDistinct eqb (flat_map (λ (i : typed.Instrument). i.numbers) (typed_of o).instrs)
once o h = subst (IsDistinct eqb) (sym (numbers_kept (first_known o) o.zero o.instrs))
    (IsDistinct-from_AllPairs (λ a b. (eqb-true a b, eq-eqb a b)) (all_numbers o.instrs) h.numbers)
