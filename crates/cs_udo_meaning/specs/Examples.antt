-- Small instruments with user-defined opcodes, for worked examples with frames.
use Rattle.std.specs.Prelude.{ℕ, ℤ, pos, ◌+◌, ◌+ℤ◌, List, [], ◌∷◌, codes, map}
use Rattle.std.specs.List.{range_with_len}
use Rattle.cs_words.specs.NameSets.{place_of}
use Rattle.cs_grammar.specs.Tree.{Expression, pair, var, value, Statement, set, choose, otherwise, arm, Definition}
use Rattle.cs_grammar.specs.Tree.{Instrument}
use Rattle.cs_meaning.specs.{Examples.small_piece, Examples.whole, Notes.Path, Notes.start}
use Rattle.cs_meaning.specs.Plain.{Plain, Piece, plain, fresh, next_cycle}
use Rattle.cs_ir.specs.Waves.{silence}
use Rattle.cs_typing.specs.Known.{Shared, no_names}
use Rattle.cs_udo.specs.Names.{slot}
use Rattle.cs_udo.specs.Worked.{literal, variable, statements, k1, k2, k3, a1, own, known, opcode_of, of_one}
use Rattle.cs_udo_meaning.specs.Frames.{Framed, new_framed, framed_in, Reading, frames_of_block, keepers_of_block}
use Rattle.cs_udo_meaning.specs.{Frames.actions_of, Lives.begins, Lives.performs, Lives.reading}
use Rattle.cs_base.specs.declared.resource.Rate.TheVariants as rate
use Rattle.cs_words.specs.declared.sign.BinOp.TheVariants as op
use Rattle.cs_words.specs.declared.catalogue.Opcode.TheVariants as opcode

abbrev i1 : List ℕ
i1 = codes "i1"

-- the pieces of cs_meaning's examples, in which each p-field of a note is 7
abbrev pub sevens : Piece
sevens = small_piece 0 0

-- a piece in which each p-field of a note is 5
abbrev pub of_fives : Piece
of_fives = record sevens { fields = λ n. whole 5 }

-- a piece in which a unit returns the sum of its first inputs so far
abbrev sum_so_far : List (List ℤ) → ℤ
sum_so_far [] = pos 0
sum_so_far ([] ∷ rest) = sum_so_far rest
sum_so_far ((x ∷ xs) ∷ rest) = x +ℤ sum_so_far rest

-- a piece in which a unit returns the sum of its first inputs so far
abbrev pub of_sums : Piece
of_sums = record sevens { generators = record { gen = λ opcode r is h. sum_so_far h; delay = sevens.generators.delay } }

-- the local names of these examples, results of `xout` included; a name's number is its place in the list
abbrev known_names : List (List ℕ)
known_names = k1 ∷ k2 ∷ k3 ∷ i1 ∷ a1 ∷ slot 0 rate.Control ∷ slot 1 rate.Control ∷ slot 0 rate.Init ∷ []

abbrev no_shared : Shared
no_shared = record { globals = no_names; control = []; sound = [] }

abbrev read_in : Piece → Reading Plain
read_in piece = reading (plain piece) piece.spaces no_shared (place_of known_names)

-- the sound of a note at each of the four frames of a cycle, in the first two cycles
abbrev four : Framed Plain → List ℤ
four u = map (u.world.outs 0) (range_with_len 0 4)

abbrev next : Piece → List Definition → Instrument → Framed Plain → Framed Plain
next piece ds i u = performs (read_in piece) ds i (framed_in (next_cycle u.world.shared u.world) u)

abbrev two_cycles : Piece → List Definition → Instrument → Framed Plain → List (List ℤ)
two_cycles piece ds i u = let first = next piece ds i u in four first ∷ four (next piece ds i first) ∷ []

-- the sound of a note in the first two cycles
abbrev pub heard : Piece → List Definition → List Statement → List (List ℤ)
heard piece ds body =
    let i : Instrument = record { line = 8; numbers = 1 ∷ []; body = statements body } in
    two_cycles piece ds i (begins (read_in piece) ds i (new_framed (fresh (λ g. silence))))

-- the paths of the calls that have the frames of statements
abbrev pub framed : List Definition → List Statement → List Path
framed ds body = frames_of_block (actions_of Plain ds) start.path (statements body)

-- the paths of the parts of statements that may keep values
abbrev pub keeping : List Definition → List Statement → List Path
keeping ds body = keepers_of_block (actions_of Plain ds) start.path (statements body)

-- a1 is assigned a value and is output
abbrev sounds : ℕ → Expression → List Statement
sounds line e = set line a1 e ∷ known (line + 1) [] opcode.Out (variable a1 ∷ []) ∷ []

-- a1 = k1 * 10 + k2 / out a1
abbrev tens_and_ones : Expression
tens_and_ones = pair op.Add (pair op.Mul (var k1) (literal 10)) (var k2)

abbrev tells : List Statement
tells = sounds 20 tens_and_ones

-- k1 Count / k2 Count / a1 = k1 * 10 + k2 / out a1
abbrev count_into : ℕ → List ℕ → Statement
count_into line result = own line (result ∷ []) (codes "Count") []

-- k1 Count / k2 Count / a1 = k1 * 10 + k2 / out a1
abbrev pub counted : List Statement
counted = count_into 9 k1 ∷ count_into 10 k2 ∷ tells

-- opcode Bump, k, k / k1 xin / k1 = k1 + 1 / xout k1 / endop
abbrev pub bump : Definition
bump = of_one 3 (codes "Bump") rate.Control k1 (set 4 k1 (pair op.Add (var k1) (literal 1)) ∷ []) (variable k1)

-- k1 = 5 / k2 Bump k1
abbrev pub calls_bump : List Statement
calls_bump = set 9 k1 (literal 5) ∷ own 10 (k2 ∷ []) (codes "Bump") (variable k1 ∷ []) ∷ tells

-- opcode Swap, kk, kk / k1, k2 xin / xout k2, k1 / endop
abbrev pub swap : Definition
swap = opcode_of 3 (codes "Swap") (rate.Control ∷ rate.Control ∷ []) (rate.Control ∷ rate.Control ∷ [])
    (k1 ∷ k2 ∷ []) []
    (variable k2 ∷ variable k1 ∷ [])

-- k1 = 1 / k2 = 2 / k1, k2 Swap k1, k2
abbrev pub calls_swap : List Statement
calls_swap = set 9 k1 (literal 1) ∷ set 10 k2 (literal 2)
    ∷ own 11 (k1 ∷ k2 ∷ []) (codes "Swap") (variable k1 ∷ variable k2 ∷ []) ∷ tells

-- k2 Count / if k2 == 1 then k1 Count else k1 = 0 endif / a1 = k1 / out a1
abbrev pub calls_only_first : List Statement
calls_only_first = count_into 9 k2
    ∷ choose 10 (arm (pair op.Equal (var k2) (literal 1)) (statements (count_into 11 k1 ∷ []))
    (otherwise (statements (set 13 k1 (literal 0) ∷ []))))
    ∷ sounds 15 (var k1)

-- opcode Inc, k, k / k1 xin / k2 init 0 / k2 = k2 + k1 / xout k2 / endop
abbrev pub inc : Definition
inc = of_one 3 (codes "Inc") rate.Control k1
    (known 4 (k2 ∷ []) opcode.Init (value (literal 0) ∷ []) ∷ set 5 k2 (pair op.Add (var k2) (var k1)) ∷ [])
    (variable k2)

-- opcode Two, k, k / k1 xin / k2 Inc k1 / k3 Inc k1 * 2 / xout k2 * 10 + k3 / endop
abbrev pub two : Definition
two = of_one 6 (codes "Two") rate.Control k1
    (own 7 (k2 ∷ []) (codes "Inc") (variable k1 ∷ [])
    ∷ own 8 (k3 ∷ []) (codes "Inc") (value (pair op.Mul (var k1) (literal 2)) ∷ []) ∷ [])
    (value (pair op.Add (pair op.Mul (var k2) (literal 10)) (var k3)))

-- k1 Two 1 / k2 Two 2 / a1 = k1 + k2 / 8 / out a1
abbrev pub calls_two : List Statement
calls_two = own 9 (k1 ∷ []) (codes "Two") (value (literal 1) ∷ [])
    ∷ own 10 (k2 ∷ []) (codes "Two") (value (literal 2) ∷ [])
    ∷ sounds 11 (pair op.Add (var k1) (pair op.Div (var k2) (literal 8)))

-- opcode Turn, k, k / k1 xin / k2 phasor k1 / xout k2 / endop
abbrev pub turn : Definition
turn = of_one 3 (codes "Turn") rate.Control k1 (known 4 (k2 ∷ []) opcode.Phasor (variable k1 ∷ []) ∷ []) (variable k2)

-- k1 Turn 1 / k2 Turn 2
abbrev pub calls_turn : List Statement
calls_turn = own 9 (k1 ∷ []) (codes "Turn") (value (literal 1) ∷ [])
    ∷ own 10 (k2 ∷ []) (codes "Turn") (value (literal 2) ∷ []) ∷ tells

-- opcode Half, i, i / i1 xin / xout i1 / 2 / endop
abbrev pub half : Definition
half = of_one 3 (codes "Half") rate.Init i1 [] (value (pair op.Div (var i1) (literal 2)))

-- i1 Half 8 / a1 = i1 / out a1
abbrev pub calls_half : List Statement
calls_half = own 9 (i1 ∷ []) (codes "Half") (value (literal 8) ∷ []) ∷ sounds 10 (var i1)
