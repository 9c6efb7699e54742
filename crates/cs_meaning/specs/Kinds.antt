-- Small notes with each kind of statement, and the values of operators and functions.
use Rattle.std.specs.Prelude.{ℕ, ℤ, pos, List, [], ◌∷◌, map, None, true}
use Rattle.std.specs.List.{range_with_len}
use Rattle.cs_base.specs.declared.resource.Rate.{Rate}
use Rattle.cs_words.specs.{declared.catalogue.Opcode.Opcode, declared.sign.BinOp.BinOp, declared.word.Func.Func}
use Rattle.cs_typed.specs.TypedTree.{Expression, number, var, field, neg, pair, pick, apply, Argument, value, text}
use Rattle.cs_typed.specs.TypedTree.{Statement, set, call, choose, Block, no_stmt, andthen, otherwise, arm}
use Rattle.cs_typed.specs.declared.tree.Var.TheVariants.{Global}
use Rattle.cs_ir.specs.Waves.{silence}
use Rattle.cs_meaning.specs.Examples.{small_piece, begun, lit, one, k, a, read, out}
use Rattle.cs_meaning.specs.{Notes.first_value, Notes.new_note, Plain.Piece, Plain.plain, Plain.fresh}
use Rattle.cs_base.specs.declared.resource.Rate.TheVariants as rate
use Rattle.cs_base.specs.declared.resource.Res.TheVariants as res
use Rattle.cs_words.specs.declared.catalogue.Opcode.TheVariants as op
use Rattle.cs_words.specs.declared.sign.BinOp.TheVariants as sign
use Rattle.cs_words.specs.declared.word.Func.TheVariants as func

-- statements one after another
abbrev pub all : List Statement → Block
all [] = no_stmt
all (x ∷ rest) = andthen x (all rest)

-- k.. init n, and a.. = k..
abbrev init_k : ℕ → ℕ → Statement
init_k v n = call 2 rate.Init (k v ∷ []) op.Init (value (lit n) ∷ [])

abbrev sound_of : ℕ → Statement
sound_of v = set 9 rate.Audio (a 0) (read (k v))

-- an audio signal, a test whether two values are equal, and a call without a result that takes an audio
-- signal
abbrev heard_of : ℕ → Expression
heard_of v = var rate.Audio (a v)

abbrev equal : Rate → Expression → Expression → Expression
equal r x y = pair r sign.Equal x y

abbrev takes_sound : Opcode → List Argument → Statement
takes_sound opcode args = call 5 rate.Audio [] opcode args

-- a1 = 3
abbrev three : Statement
three = set 4 rate.Audio (a 0) (lit 3)

-- k1 init 5; if k1 == 5 then k2 init 3 else k2 init 4 endif; a1 = k2; out a1
abbrev pub initialising_both : Block
initialising_both = all (
    init_k 0 5
    ∷ choose 3 rate.Control (arm (equal rate.Control (read (k 0)) (lit 5)) (one (init_k 1 3))
    (otherwise (one (init_k 1 4))))
    ∷ sound_of 1 ∷ out (a 0) ∷ [])

-- k1 init 0; if k1 == 5 then, if p4 == 7 then k2 init 3 else k2 init 9 endif, endif; a1 = k2; out a1
abbrev pub deciding_inside : Block
deciding_inside = all (
    init_k 0 0
    ∷ choose 3 rate.Control (arm (equal rate.Control (read (k 0)) (lit 5))
    (one (choose 4 rate.Init
    (arm (equal rate.Init (field rate.Init 4) (lit 7)) (one (init_k 1 3)) (otherwise (one (init_k 1 9))))))
    (otherwise no_stmt))
    ∷ sound_of 1 ∷ out (a 0) ∷ [])

-- k1 init 5; k1 = k1 + 1; k2 = i(k1) * 10 + k1; a1 = k2; out a1
abbrev pub reading_once : Block
reading_once = all (
    init_k 0 5
    ∷ set 3 rate.Control (k 0) (pair rate.Control sign.Add (read (k 0)) (lit 1))
    ∷ set 4 rate.Control (k 1)
    (pair rate.Control sign.Add (pair rate.Init sign.Mul (apply rate.Init func.I (read (k 0))) (lit 10)) (read (k 0)))
    ∷ sound_of 1 ∷ out (a 0) ∷ [])

-- tablew 9, 2, 1
abbrev pub storing : Block
storing = one (call 3 rate.Init [] op.Tablew (value (lit 9) ∷ value (lit 2) ∷ value (lit 1) ∷ []))

-- a1 = 3; zawm a1, 1 twice; a2 zar 1; zacl 0, 1; a3 zar 1; out a2 * 10 + a3
abbrev pub mixing_places : Block
mixing_places = all (
    three
    ∷ takes_sound op.Zawm (value (heard_of 0) ∷ value (lit 1) ∷ [])
    ∷ takes_sound op.Zawm (value (heard_of 0) ∷ value (lit 1) ∷ [])
    ∷ call 6 rate.Audio (a 1 ∷ []) op.Zar (value (lit 1) ∷ [])
    ∷ call 7 rate.Control [] op.Zacl (value (lit 0) ∷ value (lit 1) ∷ [])
    ∷ call 8 rate.Audio (a 2 ∷ []) op.Zar (value (lit 1) ∷ [])
    ∷ takes_sound op.Out (value (pair rate.Audio sign.Add (pair rate.Audio sign.Mul (heard_of 1) (lit 10)) (heard_of 2))
    ∷ [])
    ∷ [])

-- a1 = 3; zaw a1, 1; zaw a1, 1; a2 zar 1; out a2
abbrev pub writing_sounds : Block
writing_sounds = all (
    three
    ∷ takes_sound op.Zaw (value (heard_of 0) ∷ value (lit 1) ∷ [])
    ∷ takes_sound op.Zaw (value (heard_of 0) ∷ value (lit 1) ∷ [])
    ∷ call 6 rate.Audio (a 1 ∷ []) op.Zar (value (lit 1) ∷ [])
    ∷ out (a 1) ∷ [])

-- a1 = 3; chnmix a1, "s"; a2 chnget "s"; out a2
abbrev channel : Argument
channel = text (Global (res.Sound 0))

-- a1 = 3; chnmix a1, "s"; a2 chnget "s"; out a2
abbrev pub mixing_channel : Block
mixing_channel = all (
    three
    ∷ takes_sound op.Chnmix (value (heard_of 0) ∷ channel ∷ [])
    ∷ call 6 rate.Audio (a 1 ∷ []) op.Chnget (channel ∷ [])
    ∷ out (a 1) ∷ [])

-- a1 = 3; chnmix a1, "s"; a2 chnget "s"; out a2; chnclear "s"
abbrev pub clearing_channel : Block
clearing_channel = all (
    three
    ∷ takes_sound op.Chnmix (value (heard_of 0) ∷ channel ∷ [])
    ∷ call 6 rate.Audio (a 1 ∷ []) op.Chnget (channel ∷ [])
    ∷ out (a 1)
    ∷ call 8 rate.Control [] op.Chnclear (channel ∷ []) ∷ [])

-- chnset p4, "c"; k1 chnget "c"; a1 = k1; out a1
abbrev held_channel : Argument
held_channel = text (Global (res.Control 0))

-- chnset p4, "c"; k1 chnget "c"; a1 = k1; out a1
abbrev pub setting_channel : Block
setting_channel = all (
    call 3 rate.Init [] op.Chnset (value (field rate.Init 4) ∷ held_channel ∷ [])
    ∷ call 4 rate.Control (k 0 ∷ []) op.Chnget (held_channel ∷ [])
    ∷ sound_of 0 ∷ out (a 0) ∷ [])

-- a1 = 3; outch 2, a1, 1.9, a1, 0, a1, -1, a1
abbrev pub sending_to_numbers : Block
sending_to_numbers = all (
    three
    ∷ takes_sound op.Outch (value (lit 2) ∷ value (heard_of 0) ∷ value (number rate.Init (pos 124518))
    ∷ value (heard_of 0)
    ∷ value (lit 0) ∷ value (heard_of 0) ∷ value (neg rate.Init (lit 1)) ∷ value (heard_of 0) ∷ []) ∷ [])

-- a1 = p4 > 5 ? 2 : 3; out a1
abbrev pub choosing : Block
choosing = all (
    set 3 rate.Audio (a 0) (pick rate.Init (pair rate.Init sign.Greater (field rate.Init 4) (lit 5)) (lit 2) (lit 3))
    ∷ out (a 0) ∷ [])

-- zakinit 2, 2; a1 = 1; out a1
abbrev pub sizing : Block
sizing = all (
    call 1 rate.Init [] op.Zakinit (value (lit 2) ∷ value (lit 2) ∷ [])
    ∷ set 2 rate.Audio (a 0) (lit 1) ∷ out (a 0) ∷ [])

-- the value of an expression as a note begins
abbrev pub worth : Expression → ℤ
worth e = first_value (plain (small_piece 0 0)) (new_note (fresh (λ g. silence))) e

-- the result of an operator on two integers
abbrev pub made_of : BinOp → ℕ → ℕ → ℤ
made_of o x y = worth (pair rate.Init o (lit x) (lit y))

-- the result of a function of a number in 65,536ths
abbrev pub of_number : Func → ℤ → ℤ
of_number f z = worth (apply rate.Init f (number rate.Init z))

-- a piece with a live table 1 of four points, and its points after a note that begins when all of them are 0
abbrev with_table : Piece
with_table = record (small_piece 0 0) { tables = record { number = 1; size = 4; frozen = None; present = true } ∷ [] }

-- the points of table 1 after a note that begins when all of them are 0
abbrev pub points_after : Block → List ℤ
points_after b = map ((begun with_table b (λ g. silence)).world.shared (res.Table 1)) (range_with_len 0 4)
