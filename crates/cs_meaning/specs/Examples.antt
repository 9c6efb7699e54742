-- Small pieces as typed trees, for worked examples: eight frames a second, four frames a control cycle.
use Rattle.std.specs.Prelude.{ℕ, ℤ, pos, Bool, Option, ◌*◌, ◌*ℤ◌, unsigned_abs, List, [], ◌∷◌, map}
use Rattle.std.specs.List.{range_with_len}
use Rattle.cs_base.specs.{Numbers.sum_of, Numbers.floor_div, Numbers.one as scale, declared.resource.Res.Res}
use Rattle.cs_typed.specs.TypedTree.{Expression, number, var, field, pair, value, Statement, set, call, choose, Block}
use Rattle.cs_typed.specs.TypedTree.{no_stmt, andthen, otherwise, arm}
use Rattle.cs_typed.specs.declared.tree.Var.{Var as Variable}
use Rattle.cs_typed.specs.declared.tree.Var.TheVariants.{Local, Global}
use Rattle.cs_ir.specs.{Resources.Stock, Waves.Wave, Waves.silence}
use Rattle.cs_meaning.specs.{Core.core, Initialising.init_block, Notes.Note, Notes.Path, Notes.new_note, Notes.moved_to}
use Rattle.cs_meaning.specs.{Notes.start, Performing.perf_block, Uses.block_uses, Uses.block_writes}
use Rattle.cs_meaning.specs.Plain.{Cause, Plain, Piece, plain, fresh, next_cycle}
use Rattle.cs_base.specs.declared.resource.Rate.TheVariants as rate
use Rattle.cs_base.specs.declared.resource.Res.TheVariants as res
use Rattle.cs_words.specs.declared.catalogue.Opcode.TheVariants as op
use Rattle.cs_words.specs.declared.sign.BinOp.TheVariants as sign

-- a time in raw seconds, converted to samples at eight a second
abbrev eighths : ℤ → ℕ
eighths t = unsigned_abs (floor_div (t *ℤ pos 8) scale)

-- a piece of eight frames a second and four frames a cycle, with one channel, these zak spaces, no tables and
-- no generators; each p-field of its notes is 7
abbrev pub small_piece : ℕ → ℕ → Piece
small_piece zak_k zak_a = record {
  head = record { sr = 8; ksmps = 4; nchnls = 1; dbfs = pos (32768 * 65536) };
  spaces = record { control = zak_k; audio = zak_a };
  tables = [];
  generators = record { gen = λ opcode r is h. pos 0; delay = eighths };
  fields = λ n. pos 458752;
}

-- A note of these statements after it has begun, in this state of shared resources.
abbrev pub begun : Piece → Block → (Res → Wave) → Note Plain
begun piece body shared = init_block (plain piece) start (core piece.spaces body) (new_note (fresh shared))

-- the note after one more cycle, which begins with these shared resources
abbrev pub performed : Piece → Block → Note Plain → (Res → Wave) → Note Plain
performed piece body t shared =
    perf_block (plain piece) start (core piece.spaces body) (moved_to (next_cycle shared t.world) t)

-- A note with its statements. Notes begin one after another; each sees the shared resources as the notes
-- before it left them.
abbrev pub Player : Type 0
Player = Block × Note Plain

-- all notes begin, one after another
abbrev pub begin_all : Piece → List Block → (Res → Wave) → List Player × (Res → Wave)
begin_all piece [] shared = ([], shared)
begin_all piece (b ∷ rest) shared =
    let t = begun piece b shared in let others = begin_all piece rest t.world.shared in ((b, t) ∷ others.0, others.1)

-- a control cycle, in which each note is performed after the notes before it
abbrev pub cycle : Piece → List Player → (Res → Wave) → List Player × (Res → Wave)
cycle piece [] shared = ([], shared)
cycle piece ((b, t) ∷ rest) shared =
    let now = performed piece b t shared in let others =
    cycle piece rest now.world.shared in ((b, now) ∷ others.0, others.1)

-- the sound of a cycle at each of its four frames: the sum of the notes, as integers
abbrev pub sum_at : List Player → ℕ → ℤ
sum_at [] j = pos 0
sum_at ((b, t) ∷ rest) j = sum_of (t.world.outs 0 j) (sum_at rest j)

-- the sound of a cycle, as a list of four frames
abbrev pub frames : List Player → List ℤ
frames players = map (sum_at players) (range_with_len 0 4)

-- the notes of a piece, which begin after the code outside instruments has run
abbrev pub all_begun : Piece → Block → List Block → List Player × (Res → Wave)
all_begun piece outside notes = begin_all piece notes ((begun piece outside (λ g. silence)).world.shared)

-- the notes after the first cycle, and after the second
abbrev pub after_each : Piece → List Player × (Res → Wave) → List (List Player)
after_each piece (players, shared) =
    let first = cycle piece players shared in let second = cycle piece first.0 first.1 in first.0 ∷ second.0 ∷ []

-- the sound of two cycles, and which notes have ended after each cycle
abbrev pub heard : Piece → Block → List Block → List (List ℤ)
heard piece outside notes = map frames (after_each piece (all_begun piece outside notes))

-- whether a note has ended
abbrev pub has_ended : Player → Bool
has_ended (b, t) = t.world.ended

-- which notes have ended after the first cycle and after the second
abbrev pub endings : Piece → Block → List Block → List (List Bool)
endings piece outside notes = map (λ players. map has_ended players) (after_each piece (all_begun piece outside notes))

-- why a note doesn't start, or None
abbrev pub cause_of : Piece → Block → Option Cause
cause_of piece body = (begun piece body (λ g. silence)).world.cause

-- the notes that a note schedules as it begins
abbrev pub asked_by : Piece → Block → List (List ℤ)
asked_by piece body = (begun piece body (λ g. silence)).world.asks

-- the same value at each of four frames
abbrev pub each : ℤ → List ℤ
each z = z ∷ z ∷ z ∷ z ∷ []

-- an integer in 65,536ths
abbrev pub whole : ℕ → ℤ
whole n = pos (n * 65536)

-- an integer literal
abbrev pub lit : ℕ → Expression
lit n = number rate.Init (whole n)

-- a block of one statement
abbrev pub one : Statement → Block
one s = andthen s no_stmt

-- the global variable gk number n + 1
abbrev pub gk : ℕ → Variable
gk n = Global (res.Gk n)

-- the local variable k number n + 1
abbrev pub k : ℕ → Variable
k n = Local rate.Control n

-- the local variable a number n + 1
abbrev pub a : ℕ → Variable
a n = Local rate.Audio n

-- a variable read at k-rate
abbrev pub read : Variable → Expression
read v = var rate.Control v

-- out v
abbrev pub out : Variable → Statement
out v = call 0 rate.Audio [] op.Out (value (var rate.Audio v) ∷ [])

-- gk1 init 0, gk2 init 0
abbrev pub zeros : Block
zeros =
    andthen (call 3 rate.Init (gk 0 ∷ []) op.Init (value (lit 0) ∷ []))
    (one (call 4 rate.Init (gk 1 ∷ []) op.Init (value (lit 0) ∷ [])))

-- gk1 = gk1 + 1
abbrev pub counting : Block
counting = one (set 5 rate.Control (gk 0) (pair rate.Control sign.Add (read (gk 0)) (lit 1)))

-- a1 = gk1; out a1
abbrev pub telling : Block
telling = andthen (set 8 rate.Audio (a 0) (read (gk 0))) (one (out (a 0)))

-- k1 init 0; k1 = k1 + 1; a1 = k1; out a1; if k1 == 2 then turnoff endif
abbrev pub ending : Block
ending =
    andthen (call 4 rate.Init (k 0 ∷ []) op.Init (value (lit 0) ∷ []))
    (andthen (set 5 rate.Control (k 0) (pair rate.Control sign.Add (read (k 0)) (lit 1)))
    (andthen (set 6 rate.Audio (a 0) (read (k 0)))
    (andthen (out (a 0))
    (one (choose 8 rate.Control
    (arm (pair rate.Control sign.Equal (read (k 0)) (lit 2)) (one (call 9 rate.Control [] op.Turnoff []))
    (otherwise no_stmt)))))))

-- zkw 7, 1
abbrev pub writing_place : Block
writing_place = one (call 5 rate.Control [] op.Zkw (value (lit 7) ∷ value (lit 1) ∷ []))

-- k1 zkr 1; k2 zkr 5; a1 = k1 * 10 + k2; out a1
abbrev pub reading_places : Block
reading_places =
    andthen (call 8 rate.Control (k 0 ∷ []) op.Zkr (value (lit 1) ∷ []))
    (andthen (call 9 rate.Control (k 1 ∷ []) op.Zkr (value (lit 5) ∷ []))
    (andthen (set 10 rate.Audio (a 0)
    (pair rate.Control sign.Add (pair rate.Control sign.Mul (read (k 0)) (lit 10)) (read (k 1))))
    (one (out (a 0)))))

-- gk1 = 1
abbrev pub setting_one : Block
setting_one = one (set 5 rate.Control (gk 0) (lit 1))

-- k1 = gk with number n + 1
abbrev pub reading : ℕ → Block
reading n = one (set 8 rate.Control (k 0) (read (gk n)))

-- the global variable gi1
abbrev gi : Variable
gi = Global (res.Gi 0)

abbrev set_gi : ℕ → Statement
set_gi n = set 3 rate.Init gi (lit n)

-- gi1 = 5
abbrev pub five : Block
five = one (set_gi 5)

-- a1 = gi1; out a1
abbrev pub sounding_gi : Block
sounding_gi = andthen (set 5 rate.Audio (a 0) (var rate.Init gi)) (one (out (a 0)))

-- gi1 = 9
abbrev pub setting_nine : Block
setting_nine = one (set_gi 9)

-- if p4 == 1 then k1 init 3 else k1 init 4 endif; a1 = k1; out a1: the `if` is decided once, as the note
-- begins
abbrev set_k : ℕ → Block
set_k n = one (call 6 rate.Init (k 0 ∷ []) op.Init (value (lit n) ∷ []))

-- if p4 == 1 then k1 init 3 else k1 init 4 endif; a1 = k1; out a1
abbrev pub deciding : Block
deciding =
    andthen (choose 5 rate.Init
    (arm (pair rate.Init sign.Equal (field rate.Init 4) (lit 1)) (set_k 3) (otherwise (set_k 4))))
    (andthen (set 9 rate.Audio (a 0) (read (k 0))) (one (out (a 0))))

-- gk1 init 2 outside; i1 = p4 * 10; k1 init 0; k1 = k1 + gk1; a1 = k1 + i1; out a1; if k1 == 4 then turnoff endif
abbrev pub two_outside : Block
two_outside = one (call 3 rate.Init (gk 0 ∷ []) op.Init (value (lit 2) ∷ []))

abbrev i1 : Variable
i1 = Local rate.Init 0

-- the note that docs/MEANING.md follows
abbrev pub followed : Block
followed =
    andthen (set 5 rate.Init i1 (pair rate.Init sign.Mul (field rate.Init 4) (lit 10)))
    (andthen (call 6 rate.Init (k 0 ∷ []) op.Init (value (lit 0) ∷ []))
    (andthen (set 7 rate.Control (k 0) (pair rate.Control sign.Add (read (k 0)) (read (gk 0))))
    (andthen (set 8 rate.Audio (a 0) (pair rate.Control sign.Add (read (k 0)) (var rate.Init i1)))
    (andthen (out (a 0))
    (one (choose 10 rate.Control
    (arm (pair rate.Control sign.Equal (read (k 0)) (lit 4)) (one (call 11 rate.Control [] op.Turnoff []))
    (otherwise no_stmt))))))))

-- the values that a note keeps for these parts of its text
abbrev pub kept_by : Piece → Block → Block → List Path → List ℤ
kept_by piece outside body = map (begun piece body (begun piece outside (λ g. silence)).world.shared).kept

-- the paths of two values that the example note keeps: `i1`, the second part of the sum in the fourth
-- statement, and 4, a part of the first condition in the sixth statement
abbrev pub followed_places : List Path
followed_places = (1 ∷ 0 ∷ 3 ∷ []) ∷ (1 ∷ 0 ∷ 0 ∷ 5 ∷ []) ∷ []

-- a1 oscili 1, 1, 9
abbrev pub missing_table : Block
missing_table = one (call 5 rate.Audio (a 0 ∷ []) op.Oscili (value (lit 1) ∷ value (lit 1) ∷ value (lit 9) ∷ []))

-- a1 = 1; a2 delay a1, 40000
abbrev pub long_delay : Block
long_delay =
    andthen (set 5 rate.Audio (a 0) (lit 1))
    (one (call 6 rate.Audio (a 1 ∷ []) op.Delay (value (var rate.Audio (a 0)) ∷ value (lit 40000) ∷ [])))

-- schedule 2, 0, 1, p4
abbrev pub asking : Block
asking = one (call 5 rate.Init [] op.Schedule
    (value (lit 2) ∷ value (lit 0) ∷ value (lit 1) ∷ value (field rate.Init 4) ∷ []))

-- zkw 1, 0; k1 zkr 0; k1 zkr p4
abbrev pub writing_first : Block
writing_first = one (call 5 rate.Control [] op.Zkw (value (lit 1) ∷ value (lit 0) ∷ []))

-- k1 zkr 0
abbrev pub reading_first : Block
reading_first = one (call 5 rate.Control (k 0 ∷ []) op.Zkr (value (lit 0) ∷ []))

-- k1 zkr p4
abbrev pub reading_any : Block
reading_any = one (call 5 rate.Control (k 0 ∷ []) op.Zkr (value (field rate.Init 4) ∷ []))

-- no statements
abbrev pub no_code : Block
no_code = no_stmt

-- the resources that statements use and write, in a piece whose zak space of control values has this number
-- of places
abbrev pub stock : ℕ → Stock
stock places = record { spaces = record { control = places; audio = 0 }; live = [] }

-- the resources that statements use in a cycle
abbrev pub uses_of : ℕ → Block → List Res
uses_of places body = block_uses (stock places) (core (stock places).spaces body)

-- the resources that statements may write in a cycle
abbrev pub writes_of : ℕ → Block → List Res
writes_of places body = block_writes (stock places) (core (stock places).spaces body)
