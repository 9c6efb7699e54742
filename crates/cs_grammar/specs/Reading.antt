-- A reading is a value with the remaining symbols, or a fault. Also the context of a line.
use Rattle.std.specs.Prelude.{ℕ, Bool, false, List, [], ◌∷◌, ◌+◌, ◌==◌, Result, Ok, Err, if◌then◌else◌, nat_lt}
use Rattle.std.specs.List.{list_any}
use Rattle.cs_base.specs.{declared.fault.OrcFault.OrcFault, declared.fault.OrcKind.OrcKind}
use Rattle.cs_words.specs.declared.word.Keyword.{Keyword}
use Rattle.cs_grammar.specs.declared.scope.Place.{Place}
use Rattle.cs_grammar.specs.{declared.symbol.Kind.Kind, declared.symbol.Expected.Expected, Kinds.is}
use Rattle.cs_grammar.specs.Symbols.{Symbol, next, after}
use Rattle.cs_base.specs.declared.fault.OrcKind.TheVariants as orc
use Rattle.cs_words.specs.declared.word.Keyword.TheVariants as key
use Rattle.cs_words.specs.declared.word.Word.TheVariants as word
use Rattle.cs_words.specs.declared.sign.Sign.TheVariants as sign
use Rattle.cs_grammar.specs.declared.symbol.Kind.TheVariants as kind
use Rattle.cs_grammar.specs.declared.scope.Place.TheVariants as place

-- the remaining symbols, or the fault that ended the reading
abbrev pub Left : Type 0
Left = Result (List Symbol) OrcFault

-- the value that was read with the remaining symbols, or the fault
abbrev pub Reading : Type 0 → Type 0
Reading A = Result (A × List Symbol) OrcFault

-- the remaining symbols of a reading, or its fault
abbrev pub left : {A : Type 0} → Reading A → Left
left (Ok (a, ts)) = Ok ts
left (Err f) = Err f

-- the value that was read, converted with f
abbrev pub mapped : {A B : Type 0} → (A → B) → Reading A → Reading B
mapped f (Ok (a, ts)) = Ok (f a, ts)
mapped f (Err e) = Err e

-- Two or three parts that were read one after another. The remaining symbols are those after the last part; a
-- fault of any part ends the reading.
abbrev pub both : {A B C : Type 0} → (A → B → C) → Reading A → Reading B → Reading C
both f (Ok (a, ts)) (Ok (b, us)) = Ok (f a b, us)
both f (Ok (a, ts)) (Err e) = Err e
both f (Err e) b = Err e

-- three parts that were read one after another, combined with f
abbrev pub three : {A B C D : Type 0} → (A → B → C → D) → Reading A → Reading B → Reading C → Reading D
three f (Ok (a, ts)) b c = both (f a) b c
three f (Err e) b c = Err e

-- the remaining symbols without the next one
abbrev pub skip : Left → Left
skip (Ok ts) = Ok (after ts)
skip (Err f) = Err f

-- whether the next symbol is the expected one
abbrev pub next_is : Expected → List Symbol → Bool
next_is e ts = is e (next ts).kind

-- whether the next symbol is the expected one, unless a fault came before
abbrev pub meets : Expected → Left → Bool
meets e (Ok ts) = next_is e ts
meets e (Err f) = false

-- The context of a part of a text: outside, in an instrument or in a definition; the number of `if`s around
-- it; the name of the definition around it; and the opcodes that were defined before it.
pub record Scope : Type 0 where
  pub place : Place
  pub depth : ℕ
  pub own : List ℕ
  pub defined : List (List ℕ)

-- the scope outside instruments and definitions
abbrev pub outside : List (List ℕ) → Scope
outside defined = record { place = place.Outside; depth = 0; own = []; defined = defined }

-- the scope in an instrument
abbrev pub in_instrument : List (List ℕ) → Scope
in_instrument defined = record { place = place.Instrument; depth = 0; own = []; defined = defined }

-- the scope in the definition of the opcode `own`
abbrev pub in_definition : List ℕ → List (List ℕ) → Scope
in_definition own defined = record { place = place.Definition; depth = 0; own = own; defined = defined }

-- the scope inside one more `if`
abbrev pub deeper : Scope → Scope
deeper s = record { place = s.place; depth = s.depth + 1; own = s.own; defined = s.defined }

-- whether a list contains a number
abbrev pub has_number : List ℕ → ℕ → Bool
has_number ns n = list_any (λ m. n == m) ns

-- the fault of a symbol that ends the text or the enclosing part: inside an `if`, an `endif` is missing
abbrev pub early : Scope → OrcKind → OrcKind
early s usual = if nat_lt 0 s.depth then orc.MissingEndif else usual

-- The kind of fault if the text ends too early, by the part that isn't closed.
abbrev pub open_kind : Place → OrcKind
open_kind place.Outside = orc.Unexpected
open_kind place.Instrument = orc.MissingEndin
open_kind place.Definition = orc.MissingEndop

-- between `opcode` and `endop`, no instrument and no other definition may begin
abbrev pub opcode_kind : Place → OrcKind → OrcKind
opcode_kind place.Definition usual = orc.Unexpected
opcode_kind _ usual = usual

-- the kind of fault of an `instr` that fits no rule
abbrev pub instr_kind : Place → OrcKind → OrcKind
instr_kind place.Instrument usual = orc.NestedInstr
instr_kind p usual = opcode_kind p usual

-- between `opcode` and `endop`, an `xin` or `xout` that fits no rule has a separate kind of fault
abbrev pub x_kind : Place → OrcKind → OrcKind
x_kind place.Definition usual = orc.XinXout
x_kind _ usual = usual

-- the kind of fault of a keyword that fits no rule
abbrev pub keyword_kind : Scope → OrcKind → Keyword → OrcKind
keyword_kind s usual key.Endin = early s usual
keyword_kind s usual key.Endop = early s usual
keyword_kind s usual key.Instr = instr_kind s.place usual
keyword_kind s usual key.Opcode = opcode_kind s.place usual
keyword_kind s usual key.Xin = x_kind s.place usual
keyword_kind s usual key.Xout = x_kind s.place usual
keyword_kind s usual _ = usual

-- The kind of fault of a symbol that fits no rule: a special kind for some symbols, and otherwise `usual`.
abbrev pub misfit_kind : Scope → OrcKind → Kind → OrcKind
misfit_kind s usual kind.Beyond = orc.NotInProfile
misfit_kind s usual (kind.Sign sign.Beyond) = orc.NotInProfile
misfit_kind s usual (kind.Word word.Foreign) = orc.NotInProfile
misfit_kind s usual (kind.Word (word.Keyword k)) = keyword_kind s usual k
misfit_kind s usual kind.End = early s (open_kind s.place)
misfit_kind s usual _ = usual

-- a fault at the next symbol
abbrev pub fault : List Symbol → OrcKind → OrcFault
fault ts k = record { line = (next ts).line; kind = k }

-- the fault at the next symbol if it fits no rule
abbrev pub misfit : Scope → OrcKind → List Symbol → OrcFault
misfit s usual ts = fault ts (misfit_kind s usual (next ts).kind)

-- a reading, followed by the expected symbol
abbrev pub through : {A : Type 0} → Scope → Expected → Reading A → Reading A
through s e (Ok (a, ts)) = if next_is e ts then Ok (a, after ts) else Err (misfit s orc.Unexpected ts)
through s e (Err f) = Err f

-- the value a, followed by the end of the line, by the kind of the next symbol
abbrev pub line_end : {A : Type 0} → Scope → A → Kind → List Symbol → Reading A
line_end s a kind.NewLine ts = Ok (a, after ts)
line_end s a kind.End ts = Ok (a, ts)
line_end s a _ ts = Err (misfit s orc.Unexpected ts)

-- a reading, followed by the end of the line
abbrev pub ended : {A : Type 0} → Scope → Reading A → Reading A
ended s (Ok (a, ts)) = line_end s a (next ts).kind ts
ended s (Err f) = Err f
