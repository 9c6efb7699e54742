-- The form of a line, determined by its first words, and the parts of lines that aren't expressions.
use Rattle.std.specs.Prelude.{ℕ, ℤ, pos, Bool, true, false, List, [], ◌∷◌, ◌++◌, ◌≡◌, ◌/◌, ◌%◌, ◌&&◌, ◌==◌, not, codes}
use Rattle.std.specs.Prelude.{Option, Some, None, Ok, Err, if◌then◌else◌, nat_le, nat_lt}
use Rattle.std.specs.Str.{bytes_eq}
use Rattle.cs_base.specs.Limits.{greatest_instrument, most_nested_ifs}
use Rattle.cs_base.specs.{declared.fault.OrcFault.OrcFault, declared.fault.OrcKind.OrcKind}
use Rattle.cs_words.specs.{declared.catalogue.Opcode.Opcode, declared.word.HeadName.HeadName}
use Rattle.cs_grammar.specs.{declared.tree.Callee.Callee, declared.tree.HeadLine.HeadLine, declared.scope.Place.Place}
use Rattle.cs_grammar.specs.{declared.stmt.LineForm.LineForm, Parts.is_variable, Parts.is_opcode}
use Rattle.cs_grammar.specs.Reading.{ended, Left, Reading, mapped, next_is, Scope, has_number, fault, misfit}
use Rattle.cs_grammar.specs.{declared.symbol.Kind.Kind, Kinds.is, Kinds.is_word}
use Rattle.cs_grammar.specs.Symbols.{Symbol, next, after}
use Rattle.cs_base.specs.declared.fault.OrcKind.TheVariants as orc
use Rattle.cs_words.specs.declared.catalogue.Opcode.TheVariants as opcode
use Rattle.cs_words.specs.declared.word.Keyword.TheVariants as key
use Rattle.cs_words.specs.declared.word.Word.TheVariants as word
use Rattle.cs_words.specs.declared.sign.Sign.TheVariants as sign
use Rattle.cs_grammar.specs.declared.tree.Callee.TheVariants as callee
use Rattle.cs_grammar.specs.declared.symbol.Kind.TheVariants as kind
use Rattle.cs_grammar.specs.declared.symbol.Expected.TheVariants as expected
use Rattle.cs_grammar.specs.declared.scope.Place.TheVariants as place
use Rattle.cs_grammar.specs.declared.stmt.LineForm.TheVariants as form

-- the form of a line that begins with a word that is no keyword, by the symbol after it and by whether the
-- word is an opcode
abbrev pub word_form : Kind → Bool → LineForm
word_form (kind.Sign sign.Colon) _ = form.Beyond
word_form (kind.Sign sign.Equals) _ = form.Assignment
word_form (kind.Sign sign.PlusEquals) _ = form.Assignment
word_form (kind.Sign sign.Comma) _ = form.Results
word_form _ true = form.Bare
word_form k false = if is_word k then form.Results else form.Bare

-- the form of a line by its first symbol; `by_word` is its form if it begins with a word that is no keyword
abbrev pub line_form_of : Scope → Kind → LineForm → LineForm
line_form_of s (kind.Word (word.Keyword key.If)) by_word =
    if nat_lt s.depth most_nested_ifs then form.Conditional else form.Beyond
line_form_of s (kind.Word (word.Keyword _)) by_word = form.Misplaced
line_form_of s k by_word = if is_word k then by_word else form.Misplaced

-- A label, or an `if` inside 100 others, exceeds the profile. A keyword other than `if`, or a symbol that is
-- no word, is misplaced.
abbrev pub line_form : Scope → List Symbol → LineForm
line_form s ts =
    line_form_of s (next ts).kind (word_form (next (after ts)).kind (is_opcode s (next ts).text (next ts).kind))

-- the fault of a symbol that can't be assigned to: fields and header names are unexpected, and other words
-- are outside the profile
abbrev pub no_target : Kind → OrcKind
no_target (kind.Word (word.Field k)) = orc.Unexpected
no_target (kind.Word (word.Header h)) = orc.Unexpected
no_target k = if is_word k then orc.NotInProfile else orc.Unexpected

-- the variable that is assigned to
abbrev pub target : Scope → List Symbol → Reading (List ℕ)
target s ts =
    if is_variable s (next ts) then Ok ((next ts).text, after ts) else Err (misfit s (no_target (next ts).kind) ts)

-- comma-separated items; the reading of each item is passed the items before it
pub data ReadsRow {A : Type 0} (one : List A → List Symbol → Reading A)
    : List A → List Symbol → Reading (List A) → Type 0 where
  no_item : {before : List A} {ts : List Symbol} {f : OrcFault} → one before ts ≡ Err f
      → ReadsRow one before ts (Err f)
  last_item : {before : List A} {ts us : List Symbol} {x : A} → one before ts ≡ Ok (x, us)
      → next_is expected.Comma us ≡ false → ReadsRow one before ts (Ok (x ∷ [], us))
  more_items : {before : List A} {ts us : List Symbol} {x : A} {out : Reading (List A)} → one before ts ≡ Ok (x, us)
      → next_is expected.Comma us ≡ true → ReadsRow one (before ++ x ∷ []) (after us) out
      → ReadsRow one before ts (mapped (λ xs. x ∷ xs) out)

-- a variable, regardless of the variables before it
abbrev pub one_target : Scope → List (List ℕ) → List Symbol → Reading (List ℕ)
one_target s before ts = target s ts

-- name { "," name }: the variables that receive the results of a call
abbrev pub ReadsTargets : Scope → List Symbol → Reading (List (List ℕ)) → Type 0
ReadsTargets s ts = ReadsRow (one_target s) [] ts

-- whether a name is the name of the definition around the line
abbrev pub is_own : Scope → List ℕ → Place → Bool
is_own s name place.Definition = bytes_eq s.own name
is_own s name _ = false

-- whether a place is outside instruments and definitions
abbrev pub is_outside : Place → Bool
is_outside place.Outside = true
is_outside _ = false

-- whether a symbol is a text other than `"i"`, the only text that may follow `event_i`
abbrev pub is_other_text : Symbol → Bool
is_other_text t = is expected.Text t.kind && not (bytes_eq t.text (codes "i"))

-- an opcode of the catalogue: `zakinit` is allowed only outside, and the only text after `event_i` is `"i"`
abbrev pub by_opcode : Scope → List Symbol → Opcode → Reading Callee
by_opcode s ts opcode.Zakinit =
    if is_outside s.place then Ok (callee.Opcode opcode.Zakinit, after ts) else Err (fault ts orc.Unexpected)
by_opcode s ts opcode.EventI =
    if is_other_text (next (after ts)) then Err (fault (after ts) orc.NotInProfile)
    else Ok (callee.Opcode opcode.EventI, after ts)
by_opcode s ts o = Ok (callee.Opcode o, after ts)

-- any other name, except the name of the definition around the line
abbrev pub called : Scope → List Symbol → Reading Callee
called s ts =
    if is_own s (next ts).text s.place then Err (fault ts orc.Recursion) else Ok (callee.Name (next ts).text, after ts)

-- the called opcode, by the kind of its symbol
abbrev pub operation_of : Scope → List Symbol → Kind → Reading Callee
operation_of s ts (kind.Word (word.Opcode o)) = by_opcode s ts o
operation_of s ts (kind.Word (word.Keyword k)) = Err (misfit s orc.Unexpected ts)
operation_of s ts (kind.Word word.Foreign) = Err (misfit s orc.Unexpected ts)
operation_of s ts k = if is_word k then called s ts else Err (misfit s orc.Unexpected ts)

-- the opcode that a statement calls: an opcode of the catalogue, or any other name
abbrev pub operation : Scope → Left → Reading Callee
operation s (Ok ts) = operation_of s ts (next ts).kind
operation s (Err f) = Err f

-- the number of a header line, after its name and `=`
abbrev pub header_of : Scope → HeadName → ℕ → List Symbol → Kind → Reading HeadLine
header_of s h line ts (kind.Number v) = ended s (Ok (record { line = line; name = h; value = v }, after ts))
header_of s h line ts _ = Err (misfit s orc.Unexpected ts)

-- a header line: its name, `=`, and a number
abbrev pub header_line : Scope → HeadName → List Symbol → Reading HeadLine
header_line s h ts = header_of s h (next ts).line (after (after ts)) (next (after (after ts))).kind

-- ---- instruments

-- the instrument number that a value denotes: an integer from 1 to 32,767
abbrev pub instrument_number : ℤ → Option ℕ
instrument_number (pos raw) =
    if raw % 65536 == 0 && nat_le 1 (raw / 65536) && nat_le (raw / 65536) greatest_instrument
    then Some (raw / 65536) else None
instrument_number _ = None

-- a number that no instrument has yet
abbrev pub fresh : List ℕ → List Symbol → Option ℕ → Reading ℕ
fresh given ts None = Err (fault ts orc.InstrNumber)
fresh given ts (Some n) = if has_number given n then Err (fault ts orc.InstrTwice) else Ok (n, after ts)

-- an instrument's number, by the kind of its symbol
abbrev pub number_at : Scope → List ℕ → List Symbol → Kind → Reading ℕ
number_at s given ts (kind.Number v) = fresh given ts (instrument_number v)
number_at s given ts k = Err (misfit s (if is_word k then orc.NotInProfile else orc.Unexpected) ts)

-- an instrument's number, which must not be among the numbers in `given`
abbrev pub one_number : Scope → List ℕ → List Symbol → Reading ℕ
one_number s given ts = number_at s given ts (next ts).kind

-- Number { "," Number }: the earlier numbers on the line count as used, too
abbrev pub ReadsNumbers : Scope → List ℕ → List Symbol → Reading (List ℕ) → Type 0
ReadsNumbers s given ts = ReadsRow (one_number s) given ts
