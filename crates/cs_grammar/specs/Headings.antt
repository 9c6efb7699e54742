-- The line of `opcode`.
use Rattle.std.specs.Prelude.{ℕ, ℤ, pos, Bool, false, List, [], ◌&&◌, ◌==◌, not, map, Ok, Err, if◌then◌else◌}
use Rattle.std.specs.List.{list_all}
use Rattle.cs_base.specs.{declared.fault.OrcKind.OrcKind, declared.resource.Rate.Rate}
use Rattle.cs_words.specs.{Names.is_rate_letter, Names.letter_rate, NameSets.has}
use Rattle.cs_grammar.specs.Reading.{through, ended, Left, Reading, left, three, Scope, fault, misfit, misfit_kind}
use Rattle.cs_grammar.specs.{declared.symbol.Kind.Kind, Kinds.is_word, Kinds.may_be_opcode}
use Rattle.cs_grammar.specs.Symbols.{Symbol, next, after}
use Rattle.cs_base.specs.declared.fault.OrcKind.TheVariants as orc
use Rattle.cs_words.specs.declared.word.Word.TheVariants as word
use Rattle.cs_grammar.specs.declared.symbol.Kind.TheVariants as kind
use Rattle.cs_grammar.specs.declared.symbol.Expected.TheVariants as expected

-- the fault of a symbol that can't name an opcode; a word of Csound that the profile lacks is unexpected here
abbrev pub no_name_kind : Scope → Kind → OrcKind
no_name_kind s (kind.Word word.Foreign) = orc.Unexpected
no_name_kind s k = misfit_kind s orc.Unexpected k

-- the name of the defined opcode, which must not have been defined before
abbrev pub new_name : Scope → List Symbol → Reading (List ℕ)
new_name s ts =
    if not (may_be_opcode (next ts).kind) then Err (fault ts (no_name_kind s (next ts).kind))
    else (if has s.defined (next ts).text then Err (fault ts orc.OpcodeTwice) else Ok ((next ts).text, after ts))

-- whether a number is 0
abbrev pub is_zero : ℤ → Bool
is_zero (pos raw) = raw == 0
is_zero _ = false

-- whether a symbol is the number 0
abbrev pub is_number_zero : Kind → Bool
is_number_zero (kind.Number v) = is_zero v
is_number_zero _ = false

-- whether a symbol is a word that consists only of the letters a, k and i
abbrev pub is_letters : Symbol → Bool
is_letters t = is_word t.kind && list_all is_rate_letter t.text

-- the rates of results or inputs: a letter for each, or the number 0 for none
abbrev pub types_at : Scope → List Symbol → Reading (List Rate)
types_at s ts =
    if is_number_zero (next ts).kind then Ok ([], after ts)
    else (if is_letters (next ts) then Ok (map letter_rate (next ts).text, after ts)
    else Err (misfit s (if is_word (next ts).kind then orc.NotInProfile else orc.Unexpected) ts))

-- the rates of results or inputs, unless a fault came before
abbrev pub types : Scope → Left → Reading (List Rate)
types s (Ok ts) = types_at s ts
types s (Err f) = Err f

-- the line of `opcode`: the name, the results and the inputs
pub record Heading : Type 0 where
  pub line : ℕ
  pub name : List ℕ
  pub outs : List Rate
  pub ins : List Rate

-- a heading with these fields
abbrev pub heading_of : ℕ → List ℕ → List Rate → List Rate → Heading
heading_of line name outs ins = record { line = line; name = name; outs = outs; ins = ins }

-- the reading after `opcode`: the name, a comma, the results, a comma, the inputs, and the end of the line
abbrev pub heading : Scope → ℕ → List Symbol → Reading Heading
heading s line ts =
    let name = new_name s ts in
    let outs = types s (left (through s expected.Comma name)) in
    let ins = types s (left (through s expected.Comma outs)) in
    ended s (three (heading_of line) name outs ins)
