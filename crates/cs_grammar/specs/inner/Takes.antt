-- How the parser reads the inputs of a definition.
use Rattle.std.specs.Prelude.{ℕ, Bool, true, false, List, [], ◌∷◌, ◌++◌, ◌&&◌, ◌==◌, not, length, Option, Some, None}
use Rattle.std.specs.Prelude.{Ok, Err, if◌then◌else◌, zero, suc, ◌+◌}
use Rattle.cs_base.specs.{declared.resource.Rate.Rate, Rates.same_rate}
use Rattle.cs_words.specs.{Names.name_rate, NameSets.has}
use Rattle.cs_grammar.specs.{Tree.Argument, Headings.Heading, Orchestra.behind_xout, Inputs.is_free, Inputs.is_local}
use Rattle.cs_grammar.specs.Reading.{Reading, next_is, Scope, fault, ended}
use Rattle.cs_grammar.specs.Kinds.{is}
use Rattle.cs_grammar.specs.Symbols.{Symbol, next, after}
use Rattle.cs_base.specs.declared.fault.OrcKind.TheVariants as orc
use Rattle.cs_grammar.specs.declared.symbol.Expected.TheVariants as expected

-- one more than a count, if there is one
abbrev pub plus_one : Option ℕ → Option ℕ
plus_one (Some n) = Some (n + 1)
plus_one None = None

-- the number of free words before `xin`, separated by commas; None if the line doesn't have this form
abbrev pub input_count : Scope → List Symbol → Option ℕ
input_count s [] = None
input_count s (t ∷ []) = None
input_count s (t ∷ c ∷ us) =
    if not (is_free s t) then None
    else (if is expected.Xin c.kind then Some 1
    else (if is expected.Comma c.kind then plus_one (input_count s us) else None))

-- the names of n words, each of which is followed by one other symbol
abbrev pub words : ℕ → List Symbol → List (List ℕ)
words zero ts = []
words (suc n) ts = (next ts).text ∷ words n (after (after ts))

-- the symbols from `xin` on, after n words
abbrev pub at_xin : ℕ → List Symbol → List Symbol
at_xin zero ts = ts
at_xin (suc zero) ts = after ts
at_xin (suc (suc n)) ts = at_xin (suc n) (after (after ts))

-- whether a symbol is a local variable of rate r that isn't among the names `before`
abbrev pub is_input : Scope → List (List ℕ) → Rate → Symbol → Bool
is_input s before r t = is_local s t && same_rate r (name_rate t.text) && not (has before t.text)

-- whether n words are different local variables, one for each input, with its rate
abbrev pub are_inputs : Scope → List (List ℕ) → List Rate → ℕ → List Symbol → Bool
are_inputs s before [] zero ts = true
are_inputs s before (r ∷ rs) (suc n) ts =
    is_input s before r (next ts) && are_inputs s (before ++ (next ts).text ∷ []) rs n (after (after ts))
are_inputs s before _ _ ts = false

-- whether a symbol is a valid name for the first of these inputs, following the names `before`
abbrev pub first_fits : Scope → List (List ℕ) → List Rate → Symbol → Bool
first_fits s before [] t = false
first_fits s before (r ∷ rs) t = is_input s before r t

-- the inputs after the first
abbrev pub after_first : List Rate → List Rate
after_first [] = []
after_first (r ∷ rs) = rs

-- whether a list is empty
abbrev pub is_none : {A : Type 0} → List A → Bool
is_none [] = true
is_none _ = false

-- the reading without a line of `xin`: there must be no inputs
abbrev pub no_names : Heading → List Symbol → Reading (List (List ℕ))
no_names h ts = if is_none h.ins then Ok ([], ts) else Err (record { line = h.line; kind = orc.XinXout })

-- the inputs, if n words come before `xin`
abbrev pub taken_so_many : Scope → Heading → List Symbol → ℕ → Reading (List (List ℕ))
taken_so_many s h ts n =
    if are_inputs s [] h.ins n ts then ended s (Ok (words n ts, after (at_xin n ts)))
    else Err (fault (at_xin n ts) orc.XinXout)

-- the inputs, by the number of words before `xin`
abbrev pub taken : Scope → Heading → List Symbol → Option ℕ → Reading (List (List ℕ))
taken s h ts None = no_names h ts
taken s h ts (Some n) = taken_so_many s h ts n

-- the names that receive the inputs
abbrev pub inputs : Scope → Heading → List Symbol → Reading (List (List ℕ))
inputs s h ts =
    if next_is expected.Xin ts then Err (fault ts orc.XinXout) else taken s h ts (input_count s ts)

-- ---- the line of `xout`

-- `endop` after the line of `xout`
abbrev pub last_line : {A : Type 0} → Scope → A → List Symbol → Reading A
last_line s a ts = if next_is expected.Endop ts then Ok (a, ts) else Err (behind_xout s ts)

-- whether there is one value for each result
abbrev pub are_results : List Argument → List Rate → Bool
are_results values outs = length values == length outs

-- the values of `xout` on line `line`, followed by `endop`
abbrev pub results_of : Scope → ℕ → List Rate → Reading (List Argument) → Reading (List Argument)
results_of s line outs (Ok (args, ts)) =
    if are_results args outs then last_line s args ts else Err (record { line = line; kind = orc.XinXout })
results_of s line outs (Err f) = Err f

-- the reading without a line of `xout`: there must be no results
abbrev pub no_results : List Rate → List Symbol → Reading (List Argument)
no_results outs ts = if is_none outs then Ok ([], ts) else Err (fault ts orc.XinXout)
