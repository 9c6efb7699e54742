-- Lists of words and numbers, as the parser processes them.
use Rattle.std.specs.Prelude.{ℕ, List, [], ◌∷◌, ◌++◌, Ok, Err, if◌then◌else◌}
use Rattle.cs_grammar.specs.{declared.lists.Role.Role, Tree.Argument, Tree.text, Lines.one_number, Lines.one_target}
use Rattle.cs_grammar.specs.Reading.{Reading, mapped, Scope, fault}
use Rattle.cs_grammar.specs.Kinds.{is}
use Rattle.cs_grammar.specs.Symbols.{Symbol, next, after}
use Rattle.cs_base.specs.declared.fault.OrcKind.TheVariants as orc
use Rattle.cs_grammar.specs.declared.symbol.Expected.TheVariants as expected
use Rattle.cs_grammar.specs.declared.lists.Role.TheVariants as role

-- an item, followed by more items
abbrev pub behind : {A : Type 0} → Reading A → (A → Reading (List A)) → Reading (List A)
behind (Ok (x, ts)) more = mapped (λ xs. x ∷ xs) (more x)
behind (Err f) more = Err f

-- comma-separated items; the reading of each item is passed the items before it
abbrev pub row : {A : Type 0} → (List A → List Symbol → Reading A) → List A → List Symbol → Reading (List A)
row one before [] = mapped (λ x. x ∷ []) (one before [])
row one before (t ∷ []) = mapped (λ x. x ∷ []) (one before (t ∷ []))
row one before (t ∷ c ∷ us) =
    if is expected.Comma c.kind then behind (one before (t ∷ c ∷ us)) (λ x. row one (before ++ x ∷ []) us)
    else mapped (λ x. x ∷ []) (one before (t ∷ c ∷ us))

-- the variables that receive the results of a call
abbrev pub targets : Scope → List Symbol → Reading (List (List ℕ))
targets s ts = row (one_target s) [] ts

-- the numbers of an instrument; each counts as used for the next ones
abbrev pub numbers : Scope → List ℕ → List Symbol → Reading (List ℕ)
numbers s given ts = row (one_number s) given ts

-- a text as an argument, or as a faulty result
abbrev pub quoted : Role → List Symbol → Reading Argument
quoted role.Argument ts = Ok (text (next ts).text, after ts)
quoted role.Result ts = Err (fault ts orc.XinXout)
