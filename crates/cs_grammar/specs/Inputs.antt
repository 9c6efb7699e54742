-- The line of `xin`.
use Rattle.std.specs.Prelude.{ℕ, Bool, true, false, List, [], ◌∷◌, ◌≡◌, ◌≢◌, ◌&&◌, not, map, Ok, Err}
use Rattle.std.specs.List.{All, AllPairs}
use Rattle.cs_base.specs.declared.resource.Rate.{Rate}
use Rattle.cs_words.specs.Names.{is_global, name_rate}
use Rattle.cs_grammar.specs.{Headings.Heading, Parts.is_variable, Parts.is_opcode}
use Rattle.cs_grammar.specs.Reading.{Reading, next_is, Scope, fault, ended}
use Rattle.cs_grammar.specs.{Symbols.Symbol, Symbols.after, Kinds.is, Kinds.is_plain}
use Rattle.cs_base.specs.declared.fault.OrcKind.TheVariants as orc
use Rattle.cs_grammar.specs.declared.symbol.Expected.TheVariants as expected

-- whether a symbol is a word of the profile that is neither a keyword nor an opcode, including opcodes
-- defined before
abbrev pub is_free : Scope → Symbol → Bool
is_free s t = is_plain t.kind && not (is_opcode s t.text t.kind)

-- A line of `xin`: free words separated by commas, followed by `xin`. It relates the symbols to the words and
-- to the symbols from `xin` on.
pub data XinLine (s : Scope) : List Symbol → List Symbol → List Symbol → Type 0 where
  one_word : {t : Symbol} {xin : List Symbol} → is_free s t ≡ true → next_is expected.Xin xin ≡ true
      → XinLine s (t ∷ xin) (t ∷ []) xin
  more_words : {t comma : Symbol} {ts words xin : List Symbol} → is_free s t ≡ true
      → is expected.Comma comma.kind ≡ true
      → XinLine s ts words xin → XinLine s (t ∷ comma ∷ ts) (t ∷ words) xin

-- whether a symbol is a local variable, which each call has separately
abbrev pub is_local : Scope → Symbol → Bool
is_local s t = is_variable s t && not (is_global t.text)

-- the bytes of the symbols
abbrev pub texts : List Symbol → List (List ℕ)
texts ts = map (λ t. t.text) ts

-- no item occurs twice
abbrev pub AreDifferent : {A : Type 0} → List A → Type 0
AreDifferent xs = AllPairs (λ x y. x ≢ y) xs

-- words that name the inputs: different local variables, one for each input, with its rate
pub record NameInputs (s : Scope) (ins : List Rate) (words : List Symbol) : Type 0 where
  pub local : All (λ t. is_local s t ≡ true) words
  pub rates : map name_rate (texts words) ≡ ins
  pub different : AreDifferent (texts words)

-- The first line of a definition: the names that receive its inputs.
pub data ReadsInputs (s : Scope) (h : Heading) (ts : List Symbol) : Reading (List (List ℕ)) → Type 0 where
  named : {words xin : List Symbol} → XinLine s ts words xin → NameInputs s h.ins words
      → ReadsInputs s h ts (ended s (Ok (texts words, after xin)))
  misnamed : {words xin : List Symbol} → XinLine s ts words xin → (NameInputs s h.ins words → ⊥)
      → ReadsInputs s h ts (Err (fault xin orc.XinXout))
  xin_alone : next_is expected.Xin ts ≡ true → ReadsInputs s h ts (Err (fault ts orc.XinXout))
  no_inputs : next_is expected.Xin ts ≡ false → ((words xin : List Symbol) → XinLine s ts words xin → ⊥) → h.ins ≡ []
      → ReadsInputs s h ts (Ok ([], ts))
  xin_missing : next_is expected.Xin ts ≡ false → ((words xin : List Symbol) → XinLine s ts words xin → ⊥) → h.ins ≢ []
      → ReadsInputs s h ts (Err (record { line = h.line; kind = orc.XinXout }))
