-- The values of `xout`, by their number and by the symbol after their line.
use Rattle.std.proofs.Common.{◌≡◌, ◌≢◌, ◌∙◌, ◌==◌, ℕ, Bool, true, false, List, [], ◌∷◌, length, Ok, Err, if◌then◌else◌}
use Rattle.std.proofs.Common.{refl, ap}
use Rattle.std.proofs.lemmas.Bool.{eqb-true, eq-eqb, ne_eqb, eqb-false}
use Rattle.cs_base.specs.declared.resource.Rate.{Rate}
use Rattle.cs_grammar.specs.{Tree.Argument, inner.Takes.results_of, inner.Takes.no_results}
use Rattle.cs_grammar.specs.Reading.{Reading, next_is, Scope, fault}
use Rattle.cs_grammar.specs.Orchestra.{behind_xout, ReadsXout, ReadsResult, no_result, xout_missing, xout_broken}
use Rattle.cs_grammar.specs.Orchestra.{xout_uneven, xout_last, xout_not_last}
use Rattle.cs_grammar.specs.Symbols.{Symbol, next}
use Rattle.cs_base.specs.declared.fault.OrcKind.TheVariants as orc
use Rattle.cs_grammar.specs.declared.symbol.Expected.TheVariants as expected

abbrev judged_by : Scope → ℕ → List Argument → List Symbol → Bool → Bool → Reading (List Argument)
judged_by s line vs us even last =
    if even then (if last then Ok (vs, us) else Err (behind_xout s us)) else Err
    (record { line = line; kind = orc.XinXout })

pub uneven : (s : Scope) (line : ℕ) (outs : List Rate) (vs : List Argument) (us : List Symbol) → length vs ≢ length outs
    → results_of s line outs (Ok (vs, us)) ≡ Err (record { line = line; kind = orc.XinXout })
uneven s line outs vs us n =
    ap (λ b. judged_by s line vs us b (next_is expected.Endop us)) (ne_eqb (length vs) (length outs) n)

pub even : (s : Scope) (line : ℕ) (outs : List Rate) (vs : List Argument) (us : List Symbol) (b : Bool)
    → length vs ≡ length outs
    → next_is expected.Endop us ≡ b → results_of s line outs (Ok (vs, us)) ≡ judged_by s line vs us true b
even s line outs vs us b n l =
    ap (λ x. judged_by s line vs us x (next_is expected.Endop us)) (eq-eqb (length vs) (length outs) n)
    ∙ ap (judged_by s line vs us true) l

pub some_missing : (outs : List Rate) (ts : List Symbol) → outs ≢ [] → no_results outs ts ≡ Err (fault ts orc.XinXout)
some_missing [] ts h = absurd (h refl)
some_missing (r ∷ rs) ts h = refl

pub none_given : (s : Scope) (outs : List Rate) (ts : List Symbol) → next_is expected.Xout ts ≡ false
    → ReadsResult s outs (Ok ts) (no_results outs ts)
none_given s [] ts e = no_result e refl
none_given s (r ∷ rs) ts e = xout_missing e (λ q. cc)

pub given : (s : Scope) (outs : List Rate) (ts : List Symbol) (o : Reading (List Argument))
    → next_is expected.Xout ts ≡ true → ReadsXout s ts o
    → ReadsResult s outs (Ok ts) (results_of s (next ts).line outs o)
given s outs ts (Err f) e h = xout_broken e h
given s outs ts (Ok (vs, us)) e h = by (length vs == length outs) (next_is expected.Endop us) refl refl
  where
    by : (b c : Bool) → (length vs == length outs) ≡ b → next_is expected.Endop us ≡ c
        → ReadsResult s outs (Ok ts) (judged_by s (next ts).line vs us b c)
    by false c n l = xout_uneven e h (eqb-false (length vs) (length outs) n)
    by true true n l = xout_last e h (eqb-true (length vs) (length outs) n) l
    by true false n l = xout_not_last e h (eqb-true (length vs) (length outs) n) l
