-- The line of `opcode`, the names of `xin` and the results of `xout`, in the form in which the parser uses
-- them.
use Rattle.std.proofs.Common.{◌≡◌, ◌≢◌, ◌∙◌, ◌≤◌, ◌-◌, ◌++◌, ◌&&◌, ℕ, Bool, zero, suc, true, false, List, [], ◌∷◌, Ok}
use Rattle.std.proofs.Common.{Err, if◌then◌else◌, refl, arith, ap, sym}
use Rattle.cs_base.specs.{declared.fault.OrcFault.OrcFault, declared.resource.Rate.Rate}
use Rattle.cs_grammar.proofs.Gives.{left_through, ended_is, ended_mapped, valued}
use Rattle.cs_grammar.specs.{Orchestra.behind_xout, Tree.Argument}
use Rattle.cs_grammar.specs.Headings.{Heading, heading, heading_of, new_name, types}
use Rattle.cs_grammar.specs.Reading.{through, Left, Reading, Scope, both, ended, left, mapped, next_is, three}
use Rattle.cs_grammar.specs.inner.Answers.{last_left, line_past, past, signature}
use Rattle.cs_grammar.specs.inner.Takes.{after_first, are_inputs, are_results, at_xin, first_fits, is_input, is_none}
use Rattle.cs_grammar.specs.inner.Takes.{last_line, results_of, words}
use Rattle.cs_grammar.specs.Symbols.{Symbol, after, next}
use Rattle.cs_base.specs.declared.fault.OrcKind.TheVariants as orc
use Rattle.cs_grammar.specs.declared.symbol.Expected.TheVariants as expected

-- ---- the line of `opcode`

abbrev with_types : ℕ → List ℕ → List Rate × List Rate → Heading
with_types line n p = heading_of line n p.0 p.1

typed : (line : ℕ) (n : List ℕ) (us : List Symbol) (o i : Reading (List Rate))
    → three (heading_of line) (Ok (n, us)) o i ≡ mapped (with_types line n) (both (λ x y. (x, y)) o i)
typed line n us (Err f) i = refl
typed line n us (Ok (o, vs)) (Err f) = refl
typed line n us (Ok (o, vs)) (Ok (i, ws)) = refl

pub heading_is : (s : Scope) (line : ℕ) (ts : List Symbol) (n : List ℕ) (us vs : List Symbol)
    (o : Reading (List Rate × List Rate))
    → new_name s ts ≡ Ok (n, us) → past s expected.Comma us ≡ Ok vs → o ≡ signature s vs
    → mapped (with_types line n) o ≡ heading s line ts
heading_is s line ts n us vs o a b e =
    let outs : Reading (List Rate) = types s (Ok vs) in
    let ins : Reading (List Rate) = types s (left (through s expected.Comma outs)) in
    ap (mapped (with_types line n)) e ∙ sym (ended_mapped s (with_types line n) (both (λ x y. (x, y)) outs ins))
    ∙ ap (ended s) (sym (typed line n us outs ins))
    ∙ ap (λ x. ended s (three (heading_of line) (Ok (n, us)) (types s x)
    (types s (left (through s expected.Comma (types s x))))))
    (sym (left_through s expected.Comma n us ∙ b))
    ∙ ap (λ x. ended s (three (heading_of line) x (types s (left (through s expected.Comma x)))
    (types s (left (through s expected.Comma (types s (left (through s expected.Comma x)))))))) (sym a)

-- a line without the comma after its name

pub heading_uncut : (s : Scope) (line : ℕ) (ts : List Symbol) (n : List ℕ) (us : List Symbol) (f : OrcFault)
    → new_name s ts ≡ Ok (n, us)
    → past s expected.Comma us ≡ Err f → Err f ≡ heading s line ts
heading_uncut s line ts n us f a b =
    let way : Left → Reading Heading =
    (λ x. ended s (three (heading_of line) (Ok (n, us)) (types s x)
    (types s (left (through s expected.Comma (types s x)))))) in
    let all : Reading (List ℕ) → Reading Heading =
    (λ x. ended s (three (heading_of line) x (types s (left (through s expected.Comma x)))
    (types s (left (through s expected.Comma (types s (left (through s expected.Comma x)))))))) in
    ap way (sym (left_through s expected.Comma n us ∙ b)) ∙ ap all (sym a)

-- its results and inputs, part by part

pub signature_at : (s : Scope) (ts : List Symbol) (o : List Rate) (ws : List Symbol) (st : Left)
    (i : Reading (List Rate)) → types s (Ok ts) ≡ Ok (o, ws)
    → past s expected.Comma ws ≡ st → types s st ≡ i → ended s (both (λ x y. (x, y)) (Ok (o, ws)) i) ≡ signature s ts
signature_at s ts o ws st i c d e =
    let way : Reading (List Rate) → Reading (List Rate) → Reading (List Rate × List Rate) =
    (λ x y. ended s (both (λ v w. (v, w)) x y)) in
    sym (ap (λ x. way x (types s (left (through s expected.Comma x)))) c
    ∙ ap (λ x. way (Ok (o, ws)) x) (ap (types s) (left_through s expected.Comma o ws ∙ d) ∙ e))

pub signature_line : (s : Scope) (ts : List Symbol) (o : List Rate) (ws xs ys : List Symbol) (i : List Rate) (st : Left)
    → types s (Ok ts) ≡ Ok (o, ws)
    → past s expected.Comma ws ≡ Ok xs → types s (Ok xs) ≡ Ok (i, ys) → line_past s (next ys).kind ys ≡ st
    → valued (o, i) st ≡ signature s ts
signature_line s ts o ws xs ys i st c d e f =
    let both_of : List Rate × List Rate = (o, i) in
    sym (ended_is s both_of ys st f) ∙ signature_at s ts o ws (Ok xs) (Ok (i, ys)) c d e

-- ---- the words before `xin`, one by one

pub are_inputs_step : (s : Scope) (before : List (List ℕ)) (ins : List Rate) (n : ℕ) (ts : List Symbol) → 1 ≤ n
    → are_inputs s before ins n
    ts ≡ (first_fits s before ins (next ts) && are_inputs s (before ++ (next ts).text ∷ []) (after_first ins) (n - 1)
    (after (after ts)))
are_inputs_step s before ins zero ts h = absurd (omega arith)
are_inputs_step s before [] (suc n) ts h = refl
are_inputs_step s before (r ∷ rs) (suc n) ts h =
    ap (λ m. is_input s before r (next ts) && are_inputs s (before ++ (next ts).text ∷ []) rs m
    (after (after ts))) (let e : n ≡ suc n - 1 = omega arith in e)

pub are_inputs_zero : (s : Scope) (before : List (List ℕ)) (ins : List Rate) (ts : List Symbol)
    → are_inputs s before ins 0 ts ≡ is_none ins
are_inputs_zero s before [] ts = refl
are_inputs_zero s before (r ∷ rs) ts = refl

-- ---- the results

abbrev ok_of : {A : Type 0} → A → List Symbol → Reading A
ok_of a ts = Ok (a, ts)

last_by : {A : Type 0} (s : Scope) (a : A) (ts : List Symbol) (b : Bool)
    → (if b then ok_of a ts else Err (behind_xout s ts)) ≡ valued a
    (if b then Ok ts else Err (behind_xout s ts))
last_by s a ts true = refl
last_by s a ts false = refl

abbrev by_number : Scope → ℕ → List Argument → List Symbol → Bool → Reading (List Argument)
by_number s line args ts b = if b then last_line s args ts else Err (record { line = line; kind = orc.XinXout })

pub judged_is : (s : Scope) (line : ℕ) (outs : List Rate) (args : List Argument) (ts : List Symbol) (st : Left)
    → are_results args outs ≡ true
    → last_left s ts ≡ st
    → results_of s line outs (Ok (args, ts)) ≡ valued args st
judged_is s line outs args ts st e l =
    ap (by_number s line args ts) e ∙ last_by s args ts (next_is expected.Endop ts) ∙ ap (valued args) l

-- ---- the first of the inputs, if it is the last

pub last_input : (s : Scope) (before : List (List ℕ)) (ins : List Rate) (n : ℕ) (ts : List Symbol) → n ≡ 1
    → first_fits s before ins (next ts) ≡ true
    → are_inputs s before ins n ts ≡ is_none (after_first ins)
last_input s before ins n ts e f =
    ap (λ m. are_inputs s before ins m ts) e ∙ are_inputs_step s before ins 1 ts (omega arith)
    ∙ ap (λ b. b && are_inputs s (before ++ (next ts).text ∷ []) (after_first ins) 0 (after (after ts))) f
    ∙ are_inputs_zero s (before ++ (next ts).text ∷ []) (after_first ins) (after (after ts))
