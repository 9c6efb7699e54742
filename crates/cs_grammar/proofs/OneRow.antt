-- Every text has exactly one reading as targets, and one as an instrument's numbers.
use Rattle.std.proofs.Common.{◌≡◌, ◌∙◌, ◌≤◌, ◌<◌, ◌+◌, ◌++◌, ℕ, zero, suc, Bool, true, false, List, ◌∷◌, length, [], Ok}
use Rattle.std.proofs.Common.{Err, refl, arith, sym, ap, subst}
use Rattle.cs_grammar.specs.Lines.{one_target, target, ReadsNumbers, ReadsRow, ReadsTargets, last_item, more_items}
use Rattle.cs_grammar.specs.Lines.{no_item, one_number}
use Rattle.cs_grammar.specs.Reading.{Reading, left, mapped, next_is, Scope}
use Rattle.cs_grammar.specs.inner.Rows.{behind, numbers, row, targets}
use Rattle.cs_grammar.specs.{Symbols.Symbol, Symbols.after, Kinds.is}
use Rattle.cs_grammar.proofs.SoFar.{TakesOne, number_takes, row_fail, row_step, target_takes}
use Rattle.cs_grammar.proofs.Sizes.{size, after_size, mapped_size, choice_size}
use Rattle.cs_grammar.specs.declared.symbol.Kind.TheVariants as kind
use Rattle.cs_grammar.specs.declared.symbol.Expected.TheVariants as expected

-- exactly one reading as comma-separated items
module _ {A : Type 0} (one : List A → List Symbol → Reading A) (takes : TakesOne one) where
  pub one_less : (before : List A) (ts : List Symbol) → size (left (one before ts)) ≤ length ts
  one_less before ts = by (one before ts) refl
    where
      by : (o : Reading A) → one before ts ≡ o → size (left o) ≤ length ts
      by (Ok (x, us)) e = omega (arith, ap length (takes before ts us x e).1)
      by (Err f) e = omega arith

  behind_size : (o : Reading A) (more : A → Reading (List A)) (k : ℕ) → ((x : A) → size (left (more x)) ≤ k)
      → size (left (behind o more)) ≤ k
  behind_size (Err f) more k h = omega arith
  behind_size (Ok (x, ts)) more k h = omega (arith, h x, mapped_size {B = List A} (λ xs. x ∷ xs) (more x))

  pub row_less : (before : List A) (ts : List Symbol) → size (left (row one before ts)) ≤ length ts
  row_less before [] = omega (arith, one_less before [], mapped_size {B = List A} (λ x. x ∷ []) (one before []))
  row_less before (t ∷ []) =
      omega (arith, one_less before (t ∷ []), mapped_size {B = List A} (λ x. x ∷ []) (one before (t ∷ [])))
  row_less before (t ∷ c ∷ us) =
      choice_size (is expected.Comma c.kind)
      (behind (one before (t ∷ c ∷ us)) (λ x. row one (before ++ x ∷ []) us))
      (mapped {B = List A} (λ x. x ∷ []) (one before (t ∷ c ∷ us))) (suc (suc (length us)))
      (behind_size (one before (t ∷ c ∷ us)) (λ x. row one (before ++ x ∷ []) us) (suc (suc (length us)))
      (λ x. omega (arith, row_less (before ++ x ∷ []) us)))
      (omega (arith, one_less before (t ∷ c ∷ us), mapped_size {B = List A} (λ x. x ∷ []) (one before (t ∷ c ∷ us))))

  pub row_is : {before : List A} {ts : List Symbol} {o : Reading (List A)} → ReadsRow one before ts o
      → row one before ts ≡ o
  row_is (no_item {before} {ts} {f} e) = row_fail one before ts f e
  row_is (last_item {before} {ts} {us} {x} e c) = row_step one takes before ts us x false e c
  row_is (more_items {before} {ts} {us} {x} {out} e c h) =
      row_step one takes before ts us x true e c ∙ ap (mapped (λ xs. x ∷ xs)) (row_is h)

  by_fuel : (k : ℕ) (before : List A) (ts : List Symbol) → length ts < k → (o : Reading A) → one before ts ≡ o
      → ReadsRow one before ts (row one before ts)
  by_fuel zero before ts w o e = absurd (omega arith)
  by_fuel (suc k) before ts w (Err f) e = subst (ReadsRow one before ts) (sym (row_fail one before ts f e)) (no_item e)
  by_fuel (suc k) before ts w (Ok (x, us)) e =
      by (by_fuel k (before ++ x ∷ []) (after us) (omega (arith, after_size us, ap length (takes before ts us x e).1))
      (one (before ++ x ∷ []) (after us)) refl) (next_is expected.Comma us) refl
    where
      by : ReadsRow one (before ++ x ∷ []) (after us) (row one (before ++ x ∷ []) (after us)) → (b : Bool)
          → next_is expected.Comma us ≡ b → ReadsRow one before ts (row one before ts)
      by h false c = subst (ReadsRow one before ts) (sym (row_step one takes before ts us x false e c)) (last_item e c)
      by h true c = subst (ReadsRow one before ts) (sym (row_step one takes before ts us x true e c)) (more_items e c h)

  pub reads_row : (before : List A) (ts : List Symbol) → ReadsRow one before ts (row one before ts)
  reads_row before ts = by_fuel (suc (length ts)) before ts (omega arith) (one before ts) refl

pub target_less : (s : Scope) (ts : List Symbol) → size (left (target s ts)) ≤ length ts
target_less s ts = one_less (one_target s) (target_takes s) [] ts

pub targets_less : (s : Scope) (ts : List Symbol) → size (left (targets s ts)) ≤ length ts
targets_less s ts = row_less (one_target s) (target_takes s) [] ts

pub reads_targets : (s : Scope) (ts : List Symbol) → ReadsTargets s ts (targets s ts)
reads_targets s ts = reads_row (one_target s) (target_takes s) [] ts

pub targets_are : (s : Scope) {ts : List Symbol} {o : Reading (List (List ℕ))} → ReadsTargets s ts o → targets s ts ≡ o
targets_are s h = row_is (one_target s) (target_takes s) h

pub numbers_less : (s : Scope) (given : List ℕ) (ts : List Symbol) → size (left (numbers s given ts)) ≤ length ts
numbers_less s given ts = row_less (one_number s) (number_takes s) given ts

pub reads_numbers : (s : Scope) (given : List ℕ) (ts : List Symbol) → ReadsNumbers s given ts (numbers s given ts)
reads_numbers s given ts = reads_row (one_number s) (number_takes s) given ts

pub numbers_are : (s : Scope) {given : List ℕ} {ts : List Symbol} {o : Reading (List ℕ)} → ReadsNumbers s given ts o
    → numbers s given ts ≡ o
numbers_are s h = row_is (one_number s) (number_takes s) h
