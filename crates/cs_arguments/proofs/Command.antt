-- The command's own rules are as the walk requires, and values are judged as in the reading.
use Rattle.std.proofs.lemmas.{Grind.common_steps, Slice.Eq.bytes_eq-Decides}
use Rattle.std.proofs.Common.{◌≡◌, ◌&&◌, ◌∷◌, ◌<◌, ◌^◌, ℕ, pos, zero, suc, neg_ℤ, true, false, [], Some}
use Rattle.std.proofs.Common.{None, refl, subst, codes, bytes_eq, length, nat_lt, nat_le, int_le, eqb-true, arith}
use Rattle.std.proofs.Common.{leb-true, lt-ltb}
use Rattle.std.proofs.lemmas.Bool.{and_left, and_right, or_parts}
use Rattle.clap.specs.ValueTests.{is_signed_in}
use Rattle.clap.specs.Walk.{arg_by_short, arg_by_long}
use Rattle.cs_arguments.specs.Reading.{Text, is_number, is_flag_letter, is_value_letter, is_flag_name, is_value_name}
use Rattle.cs_arguments.specs.Ranges.{most_workers, most_demo_notes}
use Rattle.cs_arguments.specs.Command.{flag_rule, option_rule, the_rules}
use Rattle.cs_arguments.proofs.{Chars.each_flag, Chars.each_value, Rules.IsCommand, Rules.IsOptionKey}
use Rattle.cs_arguments.proofs.Walking.{IsFlagKey, IsKey, Judges}

-- ---- numbers

pub no_minus : (most : ℕ) (rest : Text) → is_number most (45 ∷ rest) ≡ false
no_minus most rest = and_left _ _ (and_right (nat_lt 0 (length (45 ∷ rest))) _ refl)

low_negative : (n : ℕ) → int_le (pos 1) (neg_ℤ (pos n)) ≡ false
low_negative zero = refl
low_negative (suc n) = refl

fits_low : (n most : ℕ) → most < 2 ^ 63
    → (nat_lt n (2 ^ 63) && (nat_le 1 n && nat_le n most)) ≡ (nat_le 1 n && nat_le n most)
fits_low n most low = grind (arith, common_steps, and_right, leb-true, lt-ltb, nat_le, nat_lt)

judged : (most : ℕ) → most < 2 ^ 63 → (text : Text) → is_signed_in (pos 1) (pos most) text ≡ is_number most text
judged most low text = grind (arith, common_steps, and_left, and_right, eqb-true, fits_low, low_negative, no_minus)

workers_judged : Judges (codes "j")
workers_judged v = judged most_workers (omega arith) v

notes_judged : Judges (codes "demo")
notes_judged v = judged most_demo_notes (omega arith) v

-- ---- names

each_flag_name : (P : Text → Type 0) (name : Text) → is_flag_name name ≡ true → P (codes "turns") → P (codes "pool")
    → P name
each_flag_name P name h turns pool = grind (arith, common_steps, bytes_eq, bytes_eq-Decides, codes)

each_value_name : (P : Text → Type 0) (name : Text) → is_value_name name ≡ true → P (codes "demo") → P name
each_value_name P name h demo = subst P ((bytes_eq-Decides (codes "demo") name).0 h) demo

-- ---- the rules

no_rule : (x : ℕ) → is_flag_letter x ≡ false → is_value_letter x ≡ false → arg_by_short the_rules x ≡ None
no_rule x flags values = grind (arith, common_steps, or_parts)

no_long : (name : Text) → is_flag_name name ≡ false → is_value_name name ≡ false → arg_by_long the_rules name ≡ None
no_long name flags values = grind (arith, common_steps, bytes_eq, codes, or_parts)

pub the_command : IsCommand the_rules
the_command = record {
  flag_letter = λ x h. each_flag (λ y. arg_by_short the_rules y ≡ Some (flag_rule (y ∷ []) None (Some y))) x h refl refl
      refl refl refl;
  value_letter = λ x h. each_value (λ y. arg_by_short the_rules y ≡ Some (option_rule (y ∷ []) None (Some y) None)) x h
      refl refl;
  no_letter = no_rule;
  flag_name = λ name h. each_flag_name (λ t. arg_by_long the_rules t ≡ Some (flag_rule t (Some t) None)) name h refl
      refl;
  value_name = λ name h. each_value_name (λ t. arg_by_long the_rules t ≡ Some (option_rule t (Some t) None None)) name h
      refl;
  no_name = no_long;
  first = refl;
  second = refl;
  third = refl;
  flag_letter_key = λ x h. each_flag (λ y. IsFlagKey (y ∷ [])) x h (refl, refl) (refl, refl) (refl, refl) (refl, refl)
      (refl, refl);
  value_letter_key = λ x h. each_value (λ y. IsKey the_rules (y ∷ [])) x h
      (record { long = None; short = Some 106; index = None; found = refl; reads = workers_judged })
      (record { long = None; short = Some 111; index = None; found = refl; reads = λ v. refl });
  flag_name_key = λ name h. each_flag_name (λ t. IsFlagKey t × IsOptionKey t) name h ((refl, refl), (refl, refl))
      ((refl, refl), (refl, refl));
  value_name_key = λ name h. each_value_name (λ t. IsKey the_rules t × IsOptionKey t) name h (
    record { long = Some (codes "demo"); short = None; index = None; found = refl; reads = notes_judged },
    (refl, refl),
  );
  orc_key = record { long = None; short = None; index = Some 1; found = refl; reads = λ v. refl };
  sco_key = record { long = None; short = None; index = Some 2; found = refl; reads = λ v. refl };
}
