-- What is known about the rules: each letter, name and position leads to its rule.
use Rattle.std.proofs.Common.{arith, ◌≡◌, ◌++◌, ◌∷◌, ℕ, true, false, List, [], Some, None, refl, codes, bytes_eq}
use Rattle.std.proofs.lemmas.{Grind.common_steps, Bool.and_right}
use Rattle.clap.specs.Walk.{Rule, arg_by_short, arg_by_long, arg_by_index}
use Rattle.cs_arguments.specs.Reading.{Text, Use, has_use, is_flag_letter, is_value_letter, is_flag_name, is_value_name}
use Rattle.cs_arguments.specs.Command.{flag_rule, option_rule}
use Rattle.cs_arguments.proofs.Walking.{IsFlagKey, IsKey, has_more}

-- a key of an option or flag
abbrev pub IsOptionKey : Text → Type 0
IsOptionKey key = (bytes_eq key (codes "ORC") ≡ false) × (bytes_eq key (codes "SCO") ≡ false)

pub record IsCommand (c : List Rule) : Type 0 where
  pub flag_letter : (x : ℕ) → is_flag_letter x ≡ true → arg_by_short c x ≡ Some (flag_rule (x ∷ []) None (Some x))
  pub value_letter : (x : ℕ) → is_value_letter x ≡ true
      → arg_by_short c x ≡ Some (option_rule (x ∷ []) None (Some x) None)
  pub no_letter : (x : ℕ) → is_flag_letter x ≡ false → is_value_letter x ≡ false → arg_by_short c x ≡ None
  pub flag_name : (name : Text) → is_flag_name name ≡ true → arg_by_long c name ≡ Some (flag_rule name (Some name) None)
  pub value_name : (name : Text) → is_value_name name ≡ true
      → arg_by_long c name ≡ Some (option_rule name (Some name) None None)
  pub no_name : (name : Text) → is_flag_name name ≡ false → is_value_name name ≡ false → arg_by_long c name ≡ None
  pub first : arg_by_index c 1 ≡ Some (option_rule (codes "ORC") None None (Some 1))
  pub second : arg_by_index c 2 ≡ Some (option_rule (codes "SCO") None None (Some 2))
  pub third : arg_by_index c 3 ≡ None
  pub flag_letter_key : (x : ℕ) → is_flag_letter x ≡ true → IsFlagKey (x ∷ [])
  pub value_letter_key : (x : ℕ) → is_value_letter x ≡ true → IsKey c (x ∷ [])
  pub flag_name_key : (name : Text) → is_flag_name name ≡ true → IsFlagKey name × IsOptionKey name
  pub value_name_key : (name : Text) → is_value_name name ≡ true → IsKey c name × IsOptionKey name
  pub orc_key : IsKey c (codes "ORC")
  pub sco_key : IsKey c (codes "SCO")

pub letter_key : (x : ℕ) → IsOptionKey (x ∷ [])
letter_key x = (and_right _ false refl, and_right _ false refl)

-- a use of an option doesn't change the names
pub keeps_name : (name : Text) (us : List Use) (u : Use) → bytes_eq u.0 name ≡ false
    → has_use name (us ++ u ∷ []) ≡ has_use name us
keeps_name name us u other = grind (arith, common_steps, has_more)
