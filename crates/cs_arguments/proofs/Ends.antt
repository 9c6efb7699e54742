-- clap's result for all arguments: its fault, and its rows.
use Rattle.std.proofs.Common.{arith, ◌≡◌, ◌∙◌, ◌∷◌, ℕ, true, false, List, Option, None, refl, ap, [], codes, fold, All}
use Rattle.std.proofs.Common.{IsUtf8}
use Rattle.std.proofs.lemmas.Grind.{common_steps}
use Rattle.std.specs.Bool.{⊤}
use Rattle.clap.specs.{Kinds.Kinds, Kinds.or_else, Simple.App, Simple.is_simple, Simple.matches_of}
use Rattle.clap.specs.Faults.{default_fault, defaults_fault, fault_of, is_simple_and_free, level_fault}
use Rattle.clap.specs.Walk.{Row, Rule, nothing_held, with_default}
use Rattle.clap.proofs.FaultLemmas.{leaf_fault}
use Rattle.cs_arguments.specs.{Reading.Text, Taken.ends, Taken.is_taken, Taken.uses_in}
use Rattle.cs_arguments.specs.Command.{flag_rule, option_rule, shape, the_app, the_rules}
use Rattle.cs_arguments.proofs.{Walking.clear, Command.the_command}
use Rattle.cs_arguments.proofs.Whole.{open_at, no_name, clap_at, all_faults, walk_end, whole}

pub is_plain : is_simple the_app ≡ true
is_plain = refl

pub is_free : is_simple_and_free the_app ≡ true
is_free = refl

abbrev the_built : App
the_built = record { top = shape the_rules; subs = [] }

-- ---- defaults and the last checks refuse nothing

abbrev NoFault : List Rule → Type 0
NoFault [] = ⊤
NoFault (a ∷ rest) = ((rs : List Row) → default_fault rs a ≡ []) × NoFault rest

defaults_clear : (rules : List Rule) → NoFault rules → (rs : List Row) → defaults_fault rs rules ≡ []
unfolding defaults_fault
defaults_clear [] h rs = refl
defaults_clear (a ∷ rest) h rs =
    ap (λ k. or_else k (defaults_fault (with_default rs a) rest)) (h.0 rs) ∙ defaults_clear rest h.1 (with_default rs a)

flag_clear : (key : Text) (long : Option Text) (short : Option ℕ) (rs : List Row)
    → default_fault rs (flag_rule key long short) ≡ []
flag_clear key long short rs = grind (arith, common_steps, codes)

option_clear : (key : Text) (long : Option Text) (short index : Option ℕ) (rs : List Row)
    → default_fault rs (option_rule key long short index) ≡ []
option_clear key long short index rs = grind (arith, common_steps)

no_faults : NoFault the_rules
no_faults = grind (arith, common_steps, codes, flag_clear, option_clear)

-- ---- all faults

nothing_else : (k : Kinds) → or_else k [] ≡ k
nothing_else [] = refl
nothing_else (x ∷ k) = refl

level_is : (words : List Text) → level_fault (shape the_rules) [] nothing_held words false [] ≡ all_faults the_rules
    (clap_at (open_at [] None false no_name)) words
level_is words =
    grind (arith, common_steps, clap_at, defaults_clear, no_faults, no_name, nothing_else, open_at, walk_end)

pub refuses : (words : List Text) → All IsUtf8 words → clear (fault_of the_app words) ≡ is_taken words
refuses words utf8 = ap clear (leaf_fault the_built nothing_held words refl ∙ level_is words)
    ∙ (whole the_rules the_command words utf8 (open_at [] None false no_name) (refl, tt, refl)).0

pub finds : (words : List Text) → All IsUtf8 words → is_taken words ≡ true
    → matches_of the_app words ≡ ends (uses_in words)
finds words utf8 fine = ap (λ rs. fold with_default rs the_rules)
    ((whole the_rules the_command words utf8 (open_at [] None false no_name) (refl, tt, refl)).1 fine)
