-- Faults, one after another.
use Rattle.std.proofs.lemmas.{Grind.common_steps, Bool.Decides.nat_tests, List.length-map}
use Rattle.std.proofs.Common.{◌≡◌, ◌∙◌, ◌==◌, ◌&&◌, ◌||◌, ℕ, Bool, true, false, not, nat_le, if◌then◌else◌, List, []}
use Rattle.std.proofs.Common.{◌∷◌, ◌++◌, length, map, Option, Some, None, arith, refl, ap}
use Rattle.cs_base.specs.{declared.fault.OrcFault.OrcFault, declared.fault.OrcKind.OrcKind}
use Rattle.cs_grammar.specs.{declared.tree.Arg.Arg, declared.tree.Udo.Udo}
use Rattle.cs_grammar.specs.Tree.{argument, definition, Definition, Orchestra}
use Rattle.cs_udo.specs.{Expanded.Opcodes, Expanded.no_opcodes, Expanded.template, inner.Walks.after_faults}
use Rattle.cs_udo.specs.Refused.{has_text, broken_rule, upper, uppermost_of, uppermost, faults_outside}
use Rattle.cs_udo.specs.Refused.{faults_of_definitions, faults_of_instruments, first_fault}
use Rattle.cs_udo.proofs.Weighed.{length_slots}
use Rattle.cs_base.specs.declared.fault.OrcKind.TheVariants as orc

-- the faults of two lists, one after the other
pub after_both : (first : Option OrcFault) (xs ys : List OrcFault)
    → after_faults first (xs ++ ys) ≡ after_faults (after_faults first xs) ys
after_both first [] ys = refl
after_both first (f ∷ xs) ys = after_both (uppermost_of first (Some f)) xs ys

abbrev pick : Bool → OrcFault → OrcFault → OrcFault
pick b f g = if b then f else g

upper_by : (f g : OrcFault) (b : Bool) → nat_le f.line g.line ≡ b → upper f g ≡ pick b f g
upper_by f g b e = ap (λ c. pick c f g) e

across : (f g h : ℕ) → nat_le f g ≡ true → nat_le g h ≡ true → nat_le f h ≡ true
across f g h p q = grind (arith, nat_tests)

across_not : (f g h : ℕ) → nat_le f g ≡ false → nat_le g h ≡ false → nat_le f h ≡ false
across_not f g h p q = grind (arith, nat_tests)

upper_again : (f g h : OrcFault) → upper (upper f g) h ≡ upper f (upper g h)
upper_again f g h = grind (arith, common_steps, across, across_not, nat_le, upper_by)

rest_after : (f : OrcFault) (xs : List OrcFault) → after_faults (Some f) xs ≡ uppermost_of (Some f) (uppermost xs)
rest_after f [] = refl
rest_after f (g ∷ rest) = rest_after (upper f g) rest ∙ by (uppermost rest)
  where
    by : (o : Option OrcFault) → uppermost_of (Some (upper f g)) o ≡ uppermost_of (Some f) (uppermost_of (Some g) o)
    by None = refl
    by (Some h) = ap Some (upper_again f g h)

pub all_after : (xs : List OrcFault) → after_faults None xs ≡ uppermost xs
all_after [] = refl
all_after (f ∷ rest) = rest_after f rest

-- ---- the rule that a call breaks

pub rule_is : (inside : Bool) (xs : List (List ℕ)) (args : List Arg) (u : Udo) (opcodes : Opcodes)
    (many misplaced : Bool) (r : Option OrcKind) → many ≡ (length xs == length u.outs && length args == length u.names)
    → misplaced ≡ (has_text (map argument args) || not inside)
    → r ≡ (if not many then Some orc.ArgCount else (if misplaced then Some orc.RateMismatch else None))
    → r ≡ broken_rule inside xs (map argument args) (template opcodes (definition u))
rule_is inside xs args u opcodes many misplaced r m p e = grind (arith, common_steps, length-map, length_slots, not)

-- ---- all faults of an orchestra

pub whole_after : (o : Orchestra) (ds : List Definition) (f g h : Option OrcFault) → ds ≡ o.opcodes
    → f ≡ after_faults None (faults_outside ds o.zero) → g ≡ after_faults f (faults_of_definitions no_opcodes ds)
    → h ≡ after_faults g (faults_of_instruments ds o.instrs) → h ≡ first_fault o
whole_after o ds f g h e first second third = grind (arith, common_steps, after_both, all_after)
