-- Texts in lists, in the form in which the parser uses them.
use Rattle.std.proofs.Common.{◌≡◌, true, List, Result, Ok, Err, sym, subst}
use Rattle.cs_base.specs.{declared.fault.Or.Or, declared.fault.OrcFault.OrcFault}
use Rattle.cs_grammar.specs.{declared.lists.Role.Role, declared.tree.Arg.Arg, Tree.argument, Reading.Scope}
use Rattle.cs_grammar.specs.{Reading.next_is, inner.Answers.Gives, inner.Rows.quoted}
use Rattle.cs_grammar.specs.Grammar.{ReadsArg, arg_text, text_result}
use Rattle.cs_grammar.specs.Symbols.{Symbol}
use Rattle.cs_base.specs.declared.fault.Or.TheVariants as or
use Rattle.cs_grammar.specs.declared.symbol.Expected.TheVariants as expected
use Rattle.cs_grammar.specs.declared.lists.Role.TheVariants as role

quoted_is : (s : Scope) (r : Role) (ts : List Symbol) → next_is expected.Text ts ≡ true → ReadsArg s r ts (quoted r ts)
quoted_is s role.Argument ts e = arg_text e
quoted_is s role.Result ts e = text_result e

pub quoted_reads : (s : Scope) (r : Role) (ts rest : List Symbol) (o : Result Arg (Or OrcFault))
    → next_is expected.Text ts ≡ true
    → Gives argument o rest (λ x. x ≡ quoted r ts) → Gives argument o rest (ReadsArg s r ts)
quoted_reads s r ts rest (Ok x) e h = subst (ReadsArg s r ts) (sym h) (quoted_is s r ts e)
quoted_reads s r ts rest (Err (or.Fault f)) e h = subst (ReadsArg s r ts) (sym h) (quoted_is s r ts e)
quoted_reads s r ts rest (Err or.OutOfMemory) e h = tt
