-- Routines by the indices of their definitions: the routine that is found where a name is called.
use Rattle.std.proofs.Common.{◌≡◌, ◌∙◌, ℕ, List, map, take, nat_lt, Some, None, refl, sym, ap}
use Rattle.std.specs.List.{prefix_len}
use Rattle.cs_grammar.specs.{declared.tree.Callee.Callee, declared.tree.Arg.Arg}
use Rattle.cs_grammar.specs.Tree.{Definition, Statement, argument, call, definition}
use Rattle.cs_typed.specs.declared.setting.Setting.{Setting}
use Rattle.cs_udo.specs.{Library.IsFound, declared.library.FoundDefinition.FoundDefinition}
use Rattle.cs_udo.proofs.Places.{before_first}
use Rattle.cs_typing.specs.inner.Routines.{Routines, no_routines, routine_called, routine_of, with_routines}
use Rattle.cs_typing.specs.inner.Routines.{routines_before, KnownInBody, call_fault_in, fault_in, knows_in}
use Rattle.cs_typing.specs.{Calls.call_fault_by, Settings.at}
use Rattle.cs_udo.proofs.DefinitionsFound.{found, unfound}
use Rattle.cs_grammar.specs.declared.tree.Callee.TheVariants as callee

-- the routines of the definitions before a line
pub routines_here : (line : ℕ) (ds : List Definition) (n : ℕ) → n ≡ prefix_len (λ d. nat_lt d.line line) ds
    → with_routines no_routines (take n ds) ≡ routines_before line ds
routines_here line ds n e =
    ap (λ k. with_routines no_routines (take k ds)) e ∙ sym (ap (with_routines no_routines) (before_first line ds))

-- the called opcode, by the library's result
pub routine_unfound : (ds : List Definition) (visible : ℕ) (c : Callee) → IsFound ds visible c None
    → routine_called (with_routines no_routines (take visible ds)) c ≡ None
routine_unfound ds visible (callee.Opcode o) h = refl
routine_unfound ds visible (callee.Name x) h = unfound routine_of no_routines ds visible x refl h

pub routine_found : (ds : List Definition) (visible : ℕ) (c : Callee) (f : FoundDefinition)
    → IsFound ds visible c (Some f) → routine_called (with_routines no_routines (take visible ds)) c
    ≡ Some (routine_of (with_routines no_routines (take f.place ds)) (definition f.definition.now))
routine_found ds visible (callee.Opcode o) f h = absurd h
routine_found ds visible (callee.Name x) f h =
    found routine_of no_routines ds visible f.place x (definition f.definition.now) refl h.1 h.0 h.2

-- the first rule that a call without a definition breaks, by copies of its results and arguments
pub unfound_fault : (s : Setting) (rs : Routines) (k : KnownInBody) (stmt : Statement) (line : ℕ)
    (xs ys : List (List ℕ)) (c : Callee) (args zs : List Arg) → stmt ≡ call line xs c (map argument args)
    → routine_called rs c ≡ None → ys ≡ xs → zs ≡ args
    → fault_in s rs k stmt ≡ at line (call_fault_by s k.shared (knows_in k) c ys (map argument zs))
unfound_fault s rs k stmt line xs ys c args zs is none same lent =
    ap (fault_in s rs k) is ∙ ap (call_fault_in s k line xs c (map argument args)) none
    ∙ sym (λ i. at line (call_fault_by s k.shared (knows_in k) c (same i) (map argument (lent i))))
