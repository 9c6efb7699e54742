-- A call of a user-defined opcode, from the assignments around its routine.
use Rattle.std.proofs.Common.{◌≡◌, ◌∙◌, ◌<◌, ◌++◌, ℕ, List, Some, None, length, map, sym, ap}
use Rattle.std.specs.Option.{option_or}
use Rattle.cs_base.specs.declared.fault.OrcFault.{OrcFault}
use Rattle.cs_grammar.specs.{Tree.Argument, Tree.Definition, declared.tree.Callee.Callee}
use Rattle.cs_grammar.specs.WellFormed.{WellFormedDefinition}
use Rattle.cs_typed.specs.{declared.setting.Setting.Setting, declared.tree.TypedStmt.TypedStmt}
use Rattle.cs_typing.specs.{declared.routines.RoutineTable.RoutineTable, inner.Routines.routine_of}
use Rattle.cs_typing.specs.inner.Listed.{Adds, AddsOver, blocks_in, routines_of}
use Rattle.cs_typing.specs.inner.Routines.{KnownInBody, Routine, Routines, call_fault_in, call_in, inputs_fault}
use Rattle.cs_typing.specs.inner.Routines.{inputs_set, known_in, number_in, past_call, results_fault, results_set}
use Rattle.cs_typing.specs.inner.Slots.{given_set, taken_fault, taken_set}
use Rattle.cs_typing.proofs.{Listed.at_front, RoutineSlots.first_locals, Walked.added_both}
use Rattle.cs_typing.proofs.RoutineSlots.{body_numbers, call_inputs_form, call_results_fault, call_results_form}
use Rattle.cs_typed.specs.TypedTree as typed

module _ (ds : List Definition) (place : ℕ) (d : Definition) (well : WellFormedDefinition d) (s : Setting)
    (k : KnownInBody) (line : ℕ) (xs : List (List ℕ)) (args : List Argument) where
  abbrev rs : Routines
  rs = routines_of ds place

  abbrev r : Routine
  r = routine_of rs d

  -- ---- the first rule that it breaks

  -- if its inputs and its body break no rule, its fault is the fault of its results
  pub call_judged : (c : Callee) → inputs_fault s k line d.names args ≡ None → r.fault s k.shared ≡ None
      → taken_fault s line xs d.outs ≡ call_fault_in s k line xs c args (Some r)
  call_judged c inputs body =
      sym (ap (λ f. option_or f (option_or (r.fault s k.shared)
      (results_fault s (r.shared k.shared) r line xs r.results))) inputs
      ∙ ap (λ f. option_or f (results_fault s (r.shared k.shared) r line xs r.results)) body
      ∙ call_results_fault rs d well s (r.shared k.shared) line xs)

  -- a fault of its inputs, or of its body if the inputs have none
  pub inputs_break : (c : Callee) (f : OrcFault) → inputs_fault s k line d.names args ≡ Some f
      → call_fault_in s k line xs c args (Some r) ≡ Some f
  inputs_break c f e =
      ap (λ g. option_or g (option_or (r.fault s k.shared) (results_fault s (r.shared k.shared) r line xs r.results))) e

  pub routine_breaks : (c : Callee) (f : OrcFault) → inputs_fault s k line d.names args ≡ None
      → r.fault s k.shared ≡ Some f → call_fault_in s k line xs c args (Some r) ≡ Some f
  routine_breaks c f inputs e =
      ap (λ g. option_or g (option_or (r.fault s k.shared)
      (results_fault s (r.shared k.shared) r line xs r.results))) inputs
      ∙ ap (λ g. option_or g (results_fault s (r.shared k.shared) r line xs r.results)) e

  -- ---- its typed form

  pub call_adds : (t : RoutineTable) (a b f : List TypedStmt) (routine : ℕ) (slots : List ℕ) (n : KnownInBody)
      → Adds a b (given_set k (first_locals rs d well) line d.names args) → routine < length (blocks_in t)
      → r.block k.shared ≡ typed.routine_at (blocks_in t) routine
      → n ≡ known_in (r.shared k.shared) (past_call k.locals r.last.counts) → slots ≡ map (number_in r.last) r.results
      → ((bs : List typed.Block) → typed.block bs f ≡ typed.then_block (typed.block bs b)
      (typed.then_block (typed.moved_block k.locals.counts (typed.routine_at bs routine))
      (taken_set n k.locals.counts line xs d.outs slots)))
      → (c : Callee) → AddsOver t a f (call_in k line xs c args (Some r))
  call_adds t a b f routine slots n inputs within stands after numbered adds c more =
      let bs = blocks_in t ++ more in
      let base = k.locals.counts in
      let there : typed.routine_at bs routine ≡ r.block k.shared =
      at_front (blocks_in t) more routine within ∙ sym stands in
      let last = taken_set n base line xs d.outs slots in
      let all = added_both bs a b f (given_set k (first_locals rs d well) line d.names args)
      (typed.then_block (typed.moved_block base (typed.routine_at bs routine)) last) (inputs bs) (adds bs) in
      let ending : last ≡ results_set (known_in (r.shared k.shared) (past_call k.locals r.last.counts)) base r line xs
      r.results =
      (λ i. taken_set (after i) base line xs d.outs ((numbered ∙ body_numbers rs d well) i))
      ∙ sym (call_results_form rs d well (known_in (r.shared k.shared) (past_call k.locals r.last.counts)) base line xs)
      in
      let beginning : given_set k (first_locals rs d well) line d.names args ≡ inputs_set k r line r.inputs args =
      sym (call_inputs_form rs d well k line args) in
      all ∙ λ i. typed.then_block (typed.block bs a) (typed.then_block (beginning i)
      (typed.then_block (typed.moved_block base (there i)) (ending i)))
