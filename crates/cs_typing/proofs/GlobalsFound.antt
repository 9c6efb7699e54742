-- The names that a called opcode assigns, by the index of its definition; and the meaning of each
-- definition's mark.
use Rattle.std.proofs.Common.{◌≡◌, ◌∙◌, ℕ, zero, suc, Bool, true, List, [], ◌∷◌, ◌++◌, length, set, slice_get, map}
use Rattle.std.proofs.Common.{Some, None, refl, sym, ap, subst, ◌≢◌, ⊎_elim, false, replicate}
use Rattle.std.proofs.lemmas.{List.append_assoc, List.length-replicate, List.length-set, Bool.cases_eq}
use Rattle.std.proofs.lemmas.Option.{same_Some}
use Rattle.cs_grammar.specs.{WellFormed.IsWellFormed, declared.tree.Callee.Callee, declared.tree.Arm.Arm as Arm'}
use Rattle.cs_grammar.specs.{declared.tree.Arm.out-Arm, Tree.Block, Tree.Definition, Tree.Orchestra, Tree.definition}
use Rattle.cs_udo.specs.Expanded.{expanded_instrument, expanded_orchestra, no_opcodes}
use Rattle.cs_udo.specs.{Library.IsFound, Library.definitions_of, declared.library.FoundDefinition.FoundDefinition}
use Rattle.cs_udo.specs.Refused.{all_faults, faults_of_definitions, faults_of_instruments, faults_outside, first_fault}
use Rattle.cs_typing.specs.{Known.no_names, declared.globals.Front.Front, declared.globals.GivenGlobals.GivenGlobals}
use Rattle.cs_typing.specs.Typing.{all_globals, given_globals, globals_of_instruments}
use Rattle.cs_typing.specs.inner.Globals.{Givers, Has, IsDone, Looks, called_names, givers_in, givers_of}
use Rattle.cs_typing.specs.inner.Globals.{names_in_block, names_in_arms, names_in_bodies, names_given}
use Rattle.cs_typing.specs.inner.Globals.{names_in_instruments, names_of}
use Rattle.cs_udo.proofs.DefinitionsFound.{found, unfound}
use Rattle.cs_typing.proofs.GlobalsHeld.{given_held, held_again, held_on}
use Rattle.cs_typing.proofs.GlobalsWritten.{all_local_inputs, given_both, instruments_given, plain_block_given}
use Rattle.cs_typing.proofs.{FirstSound.replicated, RoutineBlocks.no_first, RoutineOrchestra.no_uppermost}
use Rattle.cs_grammar.specs.declared.tree.Callee.TheVariants as callee
use Rattle.cs_grammar.specs.Tree as tree

-- the called opcode, by the library's result
pub giver_unfound : (ds : List Definition) (visible : ℕ) (c : Callee) → IsFound ds visible c None
    → called_names (givers_of ds visible) c ≡ []
giver_unfound ds visible (callee.Opcode o) h = refl
giver_unfound ds visible (callee.Name x) h = ap names_of (unfound names_given (λ name. None) ds visible x refl h)

pub giver_found : (ds : List Definition) (visible : ℕ) (c : Callee) (f : FoundDefinition)
    → IsFound ds visible c (Some f)
    → called_names (givers_of ds visible) c ≡ names_in_block (givers_of ds f.place) (definition f.definition.now).body
giver_found ds visible (callee.Opcode o) f h = absurd h
giver_found ds visible (callee.Name x) f h =
    ap names_of (found names_given (λ name. None) ds visible f.place x (definition f.definition.now) refl h.1 h.0 h.2)

-- ---- marks

-- before anything is searched
pub none_done : (ds : List Definition) (g : GivenGlobals) (n : ℕ) → length ds ≡ n → g.done.items ≡ replicate n false
    → IsDone ds g
none_done ds g n long marks = record {
  marks = ap length marks ∙ length-replicate {A = Bool} n false ∙ sym long;
  has = λ k d at here. absurd (cc (replicated n k false true (sym (ap (λ l. slice_get l k) marks) ∙ at)));
}

-- a callee without a definition adds no names
pub looks_unfound : (f : Front) (g : GivenGlobals) (c : Callee) → IsDone (definitions_of f.library.now) g
    → IsFound (definitions_of f.library.now) f.visible c None → Looks f g g (called_names (givers_in f) c)
looks_unfound f g c d h = record {
  names = ap (given_globals g.names) (sym (giver_unfound (definitions_of f.library.now) f.visible c h));
  done = d;
}

-- the names of a marked definition are in the table already
pub looks_again : (f : Front) (g : GivenGlobals) (c : Callee) (found : FoundDefinition)
    → IsDone (definitions_of f.library.now) g → IsFound (definitions_of f.library.now) f.visible c (Some found)
    → slice_get (definitions_of f.library.now) found.place ≡ Some (definition found.definition.now)
    → slice_get g.done.items found.place ≡ Some true → Looks f g g (called_names (givers_in f) c)
looks_again f g c found d h at marked = record {
  names =
      let xs = names_in_block (givers_of (definitions_of f.library.now) found.place)
      (definition found.definition.now).body in
      sym (ap (given_globals g.names) (giver_found (definitions_of f.library.now) f.visible c found h)
      ∙ held_again g.names xs (d.has found.place (definition found.definition.now) marked at));
  done = d;
}

get_set_other : (xs : List Bool) (i k : ℕ) (b : Bool) → k ≢ i → slice_get (set xs i b) k ≡ slice_get xs k
get_set_other (x ∷ xs) zero zero b other = absurd (other refl)
get_set_other (x ∷ xs) (suc i) (suc k) b other = get_set_other xs i k b (λ e. other (ap suc e))
get_set_other xs i k b other = refl

-- the names of a definition are added at its first call, after which it is marked
pub looks_first : (f inner : Front) (old made new : GivenGlobals) (c : Callee) (found : FoundDefinition)
    → inner.library ≡ f.library → inner.visible ≡ found.place
    → IsFound (definitions_of f.library.now) f.visible c (Some found)
    → slice_get (definitions_of f.library.now) found.place ≡ Some (definition found.definition.now)
    → Looks inner old made (names_in_block (givers_in inner) (definition found.definition.now).body)
    → new.names ≡ made.names → new.done.items ≡ set made.done.items found.place true
    → Looks f old new (called_names (givers_in f) c)
looks_first f inner old made new c found lib vis h at l names marks =
    let ds = definitions_of f.library.now in
    let xs = names_in_block (givers_of ds found.place) (definition found.definition.now).body in
    let same : names_in_block (givers_in inner) (definition found.definition.now).body ≡ xs =
    ap (λ b. names_in_block (givers_of (definitions_of b.now) inner.visible) (definition found.definition.now).body) lib
    ∙ ap (λ v. names_in_block (givers_of ds v) (definition found.definition.now).body) vis in
    let all : made.names ≡ given_globals old.names xs = l.names ∙ ap (given_globals old.names) same in
    let before : IsDone ds made = subst (λ b. IsDone (definitions_of b.now) made) lib l.done in
    let held : Has made.names xs = subst (λ t. Has t xs) (sym all) (given_held old.names xs) in
    record {
      names =
          names ∙ all ∙ ap (given_globals old.names) (sym (giver_found ds f.visible c found h));
      done = record {
        marks = ap length marks ∙ length-set made.done.items found.place true ∙ before.marks;
        has = λ k d marked here.
            let now : Has made.names (names_in_block (givers_of ds k) d.body) =
            ⊎_elim
            (λ hit.
            let one : slice_get ds found.place ≡ Some d = subst (λ j. slice_get ds j ≡ Some d) hit here in
            let is : definition found.definition.now ≡ d =
            same_Some (definition found.definition.now) d (sym at ∙ one) in
            subst (λ j. Has made.names (names_in_block (givers_of ds j) d.body)) (sym hit)
            (subst (λ (y : Definition). Has made.names (names_in_block (givers_of ds found.place) y.body)) is held))
            (λ miss. before.has k d
            (sym (get_set_other made.done.items found.place k true miss) ∙ ap (λ l. slice_get l k) (sym marks) ∙ marked)
            here) (cases_eq k found.place) in
            subst (λ t. Has t (names_in_block (givers_of ds k) d.body)) (sym names) now;
      };
    }

-- ---- the entire orchestra

-- the global variables of an expanded orchestra are the same as in the text as written
pub all_written : (o : Orchestra) → IsWellFormed o → first_fault o ≡ None → all_globals (expanded_orchestra o)
    ≡ given_globals (given_globals no_names (names_in_block (givers_of o.opcodes 0) o.zero))
    (names_in_instruments o.opcodes o.instrs)
all_written o well allowed =
    let none = no_uppermost (all_faults o) allowed in
    let outer = no_first (faults_outside o.opcodes o.zero)
    (faults_of_definitions no_opcodes o.opcodes ++ faults_of_instruments o.opcodes o.instrs) none in
    let inner = no_first (faults_of_definitions no_opcodes o.opcodes) (faults_of_instruments o.opcodes o.instrs)
    outer.1 in
    ap (λ t. globals_of_instruments t (map (expanded_instrument o.opcodes) o.instrs))
    (plain_block_given no_names o.zero)
    ∙ instruments_given o.opcodes (all_local_inputs o.opcodes well.definitions) inner.0
    (given_globals no_names (names_in_block (givers_of o.opcodes 0) o.zero)) o.instrs inner.1

-- ---- one after another

pub looks_both : (f : Front) (old mid new : GivenGlobals) (xs ys : List (List ℕ)) → Looks f old mid xs
    → Looks f mid new ys → Looks f old new (xs ++ ys)
looks_both f old mid new xs ys a b = record {
  names = b.names ∙ ap (λ t. given_globals t ys) a.names ∙ sym (given_both old.names xs ys);
  done = b.done;
}

-- names that a statement assigns itself
pub looks_given : (f : Front) (old new : GivenGlobals) (ys : List (List ℕ)) → IsDone (definitions_of f.library.now) old
    → new.names ≡ given_globals old.names ys → new.done.items ≡ old.done.items → Looks f old new ys
looks_given f old new ys d names marks = record {
  names = names;
  done = record {
    marks = ap length marks ∙ d.marks;
    has = λ k x marked here.
        let xs = names_in_block (givers_of (definitions_of f.library.now) k) x.body in
        subst (λ t. Has t xs) (sym names)
        (held_on old.names xs ys (d.has k x (sym (ap (λ l. slice_get l k) marks) ∙ marked) here));
  };
}

-- the arms of an `if`, and the statements after `else`
pub arms_names : (givers : Givers) (els : Block) (list : List Arm')
    → names_in_arms givers (tree.arms els list) ≡ names_in_bodies givers list ++ names_in_block givers els
arms_names givers els [] = refl
arms_names givers els (a ∷ rest) =
    let xs = names_in_block givers (tree.block (out-Arm a).body.items) in
    ap (λ l. xs ++ l) (arms_names givers els rest)
    ∙ sym (append_assoc xs (names_in_bodies givers rest) (names_in_block givers els))
