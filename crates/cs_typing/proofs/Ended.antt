-- The entire orchestra: the results of its parts together are the result for the expanded text.
use Rattle.std.proofs.Common.{◌≡◌, ◌∙◌, ℕ, List, [], ◌++◌, map, Option, Some, None, Result, Ok, Err, IfOk, OnOk, sym}
use Rattle.std.proofs.Common.{ap, subst}
use Rattle.std.specs.Option.{option_or}
use Rattle.std.proofs.lemmas.List.{append-nil}
use Rattle.cs_base.specs.{declared.fault.Or.Or, declared.fault.OrcFault.OrcFault}
use Rattle.cs_grammar.specs.{declared.tree.HeadLine.HeadLine, declared.tree.Instr.Instr, declared.tree.OrcStmt.OrcStmt}
use Rattle.cs_udo.specs.{Expanded.expanded_orchestra, Library.definitions_of, Ready.IsReady}
use Rattle.cs_udo.specs.declared.library.Expansion.{Expansion}
use Rattle.cs_typed.specs.declared.tree.TypedOrc.{TypedOrc}
use Rattle.cs_typing.specs.Settings.{header, settings_fault, zaks_of_block, zak_spaces}
use Rattle.cs_typing.specs.{Typing.items, Typing.type_fault, Typing.typed_of, declared.orc.Typing.Typing}
use Rattle.cs_typing.specs.{declared.settle.Settings.Settings, inner.Answers.HasFault, inner.Held.known_of}
use Rattle.cs_typing.specs.{inner.Listed.blocks_in, inner.Parts.statements_fault, inner.Parts.typed_by}
use Rattle.cs_typing.specs.{inner.Routines.KnownInBody, inner.Walk.AddsParts, inner.Walk.GivesOrc, inner.Walk.made_of}
use Rattle.cs_typing.specs.inner.Parts.{after_parts, begun, known_behind_all, made_from, nothing, parts_fault, parts_of}
use Rattle.cs_typing.specs.inner.Settled.{Told, settings_of, told}
use Rattle.cs_typing.proofs.RoutineOrchestra.{orchestra_breaks, orchestra_forms}
use Rattle.cs_base.specs.declared.fault.Or.TheVariants as or
use Rattle.cs_grammar.specs.Tree as tree
use Rattle.cs_typed.specs.TypedTree as typed

-- ---- the parts of an expansion, as they are borrowed

module _ (e : Expansion) (ready : IsReady e) (zero : List OrcStmt) (instrs : List Instr)
    (z : zero ≡ e.orc.now.zero.items) (s : instrs ≡ e.orc.now.instrs.items) where
  pub parts_break : (channels : ℕ) (k : KnownInBody) → k ≡ begun (tree.orchestra e.orc.now)
      → parts_fault channels (definitions_of e.library) k (items (tree.block zero) (map tree.instrument instrs))
      ≡ statements_fault channels (tree.orchestra e.orc.now)
  parts_break channels k names =
      λ i. parts_fault channels (ready.definitions i) (names i) (items (tree.block (z i)) (map tree.instrument (s i)))

  pub parts_made : (channels : ℕ) (old new : Typing) (t : Told)
      → known_of old.so_far.names ≡ begun (tree.orchestra e.orc.now)
      → ((rs : List typed.Block) → made_of rs old.made ≡ nothing)
      → AddsParts channels (definitions_of e.library) old new (items (tree.block zero) (map tree.instrument instrs))
      → made_from t (known_of new.so_far.names) (made_of (blocks_in new.so_far.routines) new.made)
      ≡ typed_by t (tree.orchestra e.orc.now)
  parts_made channels old new t names none adds =
      let bs : List typed.Block = blocks_in new.so_far.routines in
      let known : known_of new.so_far.names
      ≡ known_behind_all (tree.orchestra e.orc.now).opcodes (begun (tree.orchestra e.orc.now))
      (parts_of (tree.orchestra e.orc.now)) =
      adds.known
      ∙ λ i. known_behind_all (ready.definitions i) (names i) (items (tree.block (z i)) (map tree.instrument (s i))) in
      let made : made_of bs new.made
      ≡ after_parts (tree.orchestra e.orc.now).opcodes (begun (tree.orchestra e.orc.now)) nothing
      (parts_of (tree.orchestra e.orc.now)) =
      ap (λ l. made_of l new.made) (sym (append-nil bs)) ∙ adds.made []
      ∙ λ i. after_parts (ready.definitions i) (names i) (none (bs ++ []) i)
      (items (tree.block (z i)) (map tree.instrument (s i))) in
      λ i. made_from t (known i) (made i)

-- ---- the expanded text

module _ (e : Expansion) (ready : IsReady e) (lines : List HeadLine) (zero : List OrcStmt)
    (h : lines ≡ e.orc.now.head.items) (z : zero ≡ e.orc.now.zero.items) where
  breaks : type_fault (expanded_orchestra (tree.orchestra e.orc.now))
      ≡ option_or (settings_fault lines (tree.block zero))
      (statements_fault (header e.orc.now.head.items).nchnls (tree.orchestra e.orc.now))
  breaks =
      orchestra_breaks (tree.orchestra e.orc.now) ready.well_formed e.fine
      ∙ λ i. option_or (settings_fault (sym h i) (tree.block (sym z i)))
      (statements_fault (header e.orc.now.head.items).nchnls (tree.orchestra e.orc.now))

  -- a fault of the settings
  pub settings_break : (f : OrcFault) → settings_fault lines (tree.block zero) ≡ Some f
      → type_fault (expanded_orchestra (tree.orchestra e.orc.now)) ≡ Some f
  settings_break f is =
      breaks
      ∙ ap (λ g. option_or g (statements_fault (header e.orc.now.head.items).nchnls (tree.orchestra e.orc.now))) is

  module _ (s : Settings) (none : settings_fault lines (tree.block zero) ≡ None)
      (is : settings_of s ≡ told (header lines) (zak_spaces (zaks_of_block (tree.block zero)))) where
    same : settings_of s
        ≡ told (header e.orc.now.head.items) (zak_spaces (zaks_of_block (tree.block e.orc.now.zero.items)))
    same = is ∙ λ i. told (header (h i)) (zak_spaces (zaks_of_block (tree.block (z i))))

    channels : s.head.nchnls ≡ (header e.orc.now.head.items).nchnls
    channels = ap (λ t. t.head.nchnls) same

    pub statements_break : type_fault (expanded_orchestra (tree.orchestra e.orc.now))
        ≡ statements_fault s.head.nchnls (tree.orchestra e.orc.now)
    statements_break =
        breaks
        ∙ ap (λ g. option_or g (statements_fault (header e.orc.now.head.items).nchnls (tree.orchestra e.orc.now))) none
        ∙ ap (λ n. statements_fault n (tree.orchestra e.orc.now)) (sym channels)

    pub statements_form : statements_fault s.head.nchnls (tree.orchestra e.orc.now) ≡ None
        → typed_by (settings_of s) (tree.orchestra e.orc.now) ≡ typed_of (expanded_orchestra (tree.orchestra e.orc.now))
    statements_form free =
        ap (λ t. typed_by t (tree.orchestra e.orc.now)) same
        ∙ sym (orchestra_forms (tree.orchestra e.orc.now) ready.well_formed e.fine
        (ap (λ n. statements_fault n (tree.orchestra e.orc.now)) (sym channels) ∙ free))

-- ---- consequences of a result

abbrev error_of : Or OrcFault → Result TypedOrc (Or OrcFault) → Or OrcFault
error_of e (Ok t) = e
error_of e (Err x) = x

pub fault_is : (e : Or OrcFault) (a : Option OrcFault) (f : OrcFault)
    → ◌≡◌ {A = Result TypedOrc (Or OrcFault)} (Err e) (Err (or.Fault f)) → HasFault e a → a ≡ Some f
fault_is e a f is h = subst (λ (x : Or OrcFault). HasFault x a) (ap (error_of e) is) h

pub given_form : (r : Result TypedOrc (Or OrcFault)) (f : Option OrcFault) (a b : typed.Orchestra) → GivesOrc r f a
    → (f ≡ None → a ≡ b) → IfOk r (λ t. typed.orchestra t ≡ b)
given_form (Ok t) f a b h k = h.1 ∙ k h.0
given_form (Err e) f a b h k = tt

pub given_right : (r : Result TypedOrc (Or OrcFault)) (f g : Option OrcFault) (a : typed.Orchestra) → GivesOrc r f a
    → g ≡ f → OnOk r (g ≡ None)
given_right (Ok t) f g a h k = k ∙ h.0
given_right (Err e) f g a h k = tt

pub given_fault : (r : Result TypedOrc (Or OrcFault)) (f g : Option OrcFault) (a : typed.Orchestra) (x : OrcFault)
    → GivesOrc r f a → g ≡ f → r ≡ Err (or.Fault x) → g ≡ Some x
given_fault r f g a x h k is = k ∙ subst (λ q. GivesOrc q f a) is h
