-- Before anything is checked, no definition has been typed, and no channel is used.
use Rattle.std.proofs.Common.{◌≡◌, ◌∙◌, ℕ, List, [], length, replicate, slice_get, Option, Some, None, arith, sym, ap}
use Rattle.std.proofs.Common.{subst}
use Rattle.std.specs.List.{All}
use Rattle.std.proofs.lemmas.List.{get_or-replicate, length-map, length-replicate}
use Rattle.std.proofs.lemmas.Option.{get_or_from_slice_get, none-some, slice_get_within}
use Rattle.cs_words.specs.NameSets.{has}
use Rattle.cs_grammar.specs.{Tree.Definition, WellFormed.WellFormedDefinition}
use Rattle.cs_udo.specs.{Library.definitions_of, Ready.IsReady, declared.library.Expansion.Expansion}
use Rattle.cs_typing.specs.{Known.Shared, inner.Held.known_of, inner.Listed.AreTyped, inner.Parts.begun}
use Rattle.cs_typing.specs.declared.known.KnownNames.{KnownNames}
use Rattle.cs_typing.specs.declared.routines.RoutineTable.{RoutineTable}
use Rattle.cs_typing.specs.declared.routines.TypedDefinition.{TypedDefinition}
use Rattle.cs_grammar.specs.Tree as tree

-- every item of a list that repeats one value is that value
pub replicated : {A : Type 0} (n k : ℕ) (x y : A) → slice_get (replicate n x) k ≡ Some y → x ≡ y
replicated {A} n k x y e =
    let inside = slice_get_within (replicate n x) k y e in
    let long = length-replicate {A = A} n x in
    sym (get_or-replicate {A = A} n k x x (omega (arith, inside, long))) ∙ get_or_from_slice_get (replicate n x) k y x e

none_typed : {A : Type 0} (n k : ℕ) (it : TypedDefinition) → slice_get (replicate n None) k ≡ Some (Some it) → A
none_typed n k it e = absurd (none-some it (replicated n k None (Some it) e))

pub first_sound : (channels : ℕ) (ds : List Definition) (g : Shared) (t : RoutineTable) (n : ℕ)
    → All WellFormedDefinition ds → length ds ≡ n → t.by_definition.items ≡ replicate n None → g.control ≡ []
    → AreTyped channels ds g t
first_sound channels ds g t n fit long marks none = record {
  fit = fit;
  marks = ap length marks ∙ length-replicate {A = Option TypedDefinition} n None ∙ sym long;
  each = λ k it d at here. none_typed n k it (sym (ap (λ l. slice_get l k) marks) ∙ at);
  apart = λ x h. absurd (cc (sym (ap (λ l. has l x) none) ∙ h));
}

-- so the invariant holds at the beginning of an orchestra
pub begun_sound : (e : Expansion) → IsReady e → (channels : ℕ) (names : KnownNames) (t : RoutineTable) (n : ℕ)
    → known_of names ≡ begun (tree.orchestra e.orc.now) → length e.library.definitions.now ≡ n
    → t.by_definition.items ≡ replicate n None → AreTyped channels (definitions_of e.library) names.shared t
begun_sound e ready channels names t n known many marks =
    first_sound channels (definitions_of e.library) names.shared t n
    (subst (All WellFormedDefinition) (sym ready.definitions) ready.well_formed.definitions)
    (length-map e.library.definitions.now tree.definition ∙ many) marks (ap (λ k. k.shared.control) known)
