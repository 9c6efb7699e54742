-- The parts of an orchestra, one after another: the known names and the typed form after two lists of parts.
use Rattle.std.proofs.Common.{◌≡◌, ◌∙◌, ℕ, ◌++◌, List, [], ◌∷◌, Option, Some, None, refl, sym, ap}
use Rattle.std.specs.Option.{option_or}
use Rattle.std.proofs.lemmas.List.{append_assoc}
use Rattle.cs_base.specs.declared.fault.OrcFault.{OrcFault}
use Rattle.cs_grammar.specs.Tree.{Definition}
use Rattle.cs_typing.specs.{Typing.Item, declared.orc.Typing.Typing, inner.Held.known_of, inner.Listed.blocks_in}
use Rattle.cs_typing.specs.{inner.Parts.parts_fault, inner.Routines.KnownInBody}
use Rattle.cs_typing.specs.inner.Parts.{MadeParts, after_part, after_parts, known_behind, known_behind_all, part_fault}
use Rattle.cs_typing.specs.inner.Walk.{AddsParts, made_of}
use Rattle.cs_typing.proofs.Walked.{longer_still}
use Rattle.cs_typed.specs.TypedTree as typed

pub behind_both : (ds : List Definition) (k : KnownInBody) (xs ys : List Item)
    → known_behind_all ds k (xs ++ ys) ≡ known_behind_all ds (known_behind_all ds k xs) ys
behind_both ds k [] ys = refl
behind_both ds k (x ∷ xs) ys = behind_both ds (known_behind ds k x) xs ys

pub after_both : (ds : List Definition) (k : KnownInBody) (m : MadeParts) (xs ys : List Item)
    → after_parts ds k m (xs ++ ys) ≡ after_parts ds (known_behind_all ds k xs) (after_parts ds k m xs) ys
after_both ds k m [] ys = refl
after_both ds k m (x ∷ xs) ys = after_both ds (known_behind ds k x) (after_part ds k m x) xs ys

-- a list of parts, followed by another
pub adds_both : (ch : ℕ) (ds : List Definition) (a b c : Typing) (xs ys : List Item) → AddsParts ch ds a b xs
    → AddsParts ch ds b c ys → AddsParts ch ds a c (xs ++ ys)
adds_both ch ds a b c xs ys p q = record {
  known = q.known ∙ ap (λ k. known_behind_all ds k ys) p.known ∙ sym (behind_both ds (known_of a.so_far.names) xs ys);
  made = λ more. made_both more;
  longer = longer_still a.so_far.routines b.so_far.routines c.so_far.routines p.longer q.longer;
  sound = q.sound;
}
  where
    k : KnownInBody
    k = known_of a.so_far.names

    -- the routines of c, followed by more, are the routines of b, followed by more
    same : (more : List typed.Block) → blocks_in c.so_far.routines ++ more
        ≡ blocks_in b.so_far.routines ++ (q.longer.0 ++ more)
    same more = ap (λ l. l ++ more) q.longer.1 ∙ append_assoc (blocks_in b.so_far.routines) q.longer.0 more

    front : (more : List typed.Block) → made_of (blocks_in c.so_far.routines ++ more) b.made
        ≡ after_parts ds k (made_of (blocks_in c.so_far.routines ++ more) a.made) xs
    front more =
        ap (λ rs. made_of rs b.made) (same more) ∙ p.made (q.longer.0 ++ more)
        ∙ sym (ap (λ rs. after_parts ds k (made_of rs a.made) xs) (same more))

    made_both : (more : List typed.Block) → made_of (blocks_in c.so_far.routines ++ more) c.made
        ≡ after_parts ds k (made_of (blocks_in c.so_far.routines ++ more) a.made) (xs ++ ys)
    made_both more =
        let rs = blocks_in c.so_far.routines ++ more in
        q.made more ∙ ap (λ n. after_parts ds n (made_of rs b.made) ys) p.known
        ∙ ap (λ m. after_parts ds (known_behind_all ds k xs) m ys) (front more)
        ∙ sym (after_both ds k (made_of rs a.made) xs ys)

-- the first rule that parts break
pub fault_next : (ch : ℕ) (ds : List Definition) (k m : KnownInBody) (x : Item) (xs : List Item)
    → part_fault ch ds k x ≡ None → m ≡ known_behind ds k x → parts_fault ch ds m xs ≡ parts_fault ch ds k (x ∷ xs)
fault_next ch ds k m x xs none after =
    ap (λ n. parts_fault ch ds n xs) after
    ∙ sym (ap (λ f. option_or f (parts_fault ch ds (known_behind ds k x) xs)) none)

pub fault_first : (ch : ℕ) (ds : List Definition) (k : KnownInBody) (x : Item) (xs : List Item) (f : OrcFault)
    → part_fault ch ds k x ≡ Some f → parts_fault ch ds k (x ∷ xs) ≡ Some f
fault_first ch ds k x xs f e = ap (λ g. option_or g (parts_fault ch ds (known_behind ds k x) xs)) e

pub fault_alone : (ch : ℕ) (ds : List Definition) (k : KnownInBody) (x : Item)
    → parts_fault ch ds k (x ∷ []) ≡ part_fault ch ds k x
fault_alone ch ds k x = by (part_fault ch ds k x)
  where
    by : (f : Option OrcFault) → option_or f None ≡ f
    by None = refl
    by (Some g) = refl
