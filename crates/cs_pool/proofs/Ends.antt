-- Which of the views of a mailbox an end has, and the state that the rule allows then.
use Rattle.std.proofs.Common.{arith, ◌≡◌, ◌⊎◌, ℕ, zero, suc, inl, inr, [], ◌∷◌, refl, sym, ap, ◌∙◌}
use Rattle.std.proofs.lemmas.Grind.{common_steps}
use mathlib.Core.Option.{some, none, some-injective, some-ne-none}
use lib.ListN.{get_elem?}
use Rattle.atomic_table.specs.Table.{State}
use Rattle.cs_cells.specs.Meaning.{Meaning}
use Rattle.cs_pool.specs.inner.Exchange.{beginning, Facts, IsShared, IsBegun, Always}
use Rattle.cs_pool.specs.declared.letter.MailboxLetter.{MailboxLetter}
use Rattle.cs_pool.specs.{declared.view.Knows.Knows, declared.view.Role.Role}
use Rattle.cs_pool.specs.declared.view.Role.TheVariants.{Maker, Holder, Caller, Helper}
use mathlib.Core.Option as maybe
use Rattle.cs_pool.specs.declared.letter.MailboxLetter.TheVariants as letter

module _ {A : Type 0} where
  -- the one view, or one of the two
  one_of : (a b : A) (i : ℕ) → get_elem? (a ∷ []) i ≡ some b → (i ≡ 0) × (a ≡ b)
  one_of a b zero e = (refl, some-injective a b e)
  one_of a b (suc i) e = absurd (some-ne-none b (sym e))

  two_of : (a b c : A) (i : ℕ) → get_elem? (a ∷ b ∷ []) i ≡ some c → ((i ≡ 0) × (a ≡ c)) ⊎ ((i ≡ 1) × (b ≡ c))
  two_of a b c zero e = inl (refl, some-injective a c e)
  two_of a b c (suc zero) e = inr (refl, some-injective b c e)
  two_of a b c (suc (suc i)) e = absurd (some-ne-none c (sym e))

module _ {J : Type 0} (M : Meaning J) (s : State (MailboxLetter J) (Knows J)) (id : ℕ) (v : Knows J) where
  -- the mailbox has its two ends, and this is the caller's
  pub record OfCaller : Type 0 where
    pub word : ℕ
    pub home : maybe.Option (MailboxLetter J)
    pub other : Knows J
    pub id_is : id ≡ 0
    pub words : s.words ≡ word ∷ []
    pub homes : s.homes ≡ home ∷ []
    pub views : s.views ≡ v ∷ other ∷ []
    pub facts : Facts M word home v other

  -- the mailbox has its two ends, and this is the helper's
  pub record OfHelper : Type 0 where
    pub word : ℕ
    pub home : maybe.Option (MailboxLetter J)
    pub other : Knows J
    pub id_is : id ≡ 1
    pub words : s.words ≡ word ∷ []
    pub homes : s.homes ≡ home ∷ []
    pub views : s.views ≡ other ∷ v ∷ []
    pub facts : Facts M word home other v

  -- an end of a mailbox that is being made
  of_begun : {r : Role} {h : maybe.Option (MailboxLetter J)} → IsBegun r h s → get_elem? s.views id ≡ some v
      → (id ≡ 0) × (beginning r ≡ v)
  of_begun {r} b here = one_of (beginning r) v id (ap (λ vs. get_elem? vs id) (sym b.views) ∙ here)

  begun_role : {r : Role} {h : maybe.Option (MailboxLetter J)} → IsBegun r h s → get_elem? s.views id ≡ some v
      → r ≡ v.role
  begun_role b here = ap (λ z. z.role) (of_begun b here).1

  -- an end of a mailbox that has both
  side_of : IsShared M s → get_elem? s.views id ≡ some v → OfCaller ⊎ OfHelper
  side_of h here = grind (arith, common_steps, two_of)

  pub of_caller : v.role ≡ Caller → Always M s → get_elem? s.views id ≡ some v → OfCaller
  of_caller role a here = grind (arith, common_steps, begun_role, side_of)

  pub of_helper : v.role ≡ Helper → Always M s → get_elem? s.views id ≡ some v → OfHelper
  of_helper role a here = grind (arith, common_steps, begun_role, side_of)

  -- the one end that is being made
  pub of_maker : v.role ≡ Maker → Always M s → get_elem? s.views id ≡ some v
      → (id ≡ 0) × IsBegun Maker (some letter.Nothing) s
  of_maker role a here = grind (arith, common_steps, begun_role, of_begun, side_of)

  pub of_holder : v.role ≡ Holder → Always M s → get_elem? s.views id ≡ some v → (id ≡ 0) × IsBegun Holder none s
  of_holder role a here = grind (arith, common_steps, begun_role, of_begun, side_of)
