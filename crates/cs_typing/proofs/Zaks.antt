-- The data after several `zakinit`s.
use Rattle.std.proofs.Common.{◌≡◌, ℕ, ◌+◌, ◌<◌, length, get_or, drop, sym, true, false, if◌then◌else◌, List, [], ◌∷◌}
use Rattle.std.proofs.Common.{◌++◌, Option, Some, None, ap, ◌∙◌, refl}
use Rattle.std.specs.Option.{option_or}
use Rattle.std.proofs.lemmas.List.{drop_more}
use Rattle.cs_base.specs.declared.fault.OrcFault.{OrcFault}
use Rattle.cs_typing.specs.{declared.zak.Zaks.Zaks, inner.Settled.after_zak, inner.Settled.after_zaks}
use Rattle.cs_typing.specs.Settings.{at, Zak, zak_fault, zaks_fault, sizes, no_spaces, zak_spaces}

-- the rest of a list is its first item, followed by the rest after it
pub dropped : {A : Type 0} (xs : List A) (i : ℕ) (x : A) → i < length xs → x ≡ get_or xs i x
    → drop i xs ≡ x ∷ drop (i + 1) xs
dropped xs i x lt e = drop_more xs i x lt ∙ ap (λ y. y ∷ drop (i + 1) xs) (sym e)

-- the `zakinit`s of two lists, one after the other
pub after_both : (s : Zaks) (xs ys : List Zak) → after_zaks s (xs ++ ys) ≡ after_zaks (after_zaks s xs) ys
after_both s [] ys = refl
after_both s (z ∷ xs) ys = after_both (after_zak s z) xs ys

or_none : (f : Option OrcFault) → f ≡ option_or f None
or_none None = refl
or_none (Some f) = refl

or_or : (f g h : Option OrcFault) → option_or (option_or f g) h ≡ option_or f (option_or g h)
or_or None g h = refl
or_or (Some f) g h = refl

pub fault_after : (s : Zaks) (zs : List Zak) → (after_zaks s zs).fault ≡ option_or s.fault (zaks_fault s.seen zs)
fault_after s [] = or_none s.fault
fault_after s (z ∷ zs) =
    fault_after (after_zak s z) zs ∙ or_or s.fault (at z.line (zak_fault s.seen z)) (zaks_fault true zs)

spaces_after : (s : Zaks) (zs : List Zak) → s.seen ≡ true → (after_zaks s zs).spaces ≡ s.spaces
spaces_after s [] seen = refl
spaces_after s (z ∷ zs) seen =
    spaces_after (after_zak s z) zs refl ∙ ap (λ b. if b then s.spaces else sizes z.args) seen

-- the data before any `zakinit`
abbrev pub none_seen : Zaks
none_seen = record { seen = false; fault = None; spaces = no_spaces }

pub first_spaces : (zs : List Zak) → (after_zaks none_seen zs).spaces ≡ zak_spaces zs
first_spaces [] = refl
first_spaces (z ∷ zs) = spaces_after (after_zak none_seen z) zs refl
