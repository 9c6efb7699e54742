-- Facts about the fault count of a call, and about the known bytes of a file.
use Rattle.std.proofs.Common.{◌≡◌, ℕ, ◌≤◌, List, Option, None, Some, Ok, Err, refl, arith}
use Rattle.std.specs.Io.KnownBytes.{Keeps}
use Rattle.cs_edge.specs.Told.{HasCause, Rose}

pub no_fault : {T E : Type 0} → (n : ℕ) (x : T) → HasCause {T = T} {E = E} n n (Ok x)
no_fault n x = record { later = omega arith; rose = λ h. absurd (cc); same = λ h. refl }

pub same_faults : {T E : Type 0} → (before now : ℕ) (x : T) → now ≡ before → HasCause {T = T} {E = E} before now (Ok x)
same_faults before now x e = record { later = omega (arith, e); rose = λ h. absurd (cc); same = λ h. e }

pub one_fault : {T E : Type 0} → (before now : ℕ) (e : E) → Rose before now → before ≤ now
    → HasCause {T = T} {E = E} before now (Err e)
one_fault before now e rose later = record { later = later; rose = λ h. rose; same = λ h. absurd (cc) }

pub keeps_itself : (known : Option (List ℕ)) → Keeps known known
keeps_itself None = tt
keeps_itself (Some xs) = refl
