-- The result of a call, from the results of the calls in it.
use Rattle.std.proofs.Common.{◌≡◌, Option, Some, Result, Ok, Err, sym, subst}
use Rattle.std.specs.Result.{IsErrAnd, OnOk}
use Rattle.cs_base.specs.{declared.fault.Or.Or, declared.fault.OrcFault.OrcFault}
use Rattle.cs_typing.specs.inner.Answers.{HasFault}
use Rattle.cs_base.specs.declared.fault.Or.TheVariants as or

-- two errors are the same
abbrev pub Same : Or OrcFault → Or OrcFault → Type 0
Same e y = y ≡ e

-- the exit of a `?`: the same error
pub failed : {U : Type 0} (P : Result U (Or OrcFault) → Type 0) (r : Result U (Or OrcFault)) (e : Or OrcFault)
    → IsErrAnd r (Same e) → P (Err e) → P r
failed P (Ok x) e i h = elim i [ ]
failed P (Err y) e i h = subst (λ (z : Or OrcFault). P (Err z)) (sym i) h

-- a fault of a part is a fault of the whole
pub fault_on : (e : Or OrcFault) (a b : Option OrcFault) → HasFault e a
    → ((f : OrcFault) → a ≡ Some f → b ≡ Some f) → HasFault e b
fault_on (or.Fault f) a b h k = k f h
fault_on or.OutOfMemory a b h k = tt

pub same_fault : (e : Or OrcFault) (a b : Option OrcFault) → HasFault e a → a ≡ b → HasFault e b
same_fault e a b h same = subst (λ (x : Option OrcFault). HasFault e x) same h

-- ---- properties of a result

pub on_ok : {T E P Q : Type 0} (r : Result T E) → OnOk r P → (P → Q) → OnOk r Q
on_ok (Ok x) h k = k h
on_ok (Err e) h k = h
