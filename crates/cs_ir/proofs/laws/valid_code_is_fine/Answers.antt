use Rattle.std.proofs.Common.{◌≡◌, ◌+◌, true, subst, length, arith}
use Rattle.cs_ir.specs.Validity.{is_fine}
use Rattle.cs_ir.proofs.Fine.{fine_at, all_fine}
use Rattle.cs_ir.proofs.laws.valid_code_is_fine.Goals as goal

pub returns-clause-each : goal.returns-clause-each
returns-clause-each c k n o h e =
    let p : 0 + n ≡ n = omega arith in
    subst (λ j. is_fine k.counts (length k.ops) j o ≡ true) p (fine_at k.counts (length k.ops) 0 k.ops n o h e)

pub returns-clause-all : goal.returns-clause-all
returns-clause-all c k h =
    all_fine k.counts (length k.ops) 0 k.ops
    (λ n o e. let p : n ≡ 0 + n =
    omega arith in subst (λ j. is_fine k.counts (length k.ops) j o ≡ true) p (h n o e))
