use Rattle.std.proofs.Common.{arith, rules, subst, sym}
use Rattle.cs_ir.proofs.Lows.{further_low}
use Rattle.cs_ir.specs.Flat.{Begins, IsLow, window_of}
use Rattle.cs_ir.proofs.window.Window.further.Goals as goal

pub returns-clause-window : goal.returns-clause-window
returns-clause-window c = search (rules, arith)

pub returns-clause-low : goal.returns-clause-low
returns-clause-low c depth inner deep less =
    subst (λ (w : Begins). IsLow inner w) (sym (returns-clause-window c))
    (further_low depth c.args.self.now deep inner (window_of c.args.call.now) less (omega arith) (omega arith)
    (omega arith) (omega arith) (omega arith))
