use Rattle.std.proofs.Common.{refl}
use Rattle.cs_ir.specs.declared.register.Counts.{Counts}
use Rattle.cs_code.proofs.Instruments.{Made, code_same, made_code, made_init_valid, made_perf_valid, made_with}
use Rattle.cs_code.proofs.orchestra.joined.Goals as goal

pub new-requires : goal.new-requires
new-requires c =
    let r = c.requires in
    let counts : Counts = record { registers = c.greatest-registers.result; units = c.args.init.extent.unit } in
    let made : Made r.0 r.1 counts c.args.init.ops c.args.perf.ops =
    made_with r.0 r.1 c.args.init c.args.perf c.limits.result c.limits-2.result c.greatest-registers.result r.3
    c.limits.ensures c.limits-2.ensures c.greatest-registers.ensures in
    record {
      init = made_init_valid r.0 r.2.0 r.1 r.2.1 counts c.args.init.ops c.args.perf.ops made;
      perf = made_perf_valid r.0 r.2.0 r.1 r.2.1 counts c.args.init.ops c.args.perf.ops made;
    }

pub returns : goal.returns
returns c = λ spaces s t rated codes.
    let counts : Counts = record { registers = c.greatest-registers.result; units = c.args.init.extent.unit } in
    code_same spaces s.channels t _ _ (record { ops = c.args.init.ops; counts = counts })
    (record { ops = c.args.perf.ops; counts = counts }) c.new.ensures.init c.new.ensures.perf
    (made_code spaces s t rated counts c.args.init.ops c.args.perf.ops
    (made_with spaces t c.args.init c.args.perf c.limits.result c.limits-2.result c.greatest-registers.result codes
    c.limits.ensures c.limits-2.ensures c.greatest-registers.ensures)
    (record { ops = c.args.init.ops; counts = counts }) (record { ops = c.args.perf.ops; counts = counts })
    refl refl refl refl)
