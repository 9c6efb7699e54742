use Rattle.std.proofs.Common.{◌∙◌, ap, refl, sym}
use Rattle.cs_ir.specs.{Machine.write, Placed.there, Values.applied, Values.negated}
use Rattle.cs_ir.specs.Waves.{both, chosen, constant}
use Rattle.cs_meaning.specs.Pieces.{head_value}
use Rattle.cs_machine.proofs.Done.{writes_at}
use Rattle.cs_machine.specs.Registers.{values}
use Rattle.cs_voice.proofs.Fitting.{acts_there, bare_from, does_anywhere, does_at, first_there, is_one_of}
use Rattle.cs_voice.proofs.Fitting.{out_channel, picks_held, reads_one, reads_small, reads_there, reads_three}
use Rattle.cs_voice.proofs.Fitting.{reads_two, second_there, sends_sound, sends_sound_at, third_there, writes_small}
use Rattle.cs_voice.proofs.Fitting.{written_there}
use Rattle.cs_voice.proofs.any.plain.Goals as goal

-- ---- what is written and read exists

pub writes-requires : goal.writes-requires
writes-requires c = writes_small c.requires.fit (acts_there c.args.op c.in-Const.is) refl

pub writes-requires-in-Field : goal.writes-requires-in-Field
writes-requires-in-Field c = writes_small c.requires.fit (acts_there c.args.op c.in-Field.is) refl

pub writes-requires-in-Head : goal.writes-requires-in-Head
writes-requires-in-Head c = writes_small c.requires.fit (acts_there c.args.op c.in-Head.is) refl

pub writes-requires-in-Copy : goal.writes-requires-in-Copy
writes-requires-in-Copy c = writes_small c.requires.fit (acts_there c.args.op c.in-Copy.is) refl

pub writes-requires-in-Neg : goal.writes-requires-in-Neg
writes-requires-in-Neg c = writes_small c.requires.fit (acts_there c.args.op c.in-Neg.is) refl

pub writes-requires-in-Call : goal.writes-requires-in-Call
writes-requires-in-Call c = writes_small c.requires.fit (acts_there c.args.op c.in-Call.is) refl

pub writes-requires-in-Pair : goal.writes-requires-in-Pair
writes-requires-in-Pair c = writes_small c.requires.fit (acts_there c.args.op c.in-Pair.is) refl

pub writes-requires-in-Pick : goal.writes-requires-in-Pick
writes-requires-in-Pick c = writes_small c.requires.fit (acts_there c.args.op c.in-Pick.is) refl

pub hold-requires : goal.hold-requires
hold-requires c = record {
  there = written_there c.requires.fit c.writes.ensures (acts_there c.args.op c.in-Const.is) refl;
  row = c.requires.fit.room.row;
}

pub hold-requires-in-Field : goal.hold-requires-in-Field
hold-requires-in-Field c = record {
  there = written_there c.requires.fit c.writes-in-Field.ensures (acts_there c.args.op c.in-Field.is) refl;
  row = c.requires.fit.room.row;
}

pub hold-requires-in-Head : goal.hold-requires-in-Head
hold-requires-in-Head c = record {
  there = written_there c.requires.fit c.writes-in-Head.ensures (acts_there c.args.op c.in-Head.is) refl;
  row = c.requires.fit.room.row;
}

pub only-requires : goal.only-requires
only-requires c = record {
  one = reads_one c.requires.fit (acts_there c.args.op c.in-Copy.is) refl;
  small = reads_small c.requires.fit;
}

pub copy-requires : goal.copy-requires
copy-requires c = record {
  into = written_there c.requires.fit c.writes-in-Copy.ensures (acts_there c.args.op c.in-Copy.is) refl;
  x = first_there c.args.state.now.regs.counts (reads_there c.requires.fit) c.only.ensures;
  row = c.requires.fit.room.row;
}

pub only-requires-in-Neg : goal.only-requires-in-Neg
only-requires-in-Neg c = record {
  one = reads_one c.requires.fit (acts_there c.args.op c.in-Neg.is) refl;
  small = reads_small c.requires.fit;
}

pub negate-requires : goal.negate-requires
negate-requires c = record {
  into = written_there c.requires.fit c.writes-in-Neg.ensures (acts_there c.args.op c.in-Neg.is) refl;
  x = first_there c.args.state.now.regs.counts (reads_there c.requires.fit) c.only-in-Neg.ensures;
  row = c.requires.fit.room.row;
}

pub only-requires-in-Call : goal.only-requires-in-Call
only-requires-in-Call c = record {
  one = reads_one c.requires.fit (acts_there c.args.op c.in-Call.is) refl;
  small = reads_small c.requires.fit;
}

pub apply-requires : goal.apply-requires
apply-requires c = record {
  into = written_there c.requires.fit c.writes-in-Call.ensures (acts_there c.args.op c.in-Call.is) refl;
  x = first_there c.args.state.now.regs.counts (reads_there c.requires.fit) c.only-in-Call.ensures;
  row = c.requires.fit.room.row;
}

pub pair-requires : goal.pair-requires
pair-requires c = record {
  two = reads_two c.requires.fit (acts_there c.args.op c.in-Pair.is) refl;
  small = reads_small c.requires.fit;
}

pub combine-requires : goal.combine-requires
combine-requires c = record {
  into = written_there c.requires.fit c.writes-in-Pair.ensures (acts_there c.args.op c.in-Pair.is) refl;
  x = first_there c.args.state.now.regs.counts (reads_there c.requires.fit) c.pair.ensures;
  y = second_there c.args.state.now.regs.counts (reads_there c.requires.fit) c.pair.ensures;
  row = c.requires.fit.room.row;
}

pub triple-requires : goal.triple-requires
triple-requires c = record {
  three = reads_three c.requires.fit (acts_there c.args.op c.in-Pick.is);
  small = reads_small c.requires.fit;
}

pub pick-requires : goal.pick-requires
pick-requires c = record {
  into = written_there c.requires.fit c.writes-in-Pick.ensures (acts_there c.args.op c.in-Pick.is) refl;
  condition = first_there c.args.state.now.regs.counts (reads_there c.requires.fit) c.triple.ensures;
  held = picks_held c.requires.fit (acts_there c.args.op c.in-Pick.is) c.triple.ensures;
  x = second_there c.args.state.now.regs.counts (reads_there c.requires.fit) c.triple.ensures;
  y = third_there c.args.state.now.regs.counts (reads_there c.requires.fit) c.triple.ensures;
  row = c.requires.fit.room.row;
}

pub only-requires-in-Out : goal.only-requires-in-Out
only-requires-in-Out c = record {
  one = reads_one c.requires.fit (acts_there c.args.op c.in-Out.is) refl;
  small = reads_small c.requires.fit;
}

pub send-requires : goal.send-requires
send-requires c = record {
  channel = out_channel c.requires.fit (acts_there c.args.op c.in-Out.is);
  x = first_there c.args.state.now.regs.counts (reads_there c.requires.fit) c.only-in-Out.ensures;
  sound = sends_sound c.requires.fit (acts_there c.args.op c.in-Out.is) c.only-in-Out.ensures;
  room = c.requires.fit.room;
}

pub pair-requires-in-OutAt : goal.pair-requires-in-OutAt
pair-requires-in-OutAt c = record {
  two = reads_two c.requires.fit (acts_there c.args.op c.in-OutAt.is) refl;
  small = reads_small c.requires.fit;
}

pub send_at-requires : goal.send_at-requires
send_at-requires c = record {
  number = first_there c.args.state.now.regs.counts (reads_there c.requires.fit) c.pair-in-OutAt.ensures;
  x = second_there c.args.state.now.regs.counts (reads_there c.requires.fit) c.pair-in-OutAt.ensures;
  sound = sends_sound_at c.requires.fit (acts_there c.args.op c.in-OutAt.is) c.pair-in-OutAt.ensures;
  room = c.requires.fit.room;
}

-- ---- no other act

pub unreachable-requires : goal.unreachable-requires
unreachable-requires c =
    let other = c.in_default in
    is_one_of c.args.op.window.now c.args.op.op.now.act c.requires.plain other.not-Const other.not-Field other.not-Head
    other.not-Copy other.not-Neg other.not-Call other.not-Pair other.not-Pick other.not-Out other.not-OutAt
    other.not-Turnoff

-- ---- results

pub returns-in-Const : goal.returns-in-Const
returns-in-Const c = does_at (acts_there c.args.op c.in-Const.is) c.writes.ensures
    (bare_from c.requires.fit (acts_there c.args.op c.in-Const.is) refl) (writes_at (constant c.in-Const.value)
    (record { players = refl; outs = refl; delays = refl; ended = refl }) c.hold.ensures.values c.hold.ensures.row
    (λ areas piece m setting. refl))

pub returns-in-Field : goal.returns-in-Field
returns-in-Field c = does_at (acts_there c.args.op c.in-Field.is) c.writes-in-Field.ensures
    (bare_from c.requires.fit (acts_there c.args.op c.in-Field.is) refl) (writes_at (constant c.field_of.result)
    (record { players = refl; outs = refl; delays = refl; ended = refl }) c.hold-in-Field.ensures.values
    c.hold-in-Field.ensures.row
    (λ areas piece m setting. ap (λ z. write piece.head.ksmps c.writes-in-Field.result (constant z) m)
    (setting.fields c.in-Field.field ∙ sym c.field_of.ensures)))

pub returns-in-Head : goal.returns-in-Head
returns-in-Head c = does_at (acts_there c.args.op c.in-Head.is) c.writes-in-Head.ensures
    (bare_from c.requires.fit (acts_there c.args.op c.in-Head.is) refl) (writes_at (constant c.head_value.result)
    (record { players = refl; outs = refl; delays = refl; ended = refl }) c.hold-in-Head.ensures.values
    c.hold-in-Head.ensures.row
    (λ areas piece m setting. ap (λ z. write piece.head.ksmps c.writes-in-Head.result (constant z) m)
    (ap (λ h. head_value h c.in-Head.name) setting.head ∙ sym c.head_value.ensures)))

pub returns-in-Copy : goal.returns-in-Copy
returns-in-Copy c = does_at (acts_there c.args.op c.in-Copy.is) c.writes-in-Copy.ensures c.only.ensures
    (writes_at (values c.args.state.now.regs c.only.result)
    (record { players = refl; outs = refl; delays = refl; ended = refl }) c.copy.ensures.values c.copy.ensures.row
    (λ areas piece m setting. refl))

pub returns-in-Neg : goal.returns-in-Neg
returns-in-Neg c = does_at (acts_there c.args.op c.in-Neg.is) c.writes-in-Neg.ensures c.only-in-Neg.ensures
    (writes_at (λ j. negated (values c.args.state.now.regs c.only-in-Neg.result j))
    (record { players = refl; outs = refl; delays = refl; ended = refl }) c.negate.ensures.values c.negate.ensures.row
    (λ areas piece m setting. refl))

pub returns-in-Call : goal.returns-in-Call
returns-in-Call c = does_at (acts_there c.args.op c.in-Call.is) c.writes-in-Call.ensures c.only-in-Call.ensures
    (writes_at (λ j. applied c.in-Call.function (values c.args.state.now.regs c.only-in-Call.result j))
    (record { players = refl; outs = refl; delays = refl; ended = refl }) c.apply.ensures.values c.apply.ensures.row
    (λ areas piece m setting. refl))

pub returns-in-Pair : goal.returns-in-Pair
returns-in-Pair c = does_at (acts_there c.args.op c.in-Pair.is) c.writes-in-Pair.ensures c.pair.ensures
    (writes_at (both c.in-Pair.operator (values c.args.state.now.regs c.pair.result.0)
    (values c.args.state.now.regs c.pair.result.1))
    (record { players = refl; outs = refl; delays = refl; ended = refl }) c.combine.ensures.values c.combine.ensures.row
    (λ areas piece m setting. refl))

pub returns-in-Pick : goal.returns-in-Pick
returns-in-Pick c = does_at (acts_there c.args.op c.in-Pick.is) c.writes-in-Pick.ensures c.triple.ensures
    (writes_at (chosen (values c.args.state.now.regs c.triple.result.0) (values c.args.state.now.regs c.triple.result.1)
    (values c.args.state.now.regs c.triple.result.2))
    (record { players = refl; outs = refl; delays = refl; ended = refl }) c.pick.ensures.values c.pick.ensures.row
    (λ areas piece m setting. refl))

pub returns-in-Out : goal.returns-in-Out
returns-in-Out c = does_anywhere (acts_there c.args.op c.in-Out.is) c.only-in-Out.ensures (c.send.ensures (there
    c.args.op).into)

pub returns-in-OutAt : goal.returns-in-OutAt
returns-in-OutAt c =
    does_anywhere (acts_there c.args.op c.in-OutAt.is) c.pair-in-OutAt.ensures (c.send_at.ensures (there
    c.args.op).into)

pub returns-in-Turnoff : goal.returns-in-Turnoff
returns-in-Turnoff c = does_anywhere (acts_there c.args.op c.in-Turnoff.is)
    (bare_from c.requires.fit (acts_there c.args.op c.in-Turnoff.is) refl) (c.turn_off.ensures (there c.args.op).into)
