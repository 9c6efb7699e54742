use Rattle.cs_source.proofs.SmallSounds.{narrow_sound, wide_sound}
use Rattle.cs_source.proofs.worked.sounds_worked_by_hand.Goals as goal
use Rattle.cs_base.specs.declared.width.SampleWidth.TheVariants.{TwoBytes, ThreeBytes}

pub returns-clause-narrow : goal.returns-clause-narrow
returns-clause-narrow c = narrow_sound (c.texts_worked_by_hand.ensures.sound TwoBytes)

pub returns-clause-wide : goal.returns-clause-wide
returns-clause-wide c = wide_sound (c.texts_worked_by_hand.ensures.sound ThreeBytes)

pub returns-clause-refused : goal.returns-clause-refused
returns-clause-refused c = λ width. c.texts_worked_by_hand.ensures.refused width
