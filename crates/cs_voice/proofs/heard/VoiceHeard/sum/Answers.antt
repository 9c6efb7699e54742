use Rattle.std.proofs.Common.{◌≡◌, ◌<◌, ◌∙◌, ℕ, length, ap, sym, subst}
use Rattle.cs_typed.specs.Places.{Header}
use Rattle.cs_voice.proofs.Blocks.{first_fits, heard_as, small_as}
use Rattle.cs_voice.proofs.heard.VoiceHeard.sum.Goals as goal

pub mix-requires-clause-voices : goal.mix-requires-clause-voices
mix-requires-clause-voices c k d low =
    let first = first_fits c.requires.long.0 c.requires.long.1 c.args.jobs.now _ c.requires.long.2 c.requires.some
    c.index-jobs-0.is in
    ap (λ (s : ℕ × ℕ). s.0) (c.requires.long.2 k d low) ∙ ap (λ (s : ℕ × ℕ). s.0) (sym first)
    ∙ c.head-head.ensures.frames

pub returns-clause-sums : goal.returns-clause-sums
returns-clause-sums c =
    let first = first_fits c.requires.long.0 c.requires.long.1 c.args.jobs.now _ c.requires.long.2 c.requires.some
    c.index-jobs-0.is in
    heard_as c.requires.long.0 c.requires.long.1 c.args.jobs.now _ _ (length c.args.block.now) c.mix.new.out
    c.requires.long.2 (sym c.head-head.ensures.frames ∙ ap (λ (s : ℕ × ℕ). s.0) first)
    (ap (λ (h : Header). h.nchnls) c.head-head.ensures.head ∙ ap (λ (s : ℕ × ℕ). s.1) first) c.requires.long.3
    c.mix.ensures.sums

pub returns-clause-small : goal.returns-clause-small
returns-clause-small c =
    let first = first_fits c.requires.long.0 c.requires.long.1 c.args.jobs.now _ c.requires.long.2 c.requires.some
    c.index-jobs-0.is in
    let frames : c.head-head.result.now.ksmps ≡ c.requires.long.0 =
    sym c.head-head.ensures.frames ∙ ap (λ (s : ℕ × ℕ). s.0) first in
    let channels : c.head-head.result.now.nchnls ≡ c.requires.long.1 =
    ap (λ (h : Header). h.nchnls) c.head-head.ensures.head ∙ ap (λ (s : ℕ × ℕ). s.1) first in
    small_as c.requires.long.0 c.requires.long.1 c.args.jobs.now (length c.args.jobs.now) (length c.args.block.now)
    c.mix.new.out c.requires.long.2 c.requires.long.3
    (heard_as c.requires.long.0 c.requires.long.1 c.args.jobs.now _ _ (length c.args.block.now) c.mix.new.out
    c.requires.long.2 frames channels c.requires.long.3 c.mix.ensures.sums)
    (λ j d row column. c.mix.ensures.small j d (subst (λ (n : ℕ). j < n) (sym frames) row)
    (subst (λ (n : ℕ). d < n) (sym channels) column))
