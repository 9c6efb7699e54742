use Rattle.std.proofs.Common.{◌≡◌, ◌≤◌, ◌*◌, ◌+◌, ℕ, ℤ, Bool, [], length, ap, subst, sym, ◌∙◌, arith, Fits, w64}
use Rattle.std.specs.List.{count_by}
use Rattle.std.proofs.lemmas.List.Sums.{count_by-le-length}
use Rattle.cs_base.specs.{Widths.bytes_of, declared.head.Head.Head}
use Rattle.cs_piece_meaning.specs.Moments.{Composition, Moment}
use Rattle.cs_piece.specs.Setups.{SetupData, composition_of}
use Rattle.cs_wav.specs.Wav.{is_out_of_range}
use Rattle.cs_perform.proofs.{Blocks.mix_written, Blocks.slice_written, Frames.length-mix_in}
use Rattle.cs_perform.proofs.{Performing.runs_cycle, Turning.told_more}
use Rattle.cs_perform.proofs.Cycles.{block_small, counted_more, moment_after, outside_few, outside_fits}
use Rattle.cs_perform.proofs.Wholes.{not_ok, not_sink}
use Rattle.cs_perform.proofs.cycle.play_cycle.Goals as goal

pub prepare-requires : goal.prepare-requires
prepare-requires g c = (_, c.requires.at)

pub run-requires-clause-at : goal.run-requires-clause-at
run-requires-clause-at g c = (
  c.args.performance.now.setup.now,
  _,
  c.in-Ok.ensures.begun _ c.requires.at,
  ap length c.deref_mut.ensures.value ∙ c.requires.recorded.blocks.mix,
)

pub returns-in_default-clause-broken : goal.returns-in_default-clause-broken
returns-in_default-clause-broken g c e = absurd (not_sink e)

pub returns-clause-broken : goal.returns-clause-broken
returns-clause-broken g c e = absurd (not_ok _ _ e)

pub pour-requires-clause-few : goal.pour-requires-clause-few
pour-requires-clause-few g c =
    let s : SetupData = c.args.performance.now.setup.now in
    let head : Head = s.orchestra.head in
    let mix = mix_written (composition_of s) c.args.cycle _ c.run.new.block c.args.recording.now.mix.items _
    (c.run.ensures.runs.heard s c.args.cycle (c.in-Ok.ensures.begun _ c.requires.at)) c.requires.recorded.blocks.mix
    c.deref_mut.ensures.value c.deref_mut.ensures.len in
    let long : length c.deref.result.now ≡ head.ksmps * head.nchnls =
    ap length (c.deref.ensures.value ∙ mix) ∙ length-mix_in (composition_of s) c.args.cycle in
    let small : head.ksmps * head.nchnls ≤ 65536 =
    block_small head.ksmps head.nchnls head.ksmps_in_range.1 head.nchnls_in_range.1 in
    subst (λ (n : ℕ). n ≤ 65536) (sym long) small

pub pour-requires-clause-room : goal.pour-requires-clause-room
pour-requires-clause-room g c =
    let s : SetupData = c.args.performance.now.setup.now in
    let head : Head = s.orchestra.head in
    let mix = mix_written (composition_of s) c.args.cycle _ c.run.new.block c.args.recording.now.mix.items _
    (c.run.ensures.runs.heard s c.args.cycle (c.in-Ok.ensures.begun _ c.requires.at)) c.requires.recorded.blocks.mix
    c.deref_mut.ensures.value c.deref_mut.ensures.len in
    let long : length c.deref.result.now ≡ head.ksmps * head.nchnls =
    ap length (c.deref.ensures.value ∙ mix) ∙ length-mix_in (composition_of s) c.args.cycle in
    ap length c.deref_mut-2.ensures.value ∙ c.requires.recorded.blocks.samples
    ∙ ap (λ (k : ℕ). k * bytes_of c.args.performance.now.order.width) (sym long)

pub returns-in_default-pour-clause-broken : goal.returns-in_default-pour-clause-broken
returns-in_default-pour-clause-broken g c e =
    let s : SetupData = c.args.performance.now.setup.now in
    let begun = c.in-Ok.ensures.begun _ c.requires.at in
    let mix = mix_written (composition_of s) c.args.cycle _ c.run.new.block c.args.recording.now.mix.items _
    (c.run.ensures.runs.heard s c.args.cycle begun) c.requires.recorded.blocks.mix
    c.deref_mut.ensures.value c.deref_mut.ensures.len in
    runs_cycle _ _ c.head-head.result.now.dbfs
    c.args.cycle c.deref.result.now _ _ (c.deref.ensures.value ∙ mix) (ap (λ (h : Head). h.dbfs) c.head-head.ensures)
    c.in_default-pour.ensures.told (c.run.ensures.runs.counted s c.args.cycle begun) _ c.in_default-pour.ensures.part

pub returns-in_default-pour-clause-sink : goal.returns-in_default-pour-clause-sink
returns-in_default-pour-clause-sink g c e = c.in_default-pour.ensures.ordered

pub overflow_add-recording : goal.overflow_add-recording
overflow_add-recording g c =
    let s : SetupData = c.args.performance.now.setup.now in
    let piece : Composition = composition_of s in
    let head : Head = s.orchestra.head in
    let small : head.ksmps * head.nchnls ≤ 65536 =
    block_small head.ksmps head.nchnls head.ksmps_in_range.1 head.nchnls_in_range.1 in
    let mix = mix_written piece c.args.cycle _ c.run.new.block c.args.recording.now.mix.items _
    (c.run.ensures.runs.heard s c.args.cycle (c.in-Ok.ensures.begun _ c.requires.at)) c.requires.recorded.blocks.mix
    c.deref_mut.ensures.value c.deref_mut.ensures.len in
    let long : length c.deref.result.now ≡ head.ksmps * head.nchnls =
    ap length (c.deref.ensures.value ∙ mix) ∙ length-mix_in piece c.args.cycle in
    let p : ℤ → Bool = is_out_of_range c.args.performance.now.order.width head.dbfs in
    let q : ℤ → Bool = is_out_of_range c.args.performance.now.order.width c.head-head.result.now.dbfs in
    let here : c.in-Ok-pour.outside ≡ count_by q c.deref.result.now = c.in-Ok-pour.ensures.out_of_range in
    let some : count_by q c.deref.result.now ≤ length c.deref.result.now = count_by-le-length q c.deref.result.now in
    subst (λ (k : ℕ). Fits w64 (c.args.recording.now.out_of_range + k)) (sym c.from-more.ensures)
    (outside_fits piece p c.args.cycle c.args.recording.now.out_of_range c.in-Ok-pour.outside (omega arith) small
    c.requires.recorded.out_of_range (outside_few _ _ _ _ here some long small))

pub returns-clause-at : goal.returns-clause-at
returns-clause-at g c =
    let s : SetupData = c.args.performance.now.setup.now in
    subst (λ (m : Moment). g.S.Sounder.is_at s c.run.new.self m) (moment_after (composition_of s) c.args.cycle)
    (c.run.ensures.runs.ended s _ (c.in-Ok.ensures.begun _ c.requires.at))

pub returns-clause-played : goal.returns-clause-played
returns-clause-played g c =
    let s : SetupData = c.args.performance.now.setup.now in
    let begun = c.in-Ok.ensures.begun _ c.requires.at in
    let mix = mix_written (composition_of s) c.args.cycle _ c.run.new.block c.args.recording.now.mix.items _
    (c.run.ensures.runs.heard s c.args.cycle begun) c.requires.recorded.blocks.mix
    c.deref_mut.ensures.value c.deref_mut.ensures.len in
    runs_cycle _ _ c.head-head.result.now.dbfs
    c.args.cycle c.deref.result.now _ _ (c.deref.ensures.value ∙ mix) (ap (λ (h : Head). h.dbfs) c.head-head.ensures)
    c.in-Ok-pour.ensures.told (c.run.ensures.runs.counted s c.args.cycle begun) _ c.in-Ok-pour.ensures.written

pub returns-clause-recorded : goal.returns-clause-recorded
returns-clause-recorded g c =
    let s : SetupData = c.args.performance.now.setup.now in
    let piece : Composition = composition_of s in
    let head : Head = s.orchestra.head in
    let mix = mix_written piece c.args.cycle _ c.run.new.block c.args.recording.now.mix.items _
    (c.run.ensures.runs.heard s c.args.cycle (c.in-Ok.ensures.begun _ c.requires.at)) c.requires.recorded.blocks.mix
    c.deref_mut.ensures.value c.deref_mut.ensures.len in
    let long : length c.pour.new.out ≡ c.args.recording.now.samples.len =
    c.in-Ok-pour.ensures.long ∙ c.deref_mut-2.ensures.len in
    record {
      blocks = record {
        mix = ap length mix ∙ length-mix_in piece c.args.cycle;
        samples = ap length (slice_written c.args.recording.now.samples.len c.pour.new.out
            c.args.recording.now.samples.items long)
            ∙ c.in-Ok-pour.ensures.long ∙ ap length c.deref_mut-2.ensures.value
            ∙ c.requires.recorded.blocks.samples;
      };
      out_of_range = counted_more piece (is_out_of_range c.args.performance.now.order.width head.dbfs) c.args.cycle
          c.deref.result.now
          c.args.recording.now.out_of_range c.from-more.result (c.deref.ensures.value ∙ mix)
          c.requires.recorded.out_of_range
          (c.from-more.ensures ∙ c.in-Ok-pour.ensures.out_of_range
          ∙ ap (λ (h : Head). count_by (is_out_of_range c.args.performance.now.order.width h.dbfs)
          c.deref.result.now) c.head-head.ensures);
      turns = told_more c.args.performance.now.order.turns piece c.args.cycle [] c.args.recording.now.turns.items _
          c.requires.recorded.turns (c.in-Ok.ensures.turns _ c.requires.at);
    }
