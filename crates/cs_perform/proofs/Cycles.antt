-- A cycle from the moment before it to the moment after it.
use Rattle.std.proofs.Common.{◌≡◌, ◌≤◌, ◌<◌, ℕ, suc, ◌+◌, ◌*◌, ◌^◌, ℤ, Bool, List, [], ◌∷◌, length, ap, sym, ◌∙◌}
use Rattle.std.proofs.Common.{arith, Fits, w64}
use Rattle.std.proofs.Math.Nat.{mul-le-mul, mul-le-mul_left}
use Rattle.std.specs.List.{AllZip, count_by}
use Rattle.std.proofs.lemmas.List.Sums.{count_by-le-length}
use Rattle.cs_base.specs.Limits.{most_notes, most_wav_bytes}
use Rattle.cs_base.specs.{Widths.bytes_of, declared.width.SampleWidth.SampleWidth}
use Rattle.cs_base.specs.declared.width.SampleWidth.TheVariants.{TwoBytes, ThreeBytes}
use Rattle.cs_cells.specs.Cells.{Cells}
use Rattle.cs_piece_meaning.specs.Course.{begins, moment_at, performed, played_in, turned_off}
use Rattle.cs_piece_meaning.specs.{Heard.frames_before, Heard.mix_in, Moments.Active, Moments.Composition}
use Rattle.cs_piece_meaning.specs.Moments.{Moment}
use Rattle.cs_life.proofs.Heard.{heard}
use Rattle.cs_life.specs.{Standing.Plays, Standing.StandsFor, declared.life.Life.Life}
use Rattle.cs_voice.specs.{VoiceData.VoiceData, declared.stage.Stage.Stage}
use Rattle.cs_perform.specs.Counted.{AreHeardIn, CountsOn, IsHeardAs, Receipts}
use Rattle.cs_perform.specs.{declared.stand.Stand.Stand, inner.Stands.CountsCycle, inner.Stands.IsAt}
use Rattle.cs_perform.specs.inner.Stands.{RunsNotes}
use Rattle.cs_piece.specs.Setups.{SetupData, composition_of}
use Rattle.cs_perform.proofs.Frames.{count_by_both, frames_before_more, length-frames_before}

-- the moment after a cycle is the moment before the next one
pub moment_after : (c : Composition) (n : ℕ)
    → turned_off (performed c (begins c n (moment_at c n))) ≡ moment_at c (n + 1)
moment_after c n = ap (moment_at c) (let e : suc n ≡ n + 1 = omega arith in e)

-- voices that play are heard as their notes
all_heard : (c : Composition) (stage : Stage) (flags : List Bool) (voices : List VoiceData) (notes : List Active)
    → AllZip (Plays c stage flags) voices notes → AllZip IsHeardAs voices notes
all_heard c stage flags [] [] h = tt
all_heard c stage flags [] (a ∷ notes) h = absurd h
all_heard c stage flags (v ∷ voices) [] h = absurd h
all_heard c stage flags (v ∷ voices) (a ∷ notes) h =
    let p : Plays c stage flags v a = h.0 in (
      record { number = p.number; ends = p.until; channels = p.note.outs; ended = p.note.ended },
      all_heard c stage flags voices notes h.1,
    )

-- the voices of a cycle are heard in it
pub heard_in : (c : Composition) (n : ℕ) (life : Life) (voices : List VoiceData) (cells : Cells)
    → StandsFor c life voices cells (performed c (begins c n (moment_at c n))) → AreHeardIn c n voices
heard_in c n life voices cells st = record {
  notes = all_heard c life.stage life.made.items voices (played_in c n) st.stand.play;
  heard = heard c life voices cells n st;
}

pub counts_cycle : {C : Type 0} (N : C → Receipts → Type 0) (c : Composition) (n : ℕ) (life : Life)
    (voices : List VoiceData) (cells : Cells) (before now : C)
    → StandsFor c life voices cells (performed c (begins c n (moment_at c n))) → CountsOn N before now (voices ∷ [])
    → CountsCycle N c n before now
counts_cycle N c n life voices cells before now st counted = record {
  voices = voices;
  heard = heard_in c n life voices cells st;
  counted = counted;
}

-- the notes run: from the state before them, after they have performed, and after some have left
pub runs_notes : {S G C : Type 0} (is_at : SetupData → S → Moment → Type 0) (N : C → Receipts → Type 0) (old now : S)
    (stand ran left : Stand G) (before after : C) (block : List ℤ)
    → ((s : SetupData) (m : Moment) → is_at s old m → IsAt s stand m)
    → ((s : SetupData) (m : Moment) → IsAt s stand m → IsAt s ran (performed (composition_of s) m))
    → CountsOn N before after (ran.voices.items ∷ [])
    → ((s : SetupData) (n : ℕ) → IsAt s stand (begins (composition_of s) n (moment_at (composition_of s) n))
    → block ≡ mix_in (composition_of s) n)
    → ((s : SetupData) (m : Moment) → IsAt s ran m → IsAt s left (turned_off m))
    → ((s : SetupData) (m : Moment) → IsAt s left m → is_at s now m)
    → RunsNotes is_at N old now before after block
runs_notes is_at N old now stand ran left before after block begun performs counted hears leaves kept = record {
  ended = λ s m at. kept s _ (leaves s _ (performs s m (begun s m at)));
  counted = λ s n at. counts_cycle N (composition_of s) n ran.life _ _ before after
      (performs s _ (begun s _ at)).stands counted;
  heard = λ s n at. hears s n (begun s _ at);
}

-- NUMBERS

-- the counter has room for a cycle, and for that much less afterwards
pub room_left : (room n : ℕ) → n < 2 ^ 32 → 2 ^ 42 ≤ room + n * (most_notes + 1) → most_notes < room
room_left room n few enough = omega arith

pub room_kept : (before now n : ℕ) → 2 ^ 42 ≤ before + n * (most_notes + 1) → before ≤ now + (most_notes + 1)
    → 2 ^ 42 ≤ now + (n + 1) * (most_notes + 1)
room_kept before now n enough less = omega arith

-- the block of a cycle is small
pub block_small : (k n : ℕ) → k ≤ 4096 → n ≤ 16 → k * n ≤ 65536
block_small k n a b = let h : k * n ≤ 4096 * 16 = mul-le-mul a b in omega (arith, h)

-- no more samples of a block are clipped than it has
pub outside_few : (outside some long block : ℕ) → outside ≡ some → some ≤ long → long ≡ block → block ≤ 65536
    → outside < 2 ^ 32
outside_few outside some long block here few same small = omega arith

-- the count of clipped samples stays small
pub outside_fits : (c : Composition) (p : ℤ → Bool) (n outside more : ℕ) → n < 2 ^ 32
    → c.head.ksmps * c.head.nchnls ≤ 65536
    → outside ≡ count_by p (frames_before c n) → more < 2 ^ 32 → Fits w64 (outside + more)
outside_fits c p n outside more small block is few =
    let some : count_by p (frames_before c n) ≤ length (frames_before c n) = count_by-le-length p (frames_before c n) in
    let long : length (frames_before c n) ≡ n * (c.head.ksmps * c.head.nchnls) = length-frames_before c n in
    let most : n * (c.head.ksmps * c.head.nchnls) ≤ n * 65536 = mul-le-mul_left n block in
    omega (arith, some, long, most, is)

-- the numbers of values and frames of a file that isn't too long
pub values_fit : (cycles ksmps channels width : ℕ) → cycles * ksmps * channels * width ≤ most_wav_bytes → 1 ≤ width
    → cycles * ksmps * channels ≤ most_wav_bytes
values_fit cycles ksmps channels width bytes some =
    let h : cycles * ksmps * channels * 1 ≤ cycles * ksmps * channels * width =
    mul-le-mul_left (cycles * ksmps * channels) some in
    omega (arith, h, bytes)

pub frames_fit : (cycles ksmps channels width : ℕ) → cycles * ksmps * channels * width ≤ most_wav_bytes → 1 ≤ width
    → 1 ≤ channels
    → cycles * ksmps ≤ most_wav_bytes
frames_fit cycles ksmps channels width bytes some one =
    let h : cycles * ksmps * 1 ≤ cycles * ksmps * channels = mul-le-mul_left (cycles * ksmps) one in
    let v : cycles * ksmps * channels ≤ most_wav_bytes = values_fit cycles ksmps channels width bytes some in
    omega (arith, h, v)

pub some_width : (width : SampleWidth) → 1 ≤ bytes_of width
some_width TwoBytes = omega arith
some_width ThreeBytes = omega arith

-- the count of clipped samples after one more cycle
pub counted_more : (c : Composition) (p : ℤ → Bool) (n : ℕ) (mix : List ℤ) (outside more : ℕ) → mix ≡ mix_in c n
    → outside ≡ count_by p (frames_before c n) → more ≡ count_by p mix
    → outside + more ≡ count_by p (frames_before c (n + 1))
counted_more c p n mix outside more is so_far here =
    ap (λ (k : ℕ). k + more) so_far ∙ ap (λ (k : ℕ). count_by p (frames_before c n) + k) (here ∙ ap (count_by p) is)
    ∙ sym (count_by_both p (frames_before c n) (mix_in c n)) ∙ sym (ap (count_by p) (frames_before_more c n))
