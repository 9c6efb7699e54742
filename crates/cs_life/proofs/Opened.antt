-- The opening of a performance: its state after the code outside of instruments has run on cells that are all
-- 0.
use Rattle.std.proofs.Common.{◌≡◌, ℕ, pos, suc, Bool, false, List, ◌∷◌, length, replicate, Option, Some, None, [], refl}
use Rattle.std.proofs.Common.{sym, ◌∙◌, ap, subst, arith}
use Rattle.cs_base.specs.{Rates.res_rate, declared.resource.Rate.Rate}
use Rattle.cs_ir.specs.{Instruments.Numbered, Waves.silence}
use Rattle.cs_cells.specs.{Areas.word_count, Cells.Cells, Cells.cell, declared.footprint.Area.Area}
use Rattle.cs_cells.specs.declared.footprint.Footprint.{Footprint}
use Rattle.cs_meaning.specs.{Initialising.init_block, Notes.new_note, Notes.start}
use Rattle.cs_meaning.specs.Plain.{Table, fresh, plain}
use Rattle.cs_voice_meaning.specs.{Placing.area_of, Placing.wave_of, Voices.initialised}
use Rattle.cs_voice_meaning.proofs.Shared.{zeros}
use Rattle.cs_piece.specs.{VoicesOfNotes.Hold, Ready.IsInstrumentOf, Ready.IsStageOf}
use Rattle.cs_voice.specs.{Starts.piece_at, Starts.sheet_at, declared.stage.Stage.Stage}
use Rattle.cs_piece_meaning.specs.{Course.opening, Course.outside_done, Moments.Composition, Moments.piece_with}
use Rattle.cs_sched.specs.Waiting.{nothing_waits, waiting}
use Rattle.cs_life.specs.{Standing.StandsFor, Standing.flags_of, declared.life.Life.Life}
use Rattle.cs_life.proofs.Flags.{flags_fit}

-- ---- cells that are all 0 hold silence

zero_at : (n a : ℕ) → cell (replicate n (pos 0)) a ≡ pos 0
zero_at (suc n) (suc a) = zero_at n a
zero_at _ _ = refl

silent : (o : Option Area) (r : Rate) → wave_of o r (λ a. pos 0) ≡ silence
silent None r = refl
silent (Some area) r = zeros r area

zeros_hold : (areas : List Area) (n : ℕ) → Hold areas (cell (replicate n (pos 0))) (λ g. silence)
zeros_hold areas n = λ g has. (λ i. wave_of (area_of areas g) (res_rate g) (λ a. zero_at n a i))
    ∙ silent (area_of areas g) (res_rate g)

-- ---- the code outside of instruments

pub outside_holds : (c : Composition) (stage : Stage) (i : Numbered) (foot : Footprint) (flags : List Bool)
    (cells new : Cells) (n : ℕ)
    → IsStageOf c stage → IsInstrumentOf stage i foot c.outside → flags ≡ flags_of c.tables []
    → piece_with c [] [] ≡ piece_at stage flags []
    → cells ≡ replicate n (pos 0)
    → cell new ≡ (initialised (sheet_at i 0 foot stage flags []) (cell cells)).world.shared
    → Hold stage.layout.now (cell new) (outside_done c).world.shared
outside_holds c stage i foot flags cells new n stage_is of flags_are piece zeros left =
    let long = flags_fit stage.tables.now c.tables [] flags stage_is.tables flags_are in
    let before : Hold stage.layout.now (cell cells) (λ g. silence) =
    subst (λ x. Hold stage.layout.now (cell x) (λ g. silence)) (sym zeros) (zeros_hold stage.layout.now n) in
    let begins = (of.performs 0 flags [] long).begins (cell cells) (λ g. silence) before in
    subst (λ x. Hold stage.layout.now x (outside_done c).world.shared) (sym left)
    (subst (λ p. Hold stage.layout.now (initialised (sheet_at i 0 foot stage flags []) (cell cells)).world.shared
    (init_block (plain p) start c.outside (new_note (fresh (λ g. silence)))).world.shared) (sym piece) begins.cells)

-- ---- the flags

pub none_made : (cs : List Table) (n : ℕ) → n ≡ length cs → replicate n false ≡ flags_of cs []
none_made [] n e = ap (λ k. replicate k false) e
none_made (c ∷ cs) n e = ap (λ k. replicate k false) e ∙ ap (λ fs. false ∷ fs) (none_made cs (length cs) refl)

-- ---- the complete state

pub opened : (c : Composition) (life : Life) (cells : Cells) → IsStageOf c life.stage
    → life.stage.layout.now ≡ life.setup.now.layout → life.stage.zones.now ≡ life.setup.now.zones
    → life.made.items ≡ flags_of c.tables [] → Hold life.stage.layout.now (cell cells) (outside_done c).world.shared
    → length cells ≡ word_count life.stage.layout.now → waiting life.pending ≡ nothing_waits
    → life.started ≡ 0 → life.not_started ≡ 0 → StandsFor c life [] cells (opening c)
opened c life cells stage_is layout zones flags hold long none started not_started = record {
  stand = record {
    stage_is = stage_is;
    made = flags;
    hold = hold;
    long = long;
    play = tt;
    in_order = λ i j d le lt. absurd (omega arith);
    few = omega arith;
  };
  layout = layout;
  zones = zones;
  due = λ cycle. ap (λ w. w.due cycle) none;
  kept = ap (λ w. w.kept) none;
  started = started;
  not_started = not_started;
}
