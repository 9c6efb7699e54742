-- The levels of a course are the turns of the notes that play.
use Rattle.std.proofs.Common.{◌≡◌, ℕ, ◌+◌, Bool, false, List, [], ◌∷◌, ◌++◌, map, refl, ap, sym, ◌∙◌, append_assoc}
use Rattle.std.proofs.Common.{append-nil}
use Rattle.std.specs.{List.AllZip, Prelude.Result, Prelude.Ok, Prelude.Err, Prelude.OnOk}
use Rattle.std.specs.Prelude.{nat_lt, if◌then◌else◌}
use Rattle.cs_cells.specs.{declared.footprint.Area.Area, declared.footprint.Footprint.Footprint}
use Rattle.cs_piece.specs.Setups.{composition_of}
use Rattle.cs_piece_meaning.specs.{Course.begins, Moments.Active, Moments.Composition, Moments.Moment}
use Rattle.cs_life.specs.Standing.{Plays}
use Rattle.cs_turns.specs.Turns.{IsFootOf, line_of, notes_in, turn_line, turn_lines_before, turns_in}
use Rattle.cs_voice.specs.{VoiceData.VoiceData, declared.stage.Stage.Stage}
use Rattle.cs_perform.specs.{Performances.if_told, declared.order.Performance.Performance}
use Rattle.cs_perform.specs.{declared.order.TurnLines.TurnLines, declared.stand.Stand.Stand}
use Rattle.cs_perform.specs.inner.Stands.{BeginsNotes, IsAt}
use Rattle.cs_perform.specs.declared.order.TurnLines.TheVariants.{Told, Untold}
use Rattle.cs_perform.proofs.Frames.{rows_more}

foot_of : (c : Composition) (stage : Stage) (flags : List Bool) (areas zones : List Area) (v : VoiceData)
    (a : Active)
    → stage.layout.now ≡ areas → stage.zones.now ≡ zones → Plays c stage flags v a
    → IsFootOf areas zones a.body v.foot
foot_of c stage flags areas zones v a e f p =
    let here : IsFootOf stage.layout.now stage.zones.now a.body p.foot =
    record { uses = p.of.uses; writes = p.of.writes; there = p.of.there; places = p.of.footprint } in
    rw (← e, ← f, ← p.on.foot) here

-- the footprints of voices are their notes' footprints
pub feet_of_notes : (c : Composition) (stage : Stage) (flags : List Bool) (areas zones : List Area)
    (voices : List VoiceData) (active : List Active)
    → stage.layout.now ≡ areas → stage.zones.now ≡ zones → AllZip (Plays c stage flags) voices active
    → AllZip (λ (a : Active) (f : Footprint). IsFootOf areas zones a.body f) active
    (map (λ (v : VoiceData). v.foot) voices)
feet_of_notes c stage flags areas zones [] [] e f p = tt
feet_of_notes c stage flags areas zones [] (a ∷ rest) e f p = absurd p
feet_of_notes c stage flags areas zones (v ∷ voices) [] e f p = absurd p
feet_of_notes c stage flags areas zones (v ∷ voices) (a ∷ rest) e f p =
    (foot_of c stage flags areas zones v a e f p.0, feet_of_notes c stage flags areas zones voices rest e f p.1)

-- LINES

pub told_both : (lines : TurnLines) (xs ys : List ℕ) → if_told lines xs ++ if_told lines ys ≡ if_told lines (xs ++ ys)
told_both Told xs ys = refl
told_both Untold xs ys = refl

-- a cycle without a line
pub no_line : (n : ℕ) (before turns : List ℕ) → nat_lt n 1000 ≡ false → before ≡ before ++ line_of n turns
no_line n before turns late =
    sym (ap (λ (b : Bool). before ++ (if b then turn_line n turns else [])) late ∙ append-nil before)

pub lines_more : (c : Composition) (n : ℕ)
    → turn_lines_before c (n + 1) ≡ turn_lines_before c n ++ line_of n (turns_in c (notes_in c n))
lines_more c n = rows_more (λ cycle. line_of cycle (turns_in c (notes_in c cycle))) n

-- the lines with the line of one more cycle
pub told_more : (lines : TurnLines) (c : Composition) (n : ℕ) (start before now : List ℕ)
    → before ≡ start ++ if_told lines (turn_lines_before c n)
    → now ≡ before ++ if_told lines (line_of n (turns_in c (notes_in c n)))
    → now ≡ start ++ if_told lines (turn_lines_before c (n + 1))
told_more lines c n start before now so_far here =
    let line : List ℕ = line_of n (turns_in c (notes_in c n)) in
    here ∙ ap (λ (l : List ℕ). l ++ if_told lines line) so_far
    ∙ append_assoc start (if_told lines (turn_lines_before c n)) (if_told lines line)
    ∙ ap (λ (l : List ℕ). start ++ l)
    (told_both lines (turn_lines_before c n) line ∙ ap (if_told lines) (sym (lines_more c n)))

pub no_lines : (lines : TurnLines) (c : Composition) (start : List ℕ)
    → start ≡ start ++ if_told lines (turn_lines_before c 0)
no_lines Told c start = sym (append-nil start)
no_lines Untold c start = sym (append-nil start)

pub when_told : (lines : TurnLines) (before now line : List ℕ) → lines ≡ Told → now ≡ before ++ line
    → now ≡ before ++ if_told lines line
when_told lines before now line is e = rw (is) e

pub when_untold : (lines : TurnLines) (before line : List ℕ) → lines ≡ Untold → before ≡ before ++ if_told lines line
when_untold lines before line is = rw (is) (sym (append-nil before))

-- a cycle that has begun, and whose line was appended
pub begins_notes : {G A E : Type 0} (r : Result A E) (p : Performance) (n : ℕ) (old begun told : Stand G)
    (before after : List ℕ)
    → ((m : Moment) → IsAt p.setup.now old m → IsAt p.setup.now begun (begins (composition_of p.setup.now) n m))
    → p.order.turns ≡ Told → OnOk r ((m : Moment) → IsAt p.setup.now begun m → IsAt p.setup.now told m)
    → OnOk r ((m : Moment) → IsAt p.setup.now begun m
    → after ≡ before ++ line_of n (turns_in (composition_of p.setup.now) m.active))
    → OnOk r (BeginsNotes IsAt p n old told before after)
begins_notes (Ok x) p n old begun told before after first is at line = record {
  begun = λ m was. at _ (first m was);
  turns = λ m was. when_told p.order.turns before after _ is (line _ (first m was));
}
begins_notes (Err e) p n old begun told before after first is at line = tt
