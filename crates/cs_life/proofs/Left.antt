-- Voices that represent a moment, after some of its notes have left.
use Rattle.std.proofs.Common.{◌≡◌, Bool, true, false, not, nat_lt, cond, List, ◌∷◌, filter, refl, sym, ap}
use Rattle.std.proofs.Common.{[], subst, arith}
use Rattle.std.specs.List.{AllZip}
use Rattle.std.proofs.lemmas.List.Kept.{IsNonDecreasingBy-filter}
use Rattle.cs_cells.specs.Cells.{Cells}
use Rattle.cs_piece_meaning.specs.Moments.{Composition, Active, Moment}
use Rattle.cs_life.proofs.Growing.{fewer}
use Rattle.cs_voice.specs.{VoiceData.VoiceData, declared.stage.Stage.Stage}
use Rattle.cs_life.specs.{Leaving.stays, Leaving.without, declared.leaving.Leaving.Leaving, declared.life.Life.Life}
use Rattle.cs_life.specs.Standing.{Plays, StandsFor, VoicesStand}
use Rattle.cs_life.specs.declared.leaving.Leaving.TheVariants as leaving

module _ (c : Composition) (stage : Stage) (flags : List Bool) where
  chosen : (v : VoiceData) (a : Active) (voices : List VoiceData) (active : List Active) (b : Bool)
      → Plays c stage flags v a
      → AllZip (Plays c stage flags) voices active
      → AllZip (Plays c stage flags) (cond b (v ∷ voices) voices) (cond b (a ∷ active) active)
  chosen v a voices active true p rest = (p, rest)
  chosen v a voices active false p rest = rest

  module _ (test : VoiceData → Bool) (q : Active → Bool)
      (agree : (v : VoiceData) (a : Active) → Plays c stage flags v a → test v ≡ q a) where
    -- the voices that stay represent the notes that stay
    kept_play : (voices : List VoiceData) (active : List Active) → AllZip (Plays c stage flags) voices active
        → AllZip (Plays c stage flags) (filter test voices) (filter q active)
    kept_play [] [] p = tt
    kept_play (v ∷ voices) (a ∷ active) p =
        subst (λ b. AllZip (Plays c stage flags) (cond b (v ∷ filter test voices) (filter test voices))
        (cond (q a) (a ∷ filter q active) (filter q active))) (sym (agree v a p.0))
        (chosen v a (filter test voices) (filter q active) (q a) p.0 (kept_play voices active p.1))
    kept_play _ _ p = absurd p

-- the state represents the moment without the notes that don't pass a test
pub kept_stand : (c : Composition) (stage : Stage) (flags : List Bool) (test : VoiceData → Bool) (q : Active → Bool)
    → ((v : VoiceData) (a : Active) → Plays c stage flags v a → test v ≡ q a)
    → (voices : List VoiceData) (cells : Cells) (m : Moment) → VoicesStand c stage flags voices cells m
    → VoicesStand c stage flags (filter test voices) cells (record m { active = filter q m.active })
kept_stand c stage flags test q agree voices cells m s =
    let play : AllZip (Plays c stage flags) (filter test voices) (filter q m.active) =
    kept_play c stage flags test q agree voices m.active s.play in record {
      stage_is = s.stage_is;
      made = s.made;
      hold = s.hold;
      long = s.long;
      play = play;
      in_order = IsNonDecreasingBy-filter (λ (v : VoiceData). v.number) test voices s.in_order;
      few = omega (arith, fewer test voices, s.few);
    }

-- the notes that stay, for either reason
abbrev staying : Leaving → Active → Bool
staying (leaving.Over cycle) a = nat_lt cycle a.ends
staying leaving.TurnedOff a = not a.note.world.ended

stays_as : (c : Composition) (stage : Stage) (flags : List Bool) (l : Leaving) (v : VoiceData) (a : Active)
    → Plays c stage flags v a → stays l v ≡ staying l a
stays_as c stage flags (leaving.Over cycle) v a p = ap (nat_lt cycle) p.until
stays_as c stage flags leaving.TurnedOff v a p = ap not p.note.ended

without_is : (l : Leaving) (m : Moment) → record m { active = filter (staying l) m.active } ≡ without l m
without_is (leaving.Over cycle) m = refl
without_is leaving.TurnedOff m = refl

-- Once notes have left, the state represents the moment without them.
pub left_stands : (l : Leaving) (c : Composition) (life : Life) (voices left : List VoiceData) (cells : Cells)
    (m : Moment) → left ≡ filter (stays l) voices → StandsFor c life voices cells m
    → StandsFor c life left cells (without l m)
left_stands l c life voices left cells m is s =
    let flags = life.made.items in
    let on = kept_stand c life.stage flags (stays l) (staying l) (stays_as c life.stage flags l) voices cells m
    s.stand in
    subst (λ w. StandsFor c life left cells w) (without_is l m)
    record {
      stand = subst (λ vs. VoicesStand c life.stage flags vs cells (record m { active = filter (staying l) m.active }))
          (sym is) on;
      layout = s.layout;
      zones = s.zones;
      due = s.due;
      kept = s.kept;
      started = s.started;
      not_started = s.not_started;
    }
