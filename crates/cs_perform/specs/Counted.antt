-- What a counter of cycles has counted: the voices of each cycle.
use Rattle.std.specs.Prelude.{ℕ, pos, ◌≡◌, ◌-◌, ◌^◌, List, ◌++◌, length, map, max, sum}
use Rattle.std.specs.List.{AllZip, range_with_len}
use Rattle.cs_desk.specs.declared.receipt.Tally.{Tally}
use Rattle.cs_machine.specs.Outputs.{outs}
use Rattle.cs_piece_meaning.specs.{Course.played_in, Heard.mix_in, Moments.Active, Moments.Composition}
use Rattle.cs_voice.specs.{Mixing.mixed, VoiceData.VoiceData}

-- the receipts of cycles, one after another: the voices of each, as the cycle left them
abbrev pub Receipts : Type 0
Receipts = List (List VoiceData)

-- A voice was heard as a note: the same instrument, the same cycle in which it has ended, the same output in
-- each channel, and turned off or not alike.
pub record IsHeardAs (v : VoiceData) (a : Active) : Type 0 where
  pub number : a.number ≡ pos v.number
  pub ends : v.until ≡ a.ends
  pub channels : outs v.outs ≡ a.note.world.outs
  pub ended : v.ended ≡ a.note.world.ended

-- The voices of a cycle: each is heard as the performed note at its index, and their sum is what is heard of
-- the cycle.
pub record AreHeardIn (c : Composition) (n : ℕ) (voices : List VoiceData) : Type 0 where
  pub notes : AllZip IsHeardAs voices (played_in c n)
  pub heard : mixed c.head.ksmps c.head.nchnls voices ≡ mix_in c n

-- one receipt for each of the first `n` cycles, in their order
abbrev pub AreHeardBefore : Composition → ℕ → Receipts → Type 0
AreHeardBefore c n receipts = AllZip (AreHeardIn c) (range_with_len 0 n) receipts

-- What was counted before is still counted, and after it these receipts.
abbrev pub CountsOn : {C : Type 0} → (C → Receipts → Type 0) → C → C → Receipts → Type 0
CountsOn has_counted before now receipts =
    (earlier : Receipts) → has_counted before earlier → has_counted now (earlier ++ receipts)

-- a tally has counted these cycles and their notes
pub record IsTallyOf (receipts : Receipts) (t : Tally) : Type 0 where
  pub cycles : t.cycles ≡ length receipts
  pub notes : t.notes ≡ sum (map length receipts)

-- how many more cycles or notes it can count
abbrev pub room_of : Tally → ℕ
room_of t = 2 ^ 63 - max t.cycles t.notes
