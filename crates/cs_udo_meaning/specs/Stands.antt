-- The relation between a note of an expanded instrument and the note with frames.
use Rattle.std.specs.Prelude.{ℕ, zero, suc, false, List, Option, Some, ◌≡◌}
use Rattle.cs_words.specs.Names.{name_rate, is_global}
use Rattle.cs_grammar.specs.WellFormed.{HasNoStop}
use Rattle.cs_meaning.specs.Notes.{Note, Path, reg}
use Rattle.cs_udo.specs.Names.{in_frame, as_it_is}
use Rattle.cs_udo_meaning.specs.{Frames.Framed, Frames.own_frame, Numbered.Numbering}

-- The name of a frame's variable in the expanded text. The instrument's own variables keep their names.
abbrev pub own_name : ℕ → List ℕ → List ℕ
own_name zero x = as_it_is x
own_name (suc f) x = in_frame (suc f) x

-- a name of a frame; a name in a text contains no full stop
abbrev pub Fits : ℕ → List ℕ → Type 0
Fits f x = f ≡ 0 → HasNoStop x

-- A way from the expanded text back to the original text. It leads from a frame number to the path of the
-- call that has this frame, and from the path of a part in the expanded text to its original path.
pub record Way : Type 0 where
  pub frame : ℕ → Option Path
  pub part : Path → Option Path

-- A clear way confuses nothing: frame 0 is the instrument's own, and different numbers and different paths
-- lead to different paths.
pub record IsClear (way : Way) : Type 0 where
  pub own : way.frame 0 ≡ Some own_frame
  pub frames : (f g : ℕ) (p : Path) → way.frame f ≡ Some p → way.frame g ≡ Some p → f ≡ g
  pub parts : (p q r : Path) → way.part p ≡ Some r → way.part q ≡ Some r → p ≡ q

-- A note corresponds to a note with frames. Each frame's local variables have their values under the names of
-- the expanded text, and the kept values and the state of the world are the same. Two numberings map names to
-- registers.
pub record StandsForFrames {W : Type 0} (way : Way) (flat own : Numbering) (t : Note W) (u : Framed W) : Type 0 where
  pub locals : (f : ℕ) (p : Path) → way.frame f ≡ Some p → (x : List ℕ) → is_global x ≡ false → Fits f x
      → t.locals (reg (name_rate x) (flat (own_name f x))) ≡ u.frames p (reg (name_rate x) (own x))
  pub kept : (p q : Path) → way.part p ≡ Some q → t.kept p ≡ u.kept q
  pub world : t.world ≡ u.world
