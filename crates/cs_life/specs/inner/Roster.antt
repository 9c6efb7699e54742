-- The voices that play: where a voice joins them, and whether there are more of them than before.
use Rattle.std.specs.Prelude.{ℕ, ◌≡◌, ◌≤◌, ◌<◌, List, length}
use Rattle.std.specs.List.{AllWithin, insert}

-- A voice was inserted after all voices with its number or a lower one, and before all with a higher one.
pub record Joined {V : Type 0} (number : V → ℕ) (voice : V) (voices after : List V) : Type 0 where
  pub place : ℕ
  pub within : place ≤ length voices
  pub lower : AllWithin (λ v. number v ≤ number voice) voices 0 place
  pub higher : AllWithin (λ v. number voice < number v) voices place (length voices)
  pub is : after ≡ insert voices place voice

-- The list has at least as many voices as before, and is unchanged if it has exactly as many.
pub record Grew {V : Type 0} (voices more : List V) : Type 0 where
  pub many : length voices ≤ length more
  pub same : length more ≡ length voices → more ≡ voices
