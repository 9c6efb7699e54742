-- The meaning of a byte's class.
use Rattle.std.proofs.lemmas.{Grind.common_steps, Bool.Decides.nat_tests}
use Rattle.std.proofs.Common.{◌≡◌, ◌≢◌, ℕ, Bool, true, false, ◌&&◌, ◌||◌, ◌==◌, not, arith, refl, if◌then◌else◌}
use Rattle.std.specs.Char.{is_ascii_digit}
use Rattle.cs_lex.specs.{declared.class.Class.Class, Rows.is_stray, inner.Front.class_of}
use Rattle.cs_base.specs.Lines.{is_blank}
use Rattle.cs_lex.specs.Bytes.{is_letter, is_allowed, is_short_sign}
use Rattle.cs_lex.specs.declared.class.Class.TheVariants as class

-- the property of a byte of each class
abbrev pub Means : Class → ℕ → Type 0
Means class.Letter b = is_letter b ≡ true
Means class.Digit b = is_ascii_digit b ≡ true
Means class.Blank b = is_blank b ≡ true
Means class.LineFeed b = b ≡ 10
Means class.Quote b = b ≡ 34
Means class.Point b = b ≡ 46
Means class.Slash b = b ≡ 47
Means class.Semicolon b = b ≡ 59
Means class.Backslash b = b ≡ 92
Means class.Sign b = (is_short_sign b ≡ true) × (b ≢ 47) × (b ≢ 59)
Means class.Stray b = is_stray b ≡ true
Means class.Bad b = is_allowed b ≡ false

pick : (b : Bool) (c d : Class) (n : ℕ) → (b ≡ true → Means c n) → (b ≡ false → Means d n)
    → Means (if b then c else d) n
pick true c d n f g = f refl
pick false c d n f g = g refl

is : (a b : ℕ) → (a == b) ≡ true → a ≡ b
is a b h = grind (arith, nat_tests)

is_not : (a b : ℕ) → (a == b) ≡ false → a ≢ b
is_not a b h = grind (arith, nat_tests)

or_false : (a b : Bool) → a ≡ false → b ≡ false → (a || b) ≡ false
or_false false b h k = k
or_false true b h k = cc

and_not : (a b : Bool) → a ≡ true → b ≡ false → (a && not b) ≡ true
and_not true false h k = refl
and_not _ _ h k = cc

pub class_means : (b : ℕ) → Means (class_of b) b
class_means b = grind (arith, common_steps, and_not, is, is_not, or_false, pick)
