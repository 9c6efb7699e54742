-- The forms of an argument: for clap's lexer and for the reading.
use Rattle.std.proofs.Common.{◌≡◌, ◌==◌, ◌∷◌, ℕ, Bool, true, false, [], Option, Some, None, refl, sym, ap, subst}
use Rattle.std.proofs.Common.{bytes_eq, IsUtf8, arith, eqb-true}
use Rattle.clap.specs.Lexer.{long_of, short_of}
use Rattle.cs_arguments.specs.Reading.{Text, Said, plain, unless_wanting, worded, lettered, titled}
use Rattle.cs_arguments.proofs.Chars.{low_tail}

abbrev pub dashes : Text
dashes = 45 ∷ 45 ∷ []

-- each argument is a name or value, `--`, a long name, or letters
pub data Form (word : Text) : Type 0 where
  a_name : bytes_eq word dashes ≡ false → long_of word ≡ None → short_of word ≡ None
      → ((s : Said) → worded word s ≡ Some (plain s.wants word s)) → Form word
  a_stop : bytes_eq word dashes ≡ true
      → ((s : Said) → worded word s ≡ unless_wanting s.wants (Some (record s { only_names = true }))) → Form word
  a_title : (name : Text) (value : Option Text) → bytes_eq word dashes ≡ false → long_of word ≡ Some (name, value)
      → ((s : Said) → worded word s ≡ unless_wanting s.wants (titled name value s)) → Form word
  some_letters : (x : ℕ) (rest : Text) → IsUtf8 (x ∷ rest) → bytes_eq word dashes ≡ false → long_of word ≡ None
      → short_of word ≡ Some (x ∷ rest)
      → ((s : Said) → worded word s ≡ unless_wanting s.wants (lettered (x ∷ rest) s)) → Form word

-- an argument that begins with another character
plain_form : (x : ℕ) (rest : Text) → (x == 45) ≡ false → Form (x ∷ rest)
plain_form x rest e = a_name (simp e refl) (simp e refl) (simp e refl) (λ s. simp e refl)

letters_form : (y : ℕ) (ys : Text) → (y == 45) ≡ false → IsUtf8 (y ∷ ys) → Form (45 ∷ y ∷ ys)
letters_form y ys e utf8 =
    some_letters y ys utf8 (simp e refl) (simp e refl) (simp e refl) (λ s. ap (unless_wanting s.wants) (simp e refl))

title_form : (z : ℕ) (zs : Text) → Form (45 ∷ 45 ∷ z ∷ zs)
title_form z zs = a_title _ _ refl refl (λ s. refl)

dash_form : (rest : Text) → IsUtf8 (45 ∷ rest) → Form (45 ∷ rest)
dash_form [] utf8 = a_name refl refl refl (λ s. refl)
dash_form (y ∷ ys) utf8 = go (y == 45) refl
  where
    long : (ys : Text) → Form (45 ∷ 45 ∷ ys)
    long [] = a_stop refl (λ s. refl)
    long (z ∷ zs) = title_form z zs

    go : (b : Bool) → (y == 45) ≡ b → Form (45 ∷ y ∷ ys)
    go true e = subst (λ z. Form (45 ∷ z ∷ ys)) (sym (eqb-true y 45 e)) (long ys)
    go false e = letters_form y ys e (low_tail 45 (y ∷ ys) (omega arith) utf8)

pub form_of : (word : Text) → IsUtf8 word → Form word
form_of [] utf8 = a_name refl refl refl (λ s. refl)
form_of (x ∷ rest) utf8 = go (x == 45) refl
  where
    go : (b : Bool) → (x == 45) ≡ b → Form (x ∷ rest)
    go true e = subst (λ z. IsUtf8 (z ∷ rest) → Form (z ∷ rest)) (sym (eqb-true x 45 e)) (dash_form rest) utf8
    go false e = plain_form x rest e
